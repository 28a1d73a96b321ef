-- Numbers that stand for formulas on a side, in a table that holds a body: the negation of a formula looked for there, and what a
-- rule adds.
use Prim.Native.Nat.{ℕ, zero, suc, ◌+◌, ◌*◌, ◌≤◌, ◌<◌}
use native.Mathlib.Decide.{ℕ_discrete, dec_le}
use native.Mathlib.Omega.{arith}
use mathlib.Core.Bool.{false, and-false}
use mathlib.Core.List.Memᴰ
use mathlib.Core.List.{List, [], ◌∷◌, map}
use mathlib.Core.Logic.{◌⊎◌, inl, inr, ⊎_elim}
use mathlib.Core.Path.{◌≡◌, refl, sym, ap, ap₂, subst, ◌∙◌}
use borrow.Author.Tests.{eq-eqb, ne_eqb}
use lib.Dec.{eqb}
use lib.ListN.{length, get_or}
use Rattle.equilibrium.specs.Formula.{Formula, neg}
use Rattle.equilibrium.specs.Meaning.{◌∈◌}
use Rattle.equilibrium.proofs.Sets.{dec_and, dec_all, from_yes}
use Rattle.elk.specs.Rules.{Rule, rules, code_of, Part, entry}
use Rattle.elk.specs.Instance.{meant}
use Rattle.elk.proofs.RuleCodes.{every_rule}
use Rattle.format.specs.File.{Body, decoded_at, decoded}
use Rattle.format.specs.Tests.{not_earlier, unknown_formula}
use Rattle.format.proofs.Booleans.{or_false}
use Rattle.format.proofs.Formulas.{known_earlier, equal_numbers}
use Rattle.format.proofs.GoodBodies.{good_held}
use Rattle.tables.specs.Holding.{Formulas}
use Rattle.tables.proofs.Reading.{told, by_word, by_formula}
use Rattle.rules.specs.RuleTable.{part_number, part_numbers, added_sides, rule_numbers, rule_number, parts_from}
use Rattle.rules.proofs.RuleNumbers.{rule_number_lem}
use Rattle.sides.specs.Numbers.{no_number, missing}
use Rattle.sides.specs.declared.numbers.Numbers.{Numbers}
use Rattle.schema.specs.Principal.{Apart, record_at}
use Rattle.schema.specs.Additions.{negation_in, part_in, added_in}

-- the number stands for the formula on a side: it is the formula's number, or the formula is not on the side
abbrev pub Stands : Body → List ℕ → Formula → ℕ → Type 0
Stands b side F n = ((n < length b.nodes) × (decoded_at b.nodes n ≡ F)) ⊎ ((n ≡ missing) × (F ∈ decoded b.nodes side → ⊥))

-- the numbers stand for what a rule adds to a side
abbrev pub StandFor : Body → List ℕ → List Formula → Numbers → Type 0
StandFor b side [] r = (r.x ≡ no_number) × (r.y ≡ no_number)
StandFor b side (F ∷ []) r = Stands b side F r.x × (r.y ≡ no_number)
StandFor b side (F ∷ G ∷ Gs) r = Stands b side F r.x × Stands b side G r.y

-- one formula more on the side, which is another
also_on : (b : Body) (x : ℕ) (xs : List ℕ) (F : Formula) (n : ℕ) → (F ≡ decoded_at b.nodes x → ⊥) → Stands b xs F n → Stands b (x ∷ xs) F n
also_on b x xs F n other (inl k) = inl k
also_on b x xs F n other (inr (e, off)) = inr (e, λ m. ⊎_elim other off (Memᴰ.cases_cons m))

module _ {b : Body} {formulas : List ℕ} (g : Formulas b formulas) where
  module _ (a : ℕ) (h : a < length b.nodes) where
    abbrev Negates : ℕ → Type 0
    Negates x = ((record_at formulas x).word ≡ 2) × ((record_at formulas x).first ≡ a)

    -- the record of a formula tells whether it is the negation
    negates : (x : ℕ) → x < length b.nodes → neg (decoded_at b.nodes a) ≡ decoded_at b.nodes x → Negates x
    negates x k e =
        let t = told g x k in
        let own = by_formula t (sym e) in
        (own.0, equal_numbers b (good_held g.good) _ a (by_word t own.0).0 h own.1)

    pub negation_stands : (side : List ℕ) → unknown_formula b side ≡ false → Stands b side (neg (decoded_at b.nodes a)) (negation_in formulas side a)
    unfolding negation_in
    negation_stands [] known = inr (refl, λ m. Memᴰ.not-nil m)
    negation_stands (x ∷ xs) known =
        by (ℕ_discrete (record_at formulas x).word 2) (ℕ_discrete (record_at formulas x).first a) (negation_stands xs both.1)
      where
        both : (not_earlier (length b.nodes) x ≡ false) × (unknown_formula b xs ≡ false)
        both = or_false (not_earlier (length b.nodes) x) (unknown_formula b xs) known

        earlier : x < length b.nodes
        earlier = known_earlier b (x ∷ xs) known x (Memᴰ.head refl)

        F : Formula
        F = neg (decoded_at b.nodes a)

        still : (F ≡ decoded_at b.nodes x → ⊥) → Stands b xs F (negation_in formulas xs a) → Stands b (x ∷ xs) F (negation_in formulas xs a)
        still = also_on b x xs F (negation_in formulas xs a)

        by :
            Dec ((record_at formulas x).word ≡ 2) → Dec ((record_at formulas x).first ≡ a) → Stands b xs F (negation_in formulas xs a)
            → Stands b (x ∷ xs) F (negation_in formulas (x ∷ xs) a)
        by (yes w) (yes f) rest =
            rw (eq-eqb (record_at formulas x).word 2 w, eq-eqb (record_at formulas x).first a f)
            (inl (earlier, (by_word (told g x earlier) w).1 ∙ ap (λ (i : ℕ). neg (decoded_at b.nodes i)) f))
        by (yes w) (no n) rest =
            rw (ne_eqb (record_at formulas x).first a n, and-false (eqb (record_at formulas x).word 2)) (still (λ e. n (negates x earlier e).1) rest)
        by (no n) f rest = rw (ne_eqb (record_at formulas x).word 2 n) (still (λ e. n (negates x earlier e).0) rest)

-- the places of a rule's sides
places : List ℕ
places = 0 ∷ 1 ∷ 2 ∷ 3 ∷ 4 ∷ 5 ∷ []

in_places : (k : ℕ) → k < 6 → k ∈ places
unfolding places
in_places zero h = Memᴰ.head refl
in_places (suc zero) h = Memᴰ.tail (Memᴰ.head refl)
in_places (suc (suc zero)) h = Memᴰ.tail (Memᴰ.tail (Memᴰ.head refl))
in_places (suc (suc (suc zero))) h = Memᴰ.tail (Memᴰ.tail (Memᴰ.tail (Memᴰ.head refl)))
in_places (suc (suc (suc (suc zero)))) h = Memᴰ.tail (Memᴰ.tail (Memᴰ.tail (Memᴰ.tail (Memᴰ.head refl))))
in_places (suc (suc (suc (suc (suc zero))))) h =
    Memᴰ.tail (Memᴰ.tail (Memᴰ.tail (Memᴰ.tail (Memᴰ.tail (Memᴰ.head refl)))))
in_places (suc (suc (suc (suc (suc (suc k)))))) h = absurd (omega arith)

-- what the rule adds at a place
abbrev pub parts_at : Rule → ℕ → List Part
parts_at s place = get_or (added_sides (entry s)) place []

-- by one computed test of all rules each: the table has the parts of each place, and there are at most two
number_at : Rule → ℕ → ℕ → ℕ
number_at s place i = get_or (rule_numbers s) (parts_from + 2 * place + i) 0

part_at : Rule → ℕ → ℕ → ℕ
part_at s place i = get_or (part_numbers (parts_at s place)) i 0

part_numbers_lem : (s : Rule) (place : ℕ) → place < 6 → (number_at s place 0 ≡ part_at s place 0) × (number_at s place 1 ≡ part_at s place 1)
unfolding dec_all dec_and ℕ_discrete places number_at part_at
part_numbers_lem s place h = from_yes (dec_all (λ r. dec_all (same r) places) rules) tt s (every_rule s) place (in_places place h)
  where
    same : (r : Rule) (k : ℕ) → Dec ((number_at r k 0 ≡ part_at r k 0) × (number_at r k 1 ≡ part_at r k 1))
    same r k = dec_and (ℕ_discrete (number_at r k 0) (part_at r k 0)) (ℕ_discrete (number_at r k 1) (part_at r k 1))

pub two_parts : (s : Rule) (place : ℕ) → place < 6 → length (parts_at s place) ≤ 2
unfolding dec_all dec_le places
two_parts s place h = from_yes (dec_all (λ r. dec_all (λ k. dec_le (length (parts_at r k)) 2) places) rules) tt s (every_rule s) place (in_places place h)

-- the principal formula and its parts have numbers
pub record KnownParts (b : Body) (r : Apart) : Type 0 where
  pub whole : r.whole < length b.nodes
  pub first : r.first < length b.nodes
  pub second : r.second < length b.nodes

-- what the parts of a rule mean, by the numbers of the principal formula and its parts
abbrev pub meant_by : Body → Apart → Part → Formula
meant_by b r = meant (decoded_at b.nodes r.whole) (decoded_at b.nodes r.first) (decoded_at b.nodes r.second)

module _ {b : Body} {formulas : List ℕ} (g : Formulas b formulas) (side : List ℕ) (known : unknown_formula b side ≡ false)
    (p : Apart) (parts : KnownParts b p) where
  part_stands : (x : Part) → Stands b side (meant_by b p x) (part_in formulas side p (part_number x))
  unfolding part_in
  part_stands Part.P = inl (parts.whole, refl)
  part_stands Part.A = inl (parts.first, refl)
  part_stands Part.B = inl (parts.second, refl)
  part_stands Part.~A = negation_stands g p.first parts.first side known
  part_stands Part.~B = negation_stands g p.second parts.second side known

  numbered : ℕ → ℕ → Numbers
  numbered x y = record { x = part_in formulas side p x; y = part_in formulas side p y }

  parts_stand : (xs : List Part) → StandFor b side (map (meant_by b p) xs) (numbered (get_or (part_numbers xs) 0 0) (get_or (part_numbers xs) 1 0))
  unfolding part_in numbered
  parts_stand [] = (refl, refl)
  parts_stand (x ∷ []) = (part_stands x, refl)
  parts_stand (x ∷ y ∷ ys) = (part_stands x, part_stands y)

  -- the numbers of what the rule adds at a place stand for it
  pub added_stands :
      (s : Rule) (rule : ℕ) → code_of s ≡ rule → (place : ℕ) → place < 6
      → StandFor b side (map (meant_by b p) (parts_at s place)) (added_in formulas side p rule place)
  unfolding numbered number_at part_at
  added_stands s rule e place h =
      let first = at_zero ∙ (part_numbers_lem s place h).0 in
      let second = read 1 (omega arith) ∙ (part_numbers_lem s place h).1 in
      subst (StandFor b side (map (meant_by b p) (parts_at s place))) (ap₂ numbered (sym first) (sym second)) (parts_stand (parts_at s place))
    where
      read : (i : ℕ) → i < 2 → rule_number rule (parts_from + 2 * place + i) ≡ number_at s place i
      read i l = ap (λ (c : ℕ). rule_number c (parts_from + 2 * place + i)) (sym e) ∙ rule_number_lem s (parts_from + 2 * place + i) (omega arith)

      at_zero : rule_number rule (parts_from + 2 * place) ≡ number_at s place 0
      at_zero = let here : parts_from + 2 * place ≡ parts_from + 2 * place + 0 = omega arith in ap (rule_number rule) here ∙ read 0 (omega arith)
