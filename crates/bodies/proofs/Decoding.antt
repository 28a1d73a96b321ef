-- A record's numbers are those of what is read from them, and what was written is read back: formulas, rules, principal formulas and
-- premises. A number that is written must be told from that of an absent field.
use Prim.Native.Nat.{ℕ, zero, suc, ◌<◌}
use native.Mathlib.Omega.{arith}
use mathlib.Core.Path.{◌≡◌, refl, sym, ap, ap₂, ◌∙◌}
use mathlib.Core.Bool.{Bool, true, false, cond, ◌&&◌}
use mathlib.Core.List.{List, [], ◌∷◌}
use mathlib.Core.Option.{Option, none, some}
use lib.Dec.{eqb}
use lib.ListN.{length, get_or, get_elem?}
use borrow.Author.Tests.{eqb-true, ne_eqb}
use Rattle.elk.specs.Rules.{Rule, def, rules, code_of}
use Rattle.elk.proofs.RuleCodes.{at, rule_at_code, code_at}
use Rattle.format.specs.Text.{only_if}
use Rattle.format.specs.File.{Node}
use Rattle.format.specs.Tables.{absent, or_absent, node_record}
use Rattle.format.proofs.Booleans.{and_true}
use Rattle.bodies.specs.Walk.{node_from, node_in, rule_at, principal_from, premises_from}
use Rattle.bodies.proofs.Choices.{only_some}

-- formulas

-- what was written is read back
pub node_back_lem : (n : Node) → node_in (node_record n) ≡ some n
unfolding node_from
node_back_lem Node.bot = refl
node_back_lem (Node.atom k) = refl
node_back_lem (Node.not i) = refl
node_back_lem (Node.and i j) = refl
node_back_lem (Node.or i j) = refl
node_back_lem (Node.imp i j) = refl

-- what is read was written
pub node_exact : (word one two : ℕ) (n : Node) → node_from word one two ≡ some n → word ∷ one ∷ two ∷ [] ≡ node_record n
unfolding node_from
node_exact zero one two n e =
    let ok = only_some (eqb one absent && eqb two absent) (some Node.bot) n e in
    let fields = and_true (eqb one absent) (eqb two absent) ok.0 in
    let a : one ≡ absent = eqb-true one absent fields.0 in
    let b : two ≡ absent = eqb-true two absent fields.1 in
    let same : Node.bot ≡ n = cc in
    ap₂ (λ (x y : ℕ). 0 ∷ x ∷ y ∷ []) a b ∙ ap node_record same
node_exact (suc zero) one two n e =
    let ok = only_some (eqb two absent) (some (Node.atom one)) n e in
    let b : two ≡ absent = eqb-true two absent ok.0 in
    let same : Node.atom one ≡ n = cc in
    ap (λ (y : ℕ). 1 ∷ one ∷ y ∷ []) b ∙ ap node_record same
node_exact (suc (suc zero)) one two n e =
    let ok = only_some (eqb two absent) (some (Node.not one)) n e in
    let b : two ≡ absent = eqb-true two absent ok.0 in
    let same : Node.not one ≡ n = cc in
    ap (λ (y : ℕ). 2 ∷ one ∷ y ∷ []) b ∙ ap node_record same
node_exact (suc (suc (suc zero))) one two n e = let same : Node.and one two ≡ n = cc in ap node_record same
node_exact (suc (suc (suc (suc zero)))) one two n e = let same : Node.or one two ≡ n = cc in ap node_record same
node_exact (suc (suc (suc (suc (suc zero))))) one two n e = let same : Node.imp one two ≡ n = cc in ap node_record same
node_exact (suc (suc (suc (suc (suc (suc word)))))) one two n e =
    let other : (k : ℕ) → k < 6 → eqb (suc (suc (suc (suc (suc (suc word)))))) k ≡ false = λ k h. ne_eqb _ k (λ q. omega arith) in
    let none_there : ◌≡◌ {A = Option Node} none (some n) = simp
    (other 0 (omega arith), other 1 (omega arith), other 2 (omega arith), other 3 (omega arith), other 4 (omega arith), other 5 (omega arith)) at e in
    let z : ◌≡◌ {A = ℕ} 0 1 = cc in
    absurd (omega arith)

-- rules

-- the entry at a place, by either name
at_place : {X : Type 0} (xs : List X) (n : ℕ) → at xs n ≡ get_elem? xs n
at_place [] n = refl
at_place (x ∷ xs) zero = refl
at_place (x ∷ xs) (suc n) = at_place xs n

pub rule_back : (r : Rule) → rule_at (code_of r) ≡ some r
rule_back r = sym (at_place rules (code_of r)) ∙ rule_at_code r

-- what stands at a place of a list
stands_at : {X : Type 0} (xs : List X) (n : ℕ) (d : X) {x : X} → get_elem? xs n ≡ some x → (n < length xs) × (get_or xs n d ≡ x)
stands_at [] n d e = let z : ◌≡◌ {A = ℕ} 0 1 = cc in absurd (omega arith)
stands_at (y ∷ ys) zero d e = (omega arith, cc)
stands_at (y ∷ ys) (suc n) d e = let there = stands_at ys n d e in (omega (arith, there.0), there.1)

pub rule_exact : (code : ℕ) (r : Rule) → rule_at code ≡ some r → code_of r ≡ code
rule_exact code r e = let there = stands_at rules code def e in ap code_of (sym there.1) ∙ code_at code there.0

-- principals

pub principal_exact : (n : ℕ) → or_absent (principal_from n) ≡ n
principal_exact n = cases (eqb n absent) refl
  where
    cases : (t : Bool) → eqb n absent ≡ t → or_absent (cond t none (some n)) ≡ n
    cases true h = sym (eqb-true n absent h)
    cases false h = refl

-- a number that is not taken for an absent one
abbrev pub Small : Option ℕ → Type 0
Small none = Unit {0}
Small (some n) = n < absent

pub principal_back : (p : Option ℕ) → Small p → principal_from (or_absent p) ≡ p
principal_back none h = refl
principal_back (some n) h = ap (λ (t : Bool). cond t none (some n)) (ne_eqb n absent (λ k. omega arith))

-- premises

pub premises_exact : (one two : ℕ) (ps : List ℕ) → premises_from one two ≡ some ps → (get_or ps 0 absent ≡ one) × (get_or ps 1 absent ≡ two)
premises_exact one two ps e = first (eqb one absent) refl e
  where
    second : (t : Bool) → eqb two absent ≡ t → some (one ∷ cond t [] (two ∷ [])) ≡ some ps → (get_or ps 0 absent ≡ one) × (get_or ps 1 absent ≡ two)
    second true h k =
        let same : one ∷ [] ≡ ps = cc in
        (ap (λ (qs : List ℕ). get_or qs 0 absent) (sym same), ap (λ (qs : List ℕ). get_or qs 1 absent) (sym same) ∙ sym (eqb-true two absent h))
    second false h k =
        let same : one ∷ two ∷ [] ≡ ps = cc in (ap (λ (qs : List ℕ). get_or qs 0 absent) (sym same), ap (λ (qs : List ℕ). get_or qs 1 absent) (sym same))

    first : (t : Bool) → eqb one absent ≡ t → cond t (only_if (eqb two absent) (some [])) (some (one ∷ cond (eqb two absent) [] (two ∷ []))) ≡ some ps
        → (get_or ps 0 absent ≡ one) × (get_or ps 1 absent ≡ two)
    first true h k =
        let ok = only_some (eqb two absent) (some []) ps k in
        let same : [] ≡ ps = cc in (
          ap (λ (qs : List ℕ). get_or qs 0 absent) (sym same) ∙ sym (eqb-true one absent h),
          ap (λ (qs : List ℕ). get_or qs 1 absent) (sym same)
              ∙ sym (eqb-true two absent ok.0),
        )
    first false h k = second (eqb two absent) refl k

-- two at most, none of which is taken for an absent one
abbrev pub Few : List ℕ → Type 0
Few [] = Unit {0}
Few (i ∷ []) = i < absent
Few (i ∷ j ∷ []) = (i < absent) × (j < absent)
Few (i ∷ j ∷ k ∷ ks) = ⊥

pub premises_back : (ps : List ℕ) → Few ps → premises_from (get_or ps 0 absent) (get_or ps 1 absent) ≡ some ps
premises_back [] h = refl
premises_back (i ∷ []) h = ap (λ (t : Bool). cond t (some []) (some (i ∷ []))) (ne_eqb i absent (λ k. omega arith))
premises_back (i ∷ j ∷ []) h =
    ap₂ (λ (t u : Bool). cond t (only_if u (some [])) (some (i ∷ cond u [] (j ∷ [])))) (ne_eqb i absent (λ k. omega (arith, h.0)))
    (ne_eqb j absent (λ k. omega (arith, h.1)))
premises_back (i ∷ j ∷ k ∷ ks) h = absurd h
