-- The truths of formulas digit by digit: constant blocks, the truth of a formula by those of its parts, and that these are the truths of a
-- good body's formulas in the 256 pairs.
use Prim.Native.Nat.{ℕ, zero, suc, ◌+◌, ◌-◌, ◌*◌, ◌/◌, ◌%◌, ◌≤◌, ◌<◌}
use native.Mathlib.Omega.{arith}
use mathlib.Core.Bool.{Bool, true, false, cond, not, ◌&&◌, ◌||◌, xor, false≢true}
use mathlib.Core.List.Memᴰ
use mathlib.Core.List.{List, [], ◌∷◌}
use mathlib.Core.Logic.{⊎_elim}
use mathlib.Core.Path.{◌≡◌, refl, sym, ap, ap₂, subst, ◌∙◌}
use borrow.Author.Tests.{eq-eqb, ne_eqb, leb-false}
use lib.Dec.{eqb, leb}
use lib.ListN.{length, get_or, drop, length-take, length-drop}
use lib.Seq.{drop-cons, drop-length, get_or-drop}
use Rattle.equilibrium.specs.Formula.{Formula}
use Rattle.equilibrium.specs.Meaning.{◌∈◌}
use Rattle.format.specs.File.{Node, Body, decoded_at, formula_of, formulas as formulas_of}
use Rattle.format.specs.Tables.{node_record}
use Rattle.format.specs.Tests.{same_truth, refers_ahead, unknown_formula}
use Rattle.format.proofs.Formulas.{known_earlier}
use Rattle.format.proofs.GoodBodies.{before_node, good_held, at_end, in_get_d, in_place_lem}
use Rattle.atomset.specs.AtomSet.{has, Included}
use Rattle.tables.specs.Holding.{Formulas}
use Rattle.tables.specs.Records.{node_at, record_from}
use Rattle.tables.specs.declared.records.NodeRecord.{NodeRecord}
use Rattle.pairs.specs.Pairs.{holds_in}
use Rattle.pairs.specs.Truths.{by_word}
use Rattle.pairs.proofs.Truths.{and_self, each_node}
use Rattle.alike.specs.Blocks.{digit, all_of, both_of, joined_of, raised_of, joined_truth, truth_words, truth_in, Roomy, TruthPut}
use Rattle.alike.specs.Under.{PartOf, first_part, second_part, PartIn, slot_of, step_of, Steps}
use Rattle.alike.specs.Truths.{here_at, there_at, place_of, View, first_view, second_view, PlaceSeen, made, alone, judged_here, judged_there}
use Rattle.alike.specs.Truths.{JudgedSeen, Judged, Signed, JudgedNext, Pair, Seen, Right, Ready, JudgedAll}
use Rattle.alike.specs.declared.blocks.Block.{Block}
use Rattle.alike.specs.declared.blocks.Signs.{Signs}
use Rattle.alike.specs.declared.blocks.Truth.{Truth}
use Rattle.alike.proofs.BlockDigits.{digit_none, digit_both, digit_joined, digit_raised, truth_is}
use Rattle.alike.proofs.Stepping.{step_parts}
use Rattle.alike.proofs.Words.{pair_persists}

-- ---- constant blocks

-- two tests agree below n
unfoldable pub agree : (ℕ → Bool) → (ℕ → Bool) → ℕ → Bool
agree f g zero = true
agree f g (suc n) = same_truth (f n) (g n) && agree f g n

-- so they do, by a computation
pub agree_below : (f g : ℕ → Bool) (m : ℕ) → agree f g m ≡ true → (n : ℕ) → n < m → f n ≡ g n
unfolding agree
agree_below f g zero e n l = absurd (omega arith)
agree_below f g (suc m) e n l =
    let h = both (same_truth (f m) (g m)) (agree f g m) e in
    ⊎_elim (agree_below f g m h.1 n) (λ (k : n ≡ m). subst (λ (i : ℕ). f i ≡ g i) (sym k) (same (f m) (g m) h.0)) (at_end m n l)
  where
    same : (a b : Bool) → same_truth a b ≡ true → a ≡ b
    same true true e = refl
    same true false e = absurd (false≢true e)
    same false true e = absurd (false≢true e)
    same false false e = refl

    both : (a b : Bool) → (a && b) ≡ true → (a ≡ true) × (b ≡ true)
    both true b e = (refl, e)
    both false b e = absurd (false≢true e)

-- ---- a formula by its parts

-- a connective as a conjunction with its signs
made_signed : (word : ℕ) → 2 ≤ word → word ≤ 5 → (A B : Bool) → xor (xor A (eqb word 4) && xor B (leb 4 word)) (not (eqb word 3)) ≡ made word A B
unfolding made by_word xor
made_signed zero two five A B = absurd (omega arith)
made_signed (suc zero) two five A B = absurd (omega arith)
made_signed (suc (suc zero)) two five true true = refl
made_signed (suc (suc zero)) two five true false = refl
made_signed (suc (suc zero)) two five false B = refl
made_signed (suc (suc (suc zero))) two five true true = refl
made_signed (suc (suc (suc zero))) two five true false = refl
made_signed (suc (suc (suc zero))) two five false B = refl
made_signed (suc (suc (suc (suc zero)))) two five true B = refl
made_signed (suc (suc (suc (suc zero)))) two five false true = refl
made_signed (suc (suc (suc (suc zero)))) two five false false = refl
made_signed (suc (suc (suc (suc (suc zero))))) two five true true = refl
made_signed (suc (suc (suc (suc (suc zero))))) two five true false = refl
made_signed (suc (suc (suc (suc (suc zero))))) two five false B = refl
made_signed (suc (suc (suc (suc (suc (suc n)))))) two five A B = absurd (omega arith)

-- and so with blocks
joined_made : (word : ℕ) → 2 ≤ word → word ≤ 5 → {s : Signs} → Signed word s → (x y : Block) (n : ℕ)
    → digit (joined_of s x y) n ≡ made word (digit x n) (digit y n)
joined_made word two five {s} signed x y n =
    let i = n % 64 in
    digit_joined s x y n
    ∙ ap₂ (λ (A B : Bool). xor (A && B) (has s.whole i)) (ap (xor (digit x n)) (signed.first i (omega arith)))
    (ap (xor (digit y n)) (signed.second i (omega arith)))
    ∙ ap (xor _) (signed.whole i (omega arith))
    ∙ made_signed word two five (digit x n) (digit y n)

-- what a test that is decided chooses
chosen : {b : Bool} → b ≡ true → (x y : Bool) → x ≡ cond b x y
chosen e x y = sym (ap (λ (b : Bool). cond b x y) e)

left : {b : Bool} → b ≡ false → (x y : Bool) → y ≡ cond b x y
left e x y = sym (ap (λ (b : Bool). cond b x y) e)

module _ (key : NodeRecord) (places : List ℕ) (x y : View) (h t : ℕ) where
  pub of_atom : key.word ≡ 1 → (v : View) (place : ℕ) → place ≡ place_of places key.first → PlaceSeen place h t v → JudgedSeen key places h t x y v
  unfolding judged_here judged_there
  of_atom e v place is truth n l = (
    (truth n l).0 ∙ ap (λ (s : ℕ). here_at h s n) is ∙ chosen (eq-eqb key.word 1 e) _ _,
    (truth n l).1 ∙ ap (λ (s : ℕ). there_at t s n) is ∙ chosen (eq-eqb key.word 1 e) _ _,
  )

  -- a word that is none of a formula with parts or an atom
  pub of_none : (key.word ≡ 1 → ⊥) → (2 ≤ key.word → key.word ≤ 5 → ⊥) → JudgedSeen key places h t x y (record { here = all_of 0; there = all_of 0 })
  unfolding made by_word alone judged_here judged_there
  of_none atom parts n l =
      let w = key.word in
      let q = ne_eqb w 2 (λ e. parts (omega arith) (omega arith)) in
      let r = ne_eqb w 3 (λ e. parts (omega arith) (omega arith)) in
      let s = ne_eqb w 4 (λ e. parts (omega arith) (omega arith)) in
      let u = ne_eqb w 5 (λ e. parts (omega arith) (omega arith)) in
      (simp (digit_none n, ne_eqb w 1 atom, q, r, s, u), simp (digit_none n, ne_eqb w 1 atom, q, r, s, u))

  -- a connective
  of_joined : 2 ≤ key.word → key.word ≤ 5 → {s : Signs} → Signed key.word s
      → JudgedSeen key places h t x y (record {
        here = both_of (raised_of s.alone (joined_of s x.there y.there)) (joined_of s x.here y.here);
        there = joined_of s x.there y.there;
      })
  unfolding judged_here judged_there
  of_joined two five {s} signed n l =
      let w = key.word in
      let other = ne_eqb w 1 (λ i. omega arith) in
      let there = joined_made w two five signed x.there y.there n in
      let here = joined_made w two five signed x.here y.here n in (
        digit_both (raised_of s.alone (joined_of s x.there y.there)) (joined_of s x.here y.here) n
            ∙ ap₂ ◌&&◌ (digit_raised s.alone (joined_of s x.there y.there) n ∙ ap₂ ◌||◌ (signed.alone (n % 64) (omega arith)) there) here
            ∙ left other _ _,
        there ∙ left other _ _,
      )

-- ---- a truth put at its slot

-- a slot that was asked for, where the table has it
pub at_slot : (table : List ℕ) {slot x : ℕ} → (slot < length table / truth_words → x ≡ slot) → Roomy table slot → x ≡ slot
at_slot table its room = its (omega arith)

module _ (key : NodeRecord) (places : List ℕ) (h g t k : ℕ) (table : List ℕ) where
  -- the truths of the parts
  abbrev X : Truth
  X = truth_in table key.first

  abbrev Y : Truth
  Y = truth_in table key.second

  judged_put : {table' : List ℕ} (v : Truth) → TruthPut table k v table'
      → ((2 ≤ key.word → Roomy table key.first × Roomy table key.second) → Judged key places h g t X Y v)
      → JudgedNext key places h g t k table table'
  judged_put v put judged = record {
    long = put.long;
    own = λ room. subst (Judged key places h g t X Y) (sym put.own) (judged room);
    others = put.others;
  }

  -- an atom, falsum, or what is no formula
  pub judged_simple : {table' : List ℕ} {v : Truth} → TruthPut table k v table' → Judged key places h g t X Y v
      → JudgedNext key places h g t k table table'
  judged_simple {v} put judged = judged_put v put (λ room. judged)

  pub judged_nothing : {table' : List ℕ} {v : Truth} {none also : Block} → v.here ≡ none → v.also ≡ none → v.there ≡ also → none ≡ all_of 0
      → also ≡ all_of 0 → (key.word ≡ 1 → ⊥) → (2 ≤ key.word → key.word ≤ 5 → ⊥) → TruthPut table k v table'
      → JudgedNext key places h g t k table table'
  judged_nothing p q r e f atom parts put = judged_simple put
      (subst (Judged key places h g t X Y) (sym (truth_is (p ∙ e) (q ∙ e) (r ∙ f))) (record {
        first = of_none key places (first_view X) (first_view Y) h t atom parts;
        second = of_none key places (second_view X) (second_view Y) g t atom parts;
      }))

  -- a connective
  pub judged_joined : 2 ≤ key.word → key.word ≤ 5 → {s : Signs} → Signed key.word s → {table' : List ℕ} {x y : ℕ} {v x' y' : Truth}
      → TruthPut table k v table' → v ≡ joined_truth s x' y' → x' ≡ truth_in table x → y' ≡ truth_in table y
      → (Roomy table key.first → x ≡ key.first) → (Roomy table key.second → y ≡ key.second) → JudgedNext key places h g t k table table'
  judged_joined two five {s} signed {v = v} put e xe ye at_x at_y = judged_put v put (λ room.
      subst (Judged key places h g t X Y) (sym (e ∙ ap₂ (joined_truth s)
      (xe ∙ ap (λ (i : ℕ). truth_in table i) (at_x (room two).0))
      (ye ∙ ap (λ (i : ℕ). truth_in table i) (at_y (room two).1)))) (record {
        first = of_joined key places (first_view X) (first_view Y) h t two five signed;
        second = of_joined key places (second_view X) (second_view Y) g t two five signed;
      }))

-- ---- the formulas of a good body

module _ (b : Body) (i : ℕ) where
  -- an operand is before the formula
  earlier : (is : List ℕ) → unknown_formula (before_node b i) is ≡ false → (p : ℕ) → p ∈ is → p < i
  earlier is e p m = omega (arith, known_earlier (before_node b i) is e p m, length-take i b.nodes)

  -- the operands of a node are before it
  parts_earlier : (m : Node) → refers_ahead (before_node b i) m ≡ false → (p : ℕ) → PartOf (record_from (node_record m)) p → p < i
  parts_earlier Node.bot e p (first_part l) = absurd (omega arith)
  parts_earlier Node.bot e p (second_part l) = absurd (omega arith)
  parts_earlier (Node.atom k) e p (first_part l) = absurd (omega arith)
  parts_earlier (Node.atom k) e p (second_part l) = absurd (omega arith)
  parts_earlier (Node.not q) e p (first_part l) = earlier (q ∷ []) e q (Memᴰ.head refl)
  parts_earlier (Node.not q) e p (second_part l) = absurd (omega arith)
  parts_earlier (Node.and q r) e p (first_part l) = earlier (q ∷ r ∷ []) e q (Memᴰ.head refl)
  parts_earlier (Node.and q r) e p (second_part l) = earlier (q ∷ r ∷ []) e r (Memᴰ.tail (Memᴰ.head refl))
  parts_earlier (Node.or q r) e p (first_part l) = earlier (q ∷ r ∷ []) e q (Memᴰ.head refl)
  parts_earlier (Node.or q r) e p (second_part l) = earlier (q ∷ r ∷ []) e r (Memᴰ.tail (Memᴰ.head refl))
  parts_earlier (Node.imp q r) e p (first_part l) = earlier (q ∷ r ∷ []) e q (Memᴰ.head refl)
  parts_earlier (Node.imp q r) e p (second_part l) = earlier (q ∷ r ∷ []) e r (Memᴰ.tail (Memᴰ.head refl))

-- a part of a good body's formula is before it
part_earlier : {b : Body} {table : List ℕ} → Formulas b table → (i : ℕ) → i < length b.nodes → (p : ℕ) → PartOf (record_from (node_at table i)) p → p < i
part_earlier {b} g i l = each_node g (λ r A. (p : ℕ) → PartOf r p → p < i) i l (parts_earlier b i)

-- two denials where one says no more than the other
not_below : (a c : Bool) → (c ≡ true → a ≡ true) → (not (a && a) && not (c && c)) ≡ not a
not_below true c f = refl
not_below false true f = absurd (false≢true (f refl))
not_below false false f = refl

module _ {b : Body} {table : List ℕ} (g : Formulas b table) (slots places : List ℕ) (at : ℕ → View) (h t n h' t' : ℕ) (pair : Pair places h t n h' t')
    (inside : Included h t) where
  -- the view of a formula
  abbrev its : ℕ → View
  its p = at (slot_of slots p)

  -- the digits of a formula are its truths in pair n
  abbrev DigitsRight : ℕ → Type 0
  DigitsRight p =
      (digit (its p).here n ≡ holds_in h' t' (decoded_at b.nodes p)) × (digit (its p).there n ≡ holds_in t' t' (decoded_at b.nodes p))

  -- and so are those that follow from its step
  abbrev Judges : NodeRecord → Formula → Type 0
  Judges r A =
      (judged_here r places h (at r.first) (at r.second) n ≡ holds_in h' t' A)
      × (judged_there r places t (at r.first) (at r.second) n ≡ holds_in t' t' A)

  module _ (i : ℕ) where
    -- a connective of two operands
    two : (f : Bool → Bool → Bool → Bool → Bool) (p q : ℕ) → DigitsRight p → DigitsRight q
        → f (digit (its p).there n) (digit (its q).there n) (digit (its p).here n) (digit (its q).here n)
        ≡ f (holds_in t' t' (decoded_at b.nodes p)) (holds_in t' t' (decoded_at b.nodes q))
        (holds_in h' t' (decoded_at b.nodes p)) (holds_in h' t' (decoded_at b.nodes q))
    two f p q x y = ap₂ (λ (a b : Bool). f a b (digit (its p).here n) (digit (its q).here n)) x.1 y.1 ∙ ap₂ (f _ _) x.0 y.0

    -- the formula of a node has them if its operands have
    node_right : (m : Node) → refers_ahead (before_node b i) m ≡ false → ((p : ℕ) → PartOf (record_from (node_record m)) p → p < i → DigitsRight p)
        → Judges (step_of slots (record_from (node_record m))) (formula_of (formulas_of b.nodes) m)
    unfolding by_word made alone holds_in judged_here judged_there step_of
    node_right Node.bot e parts = (refl, refl)
    node_right (Node.atom k) e parts =
        let l : k < 64 = omega (arith, leb-false b.atoms k e, (good_held g.good).few_atoms) in
        (sym (pair.here k l), sym (pair.there k l))
    node_right (Node.not p) e parts =
        let x = parts p (first_part (omega arith)) (earlier b i (p ∷ []) e p (Memᴰ.head refl)) in
        let A = decoded_at b.nodes p in (
          two (λ a b c d. not (a && b) && not (c && d)) p p x x ∙ not_below _ _ (pair_persists pair inside A),
          two (λ a b c d. not (a && b)) p p x x ∙ ap not (and_self (holds_in t' t' A)),
        )
    node_right (Node.and p q) e parts =
        let x = parts p (first_part (omega arith)) (earlier b i (p ∷ q ∷ []) e p (Memᴰ.head refl)) in
        let y = parts q (second_part (omega arith)) (earlier b i (p ∷ q ∷ []) e q (Memᴰ.tail (Memᴰ.head refl))) in
        (two (λ a b c d. c && d) p q x y, two (λ a b c d. a && b) p q x y)
    node_right (Node.or p q) e parts =
        let x = parts p (first_part (omega arith)) (earlier b i (p ∷ q ∷ []) e p (Memᴰ.head refl)) in
        let y = parts q (second_part (omega arith)) (earlier b i (p ∷ q ∷ []) e q (Memᴰ.tail (Memᴰ.head refl))) in
        (two (λ a b c d. c || d) p q x y, two (λ a b c d. a || b) p q x y)
    node_right (Node.imp p q) e parts =
        let x = parts p (first_part (omega arith)) (earlier b i (p ∷ q ∷ []) e p (Memᴰ.head refl)) in
        let y = parts q (second_part (omega arith)) (earlier b i (p ∷ q ∷ []) e q (Memᴰ.tail (Memᴰ.head refl))) in
        (two (λ a b c d. (not a || b) && (not c || d)) p q x y, two (λ a b c d. not a || b) p q x y ∙ sym (and_self _))

    node_judged : i < length b.nodes → ((p : ℕ) → PartIn table i p → DigitsRight p)
        → Judges (step_of slots (record_from (node_at table i))) (decoded_at b.nodes i)
    node_judged l right =
        each_node g (λ r A. ((p : ℕ) → PartOf r p → p < i → DigitsRight p) → Judges (step_of slots r) A) i l node_right
        (λ p o k. right p (record { part = o; before = k }))

-- the formulas from place k of the list on have a slot there, or after
slot_after : {b : Body} {formulas list slots : List ℕ} → Ready b formulas list slots → (k x : ℕ) → x ∈ drop k list
    → (k ≤ slot_of slots x) × (slot_of slots x < length list)
slot_after {list = list} {slots} ready k x m =
    let found = in_place_lem (drop k list) 0 m in
    let i = found.0 in
    let same : get_or list (k + i) 0 ≡ x = sym (get_or-drop k list i 0) ∙ found.2 in
    let bound : k + i < length list = omega (arith, length-drop k list, found.1) in
    let slot : slot_of slots x ≡ k + i = ap (slot_of slots) (sym same) ∙ ready.placed (k + i) bound in
    (omega arith, omega arith)

-- the formulas from place k of the list on are judged
pub record JudgedFrom (steps : List ℕ) (count : ℕ) (places : List ℕ) (h g t : ℕ) (table₀ table : List ℕ) (k : ℕ) : Type 0 where
  pub within : k ≤ count
  pub long : length table ≡ length table₀
  pub right :
      (b : Body) (formulas list slots : List ℕ) → Ready b formulas list slots → Steps formulas list slots steps count
      → truth_words * count ≤ length table₀ → Included h t → Included g t
      → (x : ℕ) → x ∈ drop k list → Right b places h g t x (truth_in table (slot_of slots x))

module _ (steps : List ℕ) (count : ℕ) (places : List ℕ) (h g t : ℕ) (table₀ : List ℕ) where
  pub judged_none : JudgedFrom steps count places h g t table₀ table₀ count
  judged_none = record {
    within = omega arith;
    long = refl;
    right = λ b formulas list slots r s m u v x i.
        absurd (Memᴰ.not-nil (subst (λ (xs : List ℕ). x ∈ xs) (ap (λ (n : ℕ). drop n list) (sym s.many) ∙ drop-length list) i));
  }

  -- the one before it too
  module _ {table : List ℕ} {k j : ℕ} (s : JudgedFrom steps count places h g t table₀ table k) (0<k : 0 < k) (e : j ≡ k - 1)
      (key : NodeRecord) (its-key : key ≡ record_from (node_at steps j)) {table' : List ℕ}
      (judged : JudgedNext key places h g t j table table') where
    module _ (b : Body) (formulas list slots : List ℕ) (ready : Ready b formulas list slots) (held : Steps formulas list slots steps count)
        (room : truth_words * count ≤ length table₀) (in_h : Included h t) (in_g : Included g t) where
      low : j < length list
      low = omega (arith, s.within, held.many)

      after : (x : ℕ) → x ∈ drop (suc j) list → x ∈ drop k list
      after x m = let next : suc j ≡ k = omega arith in subst (λ (z : ℕ). x ∈ drop z list) next m

      before : (x : ℕ) → x ∈ drop k list → Right b places h g t x (truth_in table (slot_of slots x))
      before = s.right b formulas list slots ready held room in_h in_g

      -- what was judged before
      later : (x : ℕ) → x ∈ drop (suc j) list → Right b places h g t x (truth_in table' (slot_of slots x))
      later x m =
          let slot = slot_after ready k x (after x m) in
          subst (Right b places h g t x) (sym (judged.others (slot_of slots x) (λ same. omega (arith, slot.0)))) (before x (after x m))

      module _ (i : ℕ) (is : i ≡ get_or list j 0) where
        step : key ≡ step_of slots (record_from (node_at formulas i))
        step =
            its-key ∙ held.each j (omega (arith, low, held.many)) ∙ ap (λ (x : ℕ). step_of slots (record_from (node_at formulas x))) (sym is)

        known : i < length b.nodes
        known = ready.known i (subst (λ (x : ℕ). x ∈ list) (sym is) (in_get_d list j 0 low))

        listed : (p : ℕ) → PartIn formulas i p → p ∈ drop k list
        listed p part = after p (ready.ordered j low p (subst (λ (x : ℕ). PartIn formulas x p) is part))

        roomy : (p : ℕ) → PartOf (record_from (node_at formulas i)) p → Roomy table (slot_of slots p)
        roomy p part =
            let slot = slot_after ready k p (listed p (record { part = part; before = part_earlier ready.held i known p part })) in
            omega (arith, slot.1, s.long, held.many)

        digits : Judged key places h g t (truth_in table key.first) (truth_in table key.second) (truth_in table' j)
        digits = judged.own (λ two. subst (λ (r : NodeRecord). Roomy table r.first × Roomy table r.second) (sym step)
            (step_parts slots _ (Roomy table) roomy (subst (λ (r : NodeRecord). 2 ≤ r.word) step two)))

        -- with one smaller set
        seen : (view : Truth → View) (h : ℕ) → Included h t → ((p : ℕ) → p ∈ drop k list → Seen b places h t p (view (truth_in table (slot_of slots p))))
            → JudgedSeen key places h t (view (truth_in table key.first)) (view (truth_in table key.second)) (view (truth_in table' j))
            → Seen b places h t i (view (truth_in table' j))
        seen view h inside parts own n l h' t' pair =
            let right = node_judged ready.held slots places (λ k. view (truth_in table k)) h t n h' t' pair inside i known
            (λ p part. parts p (listed p part) n l h' t' pair) in
            let one = subst (λ (r : NodeRecord). JudgedSeen r places h t (view (truth_in table r.first)) (view (truth_in table r.second))
            (view (truth_in table' j))) step own n l in
            (one.0 ∙ right.0, one.1 ∙ right.1)

        -- the formula itself
        own : Right b places h g t i (truth_in table' (slot_of slots i))
        own = subst (λ (k : ℕ). Right b places h g t i (truth_in table' k)) (sym (ap (slot_of slots) is ∙ ready.placed j low)) (record {
          first = seen first_view h in_h (λ p m. (before p m).first) digits.first;
          second = seen second_view g in_g (λ p m. (before p m).second) digits.second;
        })

    pub judged_next : JudgedFrom steps count places h g t table₀ table' j
    judged_next = record {
      within = omega (arith, s.within);
      long = judged.long ∙ s.long;
      right = λ b formulas list slots r d m u v x i.
          ⊎_elim (own b formulas list slots r d m u v x) (later b formulas list slots r d m u v x)
          (Memᴰ.cases_cons (subst (λ (xs : List ℕ). x ∈ xs) (drop-cons list j 0 (low b formulas list slots r d m u v)) i));
    }

  pub judged_whole : {table : List ℕ} {k : ℕ} → JudgedFrom steps count places h g t table₀ table k → k ≡ 0
      → JudgedAll steps count places h g t table₀ table
  judged_whole s e = record {
    long = s.long;
    right = λ b formulas list slots r d m u v x i. s.right b formulas list slots r d m u v x (subst (λ (z : ℕ). x ∈ drop z list) (sym e) i);
  }

  -- there is no room for the list
  pub judged_not : length table₀ < truth_words * count → JudgedAll steps count places h g t table₀ table₀
  judged_not l = record { long = refl; right = λ b formulas list slots r d m. absurd (omega arith) }
