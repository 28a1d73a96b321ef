-- A formula as tables tell it, and its words, from those of its parts.
use Prim.Native.Nat.{ℕ, zero, suc, ◌≤◌, ◌<◌}
use native.Mathlib.Omega.{arith}
use mathlib.Core.Bool.{Bool, true, false, cond}
use mathlib.Core.List.{List, ◌++◌, append-nil}
use mathlib.Core.Path.{◌≡◌, refl, sym, ap, ap₂, subst, ◌∙◌}
use borrow.Author.Tests.{eqb-false, ltb-false, leb-false}
use lib.Dec.{eqb, ltb, leb}
use Rattle.format.specs.Text.{Bytes, bytes}
use Rattle.tables.specs.Records.{node_at, record_from}
use Rattle.tables.specs.declared.records.NodeRecord.{NodeRecord}
use Rattle.words.specs.Told.{Named, atom, neg, conj, disj, imp}
use Rattle.words.specs.Words.{formula_words}
use Rattle.writer.specs.Names.{spelling}
use Rattle.phrases.specs.Formulas.{word_before, formula_by, formula_within, table_formula, bracket_of, connective_of}

-- ---- the word of a record

-- what the word says of the parts
pub data Parts (n : NodeRecord) (i : ℕ) : ℕ → Type 0 where
  none : (w : ℕ) → w < 2 → Parts n i w
  one : n.first < i → Parts n i 2
  two : (w : ℕ) → 2 < w → w < 6 → n.first < i → n.second < i → Parts n i w

module _ (n : NodeRecord) (i : ℕ) where
  -- what is left of the words, where no test before applies
  last_word : (w : ℕ) → (w ≡ 1 → ⊥) → (w ≡ 2 → ⊥) → w ≤ 5 → n.first < i → n.second < i → Parts n i w
  last_word zero a b l f s = none 0 (omega arith)
  last_word (suc zero) a b l f s = absurd (a refl)
  last_word (suc (suc zero)) a b l f s = absurd (b refl)
  last_word (suc (suc (suc k))) a b l f s = two (suc (suc (suc k))) (omega arith) (omega arith) f s

  by_tests : (one? past ahead two? ahead₂ : Bool)
      → eqb n.word 1 ≡ one? → ltb 5 n.word ≡ past → leb i n.first ≡ ahead → eqb n.word 2 ≡ two? → leb i n.second ≡ ahead₂
      → Parts n i (cond one? 1 (cond past 0 (cond ahead 0 (cond two? 2 (cond ahead₂ 0 n.word)))))
  by_tests true p a t b e f g h k = none 1 (omega arith)
  by_tests false true a t b e f g h k = none 0 (omega arith)
  by_tests false false true t b e f g h k = none 0 (omega arith)
  by_tests false false false true b e f g h k = one (leb-false i n.first g)
  by_tests false false false false true e f g h k = none 0 (omega arith)
  by_tests false false false false false e f g h k =
      last_word n.word (eqb-false n.word 1 e) (eqb-false n.word 2 h) (ltb-false 5 n.word f) (leb-false i n.first g)
      (leb-false i n.second k)

  pub word_parts : Parts n i (word_before n i)
  unfolding word_before
  word_parts = by_tests _ _ _ _ _ refl refl refl refl refl

pub first_before : {n : NodeRecord} {i w : ℕ} → Parts n i w → 2 ≤ w → n.first < i
first_before (none w h) l = absurd (omega arith)
first_before (one h) l = h
first_before (two w a b f s) l = f

pub second_before : {n : NodeRecord} {i w : ℕ} → Parts n i w → 2 < w → n.second < i
second_before (none w h) l = absurd (omega arith)
second_before (one h) l = absurd (omega arith)
second_before (two w a b f s) l = s

-- no word is greater than 5
pub word_below : {n : NodeRecord} {i w : ℕ} → Parts n i w → w < 6
word_below (none w h) = omega arith
word_below (one h) = omega arith
word_below (two w a b f s) = b

-- ---- a formula from its parts

-- only the parts that the word asks for count
same_parts : (w : ℕ) (name : Bytes) (A B C D : Named) → (2 ≤ w → A ≡ C) → (2 < w → B ≡ D) → formula_by w name A B ≡ formula_by w name C D
same_parts zero name A B C D e f = refl
same_parts (suc zero) name A B C D e f = refl
same_parts (suc (suc zero)) name A B C D e f = ap neg (e (omega arith))
same_parts (suc (suc (suc zero))) name A B C D e f = ap₂ conj (e (omega arith)) (f (omega arith))
same_parts (suc (suc (suc (suc zero)))) name A B C D e f = ap₂ disj (e (omega arith)) (f (omega arith))
same_parts (suc (suc (suc (suc (suc zero))))) name A B C D e f = ap₂ imp (e (omega arith)) (f (omega arith))
same_parts (suc (suc (suc (suc (suc (suc k)))))) name A B C D e f = refl

-- the words of a formula of two parts
two_parts : (w : ℕ) (name : Bytes) (A B : Named) → 2 < w → w < 6
    → formula_words (formula_by w name A B) ≡ bracket_of w ++ (formula_words A ++ (connective_of w ++ (formula_words B ++ bytes ")")))
unfolding formula_words bracket_of connective_of
two_parts zero name A B l h = absurd (omega arith)
two_parts (suc zero) name A B l h = absurd (omega arith)
two_parts (suc (suc zero)) name A B l h = absurd (omega arith)
two_parts (suc (suc (suc zero))) name A B l h = refl
two_parts (suc (suc (suc (suc zero)))) name A B l h = refl
two_parts (suc (suc (suc (suc (suc zero))))) name A B l h = refl
two_parts (suc (suc (suc (suc (suc (suc k)))))) name A B l h = absurd (omega arith)

module _ (text : Bytes) (names formulas : List ℕ) where
  abbrev record_of : ℕ → NodeRecord
  record_of i = record_from (node_at formulas i)

  -- enough steps are enough
  steps_enough : (m n i : ℕ) → i < m → i < n → formula_within m text names formulas i ≡ formula_within n text names formulas i
  unfolding formula_within
  steps_enough zero n i h k = absurd (omega arith)
  steps_enough (suc m) zero i h k = absurd (omega arith)
  steps_enough (suc m) (suc n) i h k =
      let parts = word_parts (record_of i) i in
      same_parts (word_before (record_of i) i) _ _ _ _ _
      (λ l. let before = first_before parts l in steps_enough m n (record_of i).first (omega arith) (omega arith))
      (λ l. let before = second_before parts l in steps_enough m n (record_of i).second (omega arith) (omega arith))

  abbrev formula_of : ℕ → Named
  formula_of i = table_formula text names formulas i

  pub table_formula_lem : (i : ℕ) → formula_of i
      ≡ formula_by (word_before (record_of i) i) (spelling text names (record_of i).first) (formula_of (record_of i).first) (formula_of (record_of i).second)
  unfolding formula_within
  table_formula_lem i =
      let parts = word_parts (record_of i) i in
      same_parts (word_before (record_of i) i) _ _ _ _ _
      (λ l. steps_enough i (suc (record_of i).first) (record_of i).first (first_before parts l) (omega arith))
      (λ l. steps_enough i (suc (record_of i).second) (record_of i).second (second_before parts l) (omega arith))

  abbrev words_at : ℕ → Bytes
  words_at i = formula_words (formula_of i)

  -- the same by a record that was read, its word, and operands that are known by an equation
  module _ (i : ℕ) (n : NodeRecord) (e : n ≡ record_of i) (w : ℕ) (f : w ≡ word_before n i) where
    pub parts_of_lem : Parts n i w
    parts_of_lem = subst (Parts n i) (sym f) (word_parts n i)

    by_record : {v : ℕ} → w ≡ v
        → formula_of i ≡ formula_by v (spelling text names n.first) (formula_of n.first) (formula_of n.second)
    by_record {v} g =
        table_formula_lem i
        ∙ ap (λ (m : NodeRecord). formula_by (word_before m i) (spelling text names m.first) (formula_of m.first) (formula_of m.second)) (sym e)
        ∙ ap (λ (k : ℕ). formula_by k (spelling text names n.first) (formula_of n.first) (formula_of n.second)) (sym f ∙ g)

    pub falsum_words : w ≡ 0 → words_at i ≡ bytes "contradiction"
    unfolding formula_words
    falsum_words g = ap formula_words (by_record g)

    pub atom_words_lem : w ≡ 1 → (k : ℕ) → k ≡ n.first → words_at i ≡ formula_words (atom (spelling text names k))
    atom_words_lem g k h = ap formula_words (by_record g) ∙ ap (λ (m : ℕ). formula_words (atom (spelling text names m))) (sym h)

    pub not_words : w ≡ 2 → (j : ℕ) → j ≡ n.first → words_at i ≡ bytes "not " ++ words_at j
    unfolding formula_words
    not_words g j h =
        ap formula_words (by_record g)
        ∙ ap (λ (words : Bytes). bytes "not " ++ words) (append-nil (words_at n.first) ∙ ap words_at (sym h))

    pub two_words : 2 < w → (j k : ℕ) → j ≡ n.first → k ≡ n.second
        → words_at i ≡ bracket_of w ++ (words_at j ++ (connective_of w ++ (words_at k ++ bytes ")")))
    two_words l j k g h =
        ap formula_words (by_record refl)
        ∙ two_parts w (spelling text names n.first) (formula_of n.first) (formula_of n.second) l (word_below parts_of_lem)
        ∙ ap₂ (λ (p q : ℕ). bracket_of w ++ (words_at p ++ (connective_of w ++ (words_at q ++ bytes ")")))) (sym g) (sym h)
