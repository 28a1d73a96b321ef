-- `pairs::judged` meets its contract: the word of the record decides, as in the definition. Assumes nothing.
use Prim.Native.Nat.{ℕ}
use native.Mathlib.Omega.{arith}
use mathlib.Core.Bool.{Bool, false, not, ◌&&◌, ◌||◌}
use mathlib.Core.List.{List, map}
use mathlib.Core.Path.{◌≡◌, sym, ap, ap₂, ◌∙◌}
use borrow.Author.Tests.{ne_eqb}
use lib.Bits.{bit_and, bit_or, bit_xor}
use lib.ListN.{get_or}
use Rattle.atomset.specs.AtomSet.{has}
use Rattle.tables.specs.declared.records.NodeRecord.{NodeRecord}
use Rattle.pairs.specs.Truths.{truth_of, by_word, judged_by, digit}
use Rattle.pairs.proofs.Digits.{digit_and, digit_or, digit_implies, note_read}
use Rattle.pairs.proofs.judged.Goals as goal

module _ (set : ℕ) (n a : Bool) (ts : List Bool) (key : NodeRecord) where
  A : Bool
  A = truth_of ts key.first

  B : Bool
  B = truth_of ts key.second

  -- the formula of the record, with its word
  with_word : (w : ℕ) → key.word ≡ w → digit (by_word w (has set key.first) n (A && B) (A || B) (a && (not A || B))) ≡ digit (judged_by set n a ts key)
  unfolding A B
  with_word w e = ap (λ (w : ℕ). digit (by_word w (has set key.first) n (A && B) (A || B) (a && (not A || B)))) (sym e)

  of_atom : key.word ≡ 1 → digit (has set key.first) ≡ digit (judged_by set n a ts key)
  unfolding by_word A B
  of_atom = with_word 1

  of_not : key.word ≡ 2 → digit n ≡ digit (judged_by set n a ts key)
  unfolding by_word A B
  of_not = with_word 2

  -- by the notes of the operands
  module _ (notes : List ℕ) (e : notes ≡ map digit ts) {x y : ℕ} (first : x ≡ get_or notes key.first 0) (second : y ≡ get_or notes key.second 0) where
    operands : (f : ℕ → ℕ → ℕ) → f x y ≡ f (digit A) (digit B)
    unfolding A B
    operands f = ap₂ f (first ∙ note_read notes ts key.first e) (second ∙ note_read notes ts key.second e)

    of_and : key.word ≡ 3 → bit_and x y ≡ digit (judged_by set n a ts key)
    unfolding by_word
    of_and k = operands bit_and ∙ digit_and A B ∙ with_word 3 k

    of_or : key.word ≡ 4 → bit_or x y ≡ digit (judged_by set n a ts key)
    unfolding by_word
    of_or k = operands bit_or ∙ digit_or A B ∙ with_word 4 k

    of_imp : key.word ≡ 5 → (d : ℕ) → d ≡ digit a → bit_and d (bit_or (bit_xor x 1) y) ≡ digit (judged_by set n a ts key)
    unfolding by_word
    of_imp k d g =
        ap (λ (d : ℕ). bit_and d (bit_or (bit_xor x 1) y)) g
        ∙ operands (λ x y. bit_and (digit a) (bit_or (bit_xor x 1) y))
        ∙ digit_implies a A B
        ∙ with_word 5 k

  -- any other word
  of_none : (key.word ≡ 1 → ⊥) → (key.word ≡ 2 → ⊥) → (key.word ≡ 3 → ⊥) → (key.word ≡ 4 → ⊥) → (key.word ≡ 5 → ⊥)
      → judged_by set n a ts key ≡ false
  unfolding by_word
  of_none p q r s t =
      let w = key.word in
      simp (ne_eqb w 1 p, ne_eqb w 2 q, ne_eqb w 3 r, ne_eqb w 4 s, ne_eqb w 5 t)

pub returns-in-2 : goal.returns-in-2
returns-in-2 c ts n a e f g = f ∙ of_not c.args.set n a ts c.args.key c.in-2.is

pub returns-in-1 : goal.returns-in-1
returns-in-1 c ts n a e f g = c.atom_in.ensures ∙ of_atom c.args.set n a ts c.args.key c.in-1.is

pub returns-in-3 : goal.returns-in-3
returns-in-3 c ts n a e f g = of_and c.args.set n a ts c.args.key _ e c.note_of-first.ensures c.note_of-second.ensures c.in-3.is

pub returns-in-4 : goal.returns-in-4
returns-in-4 c ts n a e f g = of_or c.args.set n a ts c.args.key _ e c.note_of-first.ensures c.note_of-second.ensures c.in-4.is

pub returns-in-5 : goal.returns-in-5
returns-in-5 c ts n a e f g = of_imp c.args.set n a ts c.args.key _ e c.note_of-first.ensures c.note_of-second.ensures c.in-5.is _ g

pub returns-in_default-word : goal.returns-in_default-word
returns-in_default-word c ts n a e f g =
    sym (ap digit (of_none c.args.set n a ts c.args.key (λ q. omega arith) (λ q. omega arith) (λ q. omega arith) (λ q. omega arith)
    (λ q. omega arith)))
