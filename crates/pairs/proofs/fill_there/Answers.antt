use Prim.Native.Nat.{ℕ, min}
use native.Mathlib.Omega.{arith}
use mathlib.Core.Bool.{Bool, true, not}
use mathlib.Core.List.{List}
use mathlib.Core.Path.{◌≡◌, refl, sym, ap, ◌∙◌}
use lib.Bits.{bit_xor}
use lib.ListN.{length, set, take, length-set}
use lib.Seq.{length-take-le}
use Rattle.tables.specs.declared.records.NodeRecord.{NodeRecord}
use Rattle.pairs.specs.Truths.{truth_of, there_by, truths, truths_there, digit, noted}
use Rattle.pairs.proofs.Digits.{digit_not, note_read}
use Rattle.pairs.proofs.Truths.{noted_front, noted_next, notes_there}
use borrow.Author.Rules.{rules}
use Rattle.pairs.proofs.fill_there.Goals as goal

pub loop-i-init : goal.loop-i-init
unfolding truths
loop-i-init c = (refl, refl)

pub slice_bounds-note_of-end-in-loop-i : goal.slice_bounds-note_of-end-in-loop-i
slice_bounds-note_of-end-in-loop-i c = sym (length-take-le _ _ (search rules))

pub slice_bounds-judged-end-in-loop-i : goal.slice_bounds-judged-end-in-loop-i
slice_bounds-judged-end-in-loop-i c = sym (length-take-le _ _ (search rules))

pub loop-i-preserved : goal.loop-i-preserved
loop-i-preserved c =
    let args = c.args in
    let rule : ℕ → List Bool → NodeRecord → Bool = λ i. there_by args.t in
    let ts = truths rule args.formulas.now c.loop-i.i in
    let front = ap (take c.loop-i.i) c.loop-i.invariant.1 ∙ noted_front rule args.formulas.now args.there.now c.loop-i.i in
    let key = c.node-key.result in
    let fails = ap (λ (d : ℕ). bit_xor d 1) (c.note_of-negation.ensures ∙ note_read _ ts key.first front) ∙ digit_not (truth_of ts key.first) in (
      simp length-set c.loop-i.invariant.0,
      ap (λ (notes : List ℕ). set notes c.loop-i.i c.judged.result) c.loop-i.invariant.1
          ∙ noted_next rule args.formulas.now args.there.now c.loop-i.i c.judged.result (search rules)
          (c.judged.ensures ts (not (truth_of ts key.first)) true front fails refl
          ∙ ap (λ (n : NodeRecord). digit (there_by args.t ts n)) c.node-key.ensures),
    )

pub returns : goal.returns
returns c =
    let args = c.args in
    let all : c.loop-i.i ≡ min args.count (length args.there.now) = omega (arith, c.min-i-end.ensures) in
    let answer = c.loop-i.invariant.1 ∙ ap (λ (n : ℕ). noted (truths_there args.formulas.now args.t n) args.there.now) all in
    record { answer = answer; judges = λ b g. notes_there g args.t _ args.there.now answer }
