use Prim.Native.Nat.{ℕ, min}
use native.Mathlib.Omega.{arith}
use mathlib.Core.Bool.{Bool}
use mathlib.Core.List.{List}
use mathlib.Core.Path.{◌≡◌, refl, sym, ap, ◌∙◌}
use lib.ListN.{length, set, take, length-set}
use lib.Seq.{length-take-le}
use Rattle.tables.specs.declared.records.NodeRecord.{NodeRecord}
use Rattle.pairs.specs.Truths.{here_by, truths, truths_here, digit, noted, noted_at}
use Rattle.pairs.proofs.Truths.{noted_front, noted_next, notes_here}
use borrow.Author.Rules.{rules}
use Rattle.pairs.proofs.fill_here.Goals as goal

pub loop-i-init : goal.loop-i-init
unfolding truths
loop-i-init c = (refl, refl)

pub slice_bounds-judged-end-in-loop-i : goal.slice_bounds-judged-end-in-loop-i
slice_bounds-judged-end-in-loop-i c = sym (length-take-le _ _ (search rules))

pub loop-i-preserved : goal.loop-i-preserved
loop-i-preserved c =
    let args = c.args in
    let rule : ℕ → List Bool → NodeRecord → Bool = λ i. here_by args.h (noted_at args.there.now i) in
    let ts = truths rule args.formulas.now c.loop-i.i in
    let there = noted_at args.there.now c.loop-i.i in
    let front = ap (take c.loop-i.i) c.loop-i.invariant.1 ∙ noted_front rule args.formulas.now args.here.now c.loop-i.i in (
      simp length-set c.loop-i.invariant.0,
      ap (λ (notes : List ℕ). set notes c.loop-i.i c.judged.result) c.loop-i.invariant.1
          ∙ noted_next rule args.formulas.now args.here.now c.loop-i.i c.judged.result (search rules)
          (c.judged.ensures ts there there front c.truth_of-own.ensures c.truth_of-own.ensures
          ∙ ap (λ (n : NodeRecord). digit (here_by args.h there ts n)) c.node.ensures),
    )

pub returns : goal.returns
returns c =
    let args = c.args in
    let all : c.loop-i.i ≡ min args.count (length args.here.now) = omega (arith, c.min-i-end.ensures) in
    let answer =
    c.loop-i.invariant.1
    ∙ ap (λ (n : ℕ). noted (truths_here args.formulas.now args.h (noted_at args.there.now) n) args.here.now) all
    in
    record { answer = answer; judges = λ b g t known. notes_here g args.h t _ args.there.now args.here.now known answer }
