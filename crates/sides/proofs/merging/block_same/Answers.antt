use mathlib.Core.Path.{◌≡◌, sym, ◌∙◌}
use mathlib.Core.Bool.{false≢true}
use native.Mathlib.Omega.{arith}
use borrow.Author.Count.{below_none, below_more}
use borrow.Author.Rules.{rules}
use Rattle.sides.proofs.merging.block_same.Goals as goal
use Rattle.sides.proofs.merging.block_same.Goals.{then-a-i, else-a-i}

pub loop-k-init : goal.loop-k-init
loop-k-init c = (omega arith, λ e. below_none _)

pub loop-k-preserved : goal.loop-k-preserved
loop-k-preserved c =
    let loop = c.loop-k in (
      omega arith,
      λ e. elim c.if-a-i.branch [
        | then-a-i w ↦ absurd (false≢true (sym w.same-is ∙ e))
        | else-a-i w ↦ below_more _ loop.k (loop.invariant.1 (sym w.same-is ∙ e)) (search rules)
      ],
    )

pub returns : goal.returns
returns c e =
    let at_end : c.loop-k.k ≡ 8 = omega arith in
    record { in_a = omega arith; in_b = omega arith; same = rw at_end at (c.loop-k.invariant.1 e) }
