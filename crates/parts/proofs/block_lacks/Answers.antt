use Prim.Native.Nat.{◌+◌}
use mathlib.Core.Path.{◌≡◌, refl, sym, ◌∙◌}
use mathlib.Core.Bool.{false≢true}
use native.Mathlib.Omega.{arith}
use Rattle.parts.proofs.PartLaws.{next_later}
use Rattle.parts.proofs.block_lacks.Goals as goal
use Rattle.parts.proofs.block_lacks.Goals.{then-bytes-i, else-bytes-i}

pub loop-i-init : goal.loop-i-init
loop-i-init c = (omega arith, λ e. refl)

pub loop-i-preserved : goal.loop-i-preserved
loop-i-preserved c = (
  omega arith,
  λ e. elim c.if-bytes-i.branch [
    | then-bytes-i w ↦ absurd (false≢true (sym w.lacks-is ∙ e))
    | else-bytes-i w ↦ c.loop-i.invariant.1 (sym w.lacks-is ∙ e) ∙ next_later _ _ _ (omega arith) w.if-bytes-i.false
  ],
)

pub returns : goal.returns
returns c e =
    let at_end : c.loop-i.i ≡ c.args.at + 16 = omega arith in
    rw at_end at (c.loop-i.invariant.1 e)
