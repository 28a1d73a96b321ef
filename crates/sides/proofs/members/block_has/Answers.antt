use Prim.Native.Nat.{◌+◌}
use mathlib.Core.Path.{◌≡◌, refl, sym, ap, ◌∙◌}
use mathlib.Core.Bool.{Bool, true, ◌||◌, or-true}
use native.Mathlib.Omega.{arith}
use lib.ListN.{drop}
use Rattle.sides.specs.Members.{member}
use Rattle.sides.proofs.Searching.{here, next}
use Rattle.sides.proofs.members.block_has.Goals as goal
use Rattle.sides.proofs.members.block_has.Goals.{then-side-i, else-side-i}

-- a number that is found now was in the rest
turned : (found more rest' : Bool) {all rest : Bool} → all ≡ found || rest → rest ≡ true → more ≡ true → all ≡ more || rest'
turned found more rest' e r m = e ∙ ap (λ t. found || t) r ∙ or-true found ∙ sym (ap (λ t. t || rest') m)

pub loop-i-init : goal.loop-i-init
loop-i-init c = (omega arith, refl)

pub loop-i-preserved : goal.loop-i-preserved
loop-i-preserved c =
    let loop = c.loop-i in
    let args = c.args in
    let rest = member args.x (drop (loop.i + 1) args.side.now) in (
      omega arith,
      elim c.if-side-i.branch [
        | then-side-i w ↦ turned loop.found _ _ loop.invariant.1 (here _ _ loop.i (omega arith) w.if-side-i.true) w.found-is
        | else-side-i w ↦ loop.invariant.1 ∙ ap (λ t. loop.found || t) (next _ _ loop.i (omega arith) w.if-side-i.false) ∙ ap (λ t. t || rest) (sym w.found-is)
      ],
    )

pub returns : goal.returns
returns c =
    let at_end : c.loop-i.i ≡ c.args.at + 8 = omega arith in
    rw at_end at c.loop-i.invariant.1
