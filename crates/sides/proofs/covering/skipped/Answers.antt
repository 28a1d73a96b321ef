use Prim.Native.Nat.{ℕ, ◌+◌, ◌<◌}
use native.Mathlib.Decide.{dec_lt}
use native.Mathlib.Omega.{arith}
use mathlib.Core.List.{List}
use mathlib.Core.Path.{◌≡◌, ap}
use lib.ListN.{get_or}
use Rattle.sides.proofs.covering.skipped.Goals as goal
use Rattle.sides.proofs.covering.skipped.Invariants.{Below}

one_more : (side : List ℕ) (at x i : ℕ) → Below side at x i → get_or side i 0 < x → Below side at x (i + 1)
one_more side at x i h l k a b = by (dec_lt k i)
  where
    by : Dec (k < i) → get_or side k 0 < x
    by (yes m) = h k a m
    by (no n) = let e : k ≡ i = omega arith in omega (arith, ap (λ (m : ℕ). get_or side m 0) e)

pub loop-i-init : goal.loop-i-init
loop-i-init c k a b = absurd (omega arith)

pub loop-i-preserved : goal.loop-i-preserved
loop-i-preserved c =
    let args = c.args in
    one_more args.side.now args.at args.x c.loop-i.i c.loop-i.invariant (omega arith)

pub returns-else-side-i : goal.returns-else-side-i
returns-else-side-i c = record { below = c.loop-i.invariant; stops = λ h. omega arith }

pub returns-after-loop-i : goal.returns-after-loop-i
returns-after-loop-i c = record { below = c.loop-i.invariant; stops = λ h. absurd (omega arith) }
