-- `sides::covering::first_outside` meets its contract. The invariant of its loop: the numbers of a before i are in b, and what the cursor
-- has passed is below a[i].
use Prim.Native.Nat.{◌-◌, ◌≤◌}
use mathlib.Core.Bool.{true}
use mathlib.Core.Path.{◌≡◌}
use lib.ListN.{length}
use Rattle.format.specs.Text.{strictly_rising}
use Rattle.sides.proofs.Either.{Passed, Found}
use Rattle.sides.proofs.covering.first_outside.Given as goal

abbrev pub invariant-loop-i : goal.invariant-loop-i
invariant-loop-i l = (l.i ≤ length l.a) × Found l.a l.i l.b × (strictly_rising l.a ≡ true → Passed l.a l.i l.b l.j)

abbrev pub decreases-loop-i : goal.decreases-loop-i
decreases-loop-i l = length l.a - l.i
