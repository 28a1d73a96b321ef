-- `sides::merging::agree` meets its contract: its loop keeps what the two cursors have passed.
use Prim.Native.Nat.{◌-◌, ◌+◌}
use lib.ListN.{length}
use Rattle.sides.proofs.Cursors.{Cursors}
use Rattle.sides.proofs.merging.agree.Given as goal

abbrev pub invariant-loop-i : goal.invariant-loop-i
invariant-loop-i l = Cursors l.a l.at_a l.b l.at_b l.i l.j

abbrev pub decreases-loop-i : goal.decreases-loop-i
decreases-loop-i l = (length l.a - l.i) + (length l.b - l.j)
