-- `sides::merging::same_blocks` meets its contract. The invariant of its loop: the first n numbers are the same.
use Prim.Native.Nat.{◌-◌}
use lib.ListN.{length}
use Rattle.sides.specs.Merging.{SameFrom}
use Rattle.sides.proofs.merging.same_blocks.Given as goal

abbrev pub invariant-loop-n : goal.invariant-loop-n
invariant-loop-n l = SameFrom l.a l.i l.b l.j l.n

abbrev pub decreases-loop-n : goal.decreases-loop-n
decreases-loop-n l = length l.a - l.i - l.n
