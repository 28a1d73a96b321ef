-- `sides::merging::rest_added` meets its contract. The invariant of its loop: all numbers before i are added.
use Prim.Native.Nat.{ℕ, ◌≤◌, ◌<◌}
use lib.ListN.{get_or}
use Rattle.sides.specs.Merging.{IsAdded}
use Rattle.sides.proofs.merging.rest_added.Given as goal

abbrev pub invariant-loop-i : goal.invariant-loop-i
invariant-loop-i l = (k : ℕ) → l.at ≤ k → k < l.i → IsAdded l.added (get_or l.side k 0)
