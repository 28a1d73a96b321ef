-- `elkcheck::fill` meets its contract and ends: the room that is left in the buffer falls.
use Rattle.std.proofs.Common.{length, ◌-◌, ◌≤◌}
use Rattle.elkcheck.proofs.fill.Given as goal

abbrev pub invariant-loop-at : goal.invariant-loop-at
invariant-loop-at g l = l.at ≤ length l.buffer

abbrev pub decreases-loop-at : goal.decreases-loop-at
decreases-loop-at g l = length l.buffer - l.at
