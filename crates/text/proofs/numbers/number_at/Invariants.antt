-- `text::numbers::number_at` meets its contract. The loop's invariant is `Reading`: the digits before `end` are read.
-- Assumes nothing.
use Prim.Native.Nat.{◌-◌}
use lib.ListN.{length}
use Rattle.text.proofs.NumberLaws.{Reading}
use Rattle.text.proofs.numbers.number_at.Given as goal

abbrev pub invariant-loop-end : goal.invariant-loop-end
invariant-loop-end l = Reading l.field l.at l.value l.end

abbrev pub decreases-loop-end : goal.decreases-loop-end
decreases-loop-end l = length l.field - l.end
