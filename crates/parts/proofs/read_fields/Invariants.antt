-- `parts::read_fields` meets its contract. The loop's invariant is `Fielding`: so many fields are read, and the next starts at `at`.
-- Assumes nothing.
use Prim.Native.Nat.{◌-◌}
use lib.ListN.{length}
use Rattle.parts.proofs.PartLaws.{Fielding}
use Rattle.parts.proofs.read_fields.Given as goal

abbrev pub invariant-loop-count : goal.invariant-loop-count
invariant-loop-count l = Fielding l.line l.ends l.count l.at

abbrev pub decreases-loop-count : goal.decreases-loop-count
decreases-loop-count l = length l.line - l.at
