-- `sides::members::block_has` meets its contract. The invariant of its loop: the number is in the rest from `at` exactly where it was found
-- or is in the rest from i. Assumes nothing.
use Prim.Native.Nat.{◌+◌, ◌-◌, ◌≤◌}
use mathlib.Core.Path.{◌≡◌}
use mathlib.Core.Bool.{◌||◌}
use lib.ListN.{drop}
use Rattle.sides.specs.Members.{member}
use Rattle.sides.proofs.members.block_has.Given as goal

abbrev pub invariant-loop-i : goal.invariant-loop-i
invariant-loop-i l = (l.i ≤ l.at + 8) × (member l.x (drop l.at l.side) ≡ (l.found || member l.x (drop l.i l.side)))

abbrev pub decreases-loop-i : goal.decreases-loop-i
decreases-loop-i l = l.at + 8 - l.i
