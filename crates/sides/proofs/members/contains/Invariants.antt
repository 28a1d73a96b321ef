-- `sides::members::contains` meets its contract. The invariant of its loop: the number is in the list exactly where it is in the rest from i.
use Prim.Native.Nat.{◌-◌}
use mathlib.Core.Path.{◌≡◌}
use lib.ListN.{length, drop}
use Rattle.sides.specs.Members.{member}
use Rattle.sides.proofs.members.contains.Given as goal

abbrev pub invariant-loop-i : goal.invariant-loop-i
invariant-loop-i l = member l.x l.side ≡ member l.x (drop l.i l.side)

abbrev pub decreases-loop-i : goal.decreases-loop-i
decreases-loop-i l = length l.side - l.i
