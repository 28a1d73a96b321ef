use mathlib.Core.Path.{◌≡◌}
use lib.ListN.{drop}
use Rattle.sides.specs.Members.{member}
use Rattle.sides.proofs.members.contains_near.Given as goal

abbrev pub invariant-loop-i : goal.invariant-loop-i
invariant-loop-i l = member l.x (drop l.from l.side) ≡ member l.x (drop l.i l.side)
