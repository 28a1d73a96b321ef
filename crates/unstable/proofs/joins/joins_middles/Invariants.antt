-- `unstable::joins::joins_middles` meets its contract. The invariant of its loop: the answer for E is that for what is left of it.
use mathlib.Core.Path.{◌≡◌}
use lib.ListN.{length, get_or, drop}
use Rattle.atomset.specs.AtomSet.{members}
use Rattle.unstable.specs.Joins.{middles_in}
use Rattle.unstable.proofs.joins.joins_middles.Given as goal

abbrev pub invariant-loop-s : goal.invariant-loop-s
invariant-loop-s l = middles_in l.formulas l.e (get_or (members l.set) 0 64) (drop 1 (members l.set)) ≡ middles_in l.formulas l.at l.p (members l.rest)

abbrev pub decreases-loop-s : goal.decreases-loop-s
decreases-loop-s l = length (members l.rest)
