-- `unstable::joins::choice_by` meets its contract. The invariant of its loop: what is read off the rest of K makes the whole choice.
use lib.ListN.{length}
use Rattle.atomset.specs.AtomSet.{members}
use Rattle.unstable.proofs.Steps.{Reading}
use Rattle.unstable.proofs.joins.choice_by.Given as goal

abbrev pub invariant-loop-s : goal.invariant-loop-s
invariant-loop-s l = Reading l.formulas l.k l.v l.p l.rest l.at l.set

abbrev pub decreases-loop-s : goal.decreases-loop-s
decreases-loop-s l = length (members l.rest)
