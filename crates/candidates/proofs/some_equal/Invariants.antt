-- `candidates::some_equal` meets its contract. The invariant of its loop: a candidate that is not pending is not equal. Assumes nothing.
use Rattle.atomset.specs.Walk.{members_left}
use Rattle.candidates.proofs.Seeking.{Seeking}
use Rattle.candidates.proofs.some_equal.Given as goal

abbrev pub invariant-loop-c : goal.invariant-loop-c
invariant-loop-c l = Seeking l.swapped.formulas.now l.swapped.notes.now l.swapped.own l.swapped.atoms l.swapped.side.now l.narrow l.pending (members_left l.c-iterator)
