-- `candidates::places::seat` meets its contract: the atoms are seated one by one. Assumes nothing.
use Rattle.atomset.specs.Walk.{members_left}
use Rattle.candidates.proofs.Seating.{SeatingSoFar}
use Rattle.candidates.proofs.places.seat.Given as goal

abbrev pub invariant-loop-place : goal.invariant-loop-place
invariant-loop-place l =
    goal.iterator-loop-place.can_next l.place-iterator
    × goal.iterator-loop-place.is_finite l.place-iterator
    × SeatingSoFar l.set l.places l.place-iterator.count (members_left l.place-iterator.iter)
