-- `candidates::seat_group` meets its contract: candidates join one by one. Assumes nothing.
use Prim.Native.Nat.{◌^◌, ◌<◌}
use Rattle.atomset.specs.Walk.{members_left}
use Rattle.candidates.proofs.Grouping.{GroupingSoFar}
use Rattle.candidates.proofs.seat_group.Given as goal

abbrev pub invariant-loop-d : goal.invariant-loop-d
invariant-loop-d l = (l.group < 2 ^ 64) × GroupingSoFar l.swapped.notes.now l.swapped.atoms l.swapped.side.now l.c l.pending l.width l.initial.places l.places l.group (members_left l.d-iterator)
