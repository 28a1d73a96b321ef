-- `candidates::places::seat_others` meets its contract: only atoms that had no place are given one. Assumes nothing.
use Prim.Native.Nat.{◌^◌, ◌<◌}
use Rattle.atomset.specs.Walk.{members_left}
use Rattle.candidates.proofs.Seating.{GivingSoFar}
use Rattle.candidates.proofs.places.seat_others.Given as goal

abbrev pub invariant-loop-atom : goal.invariant-loop-atom
invariant-loop-atom l = GivingSoFar l.initial.places l.places (members_left l.atom-iterator.a)
