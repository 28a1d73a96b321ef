-- `candidates::places::seats_of` meets its contract: the atoms are looked at one by one. Assumes nothing.
use Prim.Native.Nat.{◌^◌, ◌<◌}
use Rattle.atomset.specs.Walk.{members_left}
use Rattle.candidates.proofs.Seating.{ApartSoFar}
use Rattle.candidates.proofs.places.seats_of.Given as goal

abbrev pub invariant-loop-atom : goal.invariant-loop-atom
invariant-loop-atom l = (l.used < 2 ^ 64) × ApartSoFar l.places l.width l.set l.used (members_left l.atom-iterator)
