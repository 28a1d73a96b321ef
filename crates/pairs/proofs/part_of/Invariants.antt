-- `pairs::part_of` meets its contract. The invariant of its loop: the set has what the part takes of the atoms passed. Assumes nothing.
use Prim.Native.Nat.{◌^◌, ◌<◌}
use Rattle.pairs.proofs.PartWords.{Taken}
use Rattle.pairs.proofs.part_of.Given as goal

abbrev pub invariant-loop-atom : goal.invariant-loop-atom
invariant-loop-atom l = (l.taken < 2 ^ 64) × Taken l.set l.n l.taken l.atom-iterator.rest l.digits
