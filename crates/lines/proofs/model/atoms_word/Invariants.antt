-- `lines::model::atoms_word` meets its contract. The invariant of its loop: the set is a word, and has the atoms that were passed.
use Prim.Native.Nat.{ℕ, ◌^◌, ◌<◌}
use Rattle.atomset.specs.AtomSet.{has}
use Rattle.shapes.proofs.Passes.{Passed}
use Rattle.lines.proofs.ModelLines.{entered}
use Rattle.lines.proofs.model.atoms_word.Given as goal

abbrev pub invariant-loop-atom : goal.invariant-loop-atom
invariant-loop-atom l = (l.set < 2 ^ 64) × ((p : ℕ) → Passed (entered p) l.atoms (has l.set p) l.atom-index)
