-- `unstable::atoms_of_side` meets its contract. The invariant of its loop: the set has the atoms of what was passed.
use Prim.Native.Nat.{ℕ}
use mathlib.Core.Bool.{Bool}
use mathlib.Core.List.{List}
use lib.ListN.{get_or}
use Rattle.atomset.specs.AtomSet.{has}
use Rattle.shapes.proofs.Passes.{Passed}
use Rattle.unstable.proofs.atoms_of_side.Given as goal

-- p is an atom of formula x
abbrev pub occurs : List ℕ → ℕ → ℕ → Bool
occurs notes p x = has (get_or notes x 0) p

abbrev pub invariant-loop-x : goal.invariant-loop-x
invariant-loop-x l = (p : ℕ) → Passed (occurs l.notes p) l.side (has l.set p) l.x-index
