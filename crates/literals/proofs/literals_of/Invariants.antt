-- `literals::literals_of` meets its contract. The invariant of its loop: the literals so far are those before place i.
use Prim.Native.Nat.{ℕ}
use mathlib.Core.Bool.{Bool}
use mathlib.Core.List.{List}
use Rattle.atomset.specs.AtomSet.{has}
use Rattle.shapes.specs.Shapes.{shape_in}
use Rattle.literals.specs.Literals.{is_atom, is_negated, is_falsum, is_verum, is_other}
use Rattle.shapes.specs.declared.Shape.{Shape}
use Rattle.literals.specs.declared.Literals.{Literals}
use Rattle.shapes.proofs.Passes.{Passed}
use Rattle.literals.proofs.literals_of.Given as goal

-- the test of the formulas of a side
abbrev pub shaped : (Shape → Bool) → List ℕ → ℕ → Bool
shaped test formulas x = test (shape_in formulas x)

pub record Collecting (formulas side : List ℕ) (found : Literals) (i : ℕ) : Type 0 where
  pub atoms : (k : ℕ) → Passed (shaped (is_atom k) formulas) side (has found.atoms k) i
  pub negated : (k : ℕ) → Passed (shaped (is_negated k) formulas) side (has found.negated k) i
  pub falsum : Passed (shaped is_falsum formulas) side found.falsum i
  pub verum : Passed (shaped is_verum formulas) side found.verum i
  pub other : Passed (shaped is_other formulas) side found.other i

abbrev pub invariant-loop-x : goal.invariant-loop-x
invariant-loop-x l = Collecting l.formulas l.side l.found l.x-index
