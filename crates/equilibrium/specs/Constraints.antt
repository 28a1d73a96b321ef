-- Constraints only sharpen (paper 02, M-106): which equilibrium models a sheet keeps when `~A` or `A->#` joins it, and what it
-- then still entails. Of facts the like would be false, and a sheet need not keep a model.
use Rattle.std.specs.Prelude.{ℕ, List, [], ◌∷◌, ◌↔◌}
use Rattle.equilibrium.specs.Formula.{Formula, falsum, neg, imp}
use Rattle.equilibrium.specs.Meaning.{Holds, Equilibrium, Entails, Fails}
use Rattle.equilibrium.specs.Examples.{a}

-- the constraints that shut A out: `~A` and `A->#`
pub data Constraint (A : Formula) : Formula → Type 0 where
  negated : Constraint A (neg A)
  falsum_follows : Constraint A (imp A falsum)

-- the equilibrium models of L that do not satisfy A are exactly those of L with such a constraint
abbrev pub ModelsKept : Type 0
ModelsKept = (A C : Formula) → Constraint A C → (L : List Formula) (T : List ℕ) → (Equilibrium L T × (Holds T T A → ⊥)) ↔ Equilibrium (C ∷ L) T

-- what a sheet entails, it still entails with such a constraint
abbrev pub ConstraintsSharpen : Type 0
ConstraintsSharpen = (A C : Formula) → Constraint A C → (L R : List Formula) → Entails L R → Entails (C ∷ L) R

-- a fact can take a claim back: => ~a holds, and fails once a joins the sheet
abbrev pub FactTakesBack : Type 0
FactTakesBack = Entails [] (neg a ∷ []) × Fails (a ∷ []) (neg a ∷ [])

-- a constraint can leave no model: {a} is one of the sheet a, and with ~a there is none
abbrev pub ConstraintLeavesNone : Type 0
ConstraintLeavesNone = Equilibrium (a ∷ []) (0 ∷ []) × ((T : List ℕ) → Equilibrium (neg a ∷ a ∷ []) T → ⊥)
