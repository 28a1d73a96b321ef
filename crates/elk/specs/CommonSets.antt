-- When some sides are one set, each with something of its own added: the test by which L and R of a rule are found to exist
-- without a search. That it is exact is a law (proofs, CommonSets).
use Rattle.std.specs.Prelude.{List, [], ◌∷◌}
use Rattle.equilibrium.specs.Formula.{Formula}
use Rattle.equilibrium.specs.Meaning.{◌∈◌, ◌⊆◌}
use Rattle.elk.specs.Sequent.{Sequent}
use Rattle.elk.specs.Rules.{Added}

-- a side, and what is to be added to the common set to give it
pub record Side (X : Type 0) : Type 0 where
  pub whole : List X
  pub added : List X

module _ {X : Type 0} where
  -- what the one side has besides the added is in the other
  abbrev pub Passes : Side X → Side X → Type 0
  Passes s t = (x : X) → x ∈ s.whole → (x ∈ s.added → ⊥) → x ∈ t.whole

  -- each side holds what is added, and what a side has besides is in all
  abbrev pub Shared : List (Side X) → Type 0
  Shared sides = (s : Side X) → s ∈ sides → (s.added ⊆ s.whole) × ((t : Side X) → t ∈ sides → Passes s t)

-- one side of each row, with what the rule adds there
abbrev pub sides : (Sequent → List Formula) → (Added → List Formula) → List Sequent → List Added → List (Side Formula)
sides side added [] ds = []
sides side added (s ∷ ss) [] = []
sides side added (s ∷ ss) (d ∷ ds) = record { whole = side s; added = added d } ∷ sides side added ss ds
