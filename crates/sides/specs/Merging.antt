-- What a merge of two sides looks for.
use Rattle.std.specs.Prelude.{ℕ, ◌+◌, ◌≤◌, ◌<◌, List, ◌⊎◌, ◌≡◌, length, get_or}
use Rattle.equilibrium.specs.Meaning.{◌∈◌}
use Rattle.sides.specs.Covering.{Covered}
use Rattle.sides.specs.declared.numbers.Numbers.{Numbers}

-- z is one of the added
abbrev pub IsAdded : Numbers → ℕ → Type 0
IsAdded p z = (z ≡ p.x) ⊎ (z ≡ p.y)

-- all from the place on are added
abbrev pub RestAdded : List ℕ → ℕ → Numbers → Type 0
RestAdded side at p = (k : ℕ) → at ≤ k → k < length side → IsAdded p (get_or side k 0)

-- n numbers of both are the same, from i and j on
pub record SameFrom (a : List ℕ) (i : ℕ) (b : List ℕ) (j n : ℕ) : Type 0 where
  pub in_a : i + n ≤ length a
  pub in_b : j + n ≤ length b
  pub same : (k : ℕ) → k < n → get_or a (i + k) 0 ≡ get_or b (j + k) 0

-- what either side has besides what is added to it, the other has too
abbrev pub Agree : List ℕ → Numbers → List ℕ → Numbers → Type 0
Agree a p b q = Covered a p.x p.y b × Covered b q.x q.y a

-- a number that stands on one of two sides and is not added there stands on the other, too
abbrev pub OnBoth : ℕ → List ℕ → Numbers → List ℕ → Numbers → Type 0
OnBoth x b q c r = (x ∈ b → (IsAdded q x) ⊎ (x ∈ c)) × (x ∈ c → (IsAdded r x) ⊎ (x ∈ b))
