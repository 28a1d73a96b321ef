-- What the passes over sides look for.
use Rattle.std.specs.Prelude.{ℕ, ◌≤◌, ◌<◌, List, [], ◌∷◌, ◌≡◌, length, get_or}
use Rattle.equilibrium.specs.Meaning.{◌∈◌}
use Rattle.sides.specs.Members.{AllRise}

-- every number of a other than x and y is in b
abbrev pub Covered : List ℕ → ℕ → ℕ → List ℕ → Type 0
Covered a x y b = (z : ℕ) → z ∈ a → (z ≡ x → ⊥) → (z ≡ y → ⊥) → z ∈ b

-- from `at` to the place r the numbers are below x, and the one at r is not
pub record Skips (side : List ℕ) (at x r : ℕ) : Type 0 where
  pub below : (k : ℕ) → at ≤ k → k < r → get_or side k 0 < x
  pub stops : r < length side → x ≤ get_or side r 0

-- the numbers of a before the place r are in b, and where both rise the one at r is not
pub record FirstOutside (a b : List ℕ) (r : ℕ) : Type 0 where
  pub within : r ≤ length a
  pub found : (k : ℕ) → k < r → get_or a k 0 ∈ b
  pub lacks : AllRise (a ∷ b ∷ []) → r < length a → get_or a r 0 ∈ b → ⊥
