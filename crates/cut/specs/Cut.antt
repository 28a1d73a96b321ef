-- The rule rcut on sides of numbers. That it is the rule of the calculus on the formulas of these numbers is a law (proofs,
-- CutRule).
use Rattle.std.specs.Prelude.{ℕ, List, [], ◌∷◌, ◌++◌, ◌≡◌}
use Rattle.equilibrium.specs.Meaning.{◌∈◌, ◌⊆◌}
use Rattle.elk.specs.CommonSets.{Shared}

-- L, R and Q exist for the number p of A and the sides of the row, of its first and of its second premise: the left sides are L,
-- L and L,A; A is in the first premise's right side, all else of it and all of the second's are in the row's, and that has no more
pub record CutSides (p : ℕ) (left right left₁ right₁ left₂ right₂ : List ℕ) : Type 0 where
  pub first_left : Shared (record { whole = left; added = [] } ∷ record { whole = left₁; added = [] } ∷ [])
  pub second_left : Shared (record { whole = left; added = [] } ∷ record { whole = left₂; added = p ∷ [] } ∷ [])
  pub principal : p ∈ right₁
  pub first_right : (z : ℕ) → z ∈ right₁ → (z ≡ p → ⊥) → z ∈ right
  pub second_right : right₂ ⊆ right
  pub both_right : right ⊆ right₁ ++ right₂
