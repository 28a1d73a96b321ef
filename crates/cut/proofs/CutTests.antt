-- The tests of `rcut` as they run: n is the number p among others that may stand for none.
use Prim.Native.Nat.{ℕ, ◌<◌}
use native.Mathlib.Omega.{arith}
use mathlib.Core.List.{List, [], ◌∷◌}
use mathlib.Core.Logic.{◌↔◌}
use mathlib.Core.Path.{◌≡◌, sym, subst, ◌∙◌}
use Rattle.equilibrium.specs.Meaning.{◌∈◌, ◌⊆◌}
use Rattle.elk.specs.CommonSets.{Shared}
use Rattle.sides.specs.Covering.{Covered}
use Rattle.sides.specs.Numbers.{no_number, number_side}
use Rattle.sides.proofs.NumberSides.{Small, no_numbers, one_number, one_number_lem}

module _ {n p : ℕ} (e : n ≡ p) (h : p < 65536) where
  -- the left sides of the row and the second premise
  pub second_fits :
      (left left₂ : List ℕ)
      → Shared (record { whole = left; added = [] } ∷ record { whole = left₂; added = p ∷ [] } ∷ [])
      ↔ Shared (number_side left no_numbers ∷ number_side left₂ (one_number n) ∷ [])
  second_fits left left₂ = (subst shares (sym (one_number_lem e h)), subst shares (one_number_lem e h))
    where
      shares : List ℕ → Type 0
      shares added = Shared (number_side left no_numbers ∷ record { whole = left₂; added = added } ∷ [])

  -- the right side of the first premise but for p; p itself is no test's number for none
  pub first_covered : (right₁ right : List ℕ) → Small right₁ → Covered right₁ n no_number right → (z : ℕ) → z ∈ right₁ → (z ≡ p → ⊥) → z ∈ right
  first_covered right₁ right s c z m u = c z m (λ i. u (i ∙ e)) (λ i. omega (arith, s z m))

-- the whole right side of the second premise
pub second_covered : (right₂ right : List ℕ) → Small right₂ → Covered right₂ no_number no_number right → right₂ ⊆ right
second_covered right₂ right s c z m = let none : z ≡ no_number → ⊥ = λ i. omega (arith, s z m) in c z m none none
