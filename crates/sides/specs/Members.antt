-- Sides read as sets of numbers.
use Rattle.std.specs.Prelude.{ℕ, Bool, true, List, [], ◌∷◌, ◌≡◌, eqb}
use Rattle.format.specs.Text.{any, strictly_rising}

-- the number is in the list
unfoldable pub member : ℕ → List ℕ → Bool
member x xs = any (λ z. eqb z x) xs

-- each of the lists rises strictly
abbrev pub AllRise : List (List ℕ) → Type 0
AllRise [] = Unit {0}
AllRise (side ∷ sides) = (strictly_rising side ≡ true) × AllRise sides
