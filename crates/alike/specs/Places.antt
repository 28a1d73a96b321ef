-- Atoms at places: where the atoms of two formulas have places of their own, the pairs of places are all pairs of these atoms.
use Rattle.std.specs.Prelude.{ℕ, ◌^◌, ◌≤◌, ◌<◌, List, ◌↔◌, ◌≡◌}
use Rattle.atomset.specs.AtomSet.{Member}
use Rattle.alike.specs.Truths.{inner_places, place_of}
use Rattle.alike.specs.Survivors.{most_places}

-- each atom of the set has a place below n, and no two have one place
pub record Seated (places : List ℕ) (n set : ℕ) : Type 0 where
  pub below : (p : ℕ) → Member p set → place_of places p < n
  pub apart : (p q : ℕ) → Member p set → Member q set → place_of places p ≡ place_of places q → p ≡ q

-- the places that do not go through all in one block and are below n
abbrev pub Outer : ℕ → ℕ → Type 0
Outer n set = (s : ℕ) → Member s set ↔ ((inner_places ≤ s) × (s < n))

-- these, where there are at most 8 places
pub record OuterPlaces (n set : ℕ) : Type 0 where
  pub few : set < 2 ^ most_places
  pub its : Outer n set
