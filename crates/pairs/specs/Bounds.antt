-- The least number that is past all formulas of a side.
use Rattle.std.specs.Prelude.{ℕ, ◌≤◌, ◌<◌, List}
use Rattle.equilibrium.specs.Meaning.{◌∈◌}

pub record PastLargest (side : List ℕ) (n : ℕ) : Type 0 where
  pub above : (x : ℕ) → x ∈ side → x < n
  pub least : (m : ℕ) → ((x : ℕ) → x ∈ side → x < m) → n ≤ m
