-- Candidates that are equal to a formula, where their atoms have places of their own.
use Rattle.std.specs.Prelude.{ℕ, ◌^◌, ◌≤◌, ◌<◌, Bool, false, List, ◌≡◌, length, get_or}
use Rattle.equilibrium.specs.Formula.{Formula, atoms_of}
use Rattle.equilibrium.specs.Meaning.{◌∈◌, Equal}
use Rattle.format.specs.File.{Body, decoded_at}
use Rattle.format.specs.Tables.{most_formulas}
use Rattle.atomset.specs.AtomSet.{Member}
use Rattle.tables.specs.Holding.{Formulas}
use Rattle.sides.specs.Deciding.{Decides}
use Rattle.alike.specs.Under.{Marked}
use Rattle.alike.specs.Survivors.{most_places}
use Rattle.alike.specs.Places.{Seated}

-- what was marked stays so, and the candidates' formulas are marked as far as the table goes
pub record CandidatesMarked (side : List ℕ) (candidates : ℕ) (before after : List ℕ) : Type 0 where
  pub long : length after ≡ length before
  pub kept : (x : ℕ) → Marked before x → Marked after x
  pub marked : (c : ℕ) → Member c candidates → get_or side c 0 < most_formulas → most_formulas ≤ length before → Marked after (get_or side c 0)

-- a number past a formula and all of a side, within the most formulas
pub record Bounded (own : ℕ) (side : List ℕ) (n : ℕ) : Type 0 where
  pub few : n ≤ most_formulas
  pub past : (m : ℕ) → m ≤ most_formulas → own < m → ((x : ℕ) → x ∈ side → x < m) → (own < n) × ((x : ℕ) → x ∈ side → x < n) × (n ≤ m)

-- a formula and the candidates' formulas are of a good body
pub record Held (b : Body) (formulas : List ℕ) (own : ℕ) (side : List ℕ) : Type 0 where
  pub formulas_held : Formulas b formulas
  pub own_known : own < length b.nodes
  pub side_known : (x : ℕ) → x ∈ side → x < length b.nodes

-- one of the candidates is equal to the formula
abbrev pub OneEqual : Body → ℕ → List ℕ → ℕ → Type 0
OneEqual b own side candidates = (c : ℕ) × Member c candidates × Equal (decoded_at b.nodes own) (decoded_at b.nodes (get_or side c 0))

-- the atoms of two formulas are in a set of atoms that have places of their own below n
pub record BothSeated (places : List ℕ) (n : ℕ) (A B : Formula) : Type 0 where
  pub set : ℕ
  pub small : set < 2 ^ 64
  pub seated : Seated places n set
  pub in_first : (p : ℕ) → p ∈ atoms_of A → Member p set
  pub in_second : (p : ℕ) → p ∈ atoms_of B → Member p set

-- the answer says whether one is, where the atoms of each, with the formula's, have places of their own, at most 8; with more it is false
pub record SomeAlike (formulas : List ℕ) (own : ℕ) (places : List ℕ) (n : ℕ) (side : List ℕ) (candidates : ℕ) (r : Bool) : Type 0 where
  pub decides :
      (b : Body) → Held b formulas own side → n ≤ most_places → ((c : ℕ) → Member c candidates → c < length side)
      → ((c : ℕ) → Member c candidates → BothSeated places n (decoded_at b.nodes own) (decoded_at b.nodes (get_or side c 0)))
      → Decides (OneEqual b own side candidates) r
  pub many : most_places < n → r ≡ false
