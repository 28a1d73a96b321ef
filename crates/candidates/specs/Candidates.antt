-- The number that a row of `swap` earns by its candidates for B: formulas that leave its sides right.
use Rattle.std.specs.Prelude.{ℕ, ◌^◌, ◌≤◌, ◌<◌, Bool, true, false, Option, MatchOption, List, [], ◌∷◌, ◌↔◌, ◌≡◌, length, get_or}
use Rattle.std.specs.Int.Bits.{bit_or}
use Rattle.equilibrium.specs.Meaning.{◌∈◌, Equal}
use Rattle.elk.specs.Instance.{most_swapped, Narrow}
use Rattle.format.specs.File.{Body, decoded_at}
use Rattle.format.specs.Tables.{most_on_side}
use Rattle.atomset.specs.AtomSet.{Member, members}
use Rattle.known.specs.Known.{AtomNotes}
use Rattle.sides.specs.Deciding.{Decides}
use Rattle.alike.specs.Places.{Seated}
use Rattle.alike.specs.Alike.{Held, OneEqual}

-- the atoms noted of candidate c, and these
abbrev pub atoms_at : List ℕ → ℕ → List ℕ → ℕ → ℕ
atoms_at notes atoms side c = bit_or atoms (get_or notes (get_or side c 0) 0)

-- the atoms noted of formula x and these are few
abbrev pub Few : List ℕ → ℕ → ℕ → Type 0
Few notes atoms x = length (members (bit_or atoms (get_or notes x 0))) ≤ most_swapped

-- the answer says whether one of the candidates is equal to the formula, by the atoms noted
pub record SomeEqual (formulas notes : List ℕ) (own atoms : ℕ) (side : List ℕ) (candidates : ℕ) (r : Bool) : Type 0 where
  pub decides :
      (b : Body) → Held b formulas own side → AtomNotes b notes → atoms ≡ get_or notes own 0 → ((c : ℕ) → Member c candidates → c < length side)
      → Decides (OneEqual b own side candidates) r

-- a group of the pending candidates has c
pub record GroupOf (c pending group : ℕ) : Type 0 where
  pub own : Member c group
  pub within : (d : ℕ) → Member d group → Member d pending

-- and the atoms noted of each of it, with these, have places of their own below n
pub record Grouped (notes : List ℕ) (atoms : ℕ) (side : List ℕ) (c pending n : ℕ) (before after : List ℕ) (group : ℕ) : Type 0 where
  pub long : length after ≡ length before
  pub its : GroupOf c pending group
  pub small : (d : ℕ) → Member d group → atoms_at notes atoms side d < 2 ^ 64
  pub seated : (d : ℕ) → Member d group → Seated after n (atoms_at notes atoms side d)

-- and the answer says whether one of it is equal to the formula
pub record GroupJudged (formulas notes : List ℕ) (own atoms : ℕ) (side : List ℕ) (c pending group : ℕ) (r : Bool) : Type 0 where
  pub its : GroupOf c pending group
  pub judged : SomeEqual formulas notes own atoms side group r

-- no value says that one of some group is equal to the formula, and a value is a group of which none is
abbrev pub GroupFound : List ℕ → List ℕ → ℕ → ℕ → List ℕ → ℕ → ℕ → Option ℕ → Type 0
GroupFound formulas notes own atoms side c pending found =
    MatchOption found ((group : ℕ) × GroupJudged formulas notes own atoms side c pending group true)
    (λ group. GroupJudged formulas notes own atoms side c pending group false)

-- a formula of the side fits: it has few atoms together with A, and is equal to it
abbrev pub OneFits : Body → ℕ → List ℕ → Type 0
OneFits b own side =
    (x : ℕ) × (x ∈ side) × (Narrow (decoded_at b.nodes own) (decoded_at b.nodes x) × Equal (decoded_at b.nodes own) (decoded_at b.nodes x))

-- a formula of the side has too many atoms
abbrev pub OneWide : Body → ℕ → List ℕ → Type 0
OneWide b own side = (x : ℕ) × (x ∈ side) × (Narrow (decoded_at b.nodes own) (decoded_at b.nodes x) → ⊥)

-- The number of the candidates. Where the tables hold the formulas of a good body with their atoms, and the side has no more entries
-- than 01 allows, 0 exactly if one fits, and 18 exactly if none does and one has too many atoms. In any tables it is one of 0, 18 and 11;
-- which of them is free elsewhere.
pub record CandidatesNumbered (formulas notes : List ℕ) (own : ℕ) (side : List ℕ) (number : ℕ) : Type 0 where
  pub fits : (b : Body) → Held b formulas own side → AtomNotes b notes → length side ≤ most_on_side → (number ≡ 0) ↔ OneFits b own side
  pub wide :
      (b : Body) → Held b formulas own side → AtomNotes b notes → length side ≤ most_on_side
      → (number ≡ 18) ↔ ((OneFits b own side → ⊥) × OneWide b own side)
  pub one_of : number ∈ 0 ∷ 18 ∷ 11 ∷ []
