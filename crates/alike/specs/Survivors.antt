-- Candidates for B of `swap` that hold in the same pairs as A: places on a side, a set of which is one word.
use Rattle.std.specs.Prelude.{ℕ, ◌*◌, ◌^◌, ◌≤◌, ◌<◌, Bool, List, ◌↔◌, ◌≡◌, length, get_or}
use Rattle.equilibrium.specs.Meaning.{◌∈◌}
use Rattle.format.specs.File.{Body, decoded_at}
use Rattle.atomset.specs.AtomSet.{Member, members, set_of}
use Rattle.pairs.specs.Parts.{part}
use Rattle.pairs.specs.Pairs.{holds_in}
use Rattle.sides.specs.Deciding.{Decides}
use Rattle.alike.specs.Blocks.{pairs_at_once, SameWords, truth_words, here_in, also_in}
use Rattle.alike.specs.Under.{slot_of, Steps}
use Rattle.alike.specs.Truths.{Pair, Ready}

-- the most places
abbrev pub most_places : ℕ
most_places = 8

-- the most formulas of a short list, for which a small table will do
abbrev pub few_listed : ℕ
few_listed = 32

-- a table has the same words for both formulas, with both smaller sets
abbrev pub SameHere : List ℕ → List ℕ → ℕ → ℕ → Type 0
SameHere table slots a x =
    SameWords (here_in table (slot_of slots x)) (here_in table (slot_of slots a)) × SameWords (also_in table (slot_of slots x)) (also_in table (slot_of slots a))

-- two formulas hold alike in the 256 pairs with one h and t
abbrev pub AlikeAt : Body → List ℕ → ℕ → ℕ → ℕ → ℕ → Type 0
AlikeAt b places h t a x =
    (n : ℕ) → n < pairs_at_once → (h' t' : ℕ) → Pair places h t n h' t'
    → holds_in h' t' (decoded_at b.nodes x) ≡ holds_in h' t' (decoded_at b.nodes a)

-- with one t and all its parts
abbrev pub AlikeUnder : Body → List ℕ → ℕ → ℕ → ℕ → Type 0
AlikeUnder b places t a x = (n : ℕ) → n < 2 ^ length (members t) → AlikeAt b places (set_of (part n (members t))) t a x

-- and with all parts t of some places
abbrev pub AlikeOver : Body → List ℕ → ℕ → ℕ → ℕ → Type 0
AlikeOver b places outer a x = (m : ℕ) → m < 2 ^ length (members outer) → AlikeUnder b places (set_of (part m (members outer))) a x

-- the list is ready, with the formula and the candidates on it
pub record Prepared (b : Body) (formulas list slots : List ℕ) (a : ℕ) (side : List ℕ) (alive : ℕ) : Type 0 where
  pub ready : Ready b formulas list slots
  pub own : a ∈ list
  pub candidates : (c : ℕ) → Member c alive → get_or side c 0 ∈ list

-- and these are the steps of one
pub record Given (b : Body) (steps : List ℕ) (count : ℕ) (slots : List ℕ) (a : ℕ) (side : List ℕ) (alive : ℕ) : Type 0 where
  pub formulas : List ℕ
  pub list : List ℕ
  pub prepared : Prepared b formulas list slots a side alive
  pub steps_held : Steps formulas list slots steps count

-- a table has room for so many truths
abbrev pub RoomFor : ℕ → List ℕ → Type 0
RoomFor count table = truth_words * count ≤ length table

-- the candidates that remain are those of which it holds
abbrev pub Remain : (ℕ → Type 0) → ℕ → ℕ → Type 0
Remain P alive kept = (c : ℕ) → Member c kept ↔ (Member c alive × P c)

pub record AlikeBelow (steps : List ℕ) (count : ℕ) (slots places : List ℕ) (t a : ℕ) (side : List ℕ) (alive : ℕ) (table table' : List ℕ) (kept : ℕ)
    : Type 0 where
  pub long : length table' ≡ length table
  pub remain :
      (b : Body) → Given b steps count slots a side alive → RoomFor count table
      → Remain (λ c. AlikeUnder b places t a (get_or side c 0)) alive kept

pub record AlikeAll (steps : List ℕ) (count : ℕ) (slots places : List ℕ) (outer a : ℕ) (side : List ℕ) (alive : ℕ) (table : List ℕ) (kept : ℕ) : Type 0 where
  pub remain :
      (b : Body) → Given b steps count slots a side alive → RoomFor count table
      → Remain (λ c. AlikeOver b places outer a (get_or side c 0)) alive kept

-- one of the candidates is alike in all pairs of places
abbrev pub OneAlike : Body → List ℕ → ℕ → ℕ → List ℕ → ℕ → Type 0
OneAlike b places outer a side candidates = (c : ℕ) × Member c candidates × AlikeOver b places outer a (get_or side c 0)

-- the answer says whether one is, by the steps of a list
pub record AnyAlike (steps : List ℕ) (count : ℕ) (slots places : List ℕ) (outer a : ℕ) (side : List ℕ) (candidates : ℕ) (r : Bool) : Type 0 where
  pub decides : (b : Body) → Given b steps count slots a side candidates → Decides (OneAlike b places outer a side candidates) r

-- and by the list
pub record AnyListed (formulas list slots places : List ℕ) (outer a : ℕ) (side : List ℕ) (candidates : ℕ) (r : Bool) : Type 0 where
  pub decides : (b : Body) → Prepared b formulas list slots a side candidates → Decides (OneAlike b places outer a side candidates) r
