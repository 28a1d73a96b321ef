-- The truth of formulas in 256 pairs at once. Pair n of the 256 gives the places 0 to 4 what the digits of n in base three say, and all
-- pairs have one h and t for the places from 5 on.
use Rattle.std.specs.Prelude.{ℕ, zero, suc, ◌*◌, ◌/◌, ◌%◌, ◌^◌, ◌≤◌, ◌<◌, Bool, false, cond, not, ◌&&◌, ◌||◌, List, ◌≡◌, eqb, leb, ltb, length, get_or}
use Rattle.equilibrium.specs.Meaning.{◌∈◌}
use Rattle.format.specs.File.{Body, decoded_at}
use Rattle.atomset.specs.AtomSet.{has, Included}
use Rattle.tables.specs.Holding.{Formulas}
use Rattle.tables.specs.declared.records.NodeRecord.{NodeRecord}
use Rattle.pairs.specs.Pairs.{holds_in}
use Rattle.pairs.specs.Truths.{by_word}
use Rattle.alike.specs.Blocks.{pairs_at_once, digit, truth_words, truth_in, Roomy}
use Rattle.alike.specs.Under.{PartsAfter, slot_of, Steps}
use Rattle.alike.specs.declared.blocks.Block.{Block}
use Rattle.alike.specs.declared.blocks.Signs.{Signs}
use Rattle.alike.specs.declared.blocks.Truth.{Truth}

-- how many places go through all that they can be in one block
abbrev pub inner_places : ℕ
inner_places = 5

-- digit s of a number in base three
unfoldable pub third : ℕ → ℕ → ℕ
third n zero = n % 3
third n (suc s) = third (n / 3) s

-- the greater set of pair n has the place: its digit is 1 or 2
unfoldable pub there_at : ℕ → ℕ → ℕ → Bool
there_at t place n = cond (ltb place inner_places) (ltb 0 (third n place)) (has t place)

-- and so does the smaller set: its digit is 2
unfoldable pub here_at : ℕ → ℕ → ℕ → Bool
here_at h place n = cond (ltb place inner_places) (eqb (third n place) 2) (has h place)

-- the place of an atom
abbrev pub place_of : List ℕ → ℕ → ℕ
place_of places p = get_or places p 0

-- a truth, seen with one of its two smaller sets
pub record View : Type 0 where
  pub here : Block
  pub there : Block

abbrev pub first_view : Truth → View
first_view v = record { here = v.here; there = v.there }

abbrev pub second_view : Truth → View
second_view v = record { here = v.also; there = v.there }

-- the truth of the atoms at a place
abbrev pub PlaceSeen : ℕ → ℕ → ℕ → View → Type 0
PlaceSeen place h t v = (n : ℕ) → n < pairs_at_once → (digit v.here n ≡ here_at h place n) × (digit v.there n ≡ there_at t place n)

pub record PlaceTruth (place h g t : ℕ) (v : Truth) : Type 0 where
  pub first : PlaceSeen place h t (first_view v)
  pub second : PlaceSeen place g t (second_view v)

-- what a connective makes of the truths of its parts; a negation has its part twice
unfoldable pub made : ℕ → Bool → Bool → Bool
made word A B = by_word word false (not (A && B)) (A && B) (A || B) (not A || B)

-- a conjunction and a disjunction look at the pair alone
unfoldable pub alone : ℕ → Bool
alone word = eqb word 3 || eqb word 4

-- The truth in (t,t) of pair n of the formula of a step, where x and y are the truths of its parts; and in the pair itself, where its
-- connective has to make it so of the parts' truths in the pair, and in (t,t) too if it does not look at the pair alone.
unfoldable pub judged_there : NodeRecord → List ℕ → ℕ → View → View → ℕ → Bool
judged_there r places t x y n =
    cond (eqb r.word 1) (there_at t (place_of places r.first) n) (made r.word (digit x.there n) (digit y.there n))

unfoldable pub judged_here : NodeRecord → List ℕ → ℕ → View → View → ℕ → Bool
judged_here r places h x y n =
    cond (eqb r.word 1) (here_at h (place_of places r.first) n)
    ((alone r.word || made r.word (digit x.there n) (digit y.there n)) && made r.word (digit x.here n) (digit y.here n))

-- The signs of a connective, as a conjunction: A|B is ~(~A&~B), A->B is ~(A&~B), and ~A is ~(A&A). A word of ones turns what it stands
-- for.
pub record Signed (word : ℕ) (s : Signs) : Type 0 where
  pub first : (i : ℕ) → i < 64 → has s.first i ≡ eqb word 4
  pub second : (i : ℕ) → i < 64 → has s.second i ≡ leb 4 word
  pub whole : (i : ℕ) → i < 64 → has s.whole i ≡ not (eqb word 3)
  pub alone : (i : ℕ) → i < 64 → has s.alone i ≡ alone word

-- a truth says so of all pairs
abbrev pub JudgedSeen : NodeRecord → List ℕ → ℕ → ℕ → View → View → View → Type 0
JudgedSeen r places h t x y v =
    (n : ℕ) → n < pairs_at_once → (digit v.here n ≡ judged_here r places h x y n) × (digit v.there n ≡ judged_there r places t x y n)

pub record Judged (r : NodeRecord) (places : List ℕ) (h g t : ℕ) (x y v : Truth) : Type 0 where
  pub first : JudgedSeen r places h t (first_view x) (first_view y) (first_view v)
  pub second : JudgedSeen r places g t (second_view x) (second_view y) (second_view v)

-- Slot k has the truth of a step by those at the slots of its parts, if the table has these; the other slots have what they had.
pub record JudgedNext (r : NodeRecord) (places : List ℕ) (h g t k : ℕ) (table table' : List ℕ) : Type 0 where
  pub long : length table' ≡ length table
  pub own :
      (2 ≤ r.word → Roomy table r.first × Roomy table r.second)
      → Judged r places h g t (truth_in table r.first) (truth_in table r.second) (truth_in table' k)
  pub others : (i : ℕ) → (i ≡ k → ⊥) → truth_in table' i ≡ truth_in table i

-- pair n, as two sets of atoms: an atom is in one if its place is
pub record Pair (places : List ℕ) (h t n h' t' : ℕ) : Type 0 where
  pub here_small : h' < 2 ^ 64
  pub there_small : t' < 2 ^ 64
  pub here : (p : ℕ) → p < 64 → has h' p ≡ here_at h (place_of places p) n
  pub there : (p : ℕ) → p < 64 → has t' p ≡ there_at t (place_of places p) n

-- a truth is that of formula i in the 256 pairs
abbrev pub Seen : Body → List ℕ → ℕ → ℕ → ℕ → View → Type 0
Seen b places h t i v =
    (n : ℕ) → n < pairs_at_once → (h' t' : ℕ) → Pair places h t n h' t'
    → (digit v.here n ≡ holds_in h' t' (decoded_at b.nodes i)) × (digit v.there n ≡ holds_in t' t' (decoded_at b.nodes i))

pub record Right (b : Body) (places : List ℕ) (h g t i : ℕ) (v : Truth) : Type 0 where
  pub first : Seen b places h t i (first_view v)
  pub second : Seen b places g t i (second_view v)

-- a list of formulas of a good body, each of which has its parts after it, and its place there as its slot
pub record Ready (b : Body) (formulas list slots : List ℕ) : Type 0 where
  pub held : Formulas b formulas
  pub known : (i : ℕ) → i ∈ list → i < length b.nodes
  pub ordered : PartsAfter formulas list
  pub placed : (k : ℕ) → k < length list → slot_of slots (get_or list k 0) ≡ k

-- the table keeps its length; where it has room for such a list, it has the truths of the formulas there in pairs (h,t) and (g,t)
pub record JudgedAll (steps : List ℕ) (count : ℕ) (places : List ℕ) (h g t : ℕ) (table table' : List ℕ) : Type 0 where
  pub long : length table' ≡ length table
  pub right :
      (b : Body) (formulas list slots : List ℕ) → Ready b formulas list slots → Steps formulas list slots steps count
      → truth_words * count ≤ length table → Included h t → Included g t
      → (i : ℕ) → i ∈ list → Right b places h g t i (truth_in table' (slot_of slots i))
