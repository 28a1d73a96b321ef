-- A set of atoms as one word: the atom i is a member if the word's binary digit i is 1, where the lowest digit is digit 0. A word of 64
-- digits is a set of atoms below 64. Words are natural numbers here. Assumes nothing.
use Rattle.std.specs.Prelude.{ℕ, zero, suc, ◌/◌, ◌%◌, ◌^◌, Bool, true, false, List, [], ◌∷◌, ◌≡◌, eqb}
use Rattle.std.specs.Int.Bits.{bit_or}

-- whether the set has the atom i: the word's digit i is 1
unfoldable pub has : ℕ → ℕ → Bool
has set zero = eqb (set % 2) 1
has set (suc i) = has (set / 2) i

-- the atom i is a member of the set
abbrev pub Member : ℕ → ℕ → Type 0
Member i set = has set i ≡ true

-- inclusion: each member of a is one of b
abbrev pub Included : ℕ → ℕ → Type 0
Included a b = (i : ℕ) → Member i a → Member i b

-- i before the list, if the test says so
abbrev pub cons_if : Bool → ℕ → List ℕ → List ℕ
cons_if true i is = i ∷ is
cons_if false i is = is

-- those of the n atoms from i on that are members of the set, in rising order
unfoldable pub members_from : ℕ → ℕ → ℕ → List ℕ
members_from set i zero = []
members_from set i (suc n) = cons_if (has set i) i (members_from set (suc i) n)

-- the members of a word of 64 digits, in rising order
unfoldable pub members : ℕ → List ℕ
members set = members_from set 0 64

-- the set of the atoms that a list holds
unfoldable pub set_of : List ℕ → ℕ
set_of [] = 0
set_of (i ∷ is) = bit_or (2 ^ i) (set_of is)
