-- At most two numbers, as what a rule adds to a side.
use Rattle.std.specs.Prelude.{ℕ, cond, List, [], ◌∷◌, eqb}
use Rattle.elk.specs.CommonSets.{Side}
use Rattle.sides.specs.declared.numbers.Numbers.{Numbers}

-- stands for no number; and for a formula that is not on its side
abbrev pub no_number : ℕ
no_number = 65536

abbrev pub missing : ℕ
missing = 65537

-- the number in front of the list, if it is one
abbrev pub some? : ℕ → List ℕ → List ℕ
some? n ns = cond (eqb n no_number) ns (n ∷ ns)

-- the numbers that are some
abbrev pub numbers_of : Numbers → List ℕ
numbers_of r = some? r.x (some? r.y [])

-- a side of numbers, with what is added to it
abbrev pub number_side : List ℕ → Numbers → Side ℕ
number_side side added = record { whole = side; added = numbers_of added }
