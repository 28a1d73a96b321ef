-- The parts of a text: lines, fields, numbers, lists and names (paper 01, "The text"); runs in a side (paper 02, M-102). A text is
-- its list of bytes.
use Rattle.std.specs.Prelude.{ℕ, zero, suc, ◌+◌, ◌*◌, ◌-◌, Bool, true, false, cond, not, ◌&&◌, ◌||◌, List, [], ◌∷◌, ◌++◌, eqb, ltb, leb, length}
use Prim.Native.String.{String, [] as end, ◌∷◌ as then}
use Prim.Native.Char.{code}
use Rattle.std.proofs.Math.Option.{Option, none, some}

-- bytes, each as a number
abbrev pub Bytes : Type 0
Bytes = List ℕ

-- a quoted text as bytes
abbrev pub bytes : String → Bytes
bytes end = []
bytes (then c s) = code c ∷ bytes s

-- between two fields
abbrev pub tab : ℕ
tab = 9

-- LF, at the end of a line
abbrev pub line_feed : ℕ
line_feed = 10

-- between two items of a list
abbrev pub comma : ℕ
comma = 44

-- between the first number of a run and its last
abbrev pub hyphen : ℕ
hyphen = 45

-- a byte put in front of the first part
abbrev pub onto : ℕ → List Bytes → List Bytes
onto b [] = (b ∷ []) ∷ []
onto b (part ∷ parts) = (b ∷ part) ∷ parts

-- what stands before, between and after the separators: one part more than there are separators
unfoldable pub parts_at : ℕ → Bytes → List Bytes
parts_at separator [] = [] ∷ []
parts_at separator (b ∷ bs) = cond (eqb b separator) ([] ∷ parts_at separator bs) (onto b (parts_at separator bs))

-- the lines that end in LF, and what is left after the last LF
pub record Lines : Type 0 where
  pub complete : List Bytes
  pub rest : Bytes

-- the last part is what is left
abbrev pub all_but_last : List Bytes → Lines
all_but_last [] = record { complete = []; rest = [] }
all_but_last (p ∷ []) = record { complete = []; rest = p }
all_but_last (p ∷ q ∷ ps) = record { complete = p ∷ (all_but_last (q ∷ ps)).complete; rest = (all_but_last (q ∷ ps)).rest }

-- the lines of a text
unfoldable pub lines_of : Bytes → Lines
lines_of text = all_but_last (parts_at line_feed text)

-- the fields of a line
unfoldable pub fields_of : Bytes → List Bytes
fields_of line = parts_at tab line

infixl 20 ◌<$>◌ ◌<*>◌
-- a function of what is there
abbrev pub ◌<$>◌ : {A B : Type 0} → (A → B) → Option A → Option B
f <$> none = none
f <$> some a = some (f a)

-- a function and its argument, where both are there
abbrev pub ◌<*>◌ : {A B : Type 0} → Option (A → B) → Option A → Option B
none <*> a = none
some f <*> a = f <$> a

-- where a test comes out true
abbrev pub only_if : {A : Type 0} → Bool → Option A → Option A
only_if true a = a
only_if false a = none

-- every one, or none
abbrev pub each : {A B : Type 0} → (A → Option B) → List A → Option (List B)
each f [] = some []
each f (x ∷ xs) = (λ y ys. y ∷ ys) <$> f x <*> each f xs

-- the test is true of every one
abbrev pub all : {A : Type 0} → (A → Bool) → List A → Bool
all f [] = true
all f (x ∷ xs) = f x && all f xs

-- the test is true of some one
abbrev pub any : {A : Type 0} → (A → Bool) → List A → Bool
any f [] = false
any f (x ∷ xs) = f x || any f xs

-- the same numbers in the same order
unfoldable pub same_list : List ℕ → List ℕ → Bool
same_list [] [] = true
same_list [] (y ∷ ys) = false
same_list (x ∷ xs) [] = false
same_list (x ∷ xs) (y ∷ ys) = eqb x y && same_list xs ys

-- the field is this word
abbrev pub is : String → Bytes → Bool
is word field = same_list field (bytes word)

-- from '0' to '9'
abbrev pub is_digit : ℕ → Bool
is_digit b = leb 48 b && leb b 57

-- from 'a' to 'z'
abbrev pub is_letter : ℕ → Bool
is_letter b = leb 97 b && leb b 122

-- the value of decimal digits that follow those of n
abbrev pub value_from : ℕ → Bytes → ℕ
value_from n [] = n
value_from n (d ∷ ds) = value_from (n * 10 + (d - 48)) ds

-- two digits or more, of which the first is 0
abbrev pub leading_zero : Bytes → Bool
leading_zero [] = false
leading_zero (d ∷ []) = false
leading_zero (d ∷ e ∷ ds) = eqb d 48

-- 1 to 5 digits and no leading zero, except 0 itself
unfoldable pub number_of : Bytes → Option ℕ
number_of field = only_if (leb 1 (length field) && leb (length field) 5 && all is_digit field && not (leading_zero field)) (some (value_from 0 field))

-- numbers parted by commas, or `-` if empty
unfoldable pub list_of : Bytes → Option (List ℕ)
list_of field = cond (is "-" field) (some []) (each number_of (parts_at comma field))

-- an item of a side: a number, or a run such as `3-7`, which is all numbers from its first to its last
pub data Item : Type 0 where
  one : ℕ → Item
  run : ℕ → ℕ → Item

-- the first number of a run is smaller than its last
abbrev pub is_ordered : Item → Bool
is_ordered (Item.one n) = true
is_ordered (Item.run first last) = ltb first last

-- what is there and passes a test
abbrev pub passing : {A : Type 0} → (A → Bool) → Option A → Option A
passing test none = none
passing test (some a) = only_if (test a) (some a)

-- a number, or two parted by `-`
abbrev pub item_from : List Bytes → Option Item
item_from [] = none
item_from (n ∷ []) = (λ n. Item.one n) <$> number_of n
item_from (first ∷ last ∷ []) = (λ m n. Item.run m n) <$> number_of first <*> number_of last
item_from (first ∷ last ∷ p ∷ ps) = none

-- the item that these bytes write
unfoldable pub item_of : Bytes → Option Item
item_of part = passing is_ordered (item_from (parts_at hyphen part))

-- items parted by commas, or `-` if there is none
unfoldable pub items_of : Bytes → Option (List Item)
items_of field = cond (is "-" field) (some []) (each item_of (parts_at comma field))

-- so many numbers, from the first on
unfoldable pub up_from : ℕ → ℕ → List ℕ
up_from first zero = []
up_from first (suc k) = first ∷ up_from (first + 1) k

-- the numbers that an item means
abbrev pub meant_by : Item → List ℕ
meant_by (Item.one n) = n ∷ []
meant_by (Item.run first last) = up_from first (last + 1 - first)

-- the numbers that items mean, all written out
abbrev pub written_out : List Item → List ℕ
written_out [] = []
written_out (item ∷ items) = meant_by item ++ written_out items

-- a list of formula numbers, or of the atoms of a model: the list that its items mean
unfoldable pub side_of : Bytes → Option (List ℕ)
side_of field = written_out <$> items_of field

-- a list of row numbers, without runs
abbrev pub premise_list_of : Bytes → Option (List ℕ)
premise_list_of field = list_of field

-- a formula number, or `-` if absent
unfoldable pub principal_of : Bytes → Option (Option ℕ)
principal_of field = cond (is "-" field) (some none) ((λ n. some n) <$> number_of field)

-- the first byte is a letter
abbrev pub starts_with_letter : Bytes → Bool
starts_with_letter [] = false
starts_with_letter (b ∷ bs) = is_letter b

-- 1 to 24 of a-z, 0-9 and `_`, the first a letter
unfoldable pub is_name : Bytes → Bool
is_name field = starts_with_letter field && leb (length field) 24 && all (λ b. is_letter b || is_digit b || eqb b 95) field

-- each number is less than the next
unfoldable pub strictly_rising : List ℕ → Bool
strictly_rising [] = true
strictly_rising (i ∷ []) = true
strictly_rising (i ∷ j ∷ js) = ltb i j && strictly_rising (j ∷ js)
