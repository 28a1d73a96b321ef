-- What the readers of a list answer and store, as a function of what the field writes (`Rattle.format.specs.Text`).
use Rattle.std.specs.Prelude.{ℕ, ◌+◌, ◌%◌, min, max, ◌≡◌, Bool, true, false, cond, List, [], ◌∷◌, ◌++◌, length, set, Option, None, Some}
use Rattle.std.proofs.Math.Option as Math
use Rattle.format.specs.Text.{Bytes, Item, comma, parts_at, is, list_of, meant_by, side_of, strictly_rising}
use Rattle.parts.specs.Refusals.{bad_if_none, refusal_of}
use Rattle.text.specs.Items.{item_by}
use Rattle.text.specs.declared.lists.Listed.{Listed}

-- where a count stops; no slice is as long
abbrev pub most_counted : ℕ
most_counted = 9223372036854775808

-- the least number above some numbers; 0 of none
unfoldable pub above : List ℕ → ℕ
above [] = 0
above (x ∷ xs) = max (x + 1) (above xs)

-- numbers in the place of a table's first entries, as far as it is long; of one that is over 65,535 what 16 bits hold
unfoldable pub laid_over : List ℕ → List ℕ → List ℕ
laid_over [] out = out
laid_over (x ∷ xs) [] = []
laid_over (x ∷ xs) (o ∷ out) = x % 65536 ∷ laid_over xs out

-- what is known of a list that is well written
abbrev pub listed_of : List ℕ → Listed
listed_of xs = record { count = min (length xs) most_counted; above = above xs; rising = strictly_rising xs }

abbrev pub listed_as : Math.Option (List ℕ) → Option Listed
listed_as Math.none = None
listed_as (Math.some xs) = Some (listed_of xs)

-- the list that a field means: a side, which may hold runs, or numbers alone
abbrev pub list_by : Bool → Bytes → Math.Option (List ℕ)
list_by true field = side_of field
list_by false field = list_of field

-- what an item means in front of other numbers; nothing at all where it is badly written
abbrev pub leads : Math.Option Item → List ℕ → List ℕ
leads Math.none ns = []
leads (Math.some item) ns = meant_by item ++ ns

-- what the parts mean before the first one that is no item
abbrev pub items_ahead : Bool → List Bytes → List ℕ
items_ahead runs [] = []
items_ahead runs (part ∷ parts) = leads (item_by runs part) (items_ahead runs parts)

-- the entries that a field means before the first item that is badly written: all of them where the list is well written
unfoldable pub entries_of : Bool → Bytes → List ℕ
entries_of runs field = cond (is "-" field) [] (items_ahead runs (parts_at comma field))

-- the answer, and the table as it was and as it is left
pub record ListedInto (runs : Bool) (field : Bytes) (was is : List ℕ) (r : Option Listed) : Type 0 where
  pub answer : r ≡ listed_as (list_by runs field)
  pub refusal : refusal_of r ≡ bad_if_none (list_by runs field)
  -- a list that is well written is stored
  pub stored : (xs : List ℕ) → list_by runs field ≡ Math.some xs → is ≡ laid_over xs was
  -- and of any list what stands before the first item that is badly written
  pub begun : is ≡ laid_over (entries_of runs field) was
  pub kept : length is ≡ length was

-- ---- an item more

-- all numbers from the first to the last
abbrev pub spanned : ℕ → ℕ → List ℕ
spanned first last = meant_by (Item.run first last)

-- numbers stored from a place on
unfoldable pub laid_at : List ℕ → ℕ → List ℕ → List ℕ
laid_at table at [] = table
laid_at table at (x ∷ xs) = laid_at (set table at (x % 65536)) (at + 1) xs

-- an answer and a table that hold these entries, where the table held others before
pub record HeldList (xs was is : List ℕ) (r : Listed) : Type 0 where
  pub answer : r ≡ listed_of xs
  pub stored : is ≡ laid_over xs was
