-- What is looked for among the first records of the names table. A table is any list of numbers.
use Rattle.std.specs.Prelude.{ℕ, zero, suc, ◌+◌, ◌≤◌, Bool, cond, ◌&&◌, List, [], ◌∷◌, ◌≡◌, leb, length, get_or, take, drop}
use Rattle.std.specs.Prelude.{None, Some}
use Rattle.std.specs.Prelude.{Option as Found}
use Rattle.std.proofs.Math.Option.{Option, none, some}
use Rattle.format.specs.Text.{Bytes, any, same_list}
use Rattle.format.specs.File.{Name}
use Rattle.format.specs.Tests.{◌when◌, first}

-- the first so many records of this width, as far as they lie inside the table
unfoldable pub first_records : ℕ → ℕ → List ℕ → List (List ℕ)
first_records width zero table = []
first_records width (suc count) table = cond (leb width (length table)) (take width table ∷ first_records width count (drop width table)) []

-- the text has exactly this name at a place
unfoldable pub spelled : Bytes → ℕ → ℕ → Bytes → Bool
spelled text start len name = leb (start + len) (length text) && same_list (take len (drop start text)) name

-- the same, where the place is a record of the names table
abbrev pub spelled_by : Bytes → Bytes → List ℕ → Bool
spelled_by text name place = spelled text (get_or place 0 0) (get_or place 1 0) name

-- the place of the first member that passes, counted from a number on
abbrev pub place_from : {A : Type 0} → ℕ → (A → Bool) → List A → Option ℕ
place_from k test [] = none
place_from k test (x ∷ xs) = cond (test x) (some k) (place_from (suc k) test xs)

abbrev pub place_of : {A : Type 0} → (A → Bool) → List A → Option ℕ
place_of test xs = place_from 0 test xs

abbrev pub found_as : Option ℕ → Found ℕ
found_as none = None
found_as (some i) = Some i

-- 01's number of each answer, where the name is a new atom's: it is used before
abbrev pub name_refusal : Found ℕ → Option ℕ
name_refusal (Some i) = some 6
name_refusal None = none

-- the first of some records that spells the name, and the number that the answer stands for
pub record NameFound (text name : Bytes) (records : List (List ℕ)) (r : Found ℕ) : Type 0 where
  pub answer : r ≡ found_as (place_of (spelled_by text name) records)
  pub refusal : name_refusal r ≡ first ((6 when any (spelled_by text name) records) ∷ [])

-- the name stands in the text where its record says
pub record StandsIn (text : Bytes) (n : Name) : Type 0 where
  pub inside : n.start + length n.name ≤ length text
  pub there : take (length n.name) (drop n.start text) ≡ n.name
