-- Where a separator is found, and the fields of a line between the ends that are found.
use Rattle.std.specs.Prelude.{ℕ, zero, suc, ◌+◌, ◌-◌, ◌≤◌, ◌<◌, min, ◌≡◌, Bool, cond, ◌&&◌, List, [], ◌∷◌, eqb, leb, ltb, length, get_or, take, drop}
use Rattle.format.specs.Text.{Bytes, fields_of}
use Rattle.format.specs.Line.{most_fields}
use Rattle.parts.specs.declared.Fields.{Fields}

-- how many bytes stand before the first separator, or in all where there is none
unfoldable pub before : ℕ → Bytes → ℕ
before separator [] = 0
before separator (b ∷ bs) = cond (eqb b separator) 0 (suc (before separator bs))

-- the place of the first separator at or after `start`, or the length where there is none
unfoldable pub next_at : ℕ → Bytes → ℕ → ℕ
next_at separator bs start = min (length bs) (start + before separator (drop start bs))

-- the part from a start to an end
abbrev pub between : Bytes → ℕ → ℕ → Bytes
between bs start end = take (end - start) (drop start bs)

-- ---- fields

-- where the first n of some parts end, of which the first starts at a place and each other one past a separator; 0 for each that
-- is not there
unfoldable pub ends_of : ℕ → ℕ → List Bytes → List ℕ
ends_of zero start parts = []
ends_of (suc n) start [] = 0 ∷ ends_of n start []
ends_of (suc n) start (part ∷ parts) = (start + length part) ∷ ends_of n (start + length part + 1) parts

-- the fields of a line, as they are read
unfoldable pub fields_read : Bytes → Fields
fields_read line = record { count = length (fields_of line); ends = ends_of most_fields 0 (fields_of line) }

-- where a field starts: the first at 0, each other one past the end of the field before it
abbrev pub start_of : List ℕ → ℕ → ℕ
start_of ends zero = 0
start_of ends (suc i) = get_or ends i 0 + 1

-- the part of the line between the start and the end of field i is field i
pub record FieldAt (line : Bytes) (ends : List ℕ) (i : ℕ) : Type 0 where
  pub ordered : start_of ends i ≤ get_or ends i 0
  pub inside : get_or ends i 0 ≤ length line
  pub part : between line (start_of ends i) (get_or ends i 0) ≡ get_or (fields_of line) i []

-- the fields of a line: their count, and the ends of the first of them; an end that is not used is 0
pub record Fielded (line : Bytes) (f : Fields) : Type 0 where
  pub read : f ≡ fields_read line
  pub counted : f.count ≡ length (fields_of line)
  pub found : (i : ℕ) → i < most_fields → i < f.count → FieldAt line f.ends i
  pub unused : (i : ℕ) → i < most_fields → f.count ≤ i → get_or f.ends i 0 ≡ 0

-- the start and the end of field i, by the ends that were read, lie in order inside the line
abbrev pub stands_in : Bytes → Fields → ℕ → Bool
stands_in line f i = ltb i most_fields && leb (start_of f.ends i) (get_or f.ends i 0) && leb (get_or f.ends i 0) (length line)

-- the part between them, whichever line was read; empty where they do not lie so
unfoldable pub field_by : Bytes → Fields → ℕ → Bytes
field_by line f i = cond (stands_in line f i) (between line (start_of f.ends i) (get_or f.ends i 0)) []

-- the part that field i is, by the fields as they were read; where they are those of this line it is its field i
pub record FieldPart (line : Bytes) (f : Fields) (i : ℕ) (r : Bytes) : Type 0 where
  pub part : r ≡ field_by line f i
  pub field : Fielded line f → i < most_fields → r ≡ get_or (fields_of line) i []
