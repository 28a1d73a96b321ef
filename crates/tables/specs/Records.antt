-- Records of the lent tables, read and written. A table is any list of numbers.
use Rattle.std.specs.Prelude.{ℕ, ◌+◌, ◌*◌, Bool, true, false, cond, List, [], ◌∷◌, ◌++◌, leb, length, get_or, take, drop}
use Rattle.format.specs.File.{Row}
use Rattle.format.specs.Tables.{Side, absent, node_width, part}
use Rattle.tables.specs.declared.records.NodeRecord.{NodeRecord}
use Rattle.tables.specs.declared.records.RowRecord.{RowRecord}

-- which side of a row is wanted
abbrev pub side_wanted : Bool → Side
side_wanted true = Side.left
side_wanted false = Side.right

abbrev pub on_side : Side → Row → List ℕ
on_side Side.left r = r.left
on_side Side.right r = r.right

-- the table with these numbers at a place; as it was, where they do not fit
unfoldable pub written : List ℕ → ℕ → List ℕ → List ℕ
written table at numbers = cond (leb (at + length numbers) (length table)) (take at table ++ numbers ++ drop (at + length numbers) table) table

-- the numbers of the record of formula i, none where they do not lie inside
abbrev pub node_at : List ℕ → ℕ → List ℕ
node_at formulas i = part formulas (node_width * i) node_width

-- a record as its numbers, and numbers as a record, of which those that are missing are absent
abbrev pub record_numbers : NodeRecord → List ℕ
record_numbers n = n.word ∷ n.first ∷ n.second ∷ []

abbrev pub record_from : List ℕ → NodeRecord
record_from numbers = record { word = get_or numbers 0 absent; first = get_or numbers 1 absent; second = get_or numbers 2 absent }

abbrev pub row_numbers : RowRecord → List ℕ
row_numbers r = r.rule ∷ r.principal ∷ r.first ∷ r.second ∷ r.left_start ∷ r.left_length ∷ r.right_start ∷ r.right_length ∷ []

abbrev pub row_from : List ℕ → RowRecord
row_from numbers =
    record {
      rule = get_or numbers 0 absent;
      principal = get_or numbers 1 absent;
      first = get_or numbers 2 absent;
      second = get_or numbers 3 absent;
      left_start = get_or numbers 4 absent;
      left_length = get_or numbers 5 absent;
      right_start = get_or numbers 6 absent;
      right_length = get_or numbers 7 absent;
    }
