-- The last row as a claim asks for it, by any tables; and by tables that begin with the rows of a body.
use Rattle.std.specs.Prelude.{ℕ, ◌-◌, ◌≡◌, Bool, not, ◌&&◌, List, eqb, length}
use Rattle.format.specs.Text.{same_list}
use Rattle.format.specs.File.{Row}
use Rattle.format.specs.Tables.{Side, fetched, row_at}
use Rattle.format.specs.Tests.{last_is}
use Rattle.rules.specs.RuleTable.{rule_number}
use Rattle.tables.specs.Holding.{HoldsRows}
use Rattle.tables.specs.Records.{row_from}

-- the rule of row n is one of ELK, by its record, and its sides are these, as they are fetched
abbrev pub elk_row : List ℕ → List ℕ → List ℕ → ℕ → List ℕ → List ℕ → Bool
elk_row rows lefts rights n left right =
    eqb (rule_number (row_from (row_at rows n)).rule 1) 0
    && same_list (fetched rows lefts rights Side.left n) left
    && same_list (fetched rows lefts rights Side.right n) right

-- there is a last row, and it is so
unfoldable pub last_by : List ℕ → List ℕ → List ℕ → ℕ → List ℕ → List ℕ → Bool
last_by rows lefts rights count left right = not (eqb count 0) && elk_row rows lefts rights (count - 1) left right

pub record LastIs (rows lefts rights : List ℕ) (count : ℕ) (left right : List ℕ) (r : Bool) : Type 0 where
  pub answer : r ≡ last_by rows lefts rights count left right
  pub held : (held : List Row) → HoldsRows held rows lefts rights → count ≡ length held → r ≡ last_is held left right
