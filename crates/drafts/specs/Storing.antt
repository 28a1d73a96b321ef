-- What is written of a row: its record after the others, and its sides after theirs.
use Rattle.std.specs.Prelude.{ℕ, ◌*◌, ◌%◌, ◌≡◌, List, take}
use Rattle.format.specs.Tables.{row_width}
use Rattle.tables.specs.Records.{written, row_numbers}
use Rattle.counts.specs.declared.Counts.{Counts}
use Rattle.tables.specs.declared.records.RowRecord.{RowRecord}
use Rattle.drafts.specs.Drafts.{principal_number}
use Rattle.drafts.specs.declared.Draft.{Draft}

-- the record of a row, after what the counts say
abbrev pub record_of : Draft → Counts → RowRecord
record_of d c =
    record {
      rule = d.rule;
      principal = principal_number d.principal;
      first = d.first;
      second = d.second;
      left_start = c.left % 65536;
      left_length = d.left.count % 65536;
      right_start = c.right % 65536;
      right_length = d.right.count % 65536;
    }

-- what is written of a row
pub record RowStored (d : Draft) (c : Counts) (antecedent succedent rows left right rows' left' right' : List ℕ) : Type 0 where
  pub row_written : rows' ≡ written rows (row_width * c.rows) (row_numbers (record_of d c))
  pub left_written : left' ≡ written left c.left (take d.left.count antecedent)
  pub right_written : right' ≡ written right c.right (take d.right.count succedent)
