-- `tables::records::row` meets its contract: inside the table each field is read at its place, and outside all are absent. Assumes nothing.
use Prim.Native.Nat.{◌+◌, ◌*◌, ◌≤◌}
use native.Mathlib.Omega.{arith}
use mathlib.Core.Path.{sym, ap}
use lib.Dec.{lit<}
use lib.ListN.{length}
use Rattle.format.specs.Tables.{absent, row_width}
use Rattle.tables.specs.Records.{row_from}
use Rattle.tables.proofs.Placed.{part_outside, part_first, part_at}
use Rattle.tables.proofs.records.row.Goals as goal

pub returns-then-i-rows : goal.returns-then-i-rows
returns-then-i-rows c = ap row_from (sym (part_outside c.args.rows.now _ row_width (omega arith)))

pub returns : goal.returns
returns c =
    let args = c.args in
    let rows = args.rows.now in
    let at = row_width * args.i in
    let inside : at + row_width ≤ length rows = omega arith in
    sym (λ j. record {
      rule = part_first rows at row_width absent 0 inside (lit< tt) j;
      principal = part_at rows at row_width 1 absent 0 inside (lit< tt) j;
      first = part_at rows at row_width 2 absent 0 inside (lit< tt) j;
      second = part_at rows at row_width 3 absent 0 inside (lit< tt) j;
      left_start = part_at rows at row_width 4 absent 0 inside (lit< tt) j;
      left_length = part_at rows at row_width 5 absent 0 inside (lit< tt) j;
      right_start = part_at rows at row_width 6 absent 0 inside (lit< tt) j;
      right_length = part_at rows at row_width 7 absent 0 inside (lit< tt) j;
    })
