-- `drafts::store::store_row` meets its contract. Assumes nothing.
use Prim.Native.Nat.{◌*◌}
use mathlib.Core.Path.{ap, ◌∙◌}
use Rattle.format.specs.Tables.{row_width}
use Rattle.tables.specs.Records.{written, row_numbers}
use Rattle.tables.specs.declared.records.RowRecord.{RowRecord}
use Rattle.drafts.proofs.store.store_row.Goals as goal

pub returns : goal.returns
returns c =
    let args = c.args in
    record {
      row_written =
          c.put_row.ensures
          ∙ ap (λ (r : RowRecord). written args.rows.now (row_width * args.counts.rows) (row_numbers r)) c.recorded.ensures;
      left_written = c.put_side.ensures ∙ ap (written args.left.now args.counts.left) c.front.ensures;
      right_written = c.put_side-2.ensures ∙ ap (written args.right.now args.counts.right) c.front-2.ensures;
    }
