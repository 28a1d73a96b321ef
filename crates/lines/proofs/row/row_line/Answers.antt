-- `lines::row::row_line` meets its contract. Assumes nothing.
use mathlib.Core.Path.{refl, ◌∙◌}
use lib.Dec.{lit≤}
use Rattle.lines.specs.RowLines.{with_rows}
use Rattle.lines.proofs.LineLaws.{line_no_row, line_bad}
use Rattle.lines.proofs.RowFields.{row_unread, row_found}
use Rattle.lines.proofs.row.row_line.Goals as goal

pub returns-then-line-ne-MOST_FIELDS : goal.returns-then-line-ne-MOST_FIELDS
returns-then-line-ne-MOST_FIELDS c text start number t =
    line_bad (with_rows t _ _ _ _ _) (line_no_row c.args.line.bytes.now c.requires (λ h. c.if-line-ne-MOST_FIELDS.true (c.args.line.fielded.counted ∙ h))) refl

pub returns-in_default : goal.returns-in_default
returns-in_default c text start number t =
    line_bad (with_rows t _ _ _ _ _)
    (row_unread c.args.line.bytes.now c.requires _ c.args.line.fielded c.if-line-ne-MOST_FIELDS.false c.read_row.ensures c.whole.ensures
    c.in_default.is) refl

pub returns : goal.returns
returns c text start number t =
    let line = c.args.line.bytes.now in
    let found =
    row_found line c.requires _ c.args.line.fielded c.if-line-ne-MOST_FIELDS.false c.read_row.ensures c.whole.ensures
    c.in-Some.is refl (lit≤ tt) (lit≤ tt) in
    c.settle_row.ensures.lined text line start number found.0 found.1 t found.2 found.3
