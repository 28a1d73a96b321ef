-- `adding::reading::read_line` meets its contract: by the kind, then by the count of fields. Assumes nothing.
use mathlib.Core.Path.{sym, ◌∙◌}
use Rattle.adding.proofs.RowTexts.{none_said, other_kind, miscounted, row_said}
use Rattle.adding.proofs.reading.read_line.Goals as goal

pub returns-then-not-names_row : goal.returns-then-not-names_row
returns-then-not-names_row c =
    none_said _ _ _ _ (other_kind _ _ c.read_fields-fields.ensures _ c.field.ensures (sym c.names_row.ensures ∙ c.if-not-names_row.true))

pub returns-then-fields-ne-MOST_FIELDS : goal.returns-then-fields-ne-MOST_FIELDS
returns-then-fields-ne-MOST_FIELDS c =
    none_said _ _ _ _ (miscounted _ _ c.read_fields-fields.ensures _ c.field.ensures (sym c.names_row.ensures ∙ c.if-not-names_row.false)
    c.if-fields-ne-MOST_FIELDS.true)

pub returns : goal.returns
returns c =
    row_said _ _ c.read_fields-fields.ensures _ c.field.ensures (sym c.names_row.ensures ∙ c.if-not-names_row.false)
    c.if-fields-ne-MOST_FIELDS.false c.read_row.ensures c.whole.ensures
