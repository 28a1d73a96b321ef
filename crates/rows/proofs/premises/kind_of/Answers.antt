-- `rows::premises::kind_of` meets its contract. Assumes nothing.
use Prim.Native.Nat.{ℕ}
use mathlib.Core.Path.{ap, ◌∙◌}
use Rattle.format.specs.Tables.{row_at}
use Rattle.rules.specs.RuleTable.{rule_number}
use Rattle.tables.specs.Records.{row_from}
use Rattle.tables.specs.declared.records.RowRecord.{RowRecord}
use Rattle.rows.proofs.premises.kind_of.Goals as goal

pub returns : goal.returns
returns c =
    let args = c.args in
    c.rule_number.ensures
    ∙ ap (λ (r : RowRecord). rule_number r.rule 1) c.row-record.ensures
    ∙ ap (λ (i : ℕ). rule_number (row_from (row_at args.rows.now i)).rule 1) c.from.ensures
