-- `rows::last::last_is` meets its contract. Assumes nothing.
use mathlib.Core.Path.{ap, ◌∙◌}
use Rattle.rules.specs.RuleTable.{rule_number}
use Rattle.tables.specs.declared.records.RowRecord.{RowRecord}
use Rattle.rows.proofs.LastRow.{none_last, last_refutes, last_left, last_right, last_told}
use Rattle.rows.proofs.last.last_is.Goals as goal

pub returns-then-count-eq0 : goal.returns-then-count-eq0
returns-then-count-eq0 c = last_told _ _ _ _ _ _ (none_last _ _ _ _ _ _ c.if-count-eq0.true)

pub returns-then-rule_number-ne0 : goal.returns-then-rule_number-ne0
returns-then-rule_number-ne0 c =
    let kind = c.rule_number.ensures ∙ ap (λ (x : RowRecord). rule_number x.rule 1) c.row-record.ensures in
    last_told _ _ _ _ _ _ (last_refutes _ _ _ _ _ _ c.if-count-eq0.false _ kind c.if-rule_number-ne0.true)

pub returns-then-not-same : goal.returns-then-not-same
returns-then-not-same c =
    let kind = c.rule_number.ensures ∙ ap (λ (x : RowRecord). rule_number x.rule 1) c.row-record.ensures in
    last_told _ _ _ _ _ _
    (last_left _ _ _ _ _ _ c.if-count-eq0.false _ kind c.if-rule_number-ne0.false _ c.fetch.ensures
    _ c.same.ensures c.if-not-same.true)

pub returns : goal.returns
returns c =
    let kind = c.rule_number.ensures ∙ ap (λ (x : RowRecord). rule_number x.rule 1) c.row-record.ensures in
    last_told _ _ _ _ _ _
    (last_right _ _ _ _ _ _ c.if-count-eq0.false _ kind c.if-rule_number-ne0.false _ c.fetch.ensures
    _ c.same.ensures c.if-not-same.false _ c.fetch-2.ensures _ c.same-2.ensures)
