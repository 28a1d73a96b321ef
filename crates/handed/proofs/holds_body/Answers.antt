-- `handed::holds_body` meets its contract: the limits, then the formulas, then the rows. Assumes nothing.
use mathlib.Core.Path.{sym, subst, ◌∙◌}
use Rattle.handed.specs.Handed.{NodesRead}
use Rattle.handed.proofs.Rows.{not_counted, no_formulas, rows_decide}
use Rattle.handed.proofs.holds_body.Goals as goal

pub returns-then-not-only_counted : goal.returns-then-not-only_counted
returns-then-not-only_counted c = not_counted _ _ _ (sym c.only_counted.ensures ∙ c.if-not-only_counted.true)

pub returns-then-not-read_formulas : goal.returns-then-not-read_formulas
returns-then-not-read_formulas c =
    no_formulas _ _ _ _ (sym c.only_counted.ensures ∙ c.if-not-only_counted.false)
    (subst (NodesRead _ _ _ _) c.if-not-read_formulas.true c.read_formulas.ensures)

pub returns : goal.returns
returns c =
    rows_decide _ _ _ _ (sym c.only_counted.ensures ∙ c.if-not-only_counted.false)
    (subst (NodesRead _ _ _ _) c.if-not-read_formulas.false c.read_formulas.ensures) _ c.read_rows.ensures
