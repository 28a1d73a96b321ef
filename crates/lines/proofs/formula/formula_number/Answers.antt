-- `lines::formula::formula_number` meets its contract: each way out is one test of a formula. Assumes nothing.
use mathlib.Core.Path.{sym, ◌∙◌}
use Rattle.lines.proofs.FormulaLines.{number_out, number_full, number_ahead, number_none}
use Rattle.lines.proofs.formula.formula_number.Goals as goal

pub returns-then-out_of_order : goal.returns-then-out_of_order
returns-then-out_of_order c = number_out _ _ _ (sym c.out_of_order.ensures ∙ c.if-out_of_order.true)

pub returns-then-counts-ge-MOST_FORMULAS : goal.returns-then-counts-ge-MOST_FORMULAS
returns-then-counts-ge-MOST_FORMULAS c = number_full _ _ _ (sym c.out_of_order.ensures ∙ c.if-out_of_order.false) c.if-counts-ge-MOST_FORMULAS.true

pub returns-then-refers_ahead : goal.returns-then-refers_ahead
returns-then-refers_ahead c =
    let in_order = sym c.out_of_order.ensures ∙ c.if-out_of_order.false in
    number_ahead _ _ _ in_order c.if-counts-ge-MOST_FORMULAS.false (sym c.refers_ahead.ensures ∙ c.if-refers_ahead.true)

pub returns : goal.returns
returns c =
    let in_order = sym c.out_of_order.ensures ∙ c.if-out_of_order.false in
    number_none _ _ _ in_order c.if-counts-ge-MOST_FORMULAS.false (sym c.refers_ahead.ensures ∙ c.if-refers_ahead.false)
