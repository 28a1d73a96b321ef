-- `lines::row::settle_row` meets its contract. Assumes nothing.
use mathlib.Core.Path.{refl, sym, ap, ◌∙◌}
use Rattle.std.specs.Prelude.{Ok, Err}
use Rattle.std.proofs.lemmas.Result.{err_from_is_err_and}
use Rattle.refusals.specs.declared.Refusal.{Refusal}
use Rattle.refusals.specs.Refusals.{outcome}
use Rattle.state.specs.declared.State.{State}
use Rattle.lines.proofs.RowLines.{settled_misplaced, settled_refused, settled_stored}
use Rattle.lines.proofs.row.settle_row.Goals as goal

pub returns-then-out_of_order : goal.returns-then-out_of_order
returns-then-out_of_order c = settled_misplaced _ _ _ _ _ _ _ _ _ _ _ (sym c.out_of_order.ensures ∙ c.if-out_of_order.true) refl

pub returns-in_err-judged : goal.returns-in_err-judged
returns-in_err-judged c =
    let p = err_from_is_err_and c.from_residual.result c.from_residual.ensures.1 in
    settled_refused _ _ _ _ _ _ _ _ _ _ _ (sym c.out_of_order.ensures ∙ c.if-out_of_order.false) _ _ refl refl _ c.drafted-draft.ensures _
    c.row_number-judged.ensures _ (ap outcome c.in_err-judged.was) (p.1 ∙ ap (λ (e : Refusal). Err e) p.2)

pub returns : goal.returns
returns c =
    settled_stored _ _ _ _ _ _ _ _ _ _ _ (sym c.out_of_order.ensures ∙ c.if-out_of_order.false) _ _ refl refl _ c.drafted-draft.ensures _
    c.row_number-judged.ensures (ap outcome c.in_ok-judged.was) _ _ _ c.store_row.ensures _ c.with_row.ensures (ap (λ (s : State). Ok s) c.passed.ensures)
