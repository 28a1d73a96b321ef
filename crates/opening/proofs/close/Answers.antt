-- `opening::close` meets its contract: the tests in the definition's order.
use Rattle.std.specs.Prelude.{Err}
use Rattle.std.proofs.lemmas.Result.{err_from_is_err_and}
use mathlib.Core.Path.{ap, ◌∙◌}
use borrow.Author.Tests.{lt-ltb, le-ltb}
use Rattle.opening.specs.Contract.{closed_by}
use Rattle.opening.proofs.close.Goals as goal

pub returns-in_err-ran : goal.returns-in_err-ran
unfolding closed_by
returns-in_err-ran c =
    let refused = err_from_is_err_and c.from_residual.result c.from_residual.ensures.1 in
    simp (c.in_err-ran.was) (refused.1 ∙ ap Err refused.2)

pub returns-then-ran-text : goal.returns-then-ran-text
unfolding closed_by
returns-then-ran-text c = simp (c.in_ok-ran.was, lt-ltb _ _ c.if-ran-text.true)

pub returns : goal.returns
unfolding closed_by
returns c = simp (c.in_ok-ran.was, le-ltb _ _ c.if-ran-text.false, c.saturating_sub.ensures)
