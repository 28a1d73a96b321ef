-- `rows::row_number` meets its contract. Assumes nothing.
use mathlib.Core.Path.{refl, sym, ◌∙◌}
use Rattle.std.proofs.lemmas.Result.{err_from_is_err_and}
use Rattle.refusals.proofs.OneNumber.{number_of-some}
use Rattle.rows.proofs.Numbering.{early_numbered, ten_numbered, step_numbered}
use Rattle.rows.proofs.row_number.Goals as goal

pub returns-in_err-early_number : goal.returns-in_err-early_number
returns-in_err-early_number c =
    let p = err_from_is_err_and c.from_residual.result c.from_residual.ensures.1 in
    rw (p.1, p.2) (early_numbered _ _ _ _ _ _ _ _ _ _ c.in_err-early_number.ensures (number_of-some _))

pub returns-then-wrong_premises : goal.returns-then-wrong_premises
returns-then-wrong_premises c =
    ten_numbered _ _ _ _ _ _ _ _ _ 0 c.in_ok-early_number.ensures refl
    (λ b r x y j. sym c.if-wrong_premises.true ∙ c.wrong_premises.ensures b r _ _ _ _ _ _ j)

pub returns : goal.returns
returns c =
    step_numbered _ _ _ _ _ _ _ _ _ 0 c.in_ok-early_number.ensures refl
    (λ b r x y j. sym c.if-wrong_premises.false ∙ c.wrong_premises.ensures b r _ _ _ _ _ _ j) c.front.ensures c.front-2.ensures _
    c.step_number.ensures
