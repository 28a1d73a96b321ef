-- `text::numbers::read_principal` meets its contract. Assumes nothing.
use mathlib.Core.Path.{sym, ap, ◌∙◌}
use Rattle.std.specs.Prelude.{Some}
use Rattle.std.specs.Option.{option_map}
use Rattle.text.proofs.NumberLaws.{principal_absent, principal_number_lem, principal_answered}
use Rattle.text.proofs.numbers.read_principal.Goals as goal

pub returns-then-is_dash : goal.returns-then-is_dash
returns-then-is_dash c = principal_answered _ (sym (principal_absent _ (sym c.is_dash.ensures ∙ c.if-is_dash.true)))

pub returns-in_err-read_number : goal.returns-in_err-read_number
returns-in_err-read_number c =
    let no_dash = sym c.is_dash.ensures ∙ c.if-is_dash.false in
    let number = sym c.read_number.ensures.answer ∙ c.in_err-read_number.was in
    principal_answered _ (c.from_residual.ensures ∙ sym (principal_number_lem _ no_dash ∙ ap (option_map (λ n. Some n)) number))

pub returns : goal.returns
returns c =
    let no_dash = sym c.is_dash.ensures ∙ c.if-is_dash.false in
    let number = sym c.read_number.ensures.answer ∙ c.in_ok-read_number.was in
    principal_answered _ (sym (principal_number_lem _ no_dash ∙ ap (option_map (λ n. Some n)) number))
