-- `text::items::read_item` meets its contract. Assumes nothing.
use mathlib.Core.Path.{sym, ◌∙◌}
use native.Mathlib.Omega.{arith}
use Rattle.text.proofs.ItemLaws.{item_bad, item_last, number_inside, item_comma, item_stray, item_no_run, item_run}
use Rattle.text.proofs.items.read_item.Goals as goal

pub returns-in_err-n : goal.returns-in_err-n
returns-in_err-n c = c.from_residual.ensures ∙ item_bad _ _ c.requires _ (sym c.number_at.ensures ∙ c.in_err-n.was)

pub returns-then-end-field : goal.returns-then-end-field
returns-then-end-field c =
    let value = sym c.number_at.ensures ∙ c.in_ok-n.was in
    item_last _ _ c.requires _ _ value _ c.if-end-field.true

pub bounds-field-end : goal.bounds-field-end
bounds-field-end c =
    let value = sym c.number_at.ensures ∙ c.in_ok-n.was in
    number_inside _ _ c.requires _ _ value c.if-end-field.false

pub returns-in-44 : goal.returns-in-44
returns-in-44 c =
    let value = sym c.number_at.ensures ∙ c.in_ok-n.was in
    item_comma _ _ c.requires _ _ value c.if-end-field.false _ c.in-44.is

pub returns-in_default : goal.returns-in_default
returns-in_default c =
    let value = sym c.number_at.ensures ∙ c.in_ok-n.was in
    item_no_run _ _ c.requires _ _ value c.if-end-field.false (λ h. absurd (omega (arith, h, c.in-45.is))) _ c.if-runs.false

pub returns-in_default-2 : goal.returns-in_default-2
returns-in_default-2 c =
    let value = sym c.number_at.ensures ∙ c.in_ok-n.was in
    let k = c.in_default in item_stray _ _ c.requires _ _ value c.if-end-field.false (λ h. absurd (omega (arith, h, c.in_default))) _ (λ h. absurd (omega (arith, h, c.in_default)))

pub overflow_add-end : goal.overflow_add-end
overflow_add-end c =
    let value = sym c.number_at.ensures ∙ c.in_ok-n.was in
    omega (arith, number_inside _ _ c.requires _ _ value c.if-end-field.false, c.well_formed)

pub read_run-requires : goal.read_run-requires
read_run-requires c =
    let value = sym c.number_at.ensures ∙ c.in_ok-n.was in
    omega (arith, number_inside _ _ c.requires _ _ value c.if-end-field.false)

pub returns-in-45 : goal.returns-in-45
returns-in-45 c =
    let value = sym c.number_at.ensures ∙ c.in_ok-n.was in
    c.read_run.ensures ∙ item_run _ _ c.requires _ _ value c.if-end-field.false (λ h. absurd (omega (arith, h, c.in-45.is))) _ c.if-runs.true c.in-45.is
