-- `text::numbers::read_number` meets its contract. Assumes nothing.
use mathlib.Core.Path.{refl, sym, ap, ◌∙◌}
use native.Mathlib.Omega.{arith}
use Rattle.text.specs.Numbers.{number_as}
use Rattle.text.proofs.NumberLaws.{number_answered, part_bad, part_cut, part_full}
use Rattle.text.proofs.numbers.read_number.Goals as goal

pub returns-in_err-n : goal.returns-in_err-n
returns-in_err-n c =
    number_answered _ (c.from_residual.ensures ∙ ap number_as (sym (part_bad _ 0 _ refl (sym c.number_at.ensures ∙ c.in_err-n.was))))

pub returns-then-end-field : goal.returns-then-end-field
returns-then-end-field c = number_answered _ (ap number_as (sym (part_cut _ 0 _ refl _ _ (sym c.number_at.ensures ∙ c.in_ok-n.was) (omega arith))))

pub returns : goal.returns
returns c = number_answered _ (ap number_as (sym (part_full _ 0 _ refl _ _ (sym c.number_at.ensures ∙ c.in_ok-n.was) (omega arith))))
