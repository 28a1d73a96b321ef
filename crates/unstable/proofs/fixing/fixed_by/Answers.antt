-- `unstable::fixing::fixed_by` meets its contract.
use mathlib.Core.Path.{sym, ap, ◌∙◌}
use Rattle.atomset.proofs.Digits.{has_zero}
use Rattle.unstable.specs.Fixing.{fixes_atom}
use Rattle.unstable.proofs.Arms.{fixes_none}
use Rattle.unstable.proofs.fixing.fixed_by.Goals as goal

pub returns-in-Doubled : goal.returns-in-Doubled
returns-in-Doubled c =
    λ i.
    let is-doubled = sym c.shape_of-s.ensures.answer ∙ c.in-Doubled.is in
    c.only.ensures i ∙ sym (ap (fixes_atom c.args.set c.args.others i) is-doubled)

pub returns-in-Negated : goal.returns-in-Negated
returns-in-Negated c =
    λ i.
    let is_negated_lem = sym c.shape_of-s.ensures.answer ∙ c.in-Negated.is in
    c.only-in-Negated.ensures i ∙ sym (ap (fixes_atom c.args.set c.args.others i) is_negated_lem)

pub returns-in_default : goal.returns-in_default
returns-in_default c =
    λ i.
    has_zero i
    ∙ sym (ap (fixes_atom c.args.set c.args.others i) (sym c.shape_of-s.ensures.answer)
    ∙ fixes_none _ _ i c.shape_of-s.result c.in_default.not-Negated c.in_default.not-Doubled)
