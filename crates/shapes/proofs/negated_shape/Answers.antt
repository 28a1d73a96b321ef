-- `shapes::negated_shape` meets its contract: each word of the record by its law.
use native.Mathlib.Omega.{arith}
use mathlib.Core.Path.{sym, ap, ◌∙◌}
use Rattle.shapes.specs.declared.Shape.TheVariants.{Negated}
use Rattle.shapes.proofs.Shown.{negated_falsum, negated_atom, negated_not, negated_other, negated_read}
use Rattle.shapes.proofs.negated_shape.Goals as goal

pub returns-in-0 : goal.returns-in-0
returns-in-0 c = sym (negated_falsum _ _ c.in-0.is) ∙ negated_read _ c.node-n.ensures c.from.ensures

pub returns-in-1 : goal.returns-in-1
returns-in-1 c = ap Negated c.from-in-1.ensures ∙ sym (negated_atom _ _ c.in-1.is) ∙ negated_read _ c.node-n.ensures c.from.ensures

pub returns-in-2 : goal.returns-in-2
returns-in-2 c = c.doubled_shape.ensures ∙ sym (negated_not _ _ c.in-2.is) ∙ negated_read _ c.node-n.ensures c.from.ensures

pub returns-in_default : goal.returns-in_default
returns-in_default c =
    sym (negated_other _ _ (λ e. omega arith) (λ e. omega arith) (λ e. omega arith)) ∙ negated_read _ c.node-n.ensures c.from.ensures
