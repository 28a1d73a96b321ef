-- `shapes::shape_of` meets its contract: each word of the record by its law.
use native.Mathlib.Omega.{arith}
use mathlib.Core.Path.{sym, ap, ◌∙◌}
use Rattle.shapes.specs.declared.Shape.TheVariants.{Atom}
use Rattle.shapes.proofs.Shown.{shape_falsum, shape_atom, shape_not, shape_and, shape_or, shape_other, shape_read, shape_told}
use Rattle.shapes.proofs.shape_of.Goals as goal

pub returns-in-0 : goal.returns-in-0
returns-in-0 c = shape_told _ _ (sym (shape_falsum _ _ c.in-0.is) ∙ shape_read _ c.node-n.ensures c.from.ensures)

pub returns-in-1 : goal.returns-in-1
returns-in-1 c =
    shape_told _ _
    (ap Atom c.from-in-1.ensures ∙ sym (shape_atom _ _ c.in-1.is) ∙ shape_read _ c.node-n.ensures c.from.ensures)

pub returns-in-2 : goal.returns-in-2
returns-in-2 c =
    shape_told _ _
    (c.negated_shape.ensures ∙ sym (shape_not _ _ c.in-2.is) ∙ shape_read _ c.node-n.ensures c.from.ensures)

pub returns-in-3 : goal.returns-in-3
returns-in-3 c = shape_told _ _ (sym (shape_and _ _ c.in-3.is) ∙ shape_read _ c.node-n.ensures c.from.ensures)

pub returns-in-4 : goal.returns-in-4
returns-in-4 c = shape_told _ _ (sym (shape_or _ _ c.in-4.is) ∙ shape_read _ c.node-n.ensures c.from.ensures)

pub returns-in_default : goal.returns-in_default
returns-in_default c =
    shape_told _ _
    (sym (shape_other _ _ (λ e. omega arith) (λ e. omega arith) (λ e. omega arith) (λ e. omega arith) (λ e. omega arith))
    ∙ shape_read _ c.node-n.ensures c.from.ensures)
