-- `shapes::doubled_shape` meets its contract: each word of the record by its law.
use native.Mathlib.Omega.{arith}
use mathlib.Core.Path.{sym, ap, ◌∙◌}
use Rattle.shapes.specs.declared.Shape.TheVariants.{Doubled}
use Rattle.shapes.proofs.Shown.{doubled_atom, doubled_other, doubled_read}
use Rattle.shapes.proofs.doubled_shape.Goals as goal

pub returns-in-1 : goal.returns-in-1
returns-in-1 c = ap Doubled c.from-in-1.ensures ∙ sym (doubled_atom _ c.in-1.is) ∙ doubled_read _ c.node-n.ensures c.from.ensures

pub returns-in_default : goal.returns-in_default
returns-in_default c = sym (doubled_other _ (λ e. omega arith)) ∙ doubled_read _ c.node-n.ensures c.from.ensures
