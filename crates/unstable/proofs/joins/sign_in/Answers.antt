-- `unstable::joins::sign_in` meets its contract: the sign of the shape that was read.
use mathlib.Core.Path.{ap, ◌∙◌}
use Rattle.unstable.specs.Joins.{sign_of}
use Rattle.shapes.specs.declared.Shape.{Shape}
use Rattle.unstable.proofs.joins.sign_in.Goals as goal

pub returns : goal.returns
returns c = c.sign_of.ensures ∙ ap (λ (s : Shape). sign_of s c.args.p) c.shape_of.ensures.answer
