-- `sides::members::same` meets its contract.
use mathlib.Core.Path.{◌∙◌}
use Rattle.format.proofs.Equal.{same_pointwise}
use Rattle.sides.proofs.members.same.Goals as goal

pub returns : goal.returns
returns c = c.eq.ensures ∙ same_pointwise c.args.a.now c.args.b.now
