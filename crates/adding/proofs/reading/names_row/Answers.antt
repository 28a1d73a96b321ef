-- `adding::reading::names_row` meets its contract. Assumes nothing.
use Rattle.std.proofs.Common.{ap, ◌∙◌, [], ◌∷◌}
use lib.Dec.{eqb}
use lib.Pointwise.{pointwise}
use Rattle.format.proofs.Equal.{same_pointwise}
use Rattle.adding.proofs.reading.names_row.Goals as goal

pub returns : goal.returns
returns c = c.eq.ensures ∙ ap (pointwise eqb c.args.field.now) c.as_slice.ensures ∙ same_pointwise c.args.field.now (78 ∷ [])
