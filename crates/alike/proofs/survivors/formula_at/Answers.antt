-- `alike::survivors::formula_at` meets its contract. Assumes nothing.
use mathlib.Core.Path.{◌∙◌}
use Rattle.alike.proofs.survivors.formula_at.Goals as goal

pub returns : goal.returns
returns c = c.from.ensures ∙ c.entry_of.ensures
