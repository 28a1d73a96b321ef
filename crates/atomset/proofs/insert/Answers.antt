-- `atomset::insert` meets its contract, by those of `union` and `single`. Assumes nothing.
use mathlib.Core.Path.{ap, ◌∙◌}
use mathlib.Core.Bool.{Bool, ◌||◌}
use Rattle.atomset.specs.AtomSet.{has}
use Rattle.atomset.proofs.insert.Goals as goal

pub returns : goal.returns
returns c i = c.union.ensures i ∙ ap (λ (t : Bool). has c.args.set i || t) (c.single.ensures i)
