-- `text::lists::no_entries` meets its contract. Assumes nothing.
use mathlib.Core.Path.{refl}
use Rattle.format.specs.Text.{strictly_rising}
use Rattle.text.specs.Lists.{above}
use Rattle.text.proofs.lists.no_entries.Goals as goal

pub returns : goal.returns
unfolding above strictly_rising
returns c = refl
