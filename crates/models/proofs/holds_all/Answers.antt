-- `models::holds_all` meets its contract. Assumes nothing.
use mathlib.Core.Path.{sym, ◌∙◌}
use borrow.Author.Rules.{rules}
use Rattle.std.proofs.lemmas.Iterator.{YieldsList-from_slice}
use Rattle.std.proofs.lemmas.Iterator.Search.{all_from_yields_List}
use Rattle.pairs.specs.Truths.{noted_at}
use Rattle.models.proofs.Judging.{all_listed}
use Rattle.models.proofs.holds_all.Goals as goal

pub returns : goal.returns
returns c =
    let test = noted_at c.args.notes.now in
    all_from_yields_List test _ _ c.all.result c.all.ensures.ran (YieldsList-from_slice c.args.side.now cc) (λ x b q k. search rules)
    ∙ sym (all_listed test c.args.side.now)
