-- `atomset::first` meets its contract: the zeros below the lowest 1 of a word number its lowest member. Assumes nothing.
use borrow.Author.Rules.{rules}
use Rattle.atomset.proofs.Members.{trailing_first}
use Rattle.atomset.proofs.first.Goals as goal

pub returns : goal.returns
returns c = trailing_first c.args.set (search rules)
