-- `atomset::count` meets its contract: a word has a member for each of its ones. Assumes nothing.
use borrow.Author.Rules.{rules}
use Rattle.atomset.proofs.Members.{ones_members}
use Rattle.atomset.proofs.count.Goals as goal

pub returns : goal.returns
returns c = ones_members c.args.set (search rules)
