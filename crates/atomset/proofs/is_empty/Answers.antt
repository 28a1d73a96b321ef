-- `atomset::is_empty` meets its contract: only the word 0 has no members. Assumes nothing.
use borrow.Author.Rules.{rules}
use Rattle.atomset.proofs.Members.{zero_empty}
use Rattle.atomset.proofs.is_empty.Goals as goal

pub returns : goal.returns
returns c = zero_empty c.args.set (search rules)
