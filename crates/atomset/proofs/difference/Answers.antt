-- `atomset::difference` meets its contract, digit by digit. Assumes nothing.
use borrow.Author.Rules.{rules}
use Rattle.atomset.proofs.Digits.{has_and_not}
use Rattle.atomset.proofs.difference.Goals as goal

pub returns : goal.returns
returns c i = has_and_not 64 c.args.a c.args.b i (search rules) (search rules)
