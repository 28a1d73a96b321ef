-- `atomset::union` meets its contract, digit by digit. Assumes nothing.
use Rattle.atomset.proofs.Digits.{has_or}
use Rattle.atomset.proofs.union.Goals as goal

pub returns : goal.returns
returns c = has_or c.args.a c.args.b
