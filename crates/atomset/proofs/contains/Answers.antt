-- `atomset::contains` meets its contract: a word of 64 digits has no member from 64 on, and below that the shift brings the atom's digit
-- down to the lowest. Assumes nothing.
use mathlib.Core.Path.{sym}
use borrow.Author.Rules.{rules}
use Rattle.atomset.proofs.Digits.{has_above, has_shr}
use Rattle.atomset.proofs.contains.Goals as goal

pub returns-then-atom-ge64 : goal.returns-then-atom-ge64
returns-then-atom-ge64 c = sym (has_above 64 c.args.set c.args.atom (search rules) (search rules))

pub returns : goal.returns
returns c = has_shr c.args.set c.args.atom
