-- `atomset::is_subset` meets its contract: what `a` and `b` share is `a` just where `a` is included in `b`. Assumes nothing.
use borrow.Author.Rules.{rules}
use borrow.Author.Tests.{eqb-true, eq-eqb}
use lib.Bits.{bit_and}
use Rattle.atomset.proofs.Membership.{and_included}
use Rattle.atomset.proofs.is_subset.Goals as goal

pub returns : goal.returns
returns c =
    let a = c.args.a in
    let b = c.args.b in
    let both = and_included 64 a b (search rules) (search rules) in
    (λ e. both.0 (eqb-true (bit_and a b) a e), λ inc. eq-eqb (bit_and a b) a (both.1 inc))
