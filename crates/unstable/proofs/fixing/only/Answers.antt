-- `unstable::fixing::only` meets its contract: a member of the set has room in a word.
use mathlib.Core.Bool.{Bool, ◌&&◌, and-false}
use mathlib.Core.Path.{sym, ap, ◌∙◌}
use borrow.Author.Tests.{lt-ltb}
use lib.Dec.{eqb}
use Rattle.atomset.proofs.Digits.{has_zero}
use Rattle.atomset.proofs.Membership.{member_lt}
use borrow.Author.Rules.{rules}
use Rattle.unstable.proofs.fixing.only.Goals as goal

pub returns-then-contains : goal.returns-then-contains
returns-then-contains c =
    λ i.
    let held = sym c.contains.ensures ∙ c.if-contains.true in
    c.single.ensures i
    ∙ ap (λ (t : Bool). eqb i c.args.p && t) (lt-ltb _ 64 (member_lt 64 _ _ (search rules) held) ∙ sym held)

pub returns : goal.returns
returns c =
    λ i.
    let p = c.args.p in
    has_zero i ∙ sym (ap (λ (t : Bool). eqb i p && t) (sym c.contains.ensures ∙ c.if-contains.false) ∙ and-false (eqb i p))
