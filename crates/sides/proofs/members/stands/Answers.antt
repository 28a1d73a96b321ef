-- `sides::members::stands` meets its contract.
use mathlib.Core.Bool.{Bool, ◌&&◌}
use mathlib.Core.Path.{sym, ap, ◌∙◌}
use borrow.Author.Tests.{le-ltb, lt-ltb}
use lib.Dec.{eqb}
use lib.ListN.{get_or}
use Rattle.sides.proofs.members.stands.Goals as goal

pub returns-then-at-side : goal.returns-then-at-side
returns-then-at-side c =
    let args = c.args in
    sym (ap (λ (t : Bool). t && eqb (get_or args.side.now args.at 0) args.x) (lt-ltb _ _ c.if-at-side.true))

pub returns-else-at-side : goal.returns-else-at-side
returns-else-at-side c =
    let args = c.args in
    let past = le-ltb _ _ c.if-at-side.false in
    past ∙ sym (ap (λ (t : Bool). t && eqb (get_or args.side.now args.at 0) args.x) past)
