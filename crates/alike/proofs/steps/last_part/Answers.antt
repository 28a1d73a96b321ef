-- `alike::steps::last_part` meets its contract. Assumes nothing.
use mathlib.Core.Bool.{Bool, cond}
use mathlib.Core.Path.{sym, ap}
use borrow.Author.Tests.{eq-eqb, ne_eqb}
use Rattle.alike.proofs.steps.last_part.Goals as goal

pub returns-then-key-eq-NOT : goal.returns-then-key-eq-NOT
returns-then-key-eq-NOT c =
    let key = c.args.key in
    sym (ap (λ (b : Bool). cond b key.first key.second) (eq-eqb key.word 2 c.if-key-eq-NOT.true))

pub returns : goal.returns
returns c =
    let key = c.args.key in
    sym (ap (λ (b : Bool). cond b key.first key.second) (ne_eqb key.word 2 c.if-key-eq-NOT.false))
