use mathlib.Core.Path.{sym, ◌∙◌}
use borrow.Author.Rules.{rules}
use Rattle.sides.proofs.Searching.{at_end, here, next}
use Rattle.sides.proofs.members.contains_near.Goals as goal

pub returns-then-side-i : goal.returns-then-side-i
returns-then-side-i c =
    let loop = c.loop-i in
    sym (loop.invariant ∙ here _ _ loop.i (search rules) c.if-side-i.true)

pub loop-i-preserved : goal.loop-i-preserved
loop-i-preserved c =
    let loop = c.loop-i in
    loop.invariant ∙ next _ _ loop.i (search rules) c.if-side-i.false

pub returns : goal.returns
returns c = sym (c.loop-i.invariant ∙ at_end _ _ c.loop-i.i (search rules))
