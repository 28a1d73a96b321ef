use mathlib.Core.Path.{sym, ◌∙◌}
use Rattle.parts.proofs.PartLaws.{next_here, next_later, next_none}
use Rattle.parts.proofs.find_near.Goals as goal

pub returns-then-bytes-at : goal.returns-then-bytes-at
returns-then-bytes-at c = sym (c.loop-at.invariant ∙ next_here _ _ _ c.loop-at-test.true c.if-bytes-at.true)

pub loop-at-preserved : goal.loop-at-preserved
loop-at-preserved c = c.loop-at.invariant ∙ next_later _ _ _ c.loop-at-test.true c.if-bytes-at.false

pub returns : goal.returns
returns c = sym (c.loop-at.invariant ∙ next_none _ _ _ c.loop-at-test.false)
