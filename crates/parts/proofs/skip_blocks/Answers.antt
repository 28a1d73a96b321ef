use mathlib.Core.Path.{◌∙◌}
use borrow.Author.Tests.{not-false}
use Rattle.parts.proofs.skip_blocks.Goals as goal

pub returns-then-bytes-at-lt16 : goal.returns-then-bytes-at-lt16
returns-then-bytes-at-lt16 c = c.loop-at.invariant

pub returns-then-not-block_lacks : goal.returns-then-not-block_lacks
returns-then-not-block_lacks c = c.loop-at.invariant

pub loop-at-preserved : goal.loop-at-preserved
loop-at-preserved c = c.loop-at.invariant ∙ c.block_lacks.ensures (not-false _ c.if-not-block_lacks.false-raw)

pub returns : goal.returns
returns c = c.loop-at.invariant
