use native.Mathlib.Omega.{arith}
use Rattle.sides.proofs.Stretches.{none_same, more_same}
use Rattle.sides.proofs.merging.same_blocks.Goals as goal

pub loop-n-init : goal.loop-n-init
loop-n-init c = none_same (omega arith) (omega arith)

pub returns-then-a-i-lt8 : goal.returns-then-a-i-lt8
returns-then-a-i-lt8 c = c.loop-n.invariant

pub returns-then-b-j-lt8 : goal.returns-then-b-j-lt8
returns-then-b-j-lt8 c = c.loop-n.invariant

pub block_same-requires : goal.block_same-requires
block_same-requires c = (omega arith, omega arith)

pub returns-then-not-block_same : goal.returns-then-not-block_same
returns-then-not-block_same c = c.loop-n.invariant

pub loop-n-preserved : goal.loop-n-preserved
loop-n-preserved c = more_same c.loop-n.invariant (c.block_same.ensures c.if-not-block_same.false)
