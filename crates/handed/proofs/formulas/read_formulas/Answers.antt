use native.Mathlib.Omega.{arith}
use Rattle.handed.proofs.Entering.{nodes_start, nodes_more, nodes_fail, nodes_end}
use Rattle.handed.proofs.formulas.read_formulas.Goals as goal

pub loop-i-init : goal.loop-i-init
loop-i-init c = nodes_start _ _ _

pub returns-then-not-enter_next : goal.returns-then-not-enter_next
returns-then-not-enter_next c = nodes_fail _ _ _ _ _ _ _ c.loop-i.invariant c.enter_next.ensures c.if-not-enter_next.true (omega arith)

pub loop-i-preserved : goal.loop-i-preserved
loop-i-preserved c = nodes_more _ _ _ _ _ _ _ c.loop-i.invariant c.enter_next.ensures c.if-not-enter_next.false (omega arith)

pub returns : goal.returns
returns c = nodes_end _ _ _ _ _ c.loop-i.invariant (omega arith)
