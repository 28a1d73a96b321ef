use native.Mathlib.Omega.{arith}
use Rattle.unstable.proofs.FixingPass.{passing_starts, met_inside, passing_met, passing_missed, passing_fails, passing_short, passing_ends}
use borrow.Author.Rules.{rules}
use Rattle.unstable.proofs.fixing.fixes.Goals as goal

pub loop-x-init : goal.loop-x-init
loop-x-init c = passing_starts _ _ _ _ _

pub overflow_add-j : goal.overflow_add-j
overflow_add-j c = omega (arith, met_inside c.loop-x.invariant (search rules) c.stands.ensures c.if-stands.true)

pub loop-x-preserved-then-stands : goal.loop-x-preserved-then-stands
loop-x-preserved-then-stands c =
    passing_met c.loop-x.invariant (search rules) c.stands.ensures c.fixed_by-by_x.result c.union-fixed.result (search rules)
    c.fixed_by-by_x.ensures c.union-fixed.ensures c.if-stands.true

pub returns-then-is_empty : goal.returns-then-is_empty
returns-then-is_empty c =
    passing_fails c.loop-x.invariant (search rules) c.stands.ensures c.fixed_by-by_x.result c.union-fixed.result (search rules)
    c.fixed_by-by_x.ensures c.union-fixed.ensures c.if-stands.false c.is_empty.ensures c.if-is_empty.true

pub loop-x-preserved : goal.loop-x-preserved
loop-x-preserved c =
    passing_missed c.loop-x.invariant (search rules) c.stands.ensures c.fixed_by-by_x.result c.union-fixed.result (search rules)
    c.fixed_by-by_x.ensures c.union-fixed.ensures c.if-stands.false c.is_empty.ensures c.if-is_empty.false

pub returns-then-j-l : goal.returns-then-j-l
returns-then-j-l c = passing_short c.loop-x.invariant (search rules) c.if-j-l.true

pub returns : goal.returns
returns c = passing_ends c.loop-x.invariant (search rules) (search rules) c.union.result c.union.ensures c.is_subset.ensures
