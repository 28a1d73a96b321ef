use native.Mathlib.Omega.{arith}
use borrow.Author.Rules.{rules}
use Rattle.sides.proofs.Deciding.{denied}
use Rattle.sides.proofs.Stretches.{one_same}
use Rattle.sides.proofs.Cursors.{at_start, at_places, pass_same, pass_a, pass_b, missed_a, missed_b, at_end_a, at_end_b}
use Rattle.sides.proofs.merging.agree.Goals as goal
use Rattle.sides.proofs.merging.agree.Goals.{then-z-w-2+else-not-is_added, else-z-w-2+else-not-is_added-2}

pub same_blocks-i-requires : goal.same_blocks-i-requires
same_blocks-i-requires c = (omega arith, omega arith)

pub loop-i-init : goal.loop-i-init
loop-i-init c = at_start c.same_blocks-i.ensures

pub returns-then-j-b : goal.returns-then-j-b
returns-then-j-b c = at_end_b c.loop-i.invariant (search rules) c.rest_added.ensures

pub loop-i-preserved-then-z-w : goal.loop-i-preserved-then-z-w
loop-i-preserved-then-z-w c =
    let loop = c.loop-i in
    pass_same loop.invariant (one_same (search rules) (search rules) c.if-z-w.true)

pub returns-then-not-is_added : goal.returns-then-not-is_added
returns-then-not-is_added c =
    let loop = c.loop-i in
    missed_a loop.invariant (search rules) (search rules) (omega arith) (denied c.is_added.ensures c.if-not-is_added.true)

pub returns-then-not-is_added-2 : goal.returns-then-not-is_added-2
returns-then-not-is_added-2 c =
    let loop = c.loop-i in
    missed_b loop.invariant (search rules) (search rules) (omega arith) (denied c.is_added-else-z-w-2.ensures c.if-not-is_added-2.true)

pub same_blocks-n-requires : goal.same_blocks-n-requires
same_blocks-n-requires c = elim c.if-z-w-2.branch [ then-z-w-2+else-not-is_added w ↦ (omega arith, omega arith) | else-z-w-2+else-not-is_added-2 w ↦ (omega arith, omega arith) ]

pub overflow_add-i-in-loop-i : goal.overflow_add-i-in-loop-i
overflow_add-i-in-loop-i c = omega (arith, c.same_blocks-n.ensures.in_a)

pub overflow_add-j-in-loop-i : goal.overflow_add-j-in-loop-i
overflow_add-j-in-loop-i c = omega (arith, c.same_blocks-n.ensures.in_b)

pub loop-i-smaller : goal.loop-i-smaller
loop-i-smaller c = elim c.if-z-w-2.branch [ then-z-w-2+else-not-is_added w ↦ omega arith | else-z-w-2+else-not-is_added-2 w ↦ omega arith ]

pub loop-i-preserved : goal.loop-i-preserved
loop-i-preserved c =
    let inv = c.loop-i.invariant in
    pass_same
    (elim c.if-z-w-2.branch [
      | then-z-w-2+else-not-is_added w ↦ at_places (pass_a inv (search rules) (search rules) (omega arith) (w.is_added.ensures.sound w.if-not-is_added.false)) w.i-is w.j-is
      | else-z-w-2+else-not-is_added-2 w ↦ at_places (pass_b inv (search rules) (search rules) (omega arith) (w.is_added-else-z-w-2.ensures.sound w.if-not-is_added-2.false)) w.i-is w.j-is
    ])
    c.same_blocks-n.ensures

pub returns : goal.returns
returns c = at_end_a c.loop-i.invariant (search rules) c.rest_added-2.ensures
