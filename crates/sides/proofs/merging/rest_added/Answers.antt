use native.Mathlib.Omega.{arith}
use borrow.Author.Rules.{rules}
use Rattle.sides.proofs.Deciding.{decides_yes, decides_no, denied}
use Rattle.sides.proofs.Cursors.{added_more}
use Rattle.sides.proofs.merging.rest_added.Goals as goal

pub loop-i-init : goal.loop-i-init
loop-i-init c k l h = absurd (omega arith)

pub returns-then-not-is_added : goal.returns-then-not-is_added
returns-then-not-is_added c =
    let loop = c.loop-i in
    decides_no (λ h. denied c.is_added.ensures c.if-not-is_added.true (h loop.i (omega arith) (search rules)))

pub loop-i-preserved : goal.loop-i-preserved
loop-i-preserved c =
    let loop = c.loop-i in
    let args = c.args in
    added_more args.side.now args.at args.added loop.i loop.invariant (c.is_added.ensures.sound c.if-not-is_added.false)

pub returns : goal.returns
returns c = decides_yes (λ k l h. c.loop-i.invariant k l (omega arith))
