use native.Mathlib.Omega.{arith}
use mathlib.Core.Path.{refl}
use borrow.Author.Rules.{rules}
use Rattle.alike.proofs.TruthBits.{judged_none, judged_next, judged_whole, judged_not}
use Rattle.alike.proofs.truths.judge_listed.Goals as goal

pub returns-then-steps-table : goal.returns-then-steps-table
returns-then-steps-table c =
    let args = c.args in
    judged_not args.steps.records.now args.steps.count args.steps.places.now args.sets.h args.sets.g args.sets.t args.table.now
    (omega (arith, c.if-steps-table.true))

pub loop-k-init : goal.loop-k-init
loop-k-init c =
    let args = c.args in (
      omega (arith, c.if-steps-table.false),
      judged_none args.steps.records.now args.steps.count args.steps.places.now args.sets.h args.sets.g args.sets.t args.table.now,
    )

pub judge-requires : goal.judge-requires
judge-requires c = omega (arith, c.loop-k.invariant.0, c.loop-k.invariant.1.within, c.loop-k.invariant.1.long, c.loop-k-test.true)

pub loop-k-preserved : goal.loop-k-preserved
loop-k-preserved c =
    let args = c.args in (
      c.loop-k.invariant.0,
      judged_next args.steps.records.now args.steps.count args.steps.places.now args.sets.h args.sets.g args.sets.t args.table.now
          c.loop-k.invariant.1 c.loop-k-test.true refl _ c.node.ensures c.judge.ensures,
    )

pub returns : goal.returns
returns c =
    let args = c.args in
    judged_whole args.steps.records.now args.steps.count args.steps.places.now args.sets.h args.sets.g args.sets.t args.table.now
    c.loop-k.invariant.1 (search rules)
