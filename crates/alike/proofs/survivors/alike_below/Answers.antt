use Prim.Native.Nat.{ℕ, ◌+◌, ◌-◌, min}
use native.Mathlib.Omega.{arith}
use mathlib.Core.Path.{sym, ap, ◌∙◌}
use borrow.Author.Rules.{rules}
use Rattle.atomset.proofs.Members.{walk_ends}
use Rattle.alike.proofs.Surviving.{BelowSoFar, few_members, few_parts, parts_counted, below_starts, below_next, below_none, below_whole}
use Rattle.alike.proofs.survivors.alike_below.Goals as goal
use Rattle.alike.proofs.survivors.alike_below.Goals.{After-still_alike-kept}

pub overflow_shl-last : goal.overflow_shl-last
overflow_shl-last c = omega (arith, c.count.ensures, few_members 8 c.args.t (omega arith) c.requires (search rules))

-- two parts more, or the last one twice
next : (c : After-still_alike-kept)
    → let args = c.args in
    BelowSoFar args.steps.records.now args.steps.count args.steps.slots.now args.steps.places.now args.t args.question.own args.question.side.now args.question.candidates args.table.now
    c.judge_listed.new.table c.still_alike-kept.result (c.loop-n.n + 2)
next c =
    let args = c.args in
    let last = c.loop-n.invariant.0 in
    below_next args.steps.records.now args.steps.count args.steps.slots.now args.steps.places.now args.t args.question.own args.question.side.now args.question.candidates
    args.table.now (omega (arith, c.requires)) c.loop-n.invariant.2 (omega (arith, last, c.loop-n-test.true)) _
    (c.min.ensures ∙ ap (λ (k : ℕ). min (c.loop-n.n + 1) (k - 1)) last)
    _ _ c.part_of.ensures c.part_of-next.ensures c.judge_listed.ensures
    (λ i. search rules) _ (search rules) c.still_alike-kept.ensures

pub loop-n-init : goal.loop-n-init
loop-n-init c =
    let args = c.args in
    let counted = parts_counted args.t _ c.requires (search rules) c.count.ensures in (
      counted,
      omega (arith, counted, few_parts args.t c.requires (search rules)),
      below_starts args.steps.records.now args.steps.count args.steps.slots.now args.steps.places.now args.t args.question.own args.question.side.now args.question.candidates
          args.table.now (search rules),
    )

pub shape_of-table-then-is_empty : goal.shape_of-table-then-is_empty
shape_of-table-then-is_empty c = c.loop-n.invariant.2.long

pub returns-then-is_empty : goal.returns-then-is_empty
returns-then-is_empty c =
    let args = c.args in
    below_none args.steps.records.now args.steps.count args.steps.slots.now args.steps.places.now args.t args.question.own args.question.side.now args.question.candidates
    args.table.now c.loop-n.invariant.2 (walk_ends _ (sym c.is_empty.ensures ∙ c.if-is_empty.true))

pub overflow_add-n : goal.overflow_add-n
overflow_add-n c = omega (arith, c.loop-n-test.true, c.loop-n.invariant.1)

pub overflow_step-n : goal.overflow_step-n
overflow_step-n c = omega (arith, c.loop-n-test.true, c.loop-n.invariant.1)

pub loop-n-smaller : goal.loop-n-smaller
loop-n-smaller c = omega (arith, c.loop-n-test.true)

pub loop-n-preserved : goal.loop-n-preserved
loop-n-preserved c = (c.loop-n.invariant.0, c.loop-n.invariant.1, next (goal.at.loop-n-preserved c).After-still_alike-kept)

pub returns-else-is_empty : goal.returns-else-is_empty
returns-else-is_empty c =
    let args = c.args in
    below_whole args.steps.records.now args.steps.count args.steps.slots.now args.steps.places.now args.t args.question.own args.question.side.now args.question.candidates
    args.table.now (next (goal.at.returns-else-is_empty c).After-still_alike-kept) (omega (arith, c.loop-n.invariant.0))

pub shape_of-table : goal.shape_of-table
shape_of-table c = c.loop-n.invariant.2.long

pub returns : goal.returns
returns c =
    let args = c.args in
    below_whole args.steps.records.now args.steps.count args.steps.slots.now args.steps.places.now args.t args.question.own args.question.side.now args.question.candidates
    args.table.now c.loop-n.invariant.2 (omega (arith, c.loop-n.invariant.0, c.loop-n-test.false))
