use Prim.Native.Nat.{ℕ, ◌^◌, ◌<◌}
use native.Mathlib.Omega.{arith}
use mathlib.Core.Path.{sym, subst, ◌∙◌}
use borrow.Author.Rules.{rules}
use Rattle.atomset.proofs.Members.{walk_ends}
use Rattle.alike.specs.Survivors.{most_places}
use Rattle.alike.proofs.Surviving.{few_members, part_small, parts_counted, all_starts, all_next, all_none, all_whole}
use Rattle.alike.proofs.survivors.alike_all.Goals as goal

pub overflow_shl-last : goal.overflow_shl-last
overflow_shl-last c = omega (arith, c.count.ensures, few_members 8 c.args.outer (omega arith) c.requires (search rules))

pub loop-m-init : goal.loop-m-init
loop-m-init c =
    let args = c.args in (
      parts_counted args.outer _ c.requires (search rules) c.count.ensures,
      search rules,
      all_starts args.steps.records.now args.steps.count args.steps.slots.now args.steps.places.now args.outer args.question.own args.question.side.now args.question.candidates
          args.table.now (search rules),
    )

pub shape_of-table-then-is_empty : goal.shape_of-table-then-is_empty
shape_of-table-then-is_empty c = c.loop-m.invariant.2.long

pub returns-then-is_empty : goal.returns-then-is_empty
returns-then-is_empty c =
    let args = c.args in
    all_none args.steps.records.now args.steps.count args.steps.slots.now args.steps.places.now args.outer args.question.own args.question.side.now args.question.candidates
    args.table.now c.loop-m.invariant.2 (walk_ends _ (sym c.is_empty.ensures ∙ c.if-is_empty.true))
    (omega (arith, c.loop-m.invariant.0, c.loop-m.invariant.1))

pub alike_below-kept-requires : goal.alike_below-kept-requires
alike_below-kept-requires c = subst (λ (t : ℕ). t < 2 ^ most_places) (sym c.part_of.ensures) (part_small most_places c.args.outer _ c.requires (search rules))

pub loop-m-preserved : goal.loop-m-preserved
loop-m-preserved c =
    let args = c.args in (
      c.loop-m.invariant.0,
      search rules,
      all_next args.steps.records.now args.steps.count args.steps.slots.now args.steps.places.now args.outer args.question.own args.question.side.now args.question.candidates
          args.table.now c.loop-m.invariant.2 _ c.part_of.ensures _ (search rules) c.alike_below-kept.ensures,
    )

pub shape_of-table : goal.shape_of-table
shape_of-table c = c.loop-m.invariant.2.long

pub returns : goal.returns
returns c =
    let args = c.args in
    all_whole args.steps.records.now args.steps.count args.steps.slots.now args.steps.places.now args.outer args.question.own args.question.side.now args.question.candidates
    args.table.now c.loop-m.invariant.2 (omega (arith, c.loop-m.invariant.0, c.loop-m.invariant.1, c.loop-m-test.false))
