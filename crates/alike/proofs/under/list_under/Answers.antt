use Prim.Native.Nat.{◌<◌}
use native.Mathlib.Nat.{mod-eq_of_lt}
use native.Mathlib.Omega.{arith}
use mathlib.Core.Path.{refl, ◌∙◌}
use lib.ListN.{length-set}
use borrow.Author.Rules.{rules}
use Rattle.format.specs.Tables.{most_formulas}
use Rattle.alike.proofs.Listing.{none_listed, next_passed, next_listed, all_listed}
use Rattle.alike.proofs.under.list_under.Goals as goal
use Rattle.alike.proofs.under.list_under.Goals.{In-loop-i}

-- one more is within the most formulas
room : (c : In-loop-i) → c.loop-i.count < most_formulas
room c = omega (arith, c.loop-i.invariant.1.few, c.requires.0, c.loop-i-test.true)

pub loop-i-init : goal.loop-i-init
loop-i-init c = (c.requires.1, none_listed c.args.list.now c.args.slots.now)

pub bounds-marks-i : goal.bounds-marks-i
bounds-marks-i c = omega (arith, c.loop-i.invariant.1.few, c.loop-i.invariant.0.marks_long, c.requires.0, c.loop-i-test.true)

pub offset_bounds-list-count : goal.offset_bounds-list-count
offset_bounds-list-count c = omega (arith, room (goal.at.offset_bounds-list-count c).In-loop-i)

pub bounds-list-count : goal.bounds-list-count
bounds-list-count c = omega (arith, room (goal.at.bounds-list-count c).In-loop-i, c.loop-i.invariant.0.list_long)

pub offset_bounds-slots-i : goal.offset_bounds-slots-i
offset_bounds-slots-i c = omega (arith, c.loop-i.invariant.1.few, c.requires.0, c.loop-i-test.true)

pub bounds-slots-i : goal.bounds-slots-i
bounds-slots-i c = omega (arith, c.loop-i.invariant.1.few, c.loop-i.invariant.0.slots_long, c.requires.0, c.loop-i-test.true)

pub overflow_add-count : goal.overflow_add-count
overflow_add-count c = omega (arith, room (goal.at.overflow_add-count c).In-loop-i)

pub loop-i-preserved-then-marks-i-eq1 : goal.loop-i-preserved-then-marks-i-eq1
loop-i-preserved-then-marks-i-eq1 c =
    let marked = c.mark_parts.ensures in
    let full = c.loop-i.invariant.0 in
    let place = c.narrow_place.ensures ∙ mod-eq_of_lt (omega (arith, room (goal.at.loop-i-preserved-then-marks-i-eq1 c).In-loop-i, c.loop-i.invariant.1.few, c.requires.0)) in
    let slot = c.narrow_place-then-marks-i-eq1.ensures ∙ mod-eq_of_lt (omega (arith, room (goal.at.loop-i-preserved-then-marks-i-eq1 c).In-loop-i)) in (
      record {
        marks_long = marked.long ∙ full.marks_long;
        list_long = simp length-set full.list_long;
        slots_long = simp length-set full.slots_long;
      },
      next_listed c.loop-i.invariant.1 (search rules) refl place slot (omega (arith, room (goal.at.loop-i-preserved-then-marks-i-eq1 c).In-loop-i, full.list_long))
          (omega (arith, full.marks_long, c.requires.0)) (omega (arith, full.slots_long, c.requires.0)) c.if-marks-i-eq1.true marked,
    )

pub loop-i-preserved : goal.loop-i-preserved
loop-i-preserved c = (c.loop-i.invariant.0, next_passed c.loop-i.invariant.1 (search rules) (search rules) c.if-marks-i-eq1.false)

pub returns : goal.returns
returns c = all_listed c.loop-i.invariant.1 (search rules) (omega (arith, c.loop-i.invariant.1.few, c.loop-i.invariant.0.list_long, c.requires.0))
