use Prim.Native.Nat.{◌≤◌}
use mathlib.Core.Path.{◌≡◌, sym, ◌∙◌}
use native.Mathlib.Omega.{arith}
use lib.ListN.{length, set}
use lib.Seq.{set_out}
use Rattle.format.specs.Line.{most_fields}
use Rattle.parts.proofs.PartLaws.{fielding_none, end_bounds, fielding_more, fielded}
use Rattle.parts.proofs.read_fields.Goals.{Joined-count-lt-MOST_FIELDS, then-count-lt-MOST_FIELDS, else-count-lt-MOST_FIELDS}
use Rattle.parts.proofs.read_fields.Goals as goal

-- past the seventh field nothing is written down
full : (c : Joined-count-lt-MOST_FIELDS) → most_fields ≤ c.loop-count.count → length c.loop-count.ends ≤ c.loop-count.count
full c h = omega (arith, c.loop-count.invariant.sized)

stored : (c : Joined-count-lt-MOST_FIELDS) → c.if-count-lt-MOST_FIELDS.ends ≡ set c.loop-count.ends c.loop-count.count c.field_end-end.result
stored c =
    elim c.if-count-lt-MOST_FIELDS.branch [
      | then-count-lt-MOST_FIELDS w ↦ w.ends-is
      | else-count-lt-MOST_FIELDS w ↦ w.ends-is ∙ sym (set_out _ _ _ (full c w.if-count-lt-MOST_FIELDS.false))
    ]

bounds : (c : Joined-count-lt-MOST_FIELDS)
    → (c.loop-count.at ≤ c.field_end-end.result)
    × (c.field_end-end.result ≤ length c.args.line.now)
bounds c = end_bounds _ _ _ _ c.loop-count.invariant _ c.field_end-end.ensures _ (stored c)

pub loop-count-init : goal.loop-count-init
loop-count-init c = fielding_none _

pub returns-then-end-line : goal.returns-then-end-line
returns-then-end-line c = fielded _ _ _ _ c.loop-count.invariant _ c.field_end-end.ensures _ (stored (goal.at.returns-then-end-line c).Joined-count-lt-MOST_FIELDS) c.if-end-line.true

pub overflow_add-at : goal.overflow_add-at
overflow_add-at c = omega (arith, bounds (goal.at.overflow_add-at c).Joined-count-lt-MOST_FIELDS)

pub loop-count-smaller : goal.loop-count-smaller
loop-count-smaller c = omega (arith, bounds (goal.at.loop-count-smaller c).Joined-count-lt-MOST_FIELDS)

pub loop-count-preserved : goal.loop-count-preserved
loop-count-preserved c = fielding_more _ _ _ _ c.loop-count.invariant _ c.field_end-end.ensures _ (stored (goal.at.loop-count-preserved c).Joined-count-lt-MOST_FIELDS) c.if-end-line.false
