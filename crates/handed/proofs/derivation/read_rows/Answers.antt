use native.Mathlib.Omega.{arith}
use mathlib.Core.Path.{refl, ◌∙◌}
use mathlib.Core.Bool.{true, false}
use lib.Dec.{eqb}
use borrow.Author.Tests.{eq-eqb, ne_eqb}
use Rattle.handed.proofs.Rows.{rows_start, rows_fail, rows_more, rows_end}
use Rattle.handed.proofs.derivation.read_rows.Goals as goal

pub loop-row-init : goal.loop-row-init
loop-row-init c = rows_start _ _ c.args.counts

pub returns-in_default : goal.returns-in_default
returns-in_default c = rows_fail _ _ _ _ _ c.loop-row.invariant _ c.with_next_row.ensures (omega arith) c.in_default.is

pub loop-row-preserved : goal.loop-row-preserved
loop-row-preserved c = rows_more _ _ c.args.counts _ _ c.loop-row.invariant _ c.with_next_row.ensures (omega arith) _ c.in-Some.is

pub returns-then-held-counts : goal.returns-then-held-counts
returns-then-held-counts c = rows_end _ _ _ _ _ c.loop-row.invariant (omega arith) true _ (eq-eqb _ _ c.if-held-counts.true) refl

pub returns-else-held-counts : goal.returns-else-held-counts
returns-else-held-counts c b g none_yet a f =
    let other = ne_eqb _ _ c.if-held-counts.false in
    let args = c.args in
    other ∙ rows_end _ _ args.counts _ _ c.loop-row.invariant (omega arith) false (eqb c.loop-row.held.right args.counts.right) other refl b g none_yet a f
