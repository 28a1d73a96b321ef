-- `handed::derivation::with_next_row` meets its contract: the record is read, and the row judged again. Assumes nothing.
use mathlib.Core.Bool.{true, false, true≢false, false≢true}
use mathlib.Core.Path.{◌≡◌, refl, sym, ap, ◌∙◌}
use Rattle.std.specs.Prelude.{Result, Ok, Err, is_err}
use Rattle.refusals.specs.Refusals.{outcome}
use Rattle.refusals.specs.declared.Refusal.{Refusal}
use Rattle.refusals.proofs.OneNumber.{number_of-some}
use Rattle.handed.specs.Handed.{counts_in}
use Rattle.handed.proofs.Rows.{misplaced, row_fails, row_counted}
use Rattle.handed.proofs.derivation.with_next_row.Goals as goal

refused : (r : Result (Unit {0}) Refusal) → is_err r ≡ true → outcome r ≡ 0 → ⊥
refused (Ok u) e = absurd (false≢true e)
refused (Err n) e = number_of-some n

passed : (r : Result (Unit {0}) Refusal) → is_err r ≡ false → outcome r ≡ 0
passed (Ok u) e = refl
passed (Err n) e = absurd (true≢false e)

pub returns-then-not-stands_next : goal.returns-then-not-stands_next
returns-then-not-stands_next c b g =
    let args = c.args in
    sym (ap counts_in
    (misplaced _ _ args.held b g c.row-stored.result c.row-stored.ensures (sym c.stands_next.ensures ∙ c.if-not-stands_next.true)))

pub returns-then-is_err : goal.returns-then-is_err
returns-then-is_err c b g =
    let args = c.args in
    let there = sym c.stands_next.ensures ∙ c.if-not-stands_next.false in
    sym (ap counts_in
    (row_fails _ _ args.held b g c.row-stored.result c.row-stored.ensures there _ _ c.fetch.ensures c.fetch-2.ensures _
    c.draft_of.ensures _ c.row_number-judged.ensures (refused _ (sym c.is_err.ensures.value ∙ c.if-is_err.true))))

pub returns : goal.returns
returns c b g =
    let args = c.args in
    let there = sym c.stands_next.ensures ∙ c.if-not-stands_next.false in
    row_counted _ _ args.held b g c.row-stored.result c.row-stored.ensures there _ _ c.fetch.ensures c.fetch-2.ensures _
    c.draft_of.ensures _ c.row_number-judged.ensures (passed _ (sym c.is_err.ensures.value ∙ c.if-is_err.false)) _ c.with_row.ensures
