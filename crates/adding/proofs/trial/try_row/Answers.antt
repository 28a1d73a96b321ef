-- `adding::trial::try_row` meets its contract: 1, then 4, then 2, then the row. Assumes nothing.
use Prim.Native.Nat.{ℕ, ◌≤◌}
use native.Mathlib.Omega.{arith}
use mathlib.Core.Path.{sym, ap, subst, ◌∙◌}
use lib.ListN.{length, replicate, length-replicate}
use Rattle.format.specs.Tables.{most_on_side}
use Rattle.bodies.specs.Open.{four}
use Rattle.adding.specs.Trials.{Tries}
use Rattle.adding.proofs.Trying.{tries_short, tries_none, tries_long, tries_text, on_its_line, tries_same}
use Rattle.adding.proofs.trial.try_row.Goals as goal
use Rattle.adding.proofs.trial.try_row.Goals.{After-judge_text}

pub returns-then-too_short : goal.returns-then-too_short
returns-then-too_short c left_room right_room =
    let args = c.args in
    tries_short (four args.formulas.now args.rows.now args.left.now args.right.now)
    args.counts args.text.now _ _ (sym c.too_short.ensures ∙ c.if-too_short.true) _ c.turned_down.ensures

pub returns-then-not-holds_body : goal.returns-then-not-holds_body
returns-then-not-holds_body c left_room right_room =
    let args = c.args in
    tries_none (four args.formulas.now args.rows.now args.left.now args.right.now)
    args.counts args.text.now _ _ (sym c.too_short.ensures ∙ c.if-too_short.false) _ _
    (omega (arith, length-replicate {A = ℕ} 3072 0)) (ap (λ (k : ℕ). replicate k 0) (sym (length-replicate {A = ℕ} 3072 0)))
    _ c.holds_body.ensures (c.if-not-holds_body.true) _ c.turned_down-then-not-holds_body.ensures

pub returns-then-text-gt-MOST_BYTES : goal.returns-then-text-gt-MOST_BYTES
returns-then-text-gt-MOST_BYTES c left_room right_room =
    let args = c.args in
    tries_long (four args.formulas.now args.rows.now args.left.now args.right.now)
    args.counts args.text.now _ _ (sym c.too_short.ensures ∙ c.if-too_short.false) _ _
    (omega (arith, length-replicate {A = ℕ} 3072 0)) (ap (λ (k : ℕ). replicate k 0) (sym (length-replicate {A = ℕ} 3072 0)))
    _ c.holds_body.ensures (c.if-not-holds_body.false) c.if-text-gt-MOST_BYTES.true _ c.turned_down-then-text-gt-MOST_BYTES.ensures

-- what the text comes to
text_tried : (c : After-judge_text)
    → let args = c.args in
    most_on_side ≤ length args.l.now → most_on_side ≤ length args.r.now
    → Tries (four args.formulas.now args.rows.now args.left.now args.right.now) args.counts args.text.now c.judge_text.new.l c.judge_text.new.r
    (on_its_line c.judge_text.result)
text_tried c left_room right_room =
    let args = c.args in
    tries_text (four args.formulas.now args.rows.now args.left.now args.right.now)
    args.counts args.text.now _ _ (sym c.too_short.ensures ∙ c.if-too_short.false) _ _
    (omega (arith, length-replicate {A = ℕ} 3072 0)) (ap (λ (k : ℕ). replicate k 0) (sym (length-replicate {A = ℕ} 3072 0)))
    _ c.holds_body.ensures (c.if-not-holds_body.false) c.if-text-gt-MOST_BYTES.false args.l.now args.r.now left_room right_room _
    c.judge_text.ensures

pub returns-in-Ok : goal.returns-in-Ok
returns-in-Ok c left_room right_room =
    tries_same c.in-Ok.is (text_tried (goal.at.returns-in-Ok c).After-judge_text left_room right_room)

pub returns-in-Err : goal.returns-in-Err
returns-in-Err c left_room right_room =
    subst (Tries _ _ _ _ _) (sym c.turned_down-in-Err.ensures)
    (tries_same c.in-Err.is (text_tried (goal.at.returns-in-Err c).After-judge_text left_room right_room))
