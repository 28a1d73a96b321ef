-- `adding::trial::judge_text` meets its contract: the text, then the number, then the row's tests. Assumes nothing.
use Rattle.std.proofs.lemmas.Result.{err_from_is_err_and}
use mathlib.Core.Path.{refl, sym, ap, subst, ◌∙◌}
use Rattle.refusals.specs.Refusals.{outcome, number_of}
use Rattle.bodies.specs.Open.{four}
use Rattle.adding.specs.Trials.{TextJudged}
use Rattle.adding.proofs.Trying.{text_other, text_misplaced, text_refused, text_passes}
use Rattle.adding.proofs.trial.judge_text.Goals as goal

pub returns-in_default : goal.returns-in_default
returns-in_default c =
    let body = c.args.body in
    text_other (four body.formulas.now body.rows.now body.left.now body.right.now)
    body.notes.now c.args.counts c.args.text.now _ _ _ _ _ _ _ c.read_text.ensures c.in_default.is

pub returns-then-row-counts : goal.returns-then-row-counts
returns-then-row-counts c =
    let body = c.args.body in
    text_misplaced (four body.formulas.now body.rows.now body.left.now body.right.now)
    body.notes.now c.args.counts c.args.text.now _ _ _ _ _ _ _ c.read_text.ensures _ c.in-Some.is
    refl c.if-row-counts.true

pub returns-in_err-judged : goal.returns-in_err-judged
returns-in_err-judged c =
    let body = c.args.body in
    let failed = err_from_is_err_and c.from_residual.result c.from_residual.ensures.1 in
    subst (TextJudged (four body.formulas.now body.rows.now body.left.now body.right.now) body.notes.now c.args.counts c.args.text.now _ _ _ _)
    (sym failed.1)
    (text_refused (four body.formulas.now body.rows.now body.left.now body.right.now)
    body.notes.now c.args.counts c.args.text.now _ _ _ _ _ _ _ c.read_text.ensures _ c.in-Some.is
    refl c.if-row-counts.false _ _ refl refl _
    c.drafted-draft.ensures _ c.row_number-judged.ensures _ (ap outcome c.in_err-judged.was ∙ ap number_of (sym failed.2)))

pub returns : goal.returns
returns c =
    let body = c.args.body in
    text_passes (four body.formulas.now body.rows.now body.left.now body.right.now)
    body.notes.now c.args.counts c.args.text.now _ _ _ _ _ _ _ c.read_text.ensures _ c.in-Some.is
    refl c.if-row-counts.false _ _ refl refl _
    c.drafted-draft.ensures _ c.row_number-judged.ensures (ap outcome c.in_ok-judged.was)
