-- `models::tested_with` meets its contract: the notes on the model say whether it satisfies the sheet, and by them its parts are judged.
-- Assumes nothing.
use mathlib.Core.Path.{sym, ◌∙◌}
use borrow.Author.Tests.{not-true, not-false}
use Rattle.models.proofs.Judging.{there_noted, all_there, fails_itself, by_parts}
use Rattle.models.proofs.tested_with.Goals as goal

pub returns-then-not-holds_all : goal.returns-then-not-holds_all
returns-then-not-holds_all c =
    let args = c.args in
    let all_hold = all_there args.sheet.now args.model c.past_largest-end.ensures.above c.requires.1 c.fill_there.ensures in
    sym (fails_itself args.formulas.now args.sheet.now args.model
    (sym all_hold ∙ sym c.holds_all.ensures ∙ not-true _ c.if-not-holds_all.true-raw))

pub undisturbed-requires : goal.undisturbed-requires
undisturbed-requires c =
    record {
      few = c.requires.0;
      below = c.past_largest-end.ensures.above;
      room = c.requires.2;
      notes = there_noted c.requires.1 c.fill_there.ensures;
    }

pub returns : goal.returns
returns c =
    let args = c.args in
    let all_hold = all_there args.sheet.now args.model c.past_largest-end.ensures.above c.requires.1 c.fill_there.ensures in
    by_parts args.formulas.now args.sheet.now args.model
    (sym all_hold ∙ sym c.holds_all.ensures ∙ not-false _ c.if-not-holds_all.false-raw) c.undisturbed.ensures
