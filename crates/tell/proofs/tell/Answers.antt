-- `tell::tell` meets its contract: the file's own refusal first, and then whether its words fit.
use mathlib.Core.Path.{ap, ◌∙◌}
use Rattle.run.specs.Lent.{clear}
use Rattle.judge.proofs.Whole.{clear_lengths}
use Rattle.tell.proofs.Whole.{tells_refused, puts_file, tells_words, tells_no_room}
use Rattle.tell.proofs.tell.Goals as goal

pub returns-then-answer-ne0-clause-tells : goal.returns-then-answer-ne0-clause-tells
returns-then-answer-ne0-clause-tells c = tells_refused c.judge-judged.ensures.judges _ c.if-answer-ne0.true c.pad.ensures

pub returns-then-put_words-clause-tells : goal.returns-then-put_words-clause-tells
returns-then-put_words-clause-tells c =
    let judges = c.judge-judged.ensures.judges in
    let fine = c.if-answer-ne0.false in
    let put = puts_file (judges.filed fine) c.narrow_place-count.ensures c.put_words.ensures in
    tells_words judges _ fine put c.if-put_words.true

pub returns-clause-lengths : goal.returns-clause-lengths
returns-clause-lengths c = clear_lengths _ _ c.clear.ensures.cleared ∙ c.judge-judged.ensures.lengths

pub returns-clause-tells : goal.returns-clause-tells
returns-clause-tells c =
    let judges = c.judge-judged.ensures.judges in
    let fine = c.if-answer-ne0.false in
    let put = puts_file (judges.filed fine) c.narrow_place-count.ensures c.put_words.ensures in
    tells_no_room judges _ fine put c.number.ensures c.if-put_words.false (c.clear.ensures.cleared ∙ ap clear c.judge-judged.ensures.lengths)
