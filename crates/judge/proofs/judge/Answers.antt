-- `judge::judge` meets its contract: by the lengths first, and then by the run.
use mathlib.Core.Path.{sym, ap, subst, ◌∙◌}
use Rattle.format.specs.Tables.{too_short}
use Rattle.refusals.specs.declared.Refusal.TheVariants.{ShortTable}
use Rattle.run.specs.Lent.{held, lengths}
use Rattle.judge.specs.Contract.{JudgesFile}
use Rattle.judge.proofs.Whole.{judged_short, judges_cleared, judges_same, clear_lengths, clear_zeros}
use Rattle.judge.proofs.judge.Goals as goal

pub returns-then-short-clause-lengths : goal.returns-then-short-clause-lengths
returns-then-short-clause-lengths c = clear_lengths _ _ c.clear.ensures.cleared

pub returns-clause-lengths : goal.returns-clause-lengths
returns-clause-lengths c = c.run_or_clear.ensures.lengths ∙ clear_lengths _ _ c.clear.ensures.cleared

pub returns-then-short-clause-judges : goal.returns-then-short-clause-judges
returns-then-short-clause-judges c =
    let args = c.args in
    let lent = lengths (held args.lent.now) in
    let short = judged_short args.text.now lent (sym c.are_too_short-short.ensures ∙ c.if-short.true) in
    subst (JudgesFile args.text.now lent _) (sym c.from.ensures)
    (judges_cleared args.text.now lent (record { refusal = ShortTable; line = 0 }) short c.clear.ensures.cleared)

pub run_or_clear-requires : goal.run_or_clear-requires
run_or_clear-requires c =
    let lent = lengths (held c.args.lent.now) in
    let same = clear_lengths _ lent c.clear.ensures.cleared in
    let long_enough = sym c.are_too_short-short.ensures ∙ c.if-short.false in
    (ap too_short same ∙ long_enough, clear_zeros _ lent c.clear.ensures.cleared)

pub returns-clause-judges : goal.returns-clause-judges
returns-clause-judges c = judges_same (clear_lengths _ (lengths (held c.args.lent.now)) c.clear.ensures.cleared) c.run_or_clear.ensures.judges
