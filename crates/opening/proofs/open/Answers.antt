-- `opening::open` meets its contract: by the lengths first, and then by the run.
use mathlib.Core.Path.{sym, ap, subst, ◌∙◌}
use Rattle.format.specs.Tables.{too_short}
use Rattle.refusals.specs.declared.Refusal.TheVariants.{ShortTable}
use Rattle.run.specs.Lent.{held, lengths}
use Rattle.opening.specs.Contract.{Opens}
use Rattle.judge.proofs.Whole.{clear_lengths, clear_zeros}
use Rattle.opening.proofs.Whole.{opened_short, opens_cleared, opens_same}
use Rattle.opening.proofs.open.Goals as goal

pub returns-then-short-clause-lengths : goal.returns-then-short-clause-lengths
returns-then-short-clause-lengths c = clear_lengths _ _ c.clear.ensures.cleared

pub returns-clause-lengths : goal.returns-clause-lengths
returns-clause-lengths c = c.open_or_clear.ensures.lengths ∙ clear_lengths _ _ c.clear.ensures.cleared

pub returns-then-short-clause-opens : goal.returns-then-short-clause-opens
returns-then-short-clause-opens c =
    let args = c.args in
    let lent = lengths (held args.lent.now) in
    let short = opened_short args.text.now lent (sym c.are_too_short-short.ensures ∙ c.if-short.true) in
    subst (Opens args.text.now lent _) (sym c.from.ensures)
    (opens_cleared args.text.now lent (record { refusal = ShortTable; line = 0 }) short c.clear.ensures.cleared)

pub open_or_clear-requires : goal.open_or_clear-requires
open_or_clear-requires c =
    let lent = lengths (held c.args.lent.now) in
    let same = clear_lengths _ lent c.clear.ensures.cleared in
    let long_enough = sym c.are_too_short-short.ensures ∙ c.if-short.false in
    (ap too_short same ∙ long_enough, clear_zeros _ lent c.clear.ensures.cleared)

pub returns-clause-opens : goal.returns-clause-opens
returns-clause-opens c = opens_same (clear_lengths _ (lengths (held c.args.lent.now)) c.clear.ensures.cleared) c.open_or_clear.ensures.opens
