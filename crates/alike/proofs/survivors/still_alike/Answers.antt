use mathlib.Core.Bool.{true, false≢true}
use mathlib.Core.Logic.{◌↔◌}
use mathlib.Core.Path.{◌≡◌, sym, ap, ◌∙◌}
use borrow.Author.Rules.{rules}
use lib.ListN.{get_or}
use Rattle.atomset.specs.Walk.{members_left}
use Rattle.alike.specs.Survivors.{SameHere}
use Rattle.alike.proofs.Remaining.{filtering_starts, filtering_keeps, filtering_drops, filtering_ends}
use Rattle.alike.proofs.Words.{same_at, both_equal}
use Rattle.alike.proofs.survivors.still_alike.Goals as goal
use Rattle.alike.proofs.survivors.still_alike.Goals.{After-eq}

-- what the comparison says
compared : (c : After-eq)
    → let args = c.args in
    (c.eq.result ≡ true) ↔ SameHere args.table.now args.slots.now args.question.own (get_or args.question.side.now c.in-Some.c 0)
compared c =
    let args = c.args in
    same_at args.table.now args.slots.now args.question.side.now args.question.own _ c.here_in-here.ensures c.entry_of-own.ensures
    c.also_in-also.ensures c.entry_of-own.ensures
    c.here_in.ensures c.also_in.ensures c.entry_of-slot.ensures c.formula_at.ensures (both_equal _ _ _ _ c.eq.ensures)

pub loop-c-init : goal.loop-c-init
loop-c-init c =
    let left = ap members_left c.into_iter-c-iterator.ensures.into_iter_gives ∙ c.members_of-c-items.ensures in
    (search rules, filtering_starts (search rules) left)

pub loop-c-preserved-then-eq : goal.loop-c-preserved-then-eq
loop-c-preserved-then-eq c =
    let same = (compared (goal.at.loop-c-preserved-then-eq c).After-eq).0 c.if-eq.true in
    (search rules, filtering_keeps c.loop-c.invariant.1 c.in-Some.ensures.steps c.insert-kept.ensures same)

pub loop-c-preserved : goal.loop-c-preserved
loop-c-preserved c =
    let same = (compared (goal.at.loop-c-preserved c).After-eq).1 in
    (c.loop-c.invariant.0, filtering_drops c.loop-c.invariant.1 c.in-Some.ensures.steps (λ s. false≢true (sym c.if-eq.false ∙ same s)))

pub returns : goal.returns
returns c = filtering_ends c.loop-c.invariant.1 c.in-None.ensures.steps.0
