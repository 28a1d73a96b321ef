use native.Mathlib.Omega.{arith}
use mathlib.Core.Path.{ap, ◌∙◌}
use borrow.Author.Rules.{rules}
use Rattle.atomset.specs.Walk.{members_left}
use Rattle.alike.proofs.Remaining.{filtering_starts, filtering_keeps, filtering_drops, filtering_ends}
use Rattle.candidates.proofs.places.unseated.Goals as goal

pub loop-atom-init : goal.loop-atom-init
loop-atom-init c =
    let left = ap members_left c.into_iter-atom-iterator.ensures.into_iter_gives ∙ c.members_of-atom-items.ensures in
    (search rules, filtering_starts (search rules) left)

pub loop-atom-preserved-then-note-ge-NO_PLACE : goal.loop-atom-preserved-then-note-ge-NO_PLACE
loop-atom-preserved-then-note-ge-NO_PLACE c = (
  search rules,
  filtering_keeps c.loop-atom.invariant.1 c.in-Some.ensures.steps c.insert-lacking.ensures (omega (arith, c.note.ensures, c.if-note-ge-NO_PLACE.true)),
)

pub loop-atom-preserved : goal.loop-atom-preserved
loop-atom-preserved c = (
  c.loop-atom.invariant.0,
  filtering_drops c.loop-atom.invariant.1 c.in-Some.ensures.steps (λ lacks. omega (arith, lacks, c.note.ensures, c.if-note-ge-NO_PLACE.false)),
)

pub returns : goal.returns
returns c = filtering_ends c.loop-atom.invariant.1 c.in-None.ensures.steps.0
