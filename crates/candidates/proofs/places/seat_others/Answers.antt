use mathlib.Core.Path.{ap, ◌∙◌}
use borrow.Author.Rules.{rules}
use Rattle.atomset.specs.Walk.{members_left}
use Rattle.candidates.proofs.Seating.{giving_starts, giving_next}
use Rattle.candidates.proofs.places.seat_others.Goals as goal

pub loop-atom-init : goal.loop-atom-init
loop-atom-init c =
    let start = c.into_iter-atom-iterator.ensures.into_iter_gives in
    let left = ap (λ i. members_left i.a) start ∙ ap members_left c.zip-atom-items.ensures.first ∙ c.members_of.ensures in
    giving_starts (search rules) left c.requires

pub loop-atom-preserved : goal.loop-atom-preserved
loop-atom-preserved c = giving_next c.loop-atom.invariant _ _ c.in-Some.ensures.steps.0 c.put_note.ensures

pub shape_of-places : goal.shape_of-places
shape_of-places c = c.loop-atom.invariant.kept.long

pub returns : goal.returns
returns c = c.loop-atom.invariant.kept
