use native.Mathlib.Omega.{arith}
use mathlib.Core.Bool.{true≢false}
use mathlib.Core.Path.{sym, ap, ◌∙◌}
use borrow.Author.Rules.{rules}
use Rattle.atomset.specs.Walk.{members_left}
use Rattle.candidates.proofs.Seating.{apart_starts, apart_next, apart_ends}
use Rattle.candidates.proofs.places.seats_of.Goals as goal

pub loop-atom-init : goal.loop-atom-init
loop-atom-init c =
    let left = ap members_left c.into_iter-atom-iterator.ensures.into_iter_gives ∙ c.members_of-atom-items.ensures in
    (search rules, apart_starts (search rules) left)

pub loop-atom-preserved : goal.loop-atom-preserved
loop-atom-preserved c = (
  search rules,
  apart_next c.loop-atom.invariant.1 c.in-Some.ensures.steps c.note-place.ensures c.requires (omega (arith, c.if-place-width.false))
      (λ m. true≢false (sym m ∙ sym c.contains.ensures ∙ c.if-contains.false)) c.insert-used.ensures,
)

pub returns : goal.returns
returns c = apart_ends c.loop-atom.invariant.1 c.in-None.ensures.steps.0
