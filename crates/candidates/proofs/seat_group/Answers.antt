use mathlib.Core.Path.{ap, ◌∙◌}
use borrow.Author.Rules.{rules}
use Rattle.atomset.specs.Walk.{members_left}
use Rattle.candidates.proofs.Grouping.{grouping_starts, grouping_passes, grouping_joins}
use Rattle.candidates.proofs.seat_group.Goals as goal

pub loop-d-init : goal.loop-d-init
loop-d-init c =
    let left = ap members_left c.into_iter-d-iterator.ensures.into_iter_gives ∙ c.members_of-d-items.ensures in
    (search rules, grouping_starts (search rules) c.requires.1 c.requires.2 c.requires.3 c.single-group.ensures left)

pub loop-d-preserved-then-seat_too : goal.loop-d-preserved-then-seat_too
loop-d-preserved-then-seat_too c = (
  search rules,
  grouping_joins c.loop-d.invariant.1 c.requires.0 c.in-Some.ensures.steps c.atoms_with.ensures c.seat_too.ensures (search rules) c.if-seat_too.true
      c.insert-group.ensures,
)

pub loop-d-preserved : goal.loop-d-preserved
loop-d-preserved c =
    (c.loop-d.invariant.0, grouping_passes c.loop-d.invariant.1 c.requires.0 c.in-Some.ensures.steps c.atoms_with.ensures c.seat_too.ensures)

pub shape_of-places : goal.shape_of-places
shape_of-places c = c.loop-d.invariant.1.so_far.long

pub returns : goal.returns
returns c = c.loop-d.invariant.1.so_far
