use Prim.Native.Nat.{ℕ}
use native.Mathlib.Omega.{arith}
use mathlib.Core.Logic.{inl}
use mathlib.Core.Path.{sym, ap, subst, ◌∙◌}
use borrow.Author.Rules.{rules}
use lib.ListN.{length, set}
use Rattle.atomset.specs.Walk.{members_left}
use Rattle.alike.proofs.Surviving.{few_members}
use Rattle.candidates.proofs.Seating.{SeatingSoFar, seating_starts, seating_next, seating_ends}
use Rattle.candidates.proofs.places.seat.Goals as goal

pub loop-place-init : goal.loop-place-init
loop-place-init c =
    let start = c.into_iter-place-iterator.ensures.into_iter_gives in
    let left = ap (λ i. members_left i.iter) start ∙ ap members_left c.enumerate-place-items.ensures.source ∙ c.members_of.ensures in
    let none = ap (λ i. i.count) start ∙ c.enumerate-place-items.ensures.count in
    let few = few_members 64 c.args.set (omega arith) (search rules) (search rules) in (
      (tt, tt, inl (omega (arith, none, ap length left, few))),
      tt,
      subst (λ (n : ℕ). SeatingSoFar c.args.set c.args.places.now n (members_left c.into_iter-place-iterator.result.iter)) (sym none)
          (seating_starts c.args.set c.requires (search rules) left),
    )

pub loop-place-preserved : goal.loop-place-preserved
loop-place-preserved c =
    let steps = c.in-Some.ensures.steps in
    let goes = c.in-Some.ensures.goes.on c.loop-place.invariant.1 in (
      goes.0,
      goes.1,
      subst (λ (n : ℕ). SeatingSoFar c.args.set c.put_note.new.notes n (members_left c.next.new.self.iter)) (sym steps.2)
          (seating_next c.args.set c.loop-place.invariant.2 steps.0
          (c.put_note.ensures ∙ ap (set c.loop-place.places c.in-Some.atom) steps.1)),
    )

pub shape_of-places : goal.shape_of-places
shape_of-places c = c.loop-place.invariant.2.long ∙ sym c.requires

pub returns : goal.returns
returns c = seating_ends c.args.set c.loop-place.invariant.2 c.requires c.in-None.ensures.steps.0.0
