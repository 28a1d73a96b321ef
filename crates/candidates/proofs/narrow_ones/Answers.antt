use native.Mathlib.Omega.{arith}
use Prim.Native.Nat.{ℕ}
use mathlib.Core.Path.{◌≡◌, ap, ◌∙◌}
use borrow.Author.Rules.{rules}
use lib.ListN.{length}
use Rattle.atomset.specs.AtomSet.{members}
use Rattle.atomset.specs.Walk.{members_left}
use Rattle.alike.proofs.Remaining.{filtering_starts, filtering_keeps, filtering_drops, filtering_ends}
use Rattle.candidates.specs.Candidates.{atoms_at}
use Rattle.candidates.proofs.narrow_ones.Goals as goal
use Rattle.candidates.proofs.narrow_ones.Goals.{After-count}

-- how many atoms it has
counted : (c : After-count)
    → let swapped = c.args.swapped in
    c.count.result ≡ length (members (atoms_at swapped.notes.now swapped.atoms swapped.side.now c.in-Some.c))
counted c = c.count.ensures ∙ ap (λ (w : ℕ). length (members w)) c.atoms_with.ensures

pub loop-c-init : goal.loop-c-init
loop-c-init c =
    let left = ap members_left c.into_iter-c-iterator.ensures.into_iter_gives ∙ c.members_of-c-items.ensures in
    (search rules, filtering_starts (search rules) left)

pub loop-c-preserved-then-count-le-MOST_SWAPPED : goal.loop-c-preserved-then-count-le-MOST_SWAPPED
loop-c-preserved-then-count-le-MOST_SWAPPED c =
    let is = counted (goal.at.loop-c-preserved-then-count-le-MOST_SWAPPED c).After-count in (
      search rules,
      filtering_keeps c.loop-c.invariant.1 c.in-Some.ensures.steps c.insert-kept.ensures (omega (arith, is, c.if-count-le-MOST_SWAPPED.true)),
    )

pub loop-c-preserved : goal.loop-c-preserved
loop-c-preserved c =
    let is = counted (goal.at.loop-c-preserved c).After-count in (
      c.loop-c.invariant.0,
      filtering_drops c.loop-c.invariant.1 c.in-Some.ensures.steps (λ few. omega (arith, few, is, c.if-count-le-MOST_SWAPPED.false)),
    )

pub returns : goal.returns
returns c = filtering_ends c.loop-c.invariant.1 c.in-None.ensures.steps.0
