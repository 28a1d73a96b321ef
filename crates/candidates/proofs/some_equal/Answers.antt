use mathlib.Core.Bool.{true≢false}
use Prim.Native.Nat.{ℕ}
use mathlib.Core.List.{List, ◌∷◌}
use mathlib.Core.Path.{refl, sym, ap, ◌∙◌}
use borrow.Author.Rules.{rules}
use Rattle.atomset.specs.AtomSet.{Member}
use Rattle.atomset.specs.Walk.{members_left}
use Rattle.atomset.proofs.Members.{walk_ends, walk_goes_on}
use Rattle.alike.proofs.Choosing.{some_first}
use Rattle.candidates.proofs.Seeking.{seeking_starts, seeking_passes, seeking_goes_on, seeking_finds, seeking_finds_first, seeking_ends}
use Rattle.candidates.proofs.some_equal.Goals as goal
use Rattle.candidates.proofs.some_equal.Goals.{After-first}

-- the first candidate is one
begins : (c : After-first) → Member c.first.result c.args.narrow
begins c =
    let narrow = c.args.narrow in
    some_first narrow _ (sym c.is_empty.ensures ∙ c.if-is_empty.false) (search rules) c.first.ensures

pub returns-then-is_empty : goal.returns-then-is_empty
returns-then-is_empty c = seeking_ends (seeking_starts (search rules)) (walk_ends _ (sym c.is_empty.ensures ∙ c.if-is_empty.true))

pub judge_group-requires : goal.judge_group-requires
judge_group-requires c = (begins c, c.requires _ (begins c))

pub judge_group-requires-then-contains : goal.judge_group-requires-then-contains
judge_group-requires-then-contains c =
    let here = sym c.contains.ensures ∙ c.if-contains.true in
    (here, c.requires _ (c.loop-c.invariant.pending_narrow _ here))

pub loop-c-preserved-then-contains : goal.loop-c-preserved-then-contains
loop-c-preserved-then-contains c =
    seeking_goes_on c.loop-c.invariant c.in-Some-c.ensures.steps c.in-Some-judge_group.ensures refl (search rules) c.difference-pending-then-contains.ensures

pub loop-c-init : goal.loop-c-init
loop-c-init c =
    let narrow = c.args.narrow in
    let left = ap members_left c.into_iter-c-iterator.ensures.into_iter_gives ∙ c.members_of-c-items.ensures in
    let first = walk_goes_on narrow _ _ (sym c.is_empty.ensures ∙ c.if-is_empty.false) c.first.ensures c.without_first.ensures in
    seeking_goes_on (seeking_starts (search rules)) (first ∙ ap (λ (rest : List ℕ). c.first.result ∷ rest) (sym left))
    c.in-Some.ensures refl (search rules) c.difference-pending.ensures

pub loop-c-preserved : goal.loop-c-preserved
loop-c-preserved c =
    seeking_passes c.loop-c.invariant c.in-Some-c.ensures.steps (λ m. true≢false (sym m ∙ sym c.contains.ensures ∙ c.if-contains.false))

pub returns : goal.returns
returns c = seeking_ends c.loop-c.invariant c.in-None.ensures.steps.0
