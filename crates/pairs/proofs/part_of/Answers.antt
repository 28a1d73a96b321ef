use mathlib.Core.Path.{ap, ◌∙◌}
use borrow.Author.Rules.{rules}
use Rattle.atomset.specs.Walk.{members_left}
use Rattle.pairs.proofs.PartWords.{taken_none, taken_next, taken_all}
use Rattle.pairs.proofs.part_of.Goals as goal

pub loop-atom-init : goal.loop-atom-init
loop-atom-init c =
    let args = c.args in (
      search rules,
      taken_none args.set args.n _ (ap members_left c.into_iter-atom-iterator.ensures.into_iter_gives ∙ c.members_of-atom-items.ensures),
    )

pub loop-atom-preserved : goal.loop-atom-preserved
loop-atom-preserved c =
    let args = c.args in (
      search rules,
      taken_next args.set args.n _ _ _ _ _ _ c.in-Some.ensures.steps c.with_digit-taken.ensures c.loop-atom.invariant.1,
    )

pub returns : goal.returns
returns c =
    let args = c.args in
    taken_all args.set args.n c.loop-atom.taken _ c.loop-atom.digits c.loop-atom.invariant.0 c.in-None.ensures.steps.0 c.loop-atom.invariant.1
