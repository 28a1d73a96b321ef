use mathlib.Core.Path.{refl, sym, ap, subst, ◌∙◌}
use Rattle.atomset.specs.AtomSet.{members}
use Rattle.unstable.specs.Joins.{conjuncts, choice_in, Chooses}
use Rattle.unstable.proofs.Arms.{no_conjuncts}
use Rattle.unstable.proofs.Steps.{walk_falls, reading_starts, reading_no_conjunction, reading_unsigned, reading_next, sign_there, reading_unsigned_last, reading_ends}
use Rattle.unstable.proofs.joins.choice_by.Goals as goal

pub loop-s-init : goal.loop-s-init
loop-s-init c = reading_starts _ _ _ _ _ c.ranges.v.fits c.first-p.ensures c.without_first-rest.ensures

pub returns-in_default : goal.returns-in_default
returns-in_default c =
    let none_there = no_conjuncts c.shape_of-s.result c.in_default.not-Conjunction in
    reading_no_conjunction c.loop-s.invariant c.is_empty.ensures c.loop-s-test.true
    (ap conjuncts (sym c.shape_of-s.ensures.answer) ∙ none_there)

pub returns-in_err-sign : goal.returns-in_err-sign
returns-in_err-sign c =
    let is-both = sym c.shape_of-s.ensures.answer ∙ c.in-Conjunction.is in
    λ q qs h.
    subst (Chooses (choice_in c.args.formulas.now c.args.k q qs)) (sym c.from_residual.ensures)
    (reading_unsigned c.loop-s.invariant c.is_empty.ensures c.loop-s-test.true is-both c.in_err-sign.ensures refl q qs h)

pub loop-s-smaller : goal.loop-s-smaller
loop-s-smaller c = walk_falls (members c.loop-s.rest) c.is_empty.ensures c.loop-s-test.true _ c.without_first-rest-in-loop-s.ensures

pub loop-s-preserved : goal.loop-s-preserved
loop-s-preserved c =
    let is-both = sym c.shape_of-s.ensures.answer ∙ c.in-Conjunction.is in
    reading_next c.loop-s.invariant c.is_empty.ensures c.loop-s-test.true is-both c.in_ok-sign.ensures
    _ _ _ (sign_there _) c.with_sign-set.ensures c.first-p-in-loop-s.ensures c.without_first-rest-in-loop-s.ensures

pub returns-in_err-sign-2 : goal.returns-in_err-sign-2
returns-in_err-sign-2 c =
    λ q qs h.
    subst (Chooses (choice_in c.args.formulas.now c.args.k q qs)) (sym c.from_residual-in_err-sign-2.ensures)
    (reading_unsigned_last c.loop-s.invariant c.is_empty.ensures c.loop-s-test.false c.in_err-sign-2.ensures refl q qs h)

pub returns : goal.returns
returns c =
    reading_ends c.loop-s.invariant c.is_empty.ensures c.loop-s-test.false c.in_ok-sign-2.ensures _
    (sign_there _) c.with_sign.ensures
