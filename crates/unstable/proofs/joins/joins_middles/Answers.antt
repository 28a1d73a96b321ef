use mathlib.Core.Path.{sym, ap, ap₂, ◌∙◌}
use Rattle.atomset.specs.AtomSet.{members}
use Rattle.unstable.specs.Joins.{conjuncts, middles_in}
use Rattle.unstable.proofs.Arms.{no_conjuncts}
use Rattle.unstable.proofs.Steps.{walk_falls, middles_stop, middles_fail, middles_next, middles_end}
use Rattle.unstable.proofs.joins.joins_middles.Goals as goal

pub loop-s-init : goal.loop-s-init
loop-s-init c = ap₂ (middles_in c.args.formulas.now c.args.e) (sym c.first-p.ensures) (sym c.without_first-rest.ensures)

pub returns-in_default : goal.returns-in_default
returns-in_default c =
    let none_there = no_conjuncts c.shape_of-s.result c.in_default.not-Conjunction in
    sym (c.loop-s.invariant
    ∙ middles_stop _ _ _ _ c.is_empty.ensures c.loop-s-test.true
    (ap conjuncts (sym c.shape_of-s.ensures.answer) ∙ none_there))

pub returns-then-not-excluded_middle : goal.returns-then-not-excluded_middle
returns-then-not-excluded_middle c =
    let is-both = sym c.shape_of-s.ensures.answer ∙ c.in-Conjunction.is in
    sym (c.loop-s.invariant
    ∙ middles_fail _ _ _ _ c.is_empty.ensures c.loop-s-test.true is-both c.excluded_middle.ensures
    (c.if-not-excluded_middle.true))

pub loop-s-smaller : goal.loop-s-smaller
loop-s-smaller c = walk_falls (members c.loop-s.rest) c.is_empty.ensures c.loop-s-test.true _ c.without_first-rest-in-loop-s.ensures

pub loop-s-preserved : goal.loop-s-preserved
loop-s-preserved c =
    let is-both = sym c.shape_of-s.ensures.answer ∙ c.in-Conjunction.is in
    c.loop-s.invariant
    ∙ middles_next _ _ _ _ c.is_empty.ensures c.loop-s-test.true is-both c.excluded_middle.ensures _ _
    (c.if-not-excluded_middle.false) c.first-p-in-loop-s.ensures c.without_first-rest-in-loop-s.ensures

pub returns : goal.returns
returns c = c.excluded_middle-2.ensures ∙ sym (c.loop-s.invariant ∙ middles_end _ _ _ _ c.is_empty.ensures c.loop-s-test.false)
