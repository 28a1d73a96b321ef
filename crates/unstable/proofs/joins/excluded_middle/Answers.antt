-- `unstable::joins::excluded_middle` meets its contract: a disjunction of p and ~p.
use mathlib.Core.Bool.{not, true≢false}
use mathlib.Core.Path.{refl, sym, ap, ◌∙◌}
use borrow.Author.Tests.{not-false, eq-eqb, eqb-true}
use Rattle.unstable.specs.Joins.{disjuncts}
use Rattle.unstable.proofs.Arms.{no_disjuncts}
use Rattle.unstable.proofs.Steps.{is_plain, is_negated, middle_none, middle_fails, middle_by}
use Rattle.unstable.proofs.joins.excluded_middle.Goals as goal

pub returns-in_default : goal.returns-in_default
returns-in_default c =
    let none_there = no_disjuncts c.shape_of-s.result c.in_default.not-Disjunction in
    sym (middle_none _ _ _ (ap disjuncts (sym c.shape_of-s.ensures.answer) ∙ none_there))

pub returns-then-ne : goal.returns-then-ne
returns-then-ne c =
    let is-either = sym c.shape_of-s.ensures.answer ∙ c.in-Disjunction.is in
    let other = sym c.ne.ensures ∙ c.if-ne.true in
    sym (middle_fails _ _ _ is-either c.sign_in.ensures
    (λ e. true≢false (sym other ∙ ap not (is_plain _ refl refl c.sign_in.result ∙ eq-eqb _ 1 e))))

pub returns : goal.returns
returns c =
    let is-either = sym c.shape_of-s.ensures.answer ∙ c.in-Disjunction.is in
    let plain = sym (is_plain _ refl refl c.sign_in.result) ∙ not-false _ (sym c.ne.ensures ∙ c.if-ne.false) in
    c.eq.ensures ∙ is_negated _ refl refl c.sign_in-2.result
    ∙ sym (middle_by _ _ _ is-either c.sign_in.ensures (eqb-true _ 1 plain) c.sign_in-2.ensures)
