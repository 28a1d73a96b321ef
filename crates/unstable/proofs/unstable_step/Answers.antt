-- `unstable::unstable_step` meets its contract: each test is one that is asked for, and all of them are what is asked.
use mathlib.Core.Bool.{false≢true}
use native.Mathlib.Omega.{arith}
use mathlib.Core.Path.{refl, sym, ◌∙◌}
use Rattle.atomset.specs.AtomSet.{members}
use Rattle.format.proofs.Equal.{same_iff}
use Rattle.unstable.proofs.Steps.{more_there}
use Rattle.unstable.proofs.Words.{atoms_word, difference_word}
use Rattle.unstable.proofs.Tests.{
  lefts_differ,
  first_not_one,
  second_not_one,
  no_atoms,
  no_choice,
  read_by,
  none_chosen,
  not_joined,
  by_fixes,
}
use borrow.Author.Rules.{rules}
use Rattle.unstable.proofs.unstable_step.Goals as goal

pub returns-then-not-same : goal.returns-then-not-same
returns-then-not-same c = lefts_differ _ _ _ _ _ _ _ (λ e. false≢true (sym (c.if-not-same.true) ∙ c.same.ensures ∙ (same_iff _ _).1 e))

pub returns-in_default : goal.returns-in_default
returns-in_default c = first_not_one _ _ _ _ _ _ _ (λ e. omega arith)

pub returns-in_default-2 : goal.returns-in_default-2
returns-in_default-2 c = first_not_one _ _ _ _ _ _ _ (λ e. omega arith)

pub returns-in_default-right : goal.returns-in_default-right
returns-in_default-right c = second_not_one _ _ _ _ _ _ _ (λ e. omega arith)

pub returns-in_default-right-2 : goal.returns-in_default-right-2
returns-in_default-right-2 c = second_not_one _ _ _ _ _ _ _ (λ e. omega arith)

pub returns-then-is_empty : goal.returns-then-is_empty
returns-then-is_empty c =
    let is-v = atoms_word _ _ _ (search rules) c.atoms_of_side-v.ensures in
    no_atoms _ _ _ _ _ _ _ is-v c.is_empty.ensures c.if-is_empty.true

pub returns-in_default-choice_by : goal.returns-in_default-choice_by
returns-in_default-choice_by c =
    let is-v = atoms_word _ _ _ (search rules) c.atoms_of_side-v.ensures in
    no_choice _ _ _ _ _ _ _ is-v refl c.in_default-choice_by.ensures

pub returns-then-is_empty-2 : goal.returns-then-is_empty-2
returns-then-is_empty-2 c =
    let same_left = (same_iff _ _).0 (sym c.same.ensures ∙ c.if-not-same.false) in
    let is-v = atoms_word _ _ _ (search rules) c.atoms_of_side-v.ensures in
    let f =
    read_by c.args.formulas.now c.args.notes.now c.args.left.now c.args.one.left.now
    c.args.one.right.now c.args.two.left.now c.args.two.right.now is-v refl c.in-Some.ensures same_left
    (omega arith) (omega arith) c.is_empty.ensures c.if-is_empty.false (search rules) in
    none_chosen _ _ _ _ _ _ _ is-v f.1 f.2 c.is_empty-2.ensures c.if-is_empty-2.true

pub returns-then-not-joins_middles : goal.returns-then-not-joins_middles
returns-then-not-joins_middles c =
    let same_left = (same_iff _ _).0 (sym c.same.ensures ∙ c.if-not-same.false) in
    let is-v = atoms_word _ _ _ (search rules) c.atoms_of_side-v.ensures in
    let f =
    read_by c.args.formulas.now c.args.notes.now c.args.left.now c.args.one.left.now
    c.args.one.right.now c.args.two.left.now c.args.two.right.now is-v refl c.in-Some.ensures same_left
    (omega arith) (omega arith) c.is_empty.ensures c.if-is_empty.false (search rules) in
    let first = more_there (members c.in-Some.set) c.is_empty-2.ensures c.if-is_empty-2.false in
    not_joined _ _ _ _ _ _ _ is-v f.1 f.2 first c.joins_middles.ensures (c.if-not-joins_middles.true)

pub returns : goal.returns
returns c =
    let same_left = (same_iff _ _).0 (sym c.same.ensures ∙ c.if-not-same.false) in
    let is-v = atoms_word _ _ _ (search rules) c.atoms_of_side-v.ensures in
    let f =
    read_by c.args.formulas.now c.args.notes.now c.args.left.now c.args.one.left.now
    c.args.one.right.now c.args.two.left.now c.args.two.right.now is-v refl c.in-Some.ensures same_left
    (omega arith) (omega arith) c.is_empty.ensures c.if-is_empty.false (search rules) in
    let first = more_there (members c.in-Some.set) c.is_empty-2.ensures c.if-is_empty-2.false in
    let rest = difference_word _ _ _ (search rules) c.difference.ensures in
    by_fixes _ _ _ _ _ _ _ is-v f.1 f.2 first c.joins_middles.ensures rest (c.if-not-joins_middles.false) c.fixes.ensures
