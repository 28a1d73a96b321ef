-- `lines::formula::formula_line` meets its contract: a bad line, a number that the formula earns, or the formula entered. Assumes
-- nothing.
use mathlib.Core.Path.{refl, ap, ◌∙◌}
use Rattle.std.specs.Prelude.{Ok, Err}
use Rattle.std.proofs.lemmas.Result.{err_from_is_err_and}
use Rattle.refusals.specs.declared.Refusal.{Refusal}
use Rattle.refusals.specs.declared.Refusal.TheVariants.{Full}
use Rattle.format.specs.File.{in_formulas}
use Rattle.format.specs.Tests.{rank}
use Rattle.counts.specs.declared.Counts.{Counts}
use Rattle.known.specs.declared.NoEntry.{NoEntry}
use Rattle.refusals.specs.Refusals.{outcome}
use Rattle.state.specs.State.{passed_by}
use Rattle.state.specs.declared.State.{State}
use Rattle.lines.proofs.LineLaws.{line_bad}
use Rattle.lines.proofs.FormulaLines.{
  formula_miscounted,
  formula_unnumbered,
  formula_unwritten,
  formula_read,
  formula_early,
  formula_held,
  formula_full,
  formula_new,
}
use Rattle.lines.proofs.formula.formula_line.Goals as goal

pub returns-then-line-ne5 : goal.returns-then-line-ne5
returns-then-line-ne5 c text at number t = line_bad _ (formula_miscounted _ _ c.args.line.fielded c.requires c.if-line-ne5.true) refl

pub returns-in_default : goal.returns-in_default
returns-in_default c text at number t =
    line_bad _ (formula_unnumbered _ _ c.args.line.fielded c.requires c.if-line-ne5.false c.field.ensures c.read_number.ensures c.in_default.is) refl

pub returns-in_default-node : goal.returns-in_default-node
returns-in_default-node c text at number t =
    let bad =
    formula_unwritten _ _ c.args.line.fielded c.requires c.if-line-ne5.false c.field.ensures c.read_number.ensures c.in-Some.is c.field-2.ensures c.field-3.ensures
    c.field-4.ensures c.read_node-node.ensures c.in_default-node.is in
    line_bad _ bad refl

pub returns-in_err-formula_number : goal.returns-in_err-formula_number
returns-in_err-formula_number c =
    let p = err_from_is_err_and c.from_residual.result c.from_residual.ensures.1 in
    let read =
    formula_read _ _ c.args.line.fielded c.requires c.if-line-ne5.false c.field.ensures c.read_number.ensures c.in-Some.is c.field-2.ensures c.field-3.ensures c.field-4.ensures
    c.read_node-node.ensures c.in-Some-node.is in
    formula_early _ _ _ _ _ _ _ c.formula_number.ensures read _ (ap outcome c.in_err-formula_number.was) (p.1 ∙ ap (λ (e : Refusal). Err e) p.2)

pub returns-in-Err-Held : goal.returns-in-Err-Held
returns-in-Err-Held c =
    let read =
    formula_read _ _ c.args.line.fielded c.requires c.if-line-ne5.false c.field.ensures c.read_number.ensures c.in-Some.is c.field-2.ensures c.field-3.ensures c.field-4.ensures
    c.read_node-node.ensures c.in-Some-node.is in
    formula_held _ _ _ _ _ _ _ c.formula_number.ensures read (ap outcome c.in_ok-formula_number.was) c.record_of.ensures
    c.enter_formula.ensures _ (c.in-Err-Held.is ∙ ap (λ (e : NoEntry). Err e) c.in-Err-Held.field-0-is) refl

pub returns-in-Err-Full : goal.returns-in-Err-Full
returns-in-Err-Full c =
    let read =
    formula_read _ _ c.args.line.fielded c.requires c.if-line-ne5.false c.field.ensures c.read_number.ensures c.in-Some.is c.field-2.ensures c.field-3.ensures c.field-4.ensures
    c.read_node-node.ensures c.in-Some-node.is in
    formula_full _ _ _ _ _ _ _ c.formula_number.ensures read (ap outcome c.in_ok-formula_number.was) c.record_of.ensures
    c.enter_formula.ensures (Err Full) (c.in-Err-Full.is ∙ ap (λ (e : NoEntry). Err e) c.in-Err-Full.field-0-is)

pub returns-in-Ok : goal.returns-in-Ok
returns-in-Ok c =
    let read =
    formula_read _ _ c.args.line.fielded c.requires c.if-line-ne5.false c.field.ensures c.read_number.ensures c.in-Some.is c.field-2.ensures c.field-3.ensures c.field-4.ensures
    c.read_node-node.ensures c.in-Some-node.is in
    formula_new _ _ _ _ _ _ _ c.formula_number.ensures read (ap outcome c.in_ok-formula_number.was) c.record_of.ensures
    c.enter_formula.ensures _ c.in-Ok.is
    (ap (λ (s : State). Ok s) (c.passed.ensures ∙ ap (λ (x : Counts). passed_by c.args.state x (rank in_formulas)) c.with_formula.ensures))
