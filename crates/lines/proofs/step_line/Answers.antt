-- `lines::step_line` meets its contract: the kind of the line picks the function that judges it. Assumes nothing.
use native.Mathlib.Omega.{arith}
use mathlib.Core.List.{[]}
use mathlib.Core.Path.{ap, ◌∙◌}
use Rattle.keywords.specs.declared.Kind.{Kind}
use Rattle.keywords.specs.declared.Kind.TheVariants.{Atom, Formula, Row, Model, Claim}
use Rattle.std.specs.Prelude.{None, Some}
use Rattle.state.specs.State.{tables}
use Rattle.lines.proofs.Dispatch.{kind_is, stepped_outside, stepped, stepped_unknown}
use Rattle.lines.proofs.step_line.Goals as goal

pub returns-then-end-text : goal.returns-then-end-text
returns-then-end-text c = stepped_outside _ _ _ _ _ _ _ (λ h. let within = h.1 in omega arith) c.on_line.ensures

pub returns-then-start-end : goal.returns-then-start-end
returns-then-start-end c = stepped_outside _ _ _ _ _ _ _ (λ h. let ordered = h.0 in omega arith) c.on_line-then-start-end.ensures

pub atom_line-requires : goal.atom_line-requires
atom_line-requires c = (
  omega arith,
  omega arith,
  c.read-line.ensures,
  kind_is _ (Some Atom) c.field.ensures c.line_kind.ensures (c.in-Some-Atom.is ∙ ap (λ (k : Kind). Some k) c.in-Some-Atom.field-0-is),
)

pub formula_line-requires : goal.formula_line-requires
formula_line-requires c = kind_is _ (Some Formula) c.field.ensures c.line_kind.ensures (c.in-Some-Formula.is ∙ ap (λ (k : Kind). Some k) c.in-Some-Formula.field-0-is)

pub row_line-requires : goal.row_line-requires
row_line-requires c = kind_is _ (Some Row) c.field.ensures c.line_kind.ensures (c.in-Some-Row.is ∙ ap (λ (k : Kind). Some k) c.in-Some-Row.field-0-is)

pub model_line-requires : goal.model_line-requires
model_line-requires c = kind_is _ (Some Model) c.field.ensures c.line_kind.ensures (c.in-Some-Model.is ∙ ap (λ (k : Kind). Some k) c.in-Some-Model.field-0-is)

pub claim_line-requires : goal.claim_line-requires
claim_line-requires c = kind_is _ (Some Claim) c.field.ensures c.line_kind.ensures (c.in-Some-Claim.is ∙ ap (λ (k : Kind). Some k) c.in-Some-Claim.field-0-is)

pub returns-in-Some-Atom : goal.returns-in-Some-Atom
returns-in-Some-Atom c = stepped _ _ _ _ _ _ (omega arith) (omega arith) c.read-line.ensures _ _ (rw c.on_line-in-Some-Atom.ensures (c.atom_line.ensures _ (tables [] _ _ _ _ _)))

pub returns-in-Some-Formula : goal.returns-in-Some-Formula
returns-in-Some-Formula c = stepped _ _ _ _ _ _ (omega arith) (omega arith) c.read-line.ensures _ _ (rw c.on_line-in-Some-Formula.ensures (c.formula_line.ensures _ _ _ (tables _ [] [] _ _ _)))

pub returns-in-Some-Row : goal.returns-in-Some-Row
returns-in-Some-Row c = stepped _ _ _ _ _ _ (omega arith) (omega arith) c.read-line.ensures _ _ (rw c.on_line-in-Some-Row.ensures (c.row_line.ensures _ _ _ (tables _ [] [] [] [] [])))

pub returns-in-Some-Model : goal.returns-in-Some-Model
returns-in-Some-Model c = stepped _ _ _ _ _ _ (omega arith) (omega arith) c.read-line.ensures _ _ (rw c.on_line-in-Some-Model.ensures (c.model_line.ensures _ _ _))

pub returns-in-Some-Claim : goal.returns-in-Some-Claim
returns-in-Some-Claim c = stepped _ _ _ _ _ _ (omega arith) (omega arith) c.read-line.ensures _ _ (c.claim_line.ensures _ _ (tables _ [] _ [] [] []))

pub returns-in-None : goal.returns-in-None
returns-in-None c =
    stepped_unknown _ _ _ _ _ _ (omega arith) (omega arith) c.read-line.ensures _
    (kind_is _ None c.field.ensures c.line_kind.ensures c.in-None.is) c.on_line-in-None.ensures
