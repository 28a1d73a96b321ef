-- `lines::model::settle_model` meets its contract. Assumes nothing.
use mathlib.Core.List.{List}
use mathlib.Core.Path.{ap, subst, ◌∙◌}
use Prim.Native.Nat.{ℕ}
use Rattle.std.specs.Prelude.{Ok, Err}
use Rattle.std.proofs.lemmas.Result.{err_from_is_err_and}
use Rattle.refusals.specs.declared.Refusal.{Refusal}
use Rattle.refusals.specs.Refusals.{outcome}
use Rattle.state.specs.declared.State.{State}
use Rattle.lines.specs.ModelLines.{WordRead}
use Rattle.lines.proofs.ModelLines.{settled_refused, settled_modelled}
use Rattle.lines.proofs.model.settle_model.Goals as goal

pub returns-in_err-atoms_number : goal.returns-in_err-atoms_number
returns-in_err-atoms_number c =
    let p = err_from_is_err_and c.from_residual.result c.from_residual.ensures.1 in
    settled_refused _ _ _ _ _ _ c.atoms_number.ensures _ (ap outcome c.in_err-atoms_number.was) (p.1 ∙ ap (λ (e : Refusal). Err e) p.2)

pub returns : goal.returns
returns c =
    settled_modelled _ _ _ _ _ _ c.atoms_number.ensures (ap outcome c.in_ok-atoms_number.was) _
    (subst (λ (xs : List ℕ). WordRead xs c.atoms_word.result) c.front.ensures c.atoms_word.ensures) (ap (λ (s : State). Ok s) c.modelled.ensures)
