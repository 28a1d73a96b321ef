-- `lines::claim::settle_claim` meets its contract. Assumes nothing.
use Prim.Native.Nat.{ℕ}
use mathlib.Core.List.{List}
use mathlib.Core.Path.{◌≡◌, refl, ap, ap₂, subst, ◌∙◌}
use Rattle.std.specs.Prelude.{Option as Answer, Ok}
use Rattle.std.specs.Option.{is_some, unwrap_or}
use Rattle.models.specs.Models.{ModelNumbered}
use Rattle.format.specs.Tests.{last_is}
use Rattle.refusals.specs.Refusals.{outcome}
use Rattle.state.specs.declared.State.{State}
use Rattle.lines.proofs.ClaimLines.{model_told, settled_early, settled_differs, settled_unconfirmed, settled_claimed}
use Rattle.lines.proofs.claim.settle_claim.Goals as goal

-- what is told of the model, by what was handed over
told : {formulas xs ys zs ws : List ℕ} {m m' : Answer ℕ} {n : ℕ} → m ≡ m' → xs ≡ zs → ys ≡ ws
    → ModelNumbered formulas xs ys (is_some m) (unwrap_or m 0) n → ModelNumbered formulas zs ws (is_some m') (unwrap_or m' 0) n
told {formulas} {zs = zs} {ws} {n = n} same e k h =
    subst (λ (m : Answer ℕ). ModelNumbered formulas zs ws (is_some m) (unwrap_or m 0) n) same (model_told e k h)

pub returns-in-Err : goal.returns-in-Err
returns-in-Err c = settled_early _ _ _ _ _ _ _ _ _ _ _ _ c.claim_number.ensures _ (ap outcome c.in-Err.is) refl

pub returns-then-not-last_is : goal.returns-then-not-last_is
returns-then-not-last_is c =
    settled_differs _ _ _ _ _ _ _ _ _ _ _ _ c.claim_number.ensures (ap outcome c.in_default.is) _
    (λ held holds e. c.last_is.ensures.held held holds e ∙ ap₂ (last_is held) c.front.ensures c.front-2.ensures)
    (c.if-not-last_is.true) refl

pub returns-in-Err-model_number : goal.returns-in-Err-model_number
returns-in-Err-model_number c =
    settled_unconfirmed _ _ _ _ _ _ _ _ _ _ _ _ c.claim_number.ensures (ap outcome c.in_default.is) _
    (λ held holds e. c.last_is.ensures.held held holds e ∙ ap₂ (last_is held) c.front.ensures c.front-2.ensures)
    c.if-not-last_is.false _
    (told c.model_before-model.ensures c.front.ensures c.front-2.ensures c.model_number.ensures)
    _ (ap outcome c.in-Err-model_number.is) _ c.model_report.ensures refl

pub returns : goal.returns
returns c =
    settled_claimed _ _ _ _ _ _ _ _ _ _ _ _ c.claim_number.ensures (ap outcome c.in_default.is) _
    (λ held holds e. c.last_is.ensures.held held holds e ∙ ap₂ (last_is held) c.front.ensures c.front-2.ensures)
    c.if-not-last_is.false _
    (told c.model_before-model.ensures c.front.ensures c.front-2.ensures c.model_number.ensures) (ap outcome c.in_default-model_number.is) (ap (λ (s : State). Ok s) c.claimed.ensures)
