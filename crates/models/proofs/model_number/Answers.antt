-- `models::model_number` meets its contract: each way out gives the number of the first test that applies. Assumes nothing.
use Prim.Native.Nat.{ℕ}
use native.Mathlib.Omega.{arith}
use mathlib.Core.List.{List}
use mathlib.Core.Path.{◌≡◌, refl, sym, subst, ◌∙◌}
use lib.Dec.{lit<}
use borrow.Author.Rules.{rules}
use Rattle.std.specs.Prelude.{Option, is_some, unwrap_or}
use Rattle.models.specs.Models.{ModelNumbered}
use Rattle.models.proofs.Answering.{none_wanted, missing, unwanted, too_many, passed, upset}
use Rattle.models.proofs.model_number.Goals as goal

module _ {formulas left right : List ℕ} {lent : Option ℕ} (number : ℕ) where
  -- by what is known of the model
  of_model : {model : Option ℕ} → lent ≡ model → ModelNumbered formulas left right (is_some model) (unwrap_or model 0) number
      → ModelNumbered formulas left right (is_some lent) (unwrap_or lent 0) number
  of_model e h = subst (λ (m : Option ℕ). ModelNumbered formulas left right (is_some m) (unwrap_or m 0) number) (sym e) h

pub returns-then-contradiction : goal.returns-then-contradiction
returns-then-contradiction c =
    of_model 0 c.in_default.is (none_wanted _ _ _ _ _ (lit< tt) refl (sym c.only_falsum-contradiction.ensures ∙ c.if-contradiction.true))

pub returns-in_default : goal.returns-in_default
returns-in_default c = of_model 15 c.in_default.is (missing _ _ _ _ _ (lit< tt) refl (sym c.only_falsum-contradiction.ensures ∙ c.if-contradiction.false))

pub returns-then-contradiction-2 : goal.returns-then-contradiction-2
returns-then-contradiction-2 c =
    of_model 15 c.in-Some.is (unwanted _ _ _ _ _ (search rules) refl (sym c.only_falsum-contradiction.ensures ∙ c.if-contradiction-2.true))

pub returns-then-count-gt-MOST_IN_MODEL : goal.returns-then-count-gt-MOST_IN_MODEL
returns-then-count-gt-MOST_IN_MODEL c =
    of_model 16 c.in-Some.is (too_many _ _ _ _ _ (search rules) refl (sym c.only_falsum-contradiction.ensures ∙ c.if-contradiction-2.false)
    (omega (arith, c.count.ensures)))

pub returns-then-in_equilibrium : goal.returns-then-in_equilibrium
returns-then-in_equilibrium c =
    of_model 0 c.in-Some.is (passed _ _ _ _ _ (search rules) refl (sym c.only_falsum-contradiction.ensures ∙ c.if-contradiction-2.false)
    (omega (arith, c.count.ensures)) (sym c.in_equilibrium.ensures ∙ c.if-in_equilibrium.true))

pub returns : goal.returns
returns c =
    of_model 17 c.in-Some.is (upset _ _ _ _ _ (search rules) refl (sym c.only_falsum-contradiction.ensures ∙ c.if-contradiction-2.false)
    (omega (arith, c.count.ensures)) (sym c.in_equilibrium.ensures ∙ c.if-in_equilibrium.false))
