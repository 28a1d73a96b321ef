-- The numbers 15, 16 and 17: none applies exactly if the model on the M line is wanted and is one, or none is wanted and there is
-- no M line. With entailment this says what acceptance means.
use Prim.Native.Nat.{ℕ}
use mathlib.Core.Path.{◌≡◌, subst}
use mathlib.Core.List.{List}
use mathlib.Core.Option.{Option, none, some}
use mathlib.Core.Logic.{◌↔◌}
use lib.ListN.{length}
use borrow.Author.Tests.{ltb-false, le-ltb}
use Rattle.equilibrium.specs.Formula.{Formula}
use Rattle.equilibrium.specs.Meaning.{◌≈◌, Holds, Entails}
use Rattle.equilibrium.proofs.Models.{equilibrium?, sheet_same}
use Rattle.format.specs.Tests.{first}
use Rattle.format.specs.Model.{contradiction?, most_in_model, model_tests, ModelFits, model_fits, none_wanted}
use Rattle.format.specs.Model.{Shown, model_shown, contradiction_shown}
use Rattle.format.proofs.Booleans.{no_iff, yes_iff}
use Rattle.format.proofs.Tested.{passes}

module _ (L R : List Formula) where
  -- 15, 16 and 17 pass exactly if the model fits
  pub model_passes_iff : (m : Option (List ℕ)) → (first (model_tests L R m) ≡ none) ↔ ModelFits L R m
  model_passes_iff none = (λ e. none_wanted ((no_iff (contradiction? R)).0 (passes 15 (model_tests L R none) e)), from)
    where
      from : ModelFits L R none → first (model_tests L R none) ≡ none
      from (none_wanted c) = rw ((no_iff (contradiction? R)).1 c)
  model_passes_iff (some T) = (to, from)
    where
      to : first (model_tests L R (some T)) ≡ none → ModelFits L R (some T)
      to e =
          let wanted = (yes_iff (contradiction? R)).0 (passes 15 (model_tests L R (some T)) e) in
          let few = ltb-false most_in_model (length T) (passes 16 (model_tests L R (some T)) e) in
          model_fits wanted few ((no_iff (equilibrium? L T)).0 (passes 17 (model_tests L R (some T)) e))

      from : ModelFits L R (some T) → first (model_tests L R (some T)) ≡ none
      from (model_fits wanted few e) =
          rw ((yes_iff (contradiction? R)).1 wanted, le-ltb most_in_model (length T) few, (no_iff (equilibrium? L T)).1 e)

  -- what is entailed and has a model that fits is shown: a claim of nothing but falsum holds only where there is no equilibrium model
  pub fitting_shown : {m : Option (List ℕ)} → Entails L R → ModelFits L R m → Shown L R m
  fitting_shown entailed (model_fits wanted few e) = model_shown e
  fitting_shown entailed (none_wanted c) =
      contradiction_shown c (λ T e. let s = entailed T e in subst (Holds T T) (c s.0 s.1) s.2)

-- whether a model fits is a matter of the two sides as sets
pub fits_same : {L M R S : List Formula} {m : Option (List ℕ)} → L ≈ M → R ≈ S → ModelFits L R m → ModelFits M S m
fits_same l r (model_fits wanted few e) = model_fits (λ c. wanted (λ A i. c A (r.0 A i))) few (sheet_same l e)
fits_same l r (none_wanted c) = none_wanted (λ A i. c A (r.1 A i))
