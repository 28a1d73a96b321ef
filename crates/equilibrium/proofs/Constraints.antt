-- Constraints only sharpen. Facts do not, and a constraint can leave no model.
use Prim.Native.Nat.{ℕ}
use mathlib.Core.List.{List, [], ◌∷◌}
use mathlib.Core.Logic.{◌↔◌}
use native.Mathlib.Decide.{ℕ_discrete}
use Rattle.equilibrium.specs.Formula.{Formula, neg}
use Rattle.equilibrium.specs.Meaning.{◌⊆◌, Holds, Equilibrium}
use Rattle.equilibrium.specs.Examples.{a}
use Rattle.equilibrium.specs.Constraints.{Constraint, negated, falsum_follows, ModelsKept, ConstraintsSharpen, FactTakesBack, ConstraintLeavesNone}
use Rattle.equilibrium.proofs.Sets.{from_yes}
use Rattle.equilibrium.proofs.Satisfaction.{persists, all_cons, all_head, all_tail}
use Rattle.equilibrium.proofs.Models.{carry, keep, equilibrium?}
use Rattle.equilibrium.proofs.Examples.{default_holds, no_weakening_left}

-- a constraint holds in (H,T), H inside T, exactly if A fails in (T,T): it cannot tell H from T
constraint_holds : {A C : Formula} {H T : List ℕ} → Constraint A C → H ⊆ T → Holds H T C ↔ (Holds T T A → ⊥)
constraint_holds negated s = (λ n. n, λ n. n)
constraint_holds {A} falsum_follows s = (λ f. f.0, λ n. (n, λ h. n (persists s A h)))

pub models_kept : ModelsKept
models_kept A C k L T = (λ h. keep ((constraint_holds k (λ p m. m)).1 h.1) h.0, back)
  where
    back : Equilibrium (C ∷ L) T → Equilibrium L T × (Holds T T A → ⊥)
    back e =
        let fails = (constraint_holds k (λ p m. m)).0 (all_head e.model) in
        (carry (all_tail e.model) (λ H s h. all_cons ((constraint_holds k s).1 fails) h) e, fails)

pub constraints_sharpen : ConstraintsSharpen
constraints_sharpen A C k L R entailed T e = entailed T ((models_kept A C k L T).1 e).0

pub fact_takes_back : FactTakesBack
fact_takes_back = (default_holds, no_weakening_left)

pub constraint_leaves_none : ConstraintLeavesNone
unfolding equilibrium? ℕ_discrete
constraint_leaves_none = (
  from_yes (equilibrium? (a ∷ []) (0 ∷ [])) tt,
  λ T e. let kept = (models_kept a (neg a) negated (a ∷ []) T).1 e in kept.1 (all_head kept.0.model),
)
