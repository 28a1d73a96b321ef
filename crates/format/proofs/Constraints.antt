-- Constraints that join the sheet of an accepted text: its claim is entailed as before, and its M line serves as long as its model
-- does not satisfy what is shut out.
use Prim.Native.Nat.{ℕ}
use mathlib.Core.Path.{sym, subst₂}
use mathlib.Core.List.{List, ◌∷◌}
use mathlib.Core.Option.{Option, none, some}
use mathlib.Core.Logic.{◌↔◌}
use lib.ListN.{length}
use borrow.Author.Tests.{le-ltb}
use Rattle.equilibrium.specs.Formula.{Formula}
use Rattle.equilibrium.specs.Meaning.{Entails}
use Rattle.equilibrium.specs.Constraints.{Constraint}
use Rattle.equilibrium.proofs.Models.{equilibrium?, entails_iff}
use Rattle.equilibrium.proofs.Constraints.{models_kept, constraints_sharpen}
use Rattle.format.specs.File.{decoded}
use Rattle.format.specs.Model.{contradiction?, most_in_model, ModelFits, model_fits, none_wanted}
use Rattle.format.specs.Model.{Shown, model_shown, contradiction_shown}
use Rattle.format.specs.Judged.{nodes_in, model_in}
use Rattle.format.specs.Constraints.{Unsatisfied, AcceptedSharpened, JudgedAfresh, ModelAfresh}
use Rattle.format.proofs.Booleans.{is_no_lem, yes_iff}
use Rattle.format.proofs.ModelFits.{model_passes_iff}
use Rattle.format.proofs.Accepted.{accepted_holds, accepted_shown}

module _ {A C : Formula} (k : Constraint A C) (L R : List Formula) where
  -- what fitted passes exactly if the model does not satisfy A
  fitting_afresh : (m : Option (List ℕ)) → ModelFits L R m → JudgedAfresh L R m A C
  fitting_afresh none (none_wanted c) = record { passes = λ u. (model_passes_iff (C ∷ L) R none).1 (none_wanted c); earns_17 = λ n. absurd (n tt) }
  fitting_afresh (some T) (model_fits wanted few e) =
      record {
        passes = λ u. (model_passes_iff (C ∷ L) R (some T)).1 (model_fits wanted few ((models_kept A C k L T).0 (e, u)));
        earns_17 = λ n. let lost = is_no_lem (equilibrium? (C ∷ L) T) (λ q. n ((models_kept A C k L T).1 q).1) in
            rw ((yes_iff (contradiction? R)).1 wanted, le-ltb most_in_model (length T) few, lost);
      }

  -- and what was shown is shown exactly then
  shown_afresh : (m : Option (List ℕ)) → Shown L R m → Shown (C ∷ L) R m ↔ Unsatisfied A m
  shown_afresh none (contradiction_shown c n) = (λ s. tt, λ u. contradiction_shown c (λ T e. n T ((models_kept A C k L T).1 e).0))
  shown_afresh (some T) (model_shown e) = (to, λ u. model_shown ((models_kept A C k L T).0 (e, u)))
    where
      to : Shown (C ∷ L) R (some T) → Unsatisfied A (some T)
      to (model_shown q) = ((models_kept A C k L T).1 q).1

pub accepted_sharpened : AcceptedSharpened
accepted_sharpened t text n e line left right m is A C k = record { entailed = entailed; shown = shown_afresh k _ _ (model_in text) before }
  where
    entailed : Entails (C ∷ decoded (nodes_in text) left) (decoded (nodes_in text) right)
    entailed =
        constraints_sharpen A C k _ _
        (entails_iff.1 (λ f. accepted_holds t text n e (record { line = line; left = left; right = right; in_text = m; is_claim = is; fails = f })))

    before : Shown (decoded (nodes_in text) left) (decoded (nodes_in text) right) (model_in text)
    before =
        let s = accepted_shown t text n e in
        let own = s.only line left right m is in
        subst₂ (λ (l r : List ℕ). Shown (decoded (nodes_in text) l) (decoded (nodes_in text) r) (model_in text)) (sym own.0) (sym own.1) s.shown

pub model_afresh : ModelAfresh
model_afresh A C k L R m e = fitting_afresh k L R m ((model_passes_iff L R m).0 e)
