-- Paper 01's examples: the equilibrium models of condition 3, by one computed test over the whole table, and the
-- rows that look sound.
use Prim.Native.Nat.{ℕ}
use mathlib.Core.List.{List, [], ◌∷◌}
use mathlib.Core.Logic.{◌↔◌}
use native.Mathlib.Decide.{ℕ_discrete}
use Rattle.equilibrium.specs.Formula.{neg, disj, imp, atoms_in}
use Rattle.equilibrium.specs.Meaning.{◌∈◌, ◌⊆◌, ◌≈◌, Equilibrium, Entails, Fails}
use Rattle.equilibrium.specs.Examples.{Sheet, Listed, sheets, a, b}
use Rattle.equilibrium.proofs.Sets.{from_yes, from_no, dec_not, dec_iff, dec_all, dec_some, dec_same, dec_part, ≈-sym, ≈-trans, search_parts}
use Rattle.equilibrium.proofs.Models.{equilibrium?, equilibrium_same, only_occurring, entails?, fails_iff}

-- the equilibrium models of the sheet are, as sets, those listed
abbrev pub AsListed : Sheet → Type 0
AsListed s = (T : List ℕ) → Equilibrium s.formulas T ↔ Listed s.models T

unfoldable agrees? : (s : Sheet) (T : List ℕ) → Dec (Equilibrium s.formulas T ↔ Listed s.models T)
unfolding dec_iff equilibrium? dec_some dec_same
agrees? s T = dec_iff (equilibrium? s.formulas T) (dec_some (λ M. dec_same ℕ_discrete T M) s.models)

-- every part of the atoms that occur is tried; beyond them no model is listed and none exists
unfoldable as_listed? : (s : Sheet) → Dec (AsListed s)
unfolding agrees? dec_all dec_part search_parts dec_not
as_listed? s =
    step (dec_all (λ M. dec_part ℕ_discrete M atoms) s.models)
    (search_parts ℕ_discrete atoms (λ T. Agrees T → ⊥) (λ T. dec_not (agrees? s T)) (λ T U e n k. n (same U T (≈-sym e) k)))
  where
    atoms : List ℕ
    atoms = atoms_in s.formulas

    Agrees : List ℕ → Type 0
    Agrees T = Equilibrium s.formulas T ↔ Listed s.models T

    same : (T U : List ℕ) → T ≈ U → Agrees T → Agrees U
    same T U e k = (
      λ q. let l = k.0 (equilibrium_same (≈-sym e) q) in (l.0, l.1, ≈-trans (≈-sym e) l.2),
      λ l. equilibrium_same e (k.1 (l.0, l.1, ≈-trans e l.2)),
    )

    step : Dec ((M : List ℕ) → M ∈ s.models → M ⊆ atoms) → Dec ((T : List ℕ) × (T ⊆ atoms) × (Agrees T → ⊥)) → Dec (AsListed s)
    step (no n) d = no (λ f. n (λ M m. only_occurring ((f M).1 (M, m, (λ x k. k, λ x k. k)))))
    step (yes h) (yes t) = no (λ f. t.2 (f t.0))
    step (yes h) (no n) = yes (λ T. cases T (agrees? s T))
      where
        cases : (T : List ℕ) → Dec (Agrees T) → Agrees T
        cases T (yes k) = k
        cases T (no j) = (λ q. absurd (n (T, only_occurring q, j)), λ l. absurd (n (T, (λ x m. h l.0 l.1 x (l.2.0 x m)), j)))

-- condition 3 of paper 01
pub equilibrium_models : (s : Sheet) → s ∈ sheets → AsListed s
unfolding as_listed? dec_all ℕ_discrete
equilibrium_models = from_yes (dec_all as_listed? sheets) tt

-- Rows that look sound, by the decision of entailment.

-- adding to the left: => ~a holds, a => ~a fails
pub default_holds : Entails [] (neg a ∷ [])
unfolding entails? ℕ_discrete
default_holds = from_yes (entails? [] (neg a ∷ [])) tt

pub no_weakening_left : Fails (a ∷ []) (neg a ∷ [])
unfolding entails? ℕ_discrete
no_weakening_left = fails_iff.1 (from_no (entails? (a ∷ []) (neg a ∷ [])) tt)

-- cautious monotony as document 000 has it (RCM): => ~a and => a|~a hold, yet a|~a => ~a fails
pub excluded_middle_holds : Entails [] (disj a (neg a) ∷ [])
unfolding entails? ℕ_discrete
excluded_middle_holds = from_yes (entails? [] (disj a (neg a) ∷ [])) tt

pub no_cautious_monotony : Fails (disj a (neg a) ∷ []) (neg a ∷ [])
unfolding entails? ℕ_discrete
no_cautious_monotony = fails_iff.1 (from_no (entails? (disj a (neg a) ∷ []) (neg a ∷ [])) tt)

-- `def` wherever p is not itself on the left: q, q->p => ~p fails (q is b, p is a)
pub no_default_under_rules : Fails (b ∷ imp b a ∷ []) (neg a ∷ [])
unfolding entails? ℕ_discrete
no_default_under_rules = fails_iff.1 (from_no (entails? (b ∷ imp b a ∷ []) (neg a ∷ [])) tt)
