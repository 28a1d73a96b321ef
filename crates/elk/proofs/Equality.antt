-- Formulas and kinds can be told apart, by functions that compute.
use Prim.Native.Nat.{ℕ}
use mathlib.Core.Path.{◌≡◌, refl, sym, ap, subst}
use native.Mathlib.Decide.{ℕ_discrete}
use Rattle.equilibrium.specs.Formula.{Formula, falsum, atom, neg, conj, disj, imp}
use Rattle.equilibrium.proofs.Sets.{IsNo, from_no, dec_and, dec_map}
use Rattle.elk.specs.Sequent.{Kind, elk, refutation}

-- the place of a formula's constructor
abbrev connective : Formula → ℕ
connective falsum = 0
connective (atom p) = 1
connective (neg A) = 2
connective (conj A B) = 3
connective (disj A B) = 4
connective (imp A B) = 5

unfoldable differ : {F G : Formula} → IsNo (ℕ_discrete (connective F) (connective G)) → Dec (F ≡ G)
differ t = no (λ e. from_no (ℕ_discrete _ _) t (ap connective e))

unfoldable pub formula_discrete : Discrete Formula
unfolding ℕ_discrete differ dec_map dec_and
formula_discrete falsum =
    elim [ falsum ↦ yes refl | atom q ↦ differ tt | neg C ↦ differ tt | conj C D ↦ differ tt | disj C D ↦ differ tt | imp C D ↦ differ tt ]
formula_discrete (atom p) =
    elim [
      | falsum ↦ differ tt
      | atom q ↦ dec_map (λ e. cc) (λ e. cc)
          (ℕ_discrete p q)
      | neg C ↦ differ tt
      | conj C D ↦ differ tt
      | disj C D ↦ differ tt
      | imp C D ↦ differ tt
    ]
formula_discrete (neg A) =
    elim [
      | falsum ↦ differ tt
      | atom q ↦ differ tt
      | neg C ↦ dec_map
          (λ e. cc) (λ e. cc) (formula_discrete A C)
      | conj C D ↦ differ tt
      | disj C D ↦ differ tt
      | imp C D ↦ differ tt
    ]
formula_discrete (conj A B) =
    elim [
      | falsum ↦ differ tt
      | atom q ↦ differ tt
      | neg C ↦ differ tt
      | conj C D ↦ dec_map
          (λ e. cc) (λ e. (cc, cc)) (dec_and (formula_discrete A C) (formula_discrete B D))
      | disj C D ↦ differ tt
      | imp C D ↦ differ tt
    ]
formula_discrete (disj A B) =
    elim [
      | falsum ↦ differ tt
      | atom q ↦ differ tt
      | neg C ↦ differ tt
      | conj C D ↦ differ tt
      | disj C D ↦ dec_map
          (λ e. cc) (λ e. (cc, cc)) (dec_and (formula_discrete A C) (formula_discrete B D))
      | imp C D ↦ differ tt
    ]
formula_discrete (imp A B) =
    elim [
      | falsum ↦ differ tt
      | atom q ↦ differ tt
      | neg C ↦ differ tt
      | conj C D ↦ differ tt
      | disj C D ↦ differ tt
      | imp C D ↦ dec_map
          (λ e. cc) (λ e. (cc, cc)) (dec_and (formula_discrete A C) (formula_discrete B D))
    ]

abbrev IsElk : Kind → Type 0
IsElk elk = Unit {0}
IsElk refutation = ⊥

unfoldable pub kind_discrete : Discrete Kind
kind_discrete elk elk = yes refl
kind_discrete elk refutation = no (λ e. subst IsElk e tt)
kind_discrete refutation elk = no (λ e. subst IsElk (sym e) tt)
kind_discrete refutation refutation = yes refl
