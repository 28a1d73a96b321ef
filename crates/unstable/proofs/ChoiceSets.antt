-- A choice of S within V as sets of atoms, and the formulas that fix it: ~~p for p in S, ~p for p in the rest.
use Prim.Native.Nat.{ℕ, ◌<◌}
use native.Mathlib.Omega.{arith}
use mathlib.Core.Bool.{Bool, true, false, false≢true}
use mathlib.Core.List.Memᴰ
use mathlib.Core.List.{List, [], ◌∷◌, map}
use mathlib.Core.Logic.{◌↔◌, ◌⊎◌, inl, inr, ⊎_elim}
use mathlib.Core.Path.{◌≡◌, refl, ap, ◌∙◌}
use Rattle.equilibrium.specs.Formula.{Formula, atom, neg, atoms_of, atoms_in}
use Rattle.equilibrium.specs.Meaning.{◌∈◌, ◌⊆◌}
use Rattle.equilibrium.proofs.Satisfaction.{occurs}
use Rattle.elk.specs.Instance.{domain, chosen, put, fixed}
use Rattle.elk.specs.Instance.{Choice as Chosen, Rising}
use Rattle.elk.proofs.Rising.{rising_cons, rising_below, rising_rest}
use Rattle.unstable.proofs.Steps.{in_put}

-- S is part of V
pub chosen_part : (c : Chosen) → chosen c ⊆ domain c
chosen_part [] p m = m
chosen_part ((r, t) ∷ c) p m = ⊎_elim (λ h. Memᴰ.head h.1) (λ k. Memᴰ.tail (chosen_part c p k)) ((in_put t r (chosen c) p).0 m)

-- S rises with V
pub chosen_rising : (c : Chosen) → Rising (domain c) → Rising (chosen c)
chosen_rising [] r = tt
chosen_rising ((p, true) ∷ c) r =
    rising_cons p (chosen c) (λ z m. rising_below p (domain c) r z (chosen_part c z m)) (chosen_rising c (rising_rest p (domain c) r))
chosen_rising ((p, false) ∷ c) r = chosen_rising c (rising_rest p (domain c) r)

-- F fixes an atom as the choice has it
abbrev pub Fixing : Chosen → Formula → Type 0
Fixing c F = (p : ℕ) × (((p ∈ chosen c) × (F ≡ neg (neg (atom p)))) ⊎ (((p ∈ domain c) × (p ∈ chosen c → ⊥)) × (F ≡ neg (atom p))))

fixed_cons :
    (q : ℕ) (t : Bool) (c : Chosen) → Rising (q ∷ domain c) → (F : Formula) → (F ∈ map fixed c) ↔ Fixing c F
    → (F ∈ map fixed ((q, t) ∷ c)) ↔ Fixing ((q, t) ∷ c) F
fixed_cons q t c r F rest = (
  λ m. ⊎_elim (first t) (λ k. later (rest.0 k)) (Memᴰ.cases_cons m),
  λ h. ⊎_elim (λ k. in_set h.0 k.0 k.1) (λ k. in_rest t h.0 k.0.0 k.0.1 k.1) h.1,
)
  where
    above : (p : ℕ) → p ∈ domain c → q < p
    above = rising_below q (domain c) r

    first : (t : Bool) → F ≡ fixed (q, t) → Fixing ((q, t) ∷ c) F
    first true e = (q, inl (Memᴰ.head refl, e))
    first false e = (q, inr ((Memᴰ.head refl, λ m. absurd (omega (arith, above q (chosen_part c q m)))), e))

    later : Fixing c F → Fixing ((q, t) ∷ c) F
    later (p, inl (m, e)) = (p, inl ((in_put t q (chosen c) p).1 (inr m), e))
    later (p, inr ((m, n), e)) = (p, inr ((Memᴰ.tail m, λ k. ⊎_elim (λ h. absurd (omega (arith, above p m, h.1))) n ((in_put t q (chosen c) p).0 k)), e))

    in_set : (p : ℕ) → p ∈ put t q (chosen c) → F ≡ neg (neg (atom p)) → F ∈ fixed (q, t) ∷ map fixed c
    in_set p m e = ⊎_elim (λ h. Memᴰ.head (e ∙ own t h.0 h.1)) (λ k. Memᴰ.tail (rest.1 (p, inl (k, e)))) ((in_put t q (chosen c) p).0 m)
      where
        own : (t : Bool) → t ≡ true → p ≡ q → neg (neg (atom p)) ≡ fixed (q, t)
        own true h k = ap (λ p. neg (neg (atom p))) k
        own false h k = absurd (false≢true h)

    in_rest : (t : Bool) (p : ℕ) → p ∈ q ∷ domain c → (p ∈ put t q (chosen c) → ⊥) → F ≡ neg (atom p) → F ∈ fixed (q, t) ∷ map fixed c
    in_rest true p m n e =
        ⊎_elim (λ (k : p ≡ q). absurd (n (Memᴰ.head k))) (λ k. Memᴰ.tail (rest.1 (p, inr ((k, λ h. n (Memᴰ.tail h)), e))))
        (Memᴰ.cases_cons m)
    in_rest false p m n e =
        ⊎_elim (λ (k : p ≡ q). Memᴰ.head (e ∙ ap (λ p. neg (atom p)) k)) (λ k. Memᴰ.tail (rest.1 (p, inr ((k, n), e))))
        (Memᴰ.cases_cons m)

pub fixed_iff : (c : Chosen) → Rising (domain c) → (F : Formula) → (F ∈ map fixed c) ↔ Fixing c F
fixed_iff [] r F = (λ m. absurd (Memᴰ.not-nil m), λ h. ⊎_elim (λ k. absurd (Memᴰ.not-nil k.0)) (λ k. absurd (Memᴰ.not-nil k.0.0)) h.1)
fixed_iff ((q, t) ∷ c) r F = fixed_cons q t c r F (fixed_iff c (rising_rest q (domain c) r) F)

-- an atom of a list of formulas occurs in one of them
pub in_atoms : (L : List Formula) (p : ℕ) → (p ∈ atoms_in L) ↔ ((F : Formula) × (F ∈ L) × (p ∈ atoms_of F))
in_atoms L p = (to L, λ h. occurs h.1 p h.2)
  where
    to : (L : List Formula) → p ∈ atoms_in L → (F : Formula) × (F ∈ L) × (p ∈ atoms_of F)
    to [] m = absurd (Memᴰ.not-nil m)
    to (A ∷ L) m =
        ⊎_elim (λ k. (A, Memᴰ.head refl, k)) (λ k. let h = to L k in (h.0, Memᴰ.tail h.1, h.2))
        (Memᴰ.append_cases (atoms_of A) m)
