-- Strictly rising lists of atoms, the form in which `unst` lists V. Every finite set of atoms can be listed so.
use Prim.Native.Nat.{ℕ, ◌<◌}
use native.Mathlib.Omega.{arith}
use native.Mathlib.Decide.{ℕ_discrete, dec_lt}
use mathlib.Core.Path.{◌≡◌, refl}
use mathlib.Core.List.Memᴰ
use mathlib.Core.List.{List, [], ◌∷◌}
use mathlib.Core.Logic.{⊎_elim, dite}
use Rattle.equilibrium.specs.Meaning.{◌∈◌, ◌≈◌}
use Rattle.equilibrium.proofs.Sets.{≈-refl, ≈-sym, ≈-trans, ≈-cons, Unrepeated}
use Rattle.elk.specs.Instance.{Rising}
use Rattle.elk.proofs.Rising.{rising_cons, rising_rest, rising_below}
use Rattle.elk.proofs.Sides.{cons_again, cons_swap}

-- the first is not among the others
pub rising_apart : (p : ℕ) (ps : List ℕ) → Rising (p ∷ ps) → {q : ℕ} → q ≡ p → q ∈ ps → ⊥
rising_apart p ps r {q} e m = let h = rising_below p ps r q m in omega arith

pub rising_unrepeated : (ps : List ℕ) → Rising ps → Unrepeated ps
rising_unrepeated [] r = tt
rising_unrepeated (p ∷ ps) r = (rising_apart p ps r refl, rising_unrepeated ps (rising_rest p ps r))

-- a rising list with the same members
abbrev pub InOrder : List ℕ → Type 0
InOrder ps = (qs : List ℕ) × Rising qs × (qs ≈ ps)

-- one more atom, at its place
put : (p : ℕ) (qs : List ℕ) → Rising qs → InOrder (p ∷ qs)
put p [] r = (p ∷ [], tt, ≈-refl)
put p (q ∷ qs) r =
    dite (dec_lt p q) (λ below. (p ∷ q ∷ qs, (below, r), ≈-refl))
    (λ n. dite (ℕ_discrete p q) (λ e. (q ∷ qs, r, ≈-sym (cons_again (Memᴰ.head e)))) (λ k. later n k (put p qs (rising_rest q qs r))))
  where
    later : (p < q → ⊥) → (p ≡ q → ⊥) → InOrder (p ∷ qs) → InOrder (p ∷ q ∷ qs)
    later n k o = (
      q ∷ o.0,
      rising_cons q o.0 (λ s m. ⊎_elim (λ (e : s ≡ p). omega arith) (rising_below q qs r s) (Memᴰ.cases_cons (o.2.0 s m))) o.1,
      ≈-trans (≈-cons o.2) cons_swap,
    )

pub in_order : (ps : List ℕ) → InOrder ps
in_order [] = ([], tt, ≈-refl)
in_order (p ∷ ps) = let o = in_order ps in let i = put p o.0 o.1 in (i.0, i.1, ≈-trans i.2 (≈-cons o.2))
