-- Strictly rising lists: the first element is below the others, and the elements alone make the list. Assumes nothing.
use mathlib.Core.Path.{◌≡◌, refl, sym, ap₂}
use mathlib.Core.Logic.{◌⊎◌, inl, inr, ⊎_elim}
use mathlib.Core.List.Memᴰ
use mathlib.Core.List.{List, [], ◌∷◌, Memᴰ}
use Prim.Native.Nat.{ℕ, ◌<◌}
use native.Mathlib.Omega.{arith}
use Rattle.elk.specs.Instance.{Rising}

pub rising_cons : (x : ℕ) (xs : List ℕ) → ((z : ℕ) → Memᴰ z xs → x < z) → Rising xs → Rising (x ∷ xs)
rising_cons x [] below r = tt
rising_cons x (y ∷ ys) below r = (below y (Memᴰ.head refl), r)

pub rising_rest : (x : ℕ) (xs : List ℕ) → Rising (x ∷ xs) → Rising xs
rising_rest x [] r = tt
rising_rest x (y ∷ ys) r = r.1

pub rising_below : (x : ℕ) (xs : List ℕ) → Rising (x ∷ xs) → (z : ℕ) → Memᴰ z xs → x < z
rising_below x [] r z m = absurd (Memᴰ.not-nil m)
rising_below x (y ∷ ys) r z m = go (rising_below y ys r.1 z) (Memᴰ.cases_cons m)
  where
    go : (Memᴰ z ys → y < z) → (z ≡ y) ⊎ Memᴰ z ys → x < z
    go later (inl e) = omega (arith, r.0)
    go later (inr n) = omega (arith, r.0, later n)

-- two rising lists with the same elements are equal
pub rising_unique : (xs ys : List ℕ) → Rising xs → Rising ys → ((z : ℕ) → Memᴰ z xs → Memᴰ z ys) → ((z : ℕ) → Memᴰ z ys → Memᴰ z xs)
    → xs ≡ ys
rising_unique [] [] rx ry to from = refl
rising_unique [] (y ∷ ys) rx ry to from = absurd (Memᴰ.not-nil (from y (Memᴰ.head refl)))
rising_unique (x ∷ xs) [] rx ry to from = absurd (Memᴰ.not-nil (to x (Memᴰ.head refl)))
rising_unique (x ∷ xs) (y ∷ ys) rx ry to from =
    ap₂ (λ (z : ℕ) (zs : List ℕ). z ∷ zs) same
    (rising_unique xs ys (rising_rest x xs rx) (rising_rest y ys ry)
    (λ z m. ⊎_elim (λ e. absurd (omega (arith, same, rising_below x xs rx z m))) (λ n. n) (Memᴰ.cases_cons (to z (Memᴰ.tail m))))
    (λ z m. ⊎_elim (λ e. absurd (omega (arith, same, rising_below y ys ry z m))) (λ n. n) (Memᴰ.cases_cons (from z (Memᴰ.tail m)))))
  where
    firsts : (x ≡ y) ⊎ Memᴰ x ys → (y ≡ x) ⊎ Memᴰ y xs → x ≡ y
    firsts (inl e) s = e
    firsts (inr m) (inl e) = sym e
    firsts (inr m) (inr n) = absurd (omega (arith, rising_below x xs rx y n, rising_below y ys ry x m))

    same : x ≡ y
    same = firsts (Memᴰ.cases_cons (to x (Memᴰ.head refl))) (Memᴰ.cases_cons (from y (Memᴰ.head refl)))
