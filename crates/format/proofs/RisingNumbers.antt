-- Strictly rising lists, by test and by type; the numbers that have a property, in that order: a side as 01 asks it to be written.
use Prim.Native.Nat.{ℕ, zero, suc, ◌+◌, ◌≤◌, ◌<◌}
use mathlib.Core.Path.{◌≡◌, refl, sym, subst}
use mathlib.Core.Bool.{true}
use mathlib.Core.List.Memᴰ
use mathlib.Core.List.{List, [], ◌∷◌}
use mathlib.Core.Logic.{◌↔◌, ⊎_elim}
use native.Mathlib.Omega.{arith}
use lib.Dec.{ltb}
use borrow.Author.Tests.{lt-ltb, ltb-true}
use Rattle.equilibrium.specs.Meaning.{◌∈◌}
use Rattle.elk.specs.Instance.{Rising}
use Rattle.format.specs.Text.{strictly_rising}
use Rattle.format.proofs.Booleans.{and_true}
use Rattle.format.proofs.GoodBodies.{at_end}

-- a list that passes the test rises
pub rising_of : (xs : List ℕ) → strictly_rising xs ≡ true → Rising xs
unfolding strictly_rising
rising_of [] e = tt
rising_of (x ∷ []) e = tt
rising_of (x ∷ y ∷ ys) e = let both = and_true (ltb x y) (strictly_rising (y ∷ ys)) e in (ltb-true x y both.0, rising_of (y ∷ ys) both.1)

abbrev put : {P : Type 0} → Dec P → ℕ → List ℕ → List ℕ
put (yes h) i is = i ∷ is
put (no n) i is = is

rising_cons : (k : ℕ) (is : List ℕ) → ((i : ℕ) → i ∈ is → k < i) → strictly_rising is ≡ true → strictly_rising (k ∷ is) ≡ true
unfolding strictly_rising
rising_cons k [] h e = refl
rising_cons k (j ∷ js) h e = rw (lt-ltb k j (h j (Memᴰ.head refl))) e

module _ {P : ℕ → Type 0} (d : (i : ℕ) → Dec (P i)) where
  -- those that have a property, among n numbers from k on
  unfoldable pub those_from : (n k : ℕ) → List ℕ
  those_from zero k = []
  those_from (suc n) k = put (d k) k (those_from n (suc k))

  pub in_those_from : (n k i : ℕ) → (i ∈ those_from n k) ↔ ((k ≤ i) × (i < k + n) × P i)
  unfolding those_from
  in_those_from zero k i = (λ m. absurd (Memᴰ.not-nil m), λ h. let low = h.0 in let high = h.1 in absurd (omega arith))
  in_those_from (suc n) k i = cases (d k) (in_those_from n (suc k) i)
    where
      up : (suc k ≤ i) × (i < suc k + n) × P i → (k ≤ i) × (i < k + suc n) × P i
      up h = let low = h.0 in let high = h.1 in (omega arith, omega arith, h.2)

      down : (k ≤ i) × (i < k + suc n) × P i → suc k ≤ i → (suc k ≤ i) × (i < suc k + n) × P i
      down h l = let high = h.1 in (l, omega arith, h.2)

      cases : (e : Dec (P k)) → (i ∈ those_from n (suc k)) ↔ ((suc k ≤ i) × (i < suc k + n) × P i)
          → (i ∈ put e k (those_from n (suc k))) ↔ ((k ≤ i) × (i < k + suc n) × P i)
      cases (yes h) rest = (
        λ m. ⊎_elim (λ (e : i ≡ k). (omega arith, omega arith, subst P (sym e) h)) (λ j. up (rest.0 j)) (Memᴰ.cases_cons m),
        λ g. ⊎_elim (λ l. Memᴰ.tail (rest.1 (down g l))) (λ e. Memᴰ.head (sym e)) (at_end i k (omega (arith, g.0))),
      )
      cases (no h) rest =
          (λ m. up (rest.0 m), λ g. ⊎_elim (λ l. rest.1 (down g l)) (λ (e : k ≡ i). absurd (h (subst P (sym e) g.2))) (at_end i k (omega (arith, g.0))))

  pub those_rise : (n k : ℕ) → strictly_rising (those_from n k) ≡ true
  unfolding those_from strictly_rising
  those_rise zero k = refl
  those_rise (suc n) k = cases (d k) (those_rise n (suc k))
    where
      cases : (e : Dec (P k)) → strictly_rising (those_from n (suc k)) ≡ true → strictly_rising (put e k (those_from n (suc k))) ≡ true
      cases (yes h) rest = rising_cons k (those_from n (suc k)) (λ i m. ((in_those_from n (suc k) i).0 m).0) rest
      cases (no h) rest = rest
