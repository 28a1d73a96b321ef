-- Sides as sets of numbers: what `member` decides, when numbers but for two are all on another side, and what
-- strictly rising lists are like. Assumes nothing.
use Prim.Native.Nat.{ℕ, zero, suc, ◌<◌}
use native.Mathlib.Omega.{arith}
use mathlib.Core.Bool.{Bool, true, false, ◌||◌, or-true, and-eq-true_iff, false≢true}
use mathlib.Core.List.Memᴰ
use mathlib.Core.List.{List, [], ◌∷◌}
use mathlib.Core.Logic.{◌⊎◌, inl, inr, ⊎_elim, ◌↔◌}
use mathlib.Core.Path.{◌≡◌, refl, sym, ap, ◌∙◌, subst}
use borrow.Author.Tests.{eqb-true, eqb-false, eq-eqb, ne_eqb, ltb-true}
use lib.Dec.{eqb, ltb}
use lib.ListN.{length, get_or}
use Rattle.equilibrium.specs.Meaning.{◌∈◌}
use Rattle.format.specs.Text.{all, any, strictly_rising}
use Rattle.sides.specs.Members.{member}
use Rattle.sides.specs.Covering.{Covered}

either : (b c : Bool) → b || c ≡ true → (b ≡ true) ⊎ (c ≡ true)
either true c e = inl refl
either false c e = inr e

-- `all` and `any` decide that every member, and that some member, passes
module _ {A : Type 0} (test : A → Bool) where
  pub all_iff : (xs : List A) → (all test xs ≡ true) ↔ ((x : A) → x ∈ xs → test x ≡ true)
  all_iff [] = (λ e x m. absurd (Memᴰ.not-nil m), λ h. refl)
  all_iff (x ∷ xs) = (to (all_iff xs), from (all_iff xs))
    where
      to : (all test xs ≡ true) ↔ ((y : A) → y ∈ xs → test y ≡ true) → all test (x ∷ xs) ≡ true → (y : A) → y ∈ x ∷ xs → test y ≡ true
      to ih e y m =
          let both = (and-eq-true_iff (test x) (all test xs)).0 e in
          ⊎_elim (λ (h : y ≡ x). ap test h ∙ both.0) (ih.0 both.1 y) (Memᴰ.cases_cons m)

      from : (all test xs ≡ true) ↔ ((y : A) → y ∈ xs → test y ≡ true) → ((y : A) → y ∈ x ∷ xs → test y ≡ true) → all test (x ∷ xs) ≡ true
      from ih h = (and-eq-true_iff (test x) (all test xs)).1 (h x (Memᴰ.head refl), ih.1 (λ y m. h y (Memᴰ.tail m)))

  pub any_iff : (xs : List A) → (any test xs ≡ true) ↔ ((x : A) × (x ∈ xs) × (test x ≡ true))
  any_iff [] = (λ e. absurd (false≢true e), λ h. absurd (Memᴰ.not-nil h.1))
  any_iff (x ∷ xs) = (to (any_iff xs), from (any_iff xs))
    where
      to : (any test xs ≡ true) ↔ ((y : A) × (y ∈ xs) × (test y ≡ true)) → any test (x ∷ xs) ≡ true → (y : A) × (y ∈ x ∷ xs) × (test y ≡ true)
      to ih e = ⊎_elim (λ h. (x, Memᴰ.head refl, h)) (λ h. ((ih.0 h).0, Memᴰ.tail (ih.0 h).1, (ih.0 h).2)) (either (test x) (any test xs) e)

      from : (any test xs ≡ true) ↔ ((y : A) × (y ∈ xs) × (test y ≡ true)) → (y : A) × (y ∈ x ∷ xs) × (test y ≡ true) → any test (x ∷ xs) ≡ true
      from ih h =
          ⊎_elim (λ (e : h.0 ≡ x). ap (λ (t : Bool). t || any test xs) (ap test (sym e) ∙ h.2))
          (λ m. ap (λ (t : Bool). test x || t) (ih.1 (h.0, m, h.2)) ∙ or-true (test x)) (Memᴰ.cases_cons h.1)

pub member_iff : (x : ℕ) (xs : List ℕ) → (member x xs ≡ true) ↔ (x ∈ xs)
unfolding member
member_iff x xs = (
  λ e. let found = (any_iff (λ z. eqb z x) xs).0 e in subst (λ (z : ℕ). z ∈ xs) (eqb-true found.0 x found.2) found.1,
  λ m. (any_iff (λ z. eqb z x) xs).1 (x, m, eq-eqb x x refl),
)

-- by the places of a list
pub member_at : (x : ℕ) (xs : List ℕ) (k : ℕ) → k < length xs → get_or xs k 0 ≡ x → member x xs ≡ true
unfolding member
member_at x [] k l e = absurd (omega arith)
member_at x (z ∷ zs) zero l e = ap (λ (t : Bool). t || member x zs) (eq-eqb z x e)
member_at x (z ∷ zs) (suc k) l e = ap (λ (t : Bool). eqb z x || t) (member_at x zs k (omega arith) e) ∙ or-true (eqb z x)

pub not_member : (x : ℕ) (xs : List ℕ) → ((k : ℕ) → k < length xs → get_or xs k 0 ≡ x → ⊥) → member x xs ≡ false
unfolding member
not_member x [] h = refl
not_member x (z ∷ zs) h =
    ap (λ (t : Bool). t || member x zs) (ne_eqb z x (h 0 (omega arith)))
    ∙ not_member x zs (λ k l. h (suc k) (omega arith))

-- the last of three tests, where the first two fail
last_of : (p q r : Bool) → (p || q || r ≡ true) ↔ (p ≡ false → q ≡ false → r ≡ true)
last_of true q r = (λ e f. absurd (false≢true (sym f)), λ h. refl)
last_of false true r = (λ e f g. absurd (false≢true (sym g)), λ h. refl)
last_of false false r = (λ e f g. e, λ h. h refl refl)

-- every number of a that is neither x nor y is in b, as a test
unfoldable pub covered_by : List ℕ → ℕ → ℕ → List ℕ → Bool
covered_by a x y b = all (λ z. eqb z x || eqb z y || member z b) a

pub covered_iff : (a : List ℕ) (x y : ℕ) (b : List ℕ) → (covered_by a x y b ≡ true) ↔ Covered a x y b
unfolding covered_by
covered_iff a x y b = (
  λ e z m nx ny. (last z).0 ((all_iff test a).0 e z m) nx ny,
  λ h. (all_iff test a).1 (λ z m. (last z).1 (h z m)),
)
  where
    test : ℕ → Bool
    test z = eqb z x || eqb z y || member z b

    last : (z : ℕ) → (test z ≡ true) ↔ ((z ≡ x → ⊥) → (z ≡ y → ⊥) → z ∈ b)
    last z = (
      λ e nx ny. (member_iff z b).0 ((last_of (eqb z x) (eqb z y) (member z b)).0 e (ne_eqb z x nx) (ne_eqb z y ny)),
      λ h. (last_of (eqb z x) (eqb z y) (member z b)).1 (λ ex ey. (member_iff z b).1 (h (eqb-false z x ex) (eqb-false z y ey))),
    )

-- in a strictly rising list a later number is greater
pub rising_at : (xs : List ℕ) (i j : ℕ) → strictly_rising xs ≡ true → i < j → j < length xs → get_or xs i 0 < get_or xs j 0
unfolding strictly_rising
rising_at [] i j e l h = omega arith
rising_at (x ∷ []) i j e l h = omega arith
rising_at (x ∷ y ∷ ys) i zero e l h = omega arith
rising_at (x ∷ y ∷ ys) zero (suc zero) e l h = ltb-true x y ((and-eq-true_iff (ltb x y) (strictly_rising (y ∷ ys))).0 e).0
rising_at (x ∷ y ∷ ys) zero (suc (suc j)) e l h =
    let both = (and-eq-true_iff (ltb x y) (strictly_rising (y ∷ ys))).0 e in
    omega (arith, ltb-true x y both.0, rising_at (y ∷ ys) zero (suc j) both.1 (omega arith) (omega arith))
rising_at (x ∷ y ∷ ys) (suc i) (suc j) e l h =
    rising_at (y ∷ ys) i j ((and-eq-true_iff (ltb x y) (strictly_rising (y ∷ ys))).0 e).1 (omega arith) (omega arith)
