-- What a test that came out says of its parts, and what is enough for it to come out.
use Prim.Native.Nat.{ℕ}
use mathlib.Core.Path.{◌≡◌, refl, sym, subst}
use mathlib.Core.Bool.{Bool, true, false, not, ◌||◌, ◌&&◌, true≢false, false≢true}
use mathlib.Core.List.Memᴰ
use mathlib.Core.List.{List, [], ◌∷◌}
use mathlib.Core.Logic.{⊎_elim, ◌↔◌}
use lib.Dec.{eqb}
use borrow.Author.Tests.{eqb-true, eq-eqb}
use Rattle.equilibrium.specs.Meaning.{◌∈◌}
use Rattle.format.specs.Text.{any, same_list}
use Rattle.format.specs.Tests.{is_no}

pub or_false : (a b : Bool) → (a || b) ≡ false → (a ≡ false) × (b ≡ false)
or_false true b e = absurd (true≢false e)
or_false false b e = (refl, e)

pub or_false₄ : (a b c d : Bool) → (a || b || c || d) ≡ false → (a ≡ false) × (b ≡ false) × (c ≡ false) × (d ≡ false)
or_false₄ a b c d e =
    let last = or_false (a || b || c) d e in
    let third = or_false (a || b) c last.0 in
    let first = or_false a b third.0 in
    (first.0, first.1, third.1, last.1)

pub and_true : (a b : Bool) → (a && b) ≡ true → (a ≡ true) × (b ≡ true)
and_true true b e = (refl, e)
and_true false b e = absurd (false≢true e)

pub not_false : (a : Bool) → not a ≡ false → a ≡ true
not_false true e = refl
not_false false e = absurd (true≢false e)

-- a decision as a test

pub no_iff : {X : Type 0} (d : Dec X) → (is_no d ≡ false) ↔ X
no_iff (yes x) = (λ e. x, λ x. refl)
no_iff (no n) = (λ e. absurd (true≢false e), λ x. absurd (n x))

pub is_no_lem : {X : Type 0} (d : Dec X) → (X → ⊥) → is_no d ≡ true
is_no_lem (yes x) n = absurd (n x)
is_no_lem (no k) n = refl

pub yes_iff : {X : Type 0} (d : Dec X) → (not (is_no d) ≡ false) ↔ (X → ⊥)
yes_iff (yes x) = (λ e. absurd (true≢false e), λ n. absurd (n x))
yes_iff (no n) = (λ e. n, λ k. refl)

pub shown_iff : {X : Type 0} (d : Dec X) → (not (is_no d) ≡ true) ↔ X
shown_iff (yes x) = (λ e. x, λ x. refl)
shown_iff (no n) = (λ e. absurd (false≢true e), λ x. absurd (n x))

module _ {X : Type 0} (test : X → Bool) where
  pub any_false : (xs : List X) → any test xs ≡ false → (x : X) → x ∈ xs → test x ≡ false
  any_false [] e x m = absurd (Memᴰ.not-nil m)
  any_false (y ∷ ys) e x m =
      let parts = or_false (test y) (any test ys) e in
      ⊎_elim (λ (k : x ≡ y). subst (λ (z : X). test z ≡ false) (sym k) parts.0) (λ k. any_false ys parts.1 x k) (Memᴰ.cases_cons m)

  pub any_none : (xs : List X) → ((x : X) → x ∈ xs → test x ≡ true → ⊥) → any test xs ≡ false
  any_none [] h = refl
  any_none (x ∷ xs) h = by_test (test x) refl (any_none xs (λ y m. h y (Memᴰ.tail m)))
    where
      by_test : (t : Bool) → test x ≡ t → any test xs ≡ false → (t || any test xs) ≡ false
      by_test true e rest = absurd (h x (Memᴰ.head refl) e)
      by_test false e rest = rest

pub same_list_lem : (xs ys : List ℕ) → same_list xs ys ≡ true → xs ≡ ys
unfolding same_list
same_list_lem [] [] e = refl
same_list_lem [] (y ∷ ys) e = absurd (false≢true e)
same_list_lem (x ∷ xs) [] e = absurd (false≢true e)
same_list_lem (x ∷ xs) (y ∷ ys) e =
    let parts = and_true (eqb x y) (same_list xs ys) e in
    let head : x ≡ y = eqb-true x y parts.0 in
    let rest : xs ≡ ys = same_list_lem xs ys parts.1 in
    cc

pub list_same : (xs : List ℕ) → same_list xs xs ≡ true
unfolding same_list
list_same [] = refl
list_same (x ∷ xs) = rw (eq-eqb x x refl, list_same xs)
