-- Finite sets as lists read by membership: laws, decisions, their size, and the search through all parts of a set.
use Prim.Native.Nat.{◌≤◌, ◌<◌}
use native.Mathlib.Omega.{arith}
use mathlib.Core.Path.{◌≡◌, refl, sym, subst}
use mathlib.Core.List.Memᴰ
use mathlib.Core.List.{List, [], ◌∷◌}
use mathlib.Core.Logic.{◌⊎◌, inl, inr, ⊎_elim, ◌↔◌}
use lib.ListN.{length}
use Rattle.equilibrium.specs.Meaning.{◌∈◌, ◌⊆◌, ◌≈◌}

-- where the decision says yes
abbrev pub IsYes : {X : Type 0} → Dec X → Type 0
IsYes (yes x) = Unit {0}
IsYes (no n) = ⊥

-- what a decision that computes to yes has shown
pub from_yes : {X : Type 0} (d : Dec X) → IsYes d → X
from_yes (yes x) t = x
from_yes (no n) t = absurd t

-- where the decision says no
abbrev pub IsNo : {X : Type 0} → Dec X → Type 0
IsNo (yes x) = ⊥
IsNo (no n) = Unit {0}

pub from_no : {X : Type 0} (d : Dec X) → IsNo d → X → ⊥
from_no (yes x) t = absurd t
from_no (no n) t = n

unfoldable pub dec_not : {X : Type 0} → Dec X → Dec (X → ⊥)
dec_not (yes x) = no (λ f. f x)
dec_not (no n) = yes n

unfoldable pub dec_and : {X Y : Type 0} → Dec X → Dec Y → Dec (X × Y)
dec_and (yes x) (yes y) = yes (x, y)
dec_and (yes x) (no n) = no (λ p. n p.1)
dec_and (no n) d = no (λ p. n p.0)

unfoldable pub dec_or : {X Y : Type 0} → Dec X → Dec Y → Dec (X ⊎ Y)
dec_or (yes x) d = yes (inl x)
dec_or (no n) (yes y) = yes (inr y)
dec_or (no n) (no m) = no (⊎_elim n m)

unfoldable pub dec_implies : {X Y : Type 0} → Dec X → Dec Y → Dec (X → Y)
dec_implies d (yes y) = yes (λ x. y)
dec_implies (yes x) (no n) = no (λ f. n (f x))
dec_implies (no m) (no n) = yes (λ x. absurd (m x))

unfoldable pub dec_iff : {X Y : Type 0} → Dec X → Dec Y → Dec (X ↔ Y)
unfolding dec_and dec_implies
dec_iff d e = dec_and (dec_implies d e) (dec_implies e d)

-- a decision carried along an equivalence
unfoldable pub dec_map : {X Y : Type 0} → (X → Y) → (Y → X) → Dec X → Dec Y
dec_map f g (yes x) = yes (f x)
dec_map f g (no n) = no (λ y. n (g y))

module _ {X : Type 0} where
  pub ≈-refl : {xs : List X} → xs ≈ xs
  ≈-refl = (λ x m. m, λ x m. m)

  pub ≈-sym : {xs ys : List X} → xs ≈ ys → ys ≈ xs
  ≈-sym e = (e.1, e.0)

  pub ≈-trans : {xs ys zs : List X} → xs ≈ ys → ys ≈ zs → xs ≈ zs
  ≈-trans e f = (λ x m. f.0 x (e.0 x m), λ x m. e.1 x (f.1 x m))

  -- one member more in both
  pub ≈-cons : {u : X} {xs ys : List X} → xs ≈ ys → (u ∷ xs) ≈ (u ∷ ys)
  ≈-cons e = (
    λ y m. ⊎_elim Memᴰ.head (λ k. Memᴰ.tail (e.0 y k)) (Memᴰ.cases_cons m),
    λ y m. ⊎_elim Memᴰ.head (λ k. Memᴰ.tail (e.1 y k)) (Memᴰ.cases_cons m),
  )

  -- a property of every member: of the first, and of every member of the rest
  unfoldable pub dec_all : {P : X → Type 0} → ((x : X) → Dec (P x)) → (xs : List X) → Dec ((x : X) → x ∈ xs → P x)
  dec_all d [] = yes (λ x m. absurd (Memᴰ.not-nil m))
  dec_all {P} d (x ∷ xs) = step (d x) (dec_all d xs)
    where
      step : Dec (P x) → Dec ((y : X) → y ∈ xs → P y) → Dec ((y : X) → y ∈ x ∷ xs → P y)
      step (yes h) (yes t) = yes (λ y m. ⊎_elim (λ (e : y ≡ x). subst P (sym e) h) (t y) (Memᴰ.cases_cons m))
      step (yes h) (no n) = no (λ f. n (λ y m. f y (Memᴰ.tail m)))
      step (no n) t = no (λ f. n (f x (Memᴰ.head refl)))

  -- a property of some member
  unfoldable pub dec_some : {P : X → Type 0} → ((x : X) → Dec (P x)) → (xs : List X) → Dec ((x : X) × (x ∈ xs) × P x)
  dec_some d [] = no (λ s. Memᴰ.not-nil s.1)
  dec_some {P} d (x ∷ xs) = step (d x) (dec_some d xs)
    where
      step : Dec (P x) → Dec ((y : X) × (y ∈ xs) × P y) → Dec ((y : X) × (y ∈ x ∷ xs) × P y)
      step (yes h) t = yes (x, Memᴰ.head refl, h)
      step (no n) (yes s) = yes (s.0, Memᴰ.tail s.1, s.2)
      step (no n) (no m) = no (λ s. ⊎_elim (λ (e : s.0 ≡ x). n (subst P e s.2)) (λ k. m (s.0, k, s.2)) (Memᴰ.cases_cons s.1))

  abbrev put_if : {P : Type 0} → Dec P → X → List X → List X
  put_if (yes h) x xs = x ∷ xs
  put_if (no n) x xs = xs

  -- the members that have a property, in their order
  unfoldable pub those : {P : X → Type 0} → ((x : X) → Dec (P x)) → List X → List X
  those d [] = []
  those d (x ∷ xs) = put_if (d x) x (those d xs)

  -- exactly the members that have it
  pub in_those : {P : X → Type 0} (d : (x : X) → Dec (P x)) (xs : List X) (y : X) → (y ∈ those d xs) ↔ ((y ∈ xs) × P y)
  unfolding those
  in_those d [] y = (λ m. absurd (Memᴰ.not-nil m), λ h. absurd (Memᴰ.not-nil h.0))
  in_those {P} d (x ∷ xs) y = step (d x) (in_those d xs y)
    where
      step : (e : Dec (P x)) → (y ∈ those d xs) ↔ ((y ∈ xs) × P y) → (y ∈ put_if e x (those d xs)) ↔ ((y ∈ x ∷ xs) × P y)
      step (yes h) ih = (
        λ m. ⊎_elim (λ (e : y ≡ x). (Memᴰ.head e, subst P (sym e) h)) (λ k. (Memᴰ.tail (ih.0 k).0, (ih.0 k).1))
            (Memᴰ.cases_cons m),
        λ g. ⊎_elim (λ e. Memᴰ.head e) (λ k. Memᴰ.tail (ih.1 (k, g.1))) (Memᴰ.cases_cons g.0),
      )
      step (no n) ih = (
        λ m. (Memᴰ.tail (ih.0 m).0, (ih.0 m).1),
        λ g. ⊎_elim (λ (e : y ≡ x). absurd (n (subst P e g.1))) (λ k. ih.1 (k, g.1)) (Memᴰ.cases_cons g.0),
      )

  pub those_length : {P : X → Type 0} (d : (x : X) → Dec (P x)) (xs : List X) → length (those d xs) ≤ length xs
  unfolding those
  those_length d [] = omega arith
  those_length {P} d (x ∷ xs) = step (d x) (those_length d xs)
    where
      step : (e : Dec (P x)) → length (those d xs) ≤ length xs → length (put_if e x (those d xs)) ≤ length (x ∷ xs)
      step (yes h) l = omega arith
      step (no n) l = omega arith

  -- one member at least is left out
  pub those_shorter : {P : X → Type 0} (d : (x : X) → Dec (P x)) (xs : List X) {x : X}
      → x ∈ xs → (P x → ⊥) → length (those d xs) < length xs
  unfolding those
  those_shorter d [] m n = absurd (Memᴰ.not-nil m)
  those_shorter {P} d (y ∷ ys) {x} m n = step (d y) (λ k. those_shorter d ys k n) (Memᴰ.cases_cons m)
    where
      step : (e : Dec (P y)) → (x ∈ ys → length (those d ys) < length ys) → (x ≡ y) ⊎ (x ∈ ys)
          → length (put_if e y (those d ys)) < length (y ∷ ys)
      step (yes h) rest (inl e) = absurd (n (subst P (sym e) h))
      step (yes h) rest (inr k) = let l = rest k in omega arith
      step (no k) rest j = let l = those_length d ys in omega arith

  -- no member is listed twice
  abbrev pub Unrepeated : List X → Type 0
  Unrepeated [] = Unit {0}
  Unrepeated (x ∷ xs) = (x ∈ xs → ⊥) × Unrepeated xs

-- sets of things that can be told apart
module _ {X : Type 0} (◌≟◌ : Discrete X) where
  unfoldable pub dec_in : (x : X) (xs : List X) → Dec (x ∈ xs)
  dec_in x [] = no (λ m. Memᴰ.not-nil m)
  dec_in x (y ∷ ys) = step (◌≟◌ x y) (dec_in x ys)
    where
      step : Dec (x ≡ y) → Dec (x ∈ ys) → Dec (x ∈ y ∷ ys)
      step (yes e) d = yes (Memᴰ.head e)
      step (no n) (yes m) = yes (Memᴰ.tail m)
      step (no n) (no k) = no (λ m. ⊎_elim n k (Memᴰ.cases_cons m))

  unfoldable pub dec_part : (xs ys : List X) → Dec (xs ⊆ ys)
  unfolding dec_in dec_all
  dec_part xs ys = dec_all (λ x. dec_in x ys) xs

  unfoldable pub dec_same : (xs ys : List X) → Dec (xs ≈ ys)
  unfolding dec_part dec_and
  dec_same xs ys = dec_and (dec_part xs ys) (dec_part ys xs)

  -- each member once, at the last of its places
  unfoldable pub once : List X → List X
  unfolding dec_not dec_in
  once [] = []
  once (x ∷ xs) = put_if (dec_not (dec_in x xs)) x (once xs)

  pub once_same : (xs : List X) → once xs ≈ xs
  unfolding once
  once_same [] = ≈-refl
  once_same (x ∷ xs) = step (dec_in x xs) (once_same xs)
    where
      step : (d : Dec (x ∈ xs)) → once xs ≈ xs → put_if (dec_not d) x (once xs) ≈ (x ∷ xs)
      step (yes m) e = (
        λ y k. Memᴰ.tail (e.0 y k),
        λ y k. ⊎_elim (λ (q : y ≡ x). e.1 y (subst (λ (z : X). z ∈ xs) (sym q) m)) (e.1 y) (Memᴰ.cases_cons k),
      )
      step (no n) e = ≈-cons e

  pub once_unrepeated : (xs : List X) → Unrepeated (once xs)
  unfolding once
  once_unrepeated [] = tt
  once_unrepeated (x ∷ xs) = step (dec_in x xs) (once_unrepeated xs)
    where
      step : (d : Dec (x ∈ xs)) → Unrepeated (once xs) → Unrepeated (put_if (dec_not d) x (once xs))
      step (yes m) u = u
      step (no n) u = (λ k. n ((once_same xs).0 x k), u)

  -- a list without repetition is no longer than one that holds all its members
  pub unrepeated_length : (xs ys : List X) → Unrepeated xs → xs ⊆ ys → length xs ≤ length ys
  unrepeated_length [] ys u s = omega arith
  unrepeated_length (x ∷ xs) ys u s =
      let other? : (y : X) → Dec (y ≡ x → ⊥) = λ y. dec_not (◌≟◌ y x) in
      let shorter = those_shorter other? ys (s x (Memᴰ.head refl)) (λ n. n refl) in
      let within : xs ⊆ those other? ys = λ y m. (in_those _ ys y).1 (s y (Memᴰ.tail m), λ e. u.0 (subst (λ (z : X). z ∈ xs) e m)) in
      let fits = unrepeated_length xs (those other? ys) u.1 within in
      omega arith

  -- a set with one of its members taken out and put in front
  pub split_off : (x : X) (xs : List X) → x ∈ xs → xs ≈ (x ∷ those (λ y. dec_not (◌≟◌ y x)) xs)
  split_off x xs m =
      (λ y k. there y k (◌≟◌ y x), λ y k. ⊎_elim (λ (e : y ≡ x). subst (λ (z : X). z ∈ xs) (sym e) m) (λ j. ((in_those _ xs y).0 j).0) (Memᴰ.cases_cons k))
    where
      there : (y : X) → y ∈ xs → Dec (y ≡ x) → y ∈ x ∷ those (λ z. dec_not (◌≟◌ z x)) xs
      there y k (yes e) = Memᴰ.head e
      there y k (no n) = Memᴰ.tail ((in_those _ xs y).1 (k, n))

  -- Is there a part of U with a property of sets? With each member in turn left out and put in, every part is tried.
  unfoldable pub search_parts : (U : List X) (P : List X → Type 0)
      → ((xs : List X) → Dec (P xs)) → ((xs ys : List X) → xs ≈ ys → P xs → P ys) → Dec ((xs : List X) × (xs ⊆ U) × P xs)
  search_parts [] P d same = step (d [])
    where
      step : Dec (P []) → Dec ((xs : List X) × (xs ⊆ []) × P xs)
      step (yes h) = yes ([], (λ x m. m), h)
      step (no n) = no (λ s. n (same s.0 [] (s.1, λ x m. absurd (Memᴰ.not-nil m)) s.2))
  search_parts (u ∷ U) P d same =
      step (search_parts U P d same) (search_parts U (λ xs. P (u ∷ xs)) (λ xs. d (u ∷ xs)) (λ xs ys e. same (u ∷ xs) (u ∷ ys) (≈-cons e)))
    where
      narrow : (xs : List X) → xs ⊆ u ∷ U → (u ∈ xs → ⊥) → xs ⊆ U
      narrow xs s n y m = ⊎_elim (λ (e : y ≡ u). absurd (n (subst (λ (z : X). z ∈ xs) e m))) (λ k. k) (Memᴰ.cases_cons (s y m))

      step : Dec ((xs : List X) × (xs ⊆ U) × P xs) → Dec ((xs : List X) × (xs ⊆ U) × P (u ∷ xs)) → Dec ((xs : List X) × (xs ⊆ u ∷ U) × P xs)
      step (yes s) without = yes (s.0, (λ y m. Memᴰ.tail (s.1 y m)), s.2)
      step (no n) (yes s) = yes (u ∷ s.0, (λ y m. ⊎_elim (λ e. Memᴰ.head e) (λ k. Memᴰ.tail (s.1 y k)) (Memᴰ.cases_cons m)), s.2)
      step (no n) (no k) = no (λ s. cases s.0 s.1 s.2 (dec_in u s.0))
        where
          cases : (xs : List X) → xs ⊆ u ∷ U → P xs → Dec (u ∈ xs) → ⊥
          cases xs s h (no j) = n (xs, narrow xs s j, h)
          cases xs s h (yes j) = k (rest, (λ y m. narrow_rest y ((in_those _ xs y).0 m)), same xs (u ∷ rest) (split_off u xs j) h)
            where
              rest : List X
              rest = those (λ y. dec_not (◌≟◌ y u)) xs

              narrow_rest : (y : X) → (y ∈ xs) × (y ≡ u → ⊥) → y ∈ U
              narrow_rest y m = ⊎_elim (λ e. absurd (m.1 e)) (λ t. t) (Memᴰ.cases_cons (s y m.0))
