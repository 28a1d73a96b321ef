-- Laws of lists read as sets, for the sides of sequents and for sets of atoms: order and repetition never count.
use mathlib.Core.Path.{refl}
use mathlib.Core.List.Memᴰ
use mathlib.Core.List.{List, [], ◌∷◌, ◌++◌}
use mathlib.Core.Logic.{⊎_elim, dite}
use Rattle.equilibrium.specs.Meaning.{◌∈◌, ◌⊆◌, ◌≈◌}
use Rattle.equilibrium.proofs.Sets.{≈-refl, ≈-trans, ≈-cons, dec_not, dec_some}

module _ {X : Type 0} where
  pub nil_part : {xs : List X} → [] ⊆ xs
  nil_part x m = absurd (Memᴰ.not-nil m)

  pub first_in : {x : X} {xs : List X} → x ∈ x ∷ xs
  first_in = Memᴰ.head refl

  pub second_in : {x y : X} {xs : List X} → x ∈ y ∷ x ∷ xs
  second_in = Memᴰ.tail first_in

  again_part : {x : X} {xs : List X} → x ∈ xs → x ∷ xs ⊆ xs
  again_part m y (Memᴰ.head e) = Memᴰ.cast e m
  again_part m y (Memᴰ.tail k) = k

  -- a member once more
  pub cons_again : {x : X} {xs : List X} → x ∈ xs → (x ∷ xs) ≈ xs
  cons_again m = (again_part m, λ y k. Memᴰ.tail k)

  swap_part : {x y : X} {xs : List X} → x ∷ y ∷ xs ⊆ y ∷ x ∷ xs
  swap_part z (Memᴰ.head e) = Memᴰ.tail (Memᴰ.head e)
  swap_part z (Memᴰ.tail (Memᴰ.head e)) = Memᴰ.head e
  swap_part z (Memᴰ.tail (Memᴰ.tail m)) = Memᴰ.tail (Memᴰ.tail m)

  pub cons_swap : {x y : X} {xs : List X} → (x ∷ y ∷ xs) ≈ (y ∷ x ∷ xs)
  cons_swap = (swap_part, swap_part)

  -- a member from the front to the middle
  pub cons_middle : {x : X} (xs ys : List X) → (x ∷ xs ++ ys) ≈ (xs ++ (x ∷ ys))
  cons_middle [] ys = ≈-refl
  cons_middle (z ∷ xs) ys = ≈-trans cons_swap (≈-cons (cons_middle xs ys))

  pub append_again : (xs : List X) → (xs ++ xs) ≈ xs
  append_again xs = (λ x m. ⊎_elim (λ k. k) (λ k. k) (Memᴰ.append_cases xs m), λ x m. Memᴰ.append_left xs m)

  -- where not all have a property, one is found that lacks it
  pub one_without : {P : X → Type 0} → ((x : X) → Dec (P x)) → (xs : List X) → (((x : X) → x ∈ xs → P x) → ⊥) → (x : X) × (x ∈ xs) × (P x → ⊥)
  one_without d xs n = dite (dec_some (λ x. dec_not (d x)) xs) (λ s. s) (λ k. absurd (n (λ x m. dite (d x) (λ h. h) (λ j. absurd (k (x, m, j))))))
