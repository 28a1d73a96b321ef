-- Lists compared: what `same_list` decides, and what each turn of a loop that compares number by number, and each way out of it,
-- says of it. Assumes nothing.
use Prim.Native.Nat.{ℕ, ◌+◌, ◌≤◌, ◌<◌}
use native.Mathlib.Numerals.{add-one}
use mathlib.Core.Bool.{Bool, true, false, ◌&&◌}
use mathlib.Core.List.{List, [], ◌∷◌}
use mathlib.Core.Logic.{◌↔◌}
use mathlib.Core.Path.{◌≡◌, refl, ap, ap₂, subst, ◌∙◌}
use borrow.Author.Tests.{eq-eqb, ne_eqb}
use lib.Dec.{eqb}
use lib.ListN.{length, get_or, drop, drop_of_length-le}
use lib.Pointwise.{pointwise}
use lib.Seq.{drop-cons}
use Rattle.format.specs.Text.{same_list}
use Rattle.format.proofs.Booleans.{same_list_lem, list_same}

pub same_iff : (a b : List ℕ) → (same_list a b ≡ true) ↔ (a ≡ b)
same_iff a b = (same_list_lem a b, λ e. subst (λ (l : List ℕ). same_list a l ≡ true) e (list_same a))

pub same_false : (a b : List ℕ) → (a ≡ b → ⊥) → same_list a b ≡ false
same_false a b n = by (same_list a b) refl
  where
    by : (t : Bool) → same_list a b ≡ t → t ≡ false
    by true e = absurd (n ((same_iff a b).0 e))
    by false e = refl

-- what `==` of two slices of numbers answers
pub same_pointwise : (a b : List ℕ) → pointwise eqb a b ≡ same_list a b
unfolding same_list
same_pointwise [] [] = refl
same_pointwise [] (y ∷ ys) = refl
same_pointwise (x ∷ xs) [] = refl
same_pointwise (x ∷ xs) (y ∷ ys) = ap (λ (rest : Bool). eqb x y && rest) (same_pointwise xs ys)

module _ (a b : List ℕ) (i : ℕ) where
  -- past the end of both
  pub same_end : length a ≤ i → length b ≤ i → same_list (drop i a) (drop i b) ≡ true
  unfolding same_list
  same_end ha hb = ap₂ same_list (drop_of_length-le a ha) (drop_of_length-le b hb)

  module _ (ha : i < length a) (hb : i < length b) where
    heads : same_list (drop i a) (drop i b) ≡ eqb (get_or a i 0) (get_or b i 0) && same_list (drop (i + 1) a) (drop (i + 1) b)
    unfolding same_list
    heads = rw (add-one, drop-cons a i 0, drop-cons b i 0)

    pub same_next : get_or a i 0 ≡ get_or b i 0 → same_list (drop i a) (drop i b) ≡ same_list (drop (i + 1) a) (drop (i + 1) b)
    same_next e = heads ∙ ap (λ (t : Bool). t && same_list (drop (i + 1) a) (drop (i + 1) b)) (eq-eqb _ _ e)

    pub same_differs : (get_or a i 0 ≡ get_or b i 0 → ⊥) → same_list (drop i a) (drop i b) ≡ false
    same_differs n = heads ∙ ap (λ (t : Bool). t && same_list (drop (i + 1) a) (drop (i + 1) b)) (ne_eqb _ _ n)
