-- One pass over a side that looks for a formula: `found` is whether some number before place i passes the test. Assumes nothing.
use Prim.Native.Nat.{ℕ, ◌+◌, ◌≤◌, ◌<◌}
use native.Mathlib.Numerals.{add-one}
use mathlib.Core.Bool.{Bool, false, ◌||◌, or-false, or_assoc}
use mathlib.Core.List.{List}
use mathlib.Core.Path.{◌≡◌, refl, sym, ap, ◌∙◌}
use lib.ListN.{length, get_or, drop, drop_of_length-le}
use lib.Seq.{drop-cons}
use Rattle.format.specs.Text.{any}

module _ (test : ℕ → Bool) (side : List ℕ) where
  pub Passed : Bool → ℕ → Type 0
  Passed found i = any test side ≡ (found || any test (drop i side))

  pub pass_starts : Passed false 0
  unfolding Passed
  pass_starts = refl

  pub pass_goes_on : (found more : Bool) (i : ℕ) → i < length side → Passed found i → more ≡ (found || test (get_or side i 0)) → Passed more (i + 1)
  unfolding Passed
  pass_goes_on found more i h p m =
      p ∙ ap (λ (t : Bool). found || t) next ∙ sym (or_assoc found (test (get_or side i 0)) _)
      ∙ ap (λ (t : Bool). t || any test (drop (i + 1) side)) (sym m)
    where
      next : any test (drop i side) ≡ (test (get_or side i 0) || any test (drop (i + 1) side))
      next = rw (add-one, drop-cons side i 0)

  pub pass_ends : (found : Bool) (i : ℕ) → length side ≤ i → Passed found i → found ≡ any test side
  unfolding Passed
  pass_ends found i h p = sym (p ∙ ap (λ (xs : List ℕ). found || any test xs) (drop_of_length-le side h) ∙ or-false found)
