-- A number looked for from a place on: what the numbers that are passed say of it. Assumes nothing.
use Prim.Native.Nat.{ℕ, ◌+◌, ◌≤◌, ◌<◌}
use native.Mathlib.Numerals.{add-one}
use mathlib.Core.Bool.{Bool, true, false, ◌||◌}
use mathlib.Core.List.{List}
use mathlib.Core.Path.{◌≡◌, ap, ◌∙◌}
use borrow.Author.Tests.{eq-eqb, ne_eqb}
use lib.Dec.{eqb}
use lib.ListN.{length, get_or, drop, drop_of_length-le}
use lib.Seq.{drop-cons}
use Rattle.sides.specs.Members.{member}

module _ (x : ℕ) (side : List ℕ) (i : ℕ) where
  pub at_end : length side ≤ i → member x (drop i side) ≡ false
  unfolding member
  at_end h = ap (member x) (drop_of_length-le side h)

  module _ (h : i < length side) where
    head : member x (drop i side) ≡ eqb (get_or side i 0) x || member x (drop (i + 1) side)
    unfolding member
    head = rw (add-one, drop-cons side i 0)

    pub here : get_or side i 0 ≡ x → member x (drop i side) ≡ true
    here e = head ∙ ap (λ (t : Bool). t || member x (drop (i + 1) side)) (eq-eqb _ _ e)

    pub next : (get_or side i 0 ≡ x → ⊥) → member x (drop i side) ≡ member x (drop (i + 1) side)
    next n = head ∙ ap (λ (t : Bool). t || member x (drop (i + 1) side)) (ne_eqb _ _ n)
