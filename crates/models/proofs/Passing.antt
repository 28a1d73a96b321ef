-- A loop that asks whether every number of a list passes a test: what each turn of it, and each way out, says. Assumes nothing.
use Prim.Native.Nat.{ℕ, suc, ◌+◌, ◌≤◌, ◌<◌}
use native.Mathlib.Numerals.{add-one}
use mathlib.Core.Bool.{Bool, true, false, ◌&&◌}
use mathlib.Core.List.{List}
use mathlib.Core.Path.{◌≡◌, sym, ap, ◌∙◌}
use lib.ListN.{length, get_or, drop, drop_of_length-le}
use lib.Seq.{drop-cons}
use Rattle.format.specs.Text.{all}

module _ (test : ℕ → Bool) (xs : List ℕ) where
  -- the first i numbers pass, so that the rest decide
  abbrev pub Passed : ℕ → Type 0
  Passed i = all test xs ≡ all test (drop i xs)

  module _ (i : ℕ) (p : Passed i) where
    -- the number at i was read, and the test asked of it
    module _ (h : i < length xs) {x : ℕ} (read : x ≡ get_or xs i 0) {answer : Bool} (asked : answer ≡ test x) where
      -- its answer and the rest decide
      next : (b : Bool) → answer ≡ b → all test xs ≡ (b && all test (drop (i + 1) xs))
      next b e = p ∙ rw (add-one, drop-cons xs i 0) (ap (λ (t : Bool). t && all test (drop (suc i) xs)) (sym (asked ∙ ap test read) ∙ e))

      -- the loop goes on
      pub passes : answer ≡ true → Passed (i + 1)
      passes = next true

      -- or ends
      pub fails : answer ≡ false → all test xs ≡ false
      fails = next false

    -- none is left
    pub all_passed : length xs ≤ i → all test xs ≡ true
    all_passed h = p ∙ ap (all test) (drop_of_length-le xs h)
