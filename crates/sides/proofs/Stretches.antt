-- Stretches of two sides that are the same. Assumes nothing.
use Prim.Native.Nat.{ℕ, suc, ◌+◌, ◌-◌, ◌≤◌, ◌<◌}
use native.Mathlib.Decide.{dec_lt}
use native.Mathlib.Omega.{arith}
use mathlib.Core.List.{List}
use mathlib.Core.Path.{◌≡◌, sym, ap, ◌∙◌}
use lib.ListN.{length, get_or}
use Rattle.sides.specs.Merging.{SameFrom}

-- no numbers are the same
pub none_same : {a b : List ℕ} {i j : ℕ} → i ≤ length a → j ≤ length b → SameFrom a i b j 0
none_same h l = record { in_a = omega arith; in_b = omega arith; same = λ k m. absurd (omega arith) }

-- one
pub one_same : {a b : List ℕ} {i j : ℕ} → i < length a → j < length b → get_or a i 0 ≡ get_or b j 0 → SameFrom a i b j 1
one_same {a} {b} {i} {j} h l e = record { in_a = omega arith; in_b = omega arith; same = by }
  where
    by : (k : ℕ) → k < 1 → get_or a (i + k) 0 ≡ get_or b (j + k) 0
    by k m =
        let at_i : i + k ≡ i = omega arith in
        let at_j : j + k ≡ j = omega arith in
        ap (λ (t : ℕ). get_or a t 0) at_i ∙ e ∙ sym (ap (λ (t : ℕ). get_or b t 0) at_j)

-- and then more
pub more_same :
    {a b : List ℕ} {i j m n : ℕ} → SameFrom a i b j m → SameFrom a (i + m) b (j + m) n → SameFrom a i b j (m + n)
more_same {a} {b} {i} {j} {m} {n} s t = record { in_a = omega (arith, t.in_a); in_b = omega (arith, t.in_b); same = λ k h. by k h (dec_lt k m) }
  where
    by : (k : ℕ) → k < m + n → Dec (k < m) → get_or a (i + k) 0 ≡ get_or b (j + k) 0
    by k h (yes l) = s.same k l
    by k h (no l) =
        let at_i : i + k ≡ i + m + (k - m) = omega arith in
        let at_j : j + m + (k - m) ≡ j + k = omega arith in
        ap (λ (u : ℕ). get_or a u 0) at_i ∙ t.same (k - m) (omega arith) ∙ ap (λ (u : ℕ). get_or b u 0) at_j

module _ {a b : List ℕ} {i j n : ℕ} (s : SameFrom a i b j (suc n)) where
  pub first_same : get_or a i 0 ≡ get_or b j 0
  first_same =
      let at_i : i ≡ i + 0 = omega arith in
      let at_j : j + 0 ≡ j = omega arith in
      ap (λ (t : ℕ). get_or a t 0) at_i ∙ s.same 0 (omega arith) ∙ ap (λ (t : ℕ). get_or b t 0) at_j

  pub others_same : SameFrom a (i + 1) b (j + 1) n
  others_same = record { in_a = omega (arith, s.in_a); in_b = omega (arith, s.in_b); same = by }
    where
      by : (k : ℕ) → k < n → get_or a (i + 1 + k) 0 ≡ get_or b (j + 1 + k) 0
      by k h =
          let at_i : i + 1 + k ≡ i + (k + 1) = omega arith in
          let at_j : j + (k + 1) ≡ j + 1 + k = omega arith in
          ap (λ (t : ℕ). get_or a t 0) at_i ∙ s.same (k + 1) (omega arith) ∙ ap (λ (t : ℕ). get_or b t 0) at_j
