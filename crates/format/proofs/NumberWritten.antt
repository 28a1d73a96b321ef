-- A number is written in one way.
use Prim.Native.Nat.{ℕ, zero, suc, ◌+◌, ◌-◌, ◌*◌, ◌≤◌, ◌<◌}
use native.Mathlib.Omega.{arith}
use native.Mathlib.Decide.{dec_lt}
use mathlib.Core.Path.{◌≡◌, refl, sym, ap, ap₂, ◌∙◌}
use mathlib.Core.Bool.{true, true≢false}
use mathlib.Core.List.{[], ◌∷◌, ◌++◌}
use mathlib.Core.Option.{some}
use lib.Dec.{leb}
use lib.ListN.{length, length-append, replicate, length-replicate}
use borrow.Author.Tests.{leb-true}
use Rattle.format.specs.Text.{Bytes, all, is_digit, leading_zero, value_from, number_of}
use Rattle.format.proofs.Booleans.{and_true}
use Rattle.format.proofs.Sides.{Digits, number_digits}

-- as many digits after two numbers: equal values come from equal numbers and equal digits
value_same : (ds es : Bytes) (m n : ℕ) → length ds ≡ length es → all is_digit ds ≡ true → all is_digit es ≡ true → value_from m ds ≡ value_from n es
    → (m ≡ n) × (ds ≡ es)
value_same [] [] m n l h k e = (e, refl)
value_same [] (x ∷ es) m n l h k e = absurd (omega arith)
value_same (d ∷ ds) [] m n l h k e = absurd (omega arith)
value_same (d ∷ ds) (x ∷ es) m n l h k e =
    let one = and_true (is_digit d) (all is_digit ds) h in
    let other = and_true (is_digit x) (all is_digit es) k in
    let digit = and_true (leb 48 d) (leb d 57) one.0 in
    let digit' = and_true (leb 48 x) (leb x 57) other.0 in
    let rest = value_same ds es (m * 10 + (d - 48)) (n * 10 + (x - 48)) (omega arith) one.1 other.1 e in
    let low = leb-true 48 d digit.0 in
    let high = leb-true d 57 digit.1 in
    let low' = leb-true 48 x digit'.0 in
    let high' = leb-true x 57 digit'.1 in
    let numbers : m ≡ n = omega (arith, rest.0) in
    let heads : d ≡ x = omega (arith, rest.0) in
    (numbers, ap₂ (λ (y : ℕ) (ys : Bytes). y ∷ ys) heads rest.1)

-- zeros in front change no value
value_zeros : (k : ℕ) (es : Bytes) → value_from 0 (replicate k 48 ++ es) ≡ value_from 0 es
value_zeros zero es = refl
value_zeros (suc k) es = value_zeros k es

zeros_digits : (k : ℕ) (es : Bytes) → all is_digit es ≡ true → all is_digit (replicate k 48 ++ es) ≡ true
zeros_digits zero es h = h
zeros_digits (suc k) es h = zeros_digits k es h

zeros_lead : (k : ℕ) (es : Bytes) → 1 ≤ length es → leading_zero (replicate (suc k) 48 ++ es) ≡ true
zeros_lead zero [] h = absurd (omega arith)
zeros_lead zero (x ∷ es) h = refl
zeros_lead (suc k) es h = refl

-- a longer field would have a leading zero
not_longer : (f g : Bytes) (n k : ℕ) → Digits f n → Digits g n → length f ≡ suc k + length g → ⊥
not_longer f g n k a b l =
    let padded : Bytes = replicate (suc k) 48 ++ g in
    let size : length f ≡ length padded = omega (arith, length-replicate {A = ℕ} (suc k) 48, length-append (replicate (suc k) 48) g) in
    let values = a.value ∙ sym b.value ∙ sym (value_zeros (suc k) g) in
    let same = (value_same f padded 0 0 size a.digits (zeros_digits (suc k) g b.digits) values).1 in
    true≢false (sym (zeros_lead k g b.some_digit) ∙ ap leading_zero (sym same) ∙ a.no_zero)

pub number_injective : (f g : Bytes) (n : ℕ) → number_of f ≡ some n → number_of g ≡ some n → f ≡ g
number_injective f g n e k = by_length (dec_lt (length f) (length g)) (dec_lt (length g) (length f))
  where
    a : Digits f n
    a = number_digits f n e

    b : Digits g n
    b = number_digits g n k

    by_length : Dec (length f < length g) → Dec (length g < length f) → f ≡ g
    by_length (yes l) q = absurd (not_longer g f n (length g - length f - 1) b a (omega arith))
    by_length (no l) (yes m) = absurd (not_longer f g n (length f - length g - 1) a b (omega arith))
    by_length (no l) (no m) = (value_same f g 0 0 (omega arith) a.digits b.digits (a.value ∙ sym b.value)).1
