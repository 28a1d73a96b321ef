-- Membership in a word under the bit operations, digit by digit: the lowest digit, and then the other digits as a word of their own.
-- Words are natural numbers, and k is a word's width where one is needed. Assumes nothing.
use mathlib.Core.Path.{◌≡◌, refl, sym, ap, ◌∙◌}
use mathlib.Core.Logic.{◌⊎◌, inl, inr}
use mathlib.Core.Bool.{Bool, false, ◌||◌, ◌&&◌, not, xor, true≢false, false≢true}
use Prim.Native.Nat.{ℕ, zero, suc, ◌-◌, ◌*◌, ◌/◌, ◌%◌, ◌^◌, ◌≤◌, ◌<◌, min, max}
use native.Mathlib.Nat.{pow-suc, mul_comm, div-div-eq-div-mul, one-mul, mod-eq_of_lt}
use native.Mathlib.Decide.{dec_lt}
use native.Mathlib.Omega.{arith}
use lib.Arith.{lt-one}
use lib.Bits.{bit_and, bit_or, bit_xor, differ, and_step, or_step, xor_step, and_mask}
use lib.Dec.{eqb, eqb-zero-suc, eqb-suc-zero, eqb-suc-suc}
use lib.Pow.{pow_pos, pow-lt}
use Rattle.atomset.specs.AtomSet.{has}

-- ---- one digit

pub half_lt : (k set : ℕ) → set < 2 ^ suc k → set / 2 < 2 ^ k
half_lt k set h = omega (arith, pow-suc 2 k)

-- what holds of the digits 0 and 1 holds of each digit
each_digit : (P : ℕ → Type 0) → P 0 → P 1 → (x : ℕ) → x < 2 → P x
each_digit P p q zero h = p
each_digit P p q (suc zero) h = q
each_digit P p q (suc (suc x)) h = absurd (omega arith)

each_two : (P : ℕ → ℕ → Type 0) → P 0 0 → P 0 1 → P 1 0 → P 1 1 → (x y : ℕ) → x < 2 → y < 2 → P x y
each_two P p q r s x y hx hy = each_digit (λ (x : ℕ). P x y) (each_digit (P 0) p q y hy) (each_digit (P 1) r s y hy) x hx

pub low_cases : (set : ℕ) → (set % 2 ≡ 0) ⊎ (set % 2 ≡ 1)
low_cases set = each_digit (λ (x : ℕ). (x ≡ 0) ⊎ (x ≡ 1)) (inl refl) (inr refl) (set % 2) (omega arith)

min_and : (x y : ℕ) → x < 2 → y < 2 → eqb (min x y) 1 ≡ (eqb x 1 && eqb y 1)
min_and = each_two (λ (x y : ℕ). eqb (min x y) 1 ≡ (eqb x 1 && eqb y 1)) refl refl refl refl

max_or : (x y : ℕ) → x < 2 → y < 2 → eqb (max x y) 1 ≡ (eqb x 1 || eqb y 1)
max_or = each_two (λ (x y : ℕ). eqb (max x y) 1 ≡ (eqb x 1 || eqb y 1)) refl refl refl refl

differ_xor : (x y : ℕ) → x < 2 → y < 2 → eqb (differ x y) 1 ≡ xor (eqb x 1) (eqb y 1)
unfolding xor
differ_xor = each_two (λ (x y : ℕ). eqb (differ x y) 1 ≡ xor (eqb x 1) (eqb y 1)) refl refl refl refl

differ_low : (x y : ℕ) → x < 2 → y < 2 → differ x y < 2
differ_low = each_two (λ (x y : ℕ). differ x y < 2) (omega arith) (omega arith) (omega arith) (omega arith)

one_less : (x : ℕ) → x < 2 → eqb (1 - x) 1 ≡ not (eqb x 1)
one_less = each_digit (λ (x : ℕ). eqb (1 - x) 1 ≡ not (eqb x 1)) refl refl

same_digit : (x y : ℕ) → x < 2 → y < 2 → eqb x 1 ≡ eqb y 1 → x ≡ y
same_digit =
    each_two (λ (x y : ℕ). eqb x 1 ≡ eqb y 1 → x ≡ y) (λ e. refl) (λ e. absurd (false≢true e)) (λ e. absurd (true≢false e)) (λ e. refl)

-- ---- the operations

and_half : (a b : ℕ) → bit_and a b / 2 ≡ bit_and (a / 2) (b / 2)
and_half a b = omega (arith, and_step a b)

and_low : (a b : ℕ) → bit_and a b % 2 ≡ min (a % 2) (b % 2)
and_low a b = omega (arith, and_step a b)

or_half : (a b : ℕ) → bit_or a b / 2 ≡ bit_or (a / 2) (b / 2)
or_half a b = omega (arith, or_step a b)

or_low : (a b : ℕ) → bit_or a b % 2 ≡ max (a % 2) (b % 2)
or_low a b = omega (arith, or_step a b)

xor_half : (a b : ℕ) → bit_xor a b / 2 ≡ bit_xor (a / 2) (b / 2)
xor_half a b = omega (arith, xor_step a b, differ_low (a % 2) (b % 2) (omega arith) (omega arith))

xor_low : (a b : ℕ) → bit_xor a b % 2 ≡ differ (a % 2) (b % 2)
xor_low a b = omega (arith, xor_step a b, differ_low (a % 2) (b % 2) (omega arith) (omega arith))

not_half : (k a : ℕ) → a < 2 ^ suc k → ((2 ^ suc k - 1) - a) / 2 ≡ (2 ^ k - 1) - a / 2
not_half k a h = omega (arith, pow-suc 2 k, pow_pos k)

not_low : (k a : ℕ) → a < 2 ^ suc k → ((2 ^ suc k - 1) - a) % 2 ≡ 1 - a % 2
not_low k a h = omega (arith, pow-suc 2 k, pow_pos k)

pub has_and : (a b i : ℕ) → has (bit_and a b) i ≡ (has a i && has b i)
unfolding has
has_and a b zero = ap (λ (x : ℕ). eqb x 1) (and_low a b) ∙ min_and (a % 2) (b % 2) (omega arith) (omega arith)
has_and a b (suc i) = ap (λ (x : ℕ). has x i) (and_half a b) ∙ has_and (a / 2) (b / 2) i

pub has_or : (a b i : ℕ) → has (bit_or a b) i ≡ (has a i || has b i)
unfolding has
has_or a b zero = ap (λ (x : ℕ). eqb x 1) (or_low a b) ∙ max_or (a % 2) (b % 2) (omega arith) (omega arith)
has_or a b (suc i) = ap (λ (x : ℕ). has x i) (or_half a b) ∙ has_or (a / 2) (b / 2) i

pub has_xor : (a b i : ℕ) → has (bit_xor a b) i ≡ xor (has a i) (has b i)
unfolding has
has_xor a b zero = ap (λ (x : ℕ). eqb x 1) (xor_low a b) ∙ differ_xor (a % 2) (b % 2) (omega arith) (omega arith)
has_xor a b (suc i) = ap (λ (x : ℕ). has x i) (xor_half a b) ∙ has_xor (a / 2) (b / 2) i

-- `!a`
pub has_not : (k a i : ℕ) → a < 2 ^ k → i < k → has ((2 ^ k - 1) - a) i ≡ not (has a i)
unfolding has
has_not zero a i h l = absurd (omega arith)
has_not (suc k) a zero h l = ap (λ (x : ℕ). eqb x 1) (not_low k a h) ∙ one_less (a % 2) (omega arith)
has_not (suc k) a (suc i) h l = ap (λ (x : ℕ). has x i) (not_half k a h) ∙ has_not k (a / 2) i (half_lt k a h) (omega arith)

-- ---- words and their members

pub has_zero : (i : ℕ) → has 0 i ≡ false
unfolding has
has_zero zero = refl
has_zero (suc i) = has_zero i

-- a word has no member from its width on
pub has_above : (k set i : ℕ) → set < 2 ^ k → k ≤ i → has set i ≡ false
unfolding has
has_above zero set i h l = ap (λ (x : ℕ). has x i) (lt-one h) ∙ has_zero i
has_above (suc k) set zero h l = absurd (omega arith)
has_above (suc k) set (suc i) h l = has_above k (set / 2) i (half_lt k set h) (omega arith)

-- two words with the same members are equal
pub same_members : (k a b : ℕ) → a < 2 ^ k → b < 2 ^ k → ((i : ℕ) → i < k → has a i ≡ has b i) → a ≡ b
unfolding has
same_members zero a b ha hb e = lt-one ha ∙ sym (lt-one hb)
same_members (suc k) a b ha hb e =
    let low : a % 2 ≡ b % 2 = same_digit (a % 2) (b % 2) (omega arith) (omega arith) (e zero (omega arith)) in
    let high : a / 2 ≡ b / 2 = same_members k (a / 2) (b / 2) (half_lt k a ha) (half_lt k b hb) (λ i l. e (suc i) (omega arith)) in
    omega arith

-- the set of one atom
pub has_power : (atom i : ℕ) → has (2 ^ atom) i ≡ eqb i atom
unfolding has
has_power zero zero = refl
has_power zero (suc i) = has_zero i ∙ sym (eqb-suc-zero i)
has_power (suc atom) zero =
    let even : 2 ^ suc atom % 2 ≡ 0 = omega (arith, pow-suc 2 atom) in
    ap (λ (x : ℕ). eqb x 1) even ∙ sym (eqb-zero-suc atom)
has_power (suc atom) (suc i) =
    let half : 2 ^ suc atom / 2 ≡ 2 ^ atom = omega (arith, pow-suc 2 atom) in
    ap (λ (x : ℕ). has x i) half ∙ has_power atom i ∙ sym (eqb-suc-suc i atom)

-- `1 << atom`
pub shl_one : (k atom : ℕ) → atom < k → (1 * 2 ^ atom) % 2 ^ k ≡ 2 ^ atom
shl_one k atom h = ap (λ (x : ℕ). x % 2 ^ k) (one-mul (2 ^ atom)) ∙ mod-eq_of_lt (pow-lt h)

-- `(set >> i) & 1 == 1`
pub has_shr : (set i : ℕ) → eqb (bit_and (set / 2 ^ i) 1) 1 ≡ has set i
unfolding has
has_shr set i = ap (λ (x : ℕ). eqb x 1) (and_mask (set / 2 ^ i) 1) ∙ go set i
  where
    go : (set i : ℕ) → eqb (set / 2 ^ i % 2) 1 ≡ has set i
    go set zero =
        let whole : set / 2 ^ 0 % 2 ≡ set % 2 = omega arith in
        ap (λ (x : ℕ). eqb x 1) whole
    go set (suc i) =
        let halved : set / 2 ^ suc i ≡ set / 2 / 2 ^ i = ap (λ (x : ℕ). set / x) (pow-suc 2 i ∙ mul_comm (2 ^ i) 2) ∙ sym (div-div-eq-div-mul set 2 (2 ^ i)) in
        ap (λ (x : ℕ). eqb (x % 2) 1) halved ∙ go (set / 2) i

-- `a & !b`: from the width on neither side has a member
pub has_and_not : (k a b i : ℕ) → a < 2 ^ k → b < 2 ^ k → has (bit_and a ((2 ^ k - 1) - b)) i ≡ (has a i && not (has b i))
has_and_not k a b i ha hb = has_and a ((2 ^ k - 1) - b) i ∙ go (dec_lt i k)
  where
    go : Dec (i < k) → (has a i && has ((2 ^ k - 1) - b) i) ≡ (has a i && not (has b i))
    go (yes l) = ap (λ (t : Bool). has a i && t) (has_not k b i hb l)
    go (no n) =
        let none : has a i ≡ false = has_above k a i ha (omega arith) in
        simp none
