-- A number in decimal: one digit, or the number without its last digit and then that one. Assumes nothing.
use Prim.Native.Nat.{ℕ, zero, suc, ◌+◌, ◌/◌, ◌%◌, ◌^◌, ◌≤◌, ◌<◌}
use native.Mathlib.Nat.{pow-suc}
use native.Mathlib.Omega.{arith}
use mathlib.Core.Bool.{Bool, cond}
use mathlib.Core.List.{[], ◌∷◌, ◌++◌}
use mathlib.Core.Path.{◌≡◌, sym, ap, ◌∙◌}
use borrow.Author.Tests.{lt-ltb, le-ltb}
use lib.Dec.{ltb}
use Rattle.format.specs.Text.{Bytes}
use Rattle.format.specs.Written.{digit, digits, decimal, Small}

-- the test for one digit, and what it picks
module _ (n : ℕ) (long : Bytes) where
  pick_one : n < 10 → cond (ltb n 10) (digit n ∷ []) long ≡ digit n ∷ []
  pick_one h = ap (λ (b : Bool). cond b (digit n ∷ []) long) (lt-ltb n 10 h)

  pick_more : 10 ≤ n → cond (ltb n 10) (digit n ∷ []) long ≡ long
  pick_more h = ap (λ (b : Bool). cond b (digit n ∷ []) long) (le-ltb n 10 h)

-- room for one digit more changes nothing
enough : (k n : ℕ) → n < 10 ^ suc k → digits (suc (suc k)) n ≡ digits (suc k) n
unfolding digits
enough zero n h = let one : n < 10 = omega (arith, rw pow-suc at h) in pick_one n _ one ∙ sym (pick_one n _ one)
enough (suc k) n h =
    ap (λ (ds : Bytes). cond (ltb n 10) (digit n ∷ []) (ds ++ digit (n % 10) ∷ [])) (enough k (n / 10) (omega (arith, rw pow-suc at h)))

pub decimal_one : (n : ℕ) → n < 10 → decimal n ≡ (48 + n) ∷ []
unfolding decimal digits
decimal_one n h = pick_one n (digits 4 (n / 10) ++ digit (n % 10) ∷ []) h

pub decimal_more : (n : ℕ) → 10 ≤ n → Small n → decimal n ≡ decimal (n / 10) ++ (48 + n % 10) ∷ []
unfolding decimal digits
decimal_more n l h =
    pick_more n (digits 4 (n / 10) ++ digit (n % 10) ∷ []) l
    ∙ ap (λ (ds : Bytes). ds ++ digit (n % 10) ∷ []) (sym (enough 3 (n / 10) (omega arith)))
