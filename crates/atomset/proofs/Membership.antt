-- Membership in what the functions return, for a caller who reasons with members and not with tests: each law takes a contract as it
-- stands, for whatever word r meets it. With it inclusion, as a bit operation and as an order. Assumes nothing.
use mathlib.Core.Path.{◌≡◌, refl, sym, ap, ◌∙◌}
use mathlib.Core.Logic.{◌↔◌, ◌⊎◌, inl, inr, ⊎_elim}
use mathlib.Core.Bool.{Bool, true, false, ◌||◌, ◌&&◌, not, true≢false, false≢true}
use Prim.Native.Nat.{ℕ, ◌^◌, ◌<◌}
use native.Mathlib.Decide.{dec_lt}
use native.Mathlib.Omega.{arith}
use lib.Bits.{bit_and, and_lt, and_comm}
use Rattle.atomset.specs.AtomSet.{has, Member, Included}
use Rattle.atomset.proofs.Digits.{has_and, has_above, same_members}

-- ---- what a test says when it is true

or_iff : (x y : Bool) → ((x || y) ≡ true) ↔ ((x ≡ true) ⊎ (y ≡ true))
or_iff true y = (λ e. inl refl, λ s. refl)
or_iff false y = (inr, ⊎_elim (λ e. absurd (false≢true e)) (λ e. e))

and_iff : (x y : Bool) → ((x && y) ≡ true) ↔ ((x ≡ true) × (y ≡ true))
and_iff true y = (λ e. (refl, e), λ p. p.1)
and_iff false y = (λ e. absurd (false≢true e), λ p. p.0)

not_iff : (x : Bool) → (not x ≡ true) ↔ (x ≡ true → ⊥)
not_iff true = (λ e h. false≢true e, λ n. absurd (n refl))
not_iff false = (λ e h. false≢true h, λ n. refl)

-- ---- members

-- a word's members are below its width
pub member_lt : (k set i : ℕ) → set < 2 ^ k → Member i set → i < k
member_lt k set i h m = go (dec_lt i k)
  where
    go : Dec (i < k) → i < k
    go (yes l) = l
    go (no n) = absurd (true≢false (sym m ∙ has_above k set i h (omega arith)))

pub member_union : (a b r : ℕ) → ((i : ℕ) → has r i ≡ (has a i || has b i)) → (i : ℕ) → Member i r ↔ (Member i a ⊎ Member i b)
member_union a b r e i = (λ m. (or_iff (has a i) (has b i)).0 (sym (e i) ∙ m), λ s. e i ∙ (or_iff (has a i) (has b i)).1 s)

pub member_difference : (a b r : ℕ) → ((i : ℕ) → has r i ≡ (has a i && not (has b i)))
    → (i : ℕ) → Member i r ↔ (Member i a × (Member i b → ⊥))
member_difference a b r e i = (
  λ m. let p = (and_iff (has a i) (not (has b i))).0 (sym (e i) ∙ m) in (p.0, (not_iff (has b i)).0 p.1),
  λ p. e i ∙ (and_iff (has a i) (not (has b i))).1 (p.0, (not_iff (has b i)).1 p.1),
)

-- `a & b == a`
pub and_included : (k a b : ℕ) → a < 2 ^ k → b < 2 ^ k → (bit_and a b ≡ a) ↔ Included a b
and_included k a b ha hb = (
  λ e i m. ((and_iff (has a i) (has b i)).0 (sym (has_and a b i) ∙ ap (λ (x : ℕ). has x i) e ∙ m)).1,
  λ inc. same_members k (bit_and a b) a (and_lt k a b ha hb) ha (λ i l. has_and a b i ∙ go (has a i) (has b i) (inc i)),
)
  where
    go : (x y : Bool) → (x ≡ true → y ≡ true) → (x && y) ≡ x
    go true y h = h refl
    go false y h = refl

-- two words that include each other are equal
pub included_antisym : (k a b : ℕ) → a < 2 ^ k → b < 2 ^ k → Included a b → Included b a → a ≡ b
included_antisym k a b ha hb ab ba = sym ((and_included k a b ha hb).1 ab) ∙ and_comm a b ∙ (and_included k b a hb ha).1 ba
