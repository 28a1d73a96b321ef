-- Three cursors on strictly rising lists: what they have passed decides whether every number of a is in b or in c.
use Prim.Native.Nat.{ℕ, suc, ◌+◌, ◌-◌, ◌≤◌, ◌<◌}
use native.Mathlib.Decide.{dec_lt}
use native.Mathlib.Omega.{arith}
use mathlib.Core.Bool.{Bool, true, false, ◌&&◌, false≢true}
use mathlib.Core.List.Memᴰ
use mathlib.Core.List.{List, [], ◌∷◌, ◌++◌}
use mathlib.Core.Logic.{⊎_elim}
use mathlib.Core.Path.{◌≡◌, sym, ap, subst, ◌∙◌}
use borrow.Author.Tests.{eqb-true, ltb-true, eq-eqb, lt-ltb}
use lib.Dec.{eqb, ltb}
use lib.ListN.{length, get_or}
use Rattle.equilibrium.specs.Meaning.{◌∈◌, ◌⊆◌}
use Rattle.format.specs.Text.{strictly_rising}
use Rattle.format.proofs.Booleans.{and_true}
use Rattle.format.proofs.GoodBodies.{in_get_d}
use Rattle.sides.proofs.Sets.{rising_at}
use Rattle.sides.specs.Covering.{Skips}
use Rattle.sides.specs.Merging.{SameFrom}

-- a member stands at some place
pub place_of : (xs : List ℕ) (z : ℕ) → z ∈ xs → (k : ℕ) × (k < length xs) × (get_or xs k 0 ≡ z)
place_of [] z m = absurd (Memᴰ.not-nil m)
place_of (x ∷ xs) z m = ⊎_elim (λ (e : z ≡ x). (0, omega arith, sym e)) (λ k. later (place_of xs z k)) (Memᴰ.cases_cons m)
  where
    later : (k : ℕ) × (k < length xs) × (get_or xs k 0 ≡ z) → (k : ℕ) × (k < length (x ∷ xs)) × (get_or (x ∷ xs) k 0 ≡ z)
    later p = (suc p.0, omega (arith, p.1), p.2)

-- the numbers before the cursor are below the next number of a
abbrev pub Passed : List ℕ → ℕ → List ℕ → ℕ → Type 0
Passed a i b j = i < length a → (k : ℕ) → k < j → get_or b k 0 < get_or a i 0

module _ (a b : List ℕ) (i j : ℕ) (l : i < length a) (p : Passed a i b j) (r : ℕ) (s : Skips b j (get_or a i 0) r) where
  pub skip_passed : (k : ℕ) → k < r → get_or b k 0 < get_or a i 0
  skip_passed k h = by (dec_lt k j)
    where
      by : Dec (k < j) → get_or b k 0 < get_or a i 0
      by (yes m) = p l k m
      by (no n) = s.below k (omega arith) h

  -- the cursor serves the next number of a, which is greater
  pub next_passed : strictly_rising a ≡ true → Passed a (i + 1) b r
  next_passed ra m k h = omega (arith, skip_passed k h, rising_at a i (i + 1) ra (omega arith) m)

  -- where the number does not stand at the cursor it is not in b
  pub not_there : strictly_rising b ≡ true → ((r < length b) × (get_or b r 0 ≡ get_or a i 0) → ⊥) → get_or a i 0 ∈ b → ⊥
  not_there rb n m = by (place_of b (get_or a i 0) m)
    where
      by : (k : ℕ) × (k < length b) × (get_or b k 0 ≡ get_or a i 0) → ⊥
      by (k, h, e) = apart (dec_lt k r) (dec_lt r k)
        where
          apart : Dec (k < r) → Dec (r < k) → ⊥
          apart (yes m) d = omega (arith, skip_passed k m)
          apart (no u) (yes m) = omega (arith, s.stops (omega arith), rising_at b r k rb m h)
          apart (no u) (no v) = let k≡r : k ≡ r = omega arith in n (omega arith, ap (λ (t : ℕ). get_or b t 0) (sym k≡r) ∙ e)

-- the cursor serves a later number of a as well
pub later_passed : (a b : List ℕ) (i j n : ℕ) → strictly_rising a ≡ true → Passed a i b j → Passed a (i + n) b j
later_passed a b i j n ra p m k h = by (dec_lt 0 n)
  where
    by : Dec (0 < n) → get_or b k 0 < get_or a (i + n) 0
    by (yes z) = omega (arith, p (omega arith) k h, rising_at a i (i + n) ra (omega arith) m)
    by (no z) = let e : i + n ≡ i = omega arith in subst (λ (t : ℕ). get_or b k 0 < get_or a t 0) (sym e) (p (omega arith) k h)

-- and both have passed numbers that are the same
pub same_passed : (a b : List ℕ) (i j n : ℕ) → SameFrom a i b j n → strictly_rising a ≡ true → Passed a i b j → Passed a (i + n) b (j + n)
same_passed a b i j n s ra p m k h = by (dec_lt k j)
  where
    by : Dec (k < j) → get_or b k 0 < get_or a (i + n) 0
    by (yes l) = later_passed a b i j n ra p m k l
    by (no l) =
        let at_k : j + (k - j) ≡ k = omega arith in
        let e = s.same (k - j) (omega arith) ∙ ap (λ (t : ℕ). get_or b t 0) at_k in
        omega (arith, e, rising_at a (i + (k - j)) (i + n) ra (omega arith) m)

-- every number of a before i is in b or in c
abbrev pub Found : List ℕ → ℕ → List ℕ → Type 0
Found a i both = (k : ℕ) → k < i → get_or a k 0 ∈ both

pub found_more : (a : List ℕ) (i : ℕ) (both : List ℕ) → Found a i both → get_or a i 0 ∈ both → Found a (i + 1) both
found_more a i both f m k h = by (dec_lt k i)
  where
    by : Dec (k < i) → get_or a k 0 ∈ both
    by (yes l) = f k l
    by (no n) = let e : k ≡ i = omega arith in subst (λ (t : ℕ). get_or a t 0 ∈ both) (sym e) m

-- numbers that b has too are found
pub found_same : (a b c : List ℕ) (i j n : ℕ) → SameFrom a i b j n → Found a i (b ++ c) → Found a (i + n) (b ++ c)
found_same a b c i j n s f k h = by (dec_lt k i)
  where
    by : Dec (k < i) → get_or a k 0 ∈ b ++ c
    by (yes l) = f k l
    by (no l) =
        let at_k : k ≡ i + (k - i) = omega arith in
        let e = ap (λ (t : ℕ). get_or a t 0) at_k ∙ s.same (k - i) (omega arith) in
        subst (λ (z : ℕ). z ∈ b ++ c) (sym e) (Memᴰ.append_left c (in_get_d b (j + (k - i)) 0 (omega (arith, s.in_b))))

pub all_found : (a : List ℕ) (i : ℕ) (both : List ℕ) → Found a i both → length a ≤ i → a ⊆ both
all_found a i both f h z m = let p = place_of a z m in subst (λ (t : ℕ). t ∈ both) p.2 (f p.0 (omega (arith, p.1)))

-- a number in neither is not found
pub in_neither : (a b c : List ℕ) (i : ℕ) → i < length a → (get_or a i 0 ∈ b → ⊥) → (get_or a i 0 ∈ c → ⊥) → a ⊆ b ++ c → ⊥
in_neither a b c i l nb nc h = ⊎_elim nb nc (Memᴰ.append_cases b (h (get_or a i 0) (in_get_d a i 0 l)))

-- what the answer of `stands` says
module _ (side : List ℕ) (at x : ℕ) {r : Bool} (answer : r ≡ (ltb at (length side) && eqb (get_or side at 0) x)) where
  pub stands_inside : r ≡ true → at < length side
  stands_inside e = ltb-true at (length side) (and_true (ltb at (length side)) (eqb (get_or side at 0) x) (sym answer ∙ e)).0

  pub stands_there : r ≡ true → get_or side at 0 ≡ x
  stands_there e = eqb-true (get_or side at 0) x (and_true (ltb at (length side)) (eqb (get_or side at 0) x) (sym answer ∙ e)).1

  pub on_side : r ≡ true → x ∈ side
  on_side e =
      subst (λ (z : ℕ). z ∈ side) (stands_there e) (in_get_d side at 0 (stands_inside e))

  pub not_at : r ≡ false → (at < length side) × (get_or side at 0 ≡ x) → ⊥
  not_at e h = false≢true (sym e ∙ answer ∙ rw (lt-ltb at (length side) h.0, eq-eqb (get_or side at 0) x h.1))
