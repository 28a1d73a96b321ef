-- The members of a word in rising order: they are the atoms that it has, the lowest is at the word's trailing zeros, and the others are
-- the members of the word without its lowest 1. Assumes nothing.
use mathlib.Core.Path.{◌≡◌, refl, sym, ap, ap₂, ◌∙◌}
use mathlib.Core.Logic.{◌↔◌, ⊎_elim}
use mathlib.Core.Bool.{Bool, true, false, ◌&&◌, not, and-true, true≢false}
use mathlib.Core.List.Memᴰ
use mathlib.Core.List.{List, [], ◌∷◌, Memᴰ}
use Prim.Native.Nat.{ℕ, zero, suc, ◌+◌, ◌-◌, ◌*◌, ◌/◌, ◌%◌, ◌^◌, ◌≤◌, ◌<◌}
use native.Mathlib.Nat.{zero-add}
use native.Mathlib.Numerals.{one-add}
use native.Mathlib.Decide.{ℕ_discrete}
use native.Mathlib.Omega.{arith}
use lib.Arith.{lt-one}
use lib.Bits.{bit_and, and_step, and_self, and_le_l}
use lib.Count.{ones, count_trailing_zeros, ones_step, trailing_of_zero}
use lib.Dec.{eqb, eqb-suc-zero, eqb-suc-suc, lit<}
use lib.ListN.{length, get_or, drop}
use borrow.Author.Tests.{eqb-true, eq-eqb}
use Rattle.elk.specs.Instance.{Rising}
use Rattle.atomset.specs.AtomSet.{has, Member, cons_if, members_from, members}
use Rattle.atomset.proofs.Digits.{half_lt, low_cases, has_zero, has_power}
use Rattle.atomset.proofs.Membership.{member_lt, member_difference}
use Rattle.elk.proofs.Rising.{rising_cons, rising_unique}

-- ---- the list

members_from_member : (set i n z : ℕ) → Memᴰ z (members_from set i n) → (i ≤ z) × Member z set
unfolding members_from
members_from_member set i zero z m = absurd (Memᴰ.not-nil m)
members_from_member set i (suc n) z m = go (has set i) refl (members_from_member set (suc i) n z) m
  where
    go : (t : Bool) → has set i ≡ t → (Memᴰ z (members_from set (suc i) n) → (suc i ≤ z) × Member z set)
        → Memᴰ z (cons_if t i (members_from set (suc i) n)) → (i ≤ z) × Member z set
    go true e later m = ⊎_elim (λ q. (omega arith, ap (has set) q ∙ e)) (λ n. let p = later n in (omega arith, p.1)) (Memᴰ.cases_cons m)
    go false e later m = let p = later m in (omega arith, p.1)

member_members_from : (set i n z : ℕ) → i ≤ z → z < i + n → Member z set → Memᴰ z (members_from set i n)
unfolding members_from
member_members_from set i zero z l h m = absurd (omega arith)
member_members_from set i (suc n) z l h m = go (has set i) refl (λ g. member_members_from set (suc i) n z g (omega arith) m) (ℕ_discrete z i)
  where
    go : (t : Bool) → has set i ≡ t → (suc i ≤ z → Memᴰ z (members_from set (suc i) n)) → Dec (z ≡ i)
        → Memᴰ z (cons_if t i (members_from set (suc i) n))
    go true e later (yes q) = Memᴰ.head q
    go true e later (no d) = Memᴰ.tail (later (omega arith))
    go false e later (yes q) = absurd (true≢false (sym m ∙ ap (has set) q ∙ e))
    go false e later (no d) = later (omega arith)

members_from_rising : (set i n : ℕ) → Rising (members_from set i n)
unfolding members_from
members_from_rising set i zero = tt
members_from_rising set i (suc n) = go (has set i) (members_from_rising set (suc i) n)
  where
    go : (t : Bool) → Rising (members_from set (suc i) n) → Rising (cons_if t i (members_from set (suc i) n))
    go true r = rising_cons i (members_from set (suc i) n) (λ z m. (members_from_member set (suc i) n z m).0) r
    go false r = r

pub members_rising : (set : ℕ) → Rising (members set)
unfolding members
members_rising set = members_from_rising set 0 64

-- the list holds just the members
pub member_members : (set : ℕ) → set < 2 ^ 64 → (i : ℕ) → Member i set ↔ Memᴰ i (members set)
unfolding members
member_members set h i = (λ m. member_members_from set 0 64 i (omega arith) (member_lt 64 set i h m) m, λ m. (members_from_member set 0 64 i m).1)

-- no other rising list does
pub members_unique : (set : ℕ) (is : List ℕ) → set < 2 ^ 64 → Rising is → ((i : ℕ) → Member i set ↔ Memᴰ i is) → members set ≡ is
members_unique set is h r same =
    rising_unique (members set) is (members_rising set) r
    (λ i m. (same i).0 ((member_members set h i).1 m))
    (λ i m. (member_members set h i).0 ((same i).1 m))

-- ---- the lowest member

trailing_even : (k set : ℕ) → set % 2 ≡ 0 → count_trailing_zeros (suc k) set ≡ suc (count_trailing_zeros k (set / 2))
unfolding count_trailing_zeros
trailing_even k set e = simp e

trailing_odd : (k set : ℕ) → set % 2 ≡ 1 → count_trailing_zeros (suc k) set ≡ 0
unfolding count_trailing_zeros
trailing_odd k set e = simp e

lowest_member : (k set : ℕ) → 0 < set → set < 2 ^ k → Member (count_trailing_zeros k set) set
unfolding has
lowest_member zero set p h = absurd (omega arith)
lowest_member (suc k) set p h =
    ⊎_elim (λ e. rw (trailing_even k set e) (lowest_member k (set / 2) (omega arith) (half_lt k set h)))
    (λ e. rw (trailing_odd k set e) (eq-eqb (set % 2) 1 e)) (low_cases set)

lowest_least : (k set i : ℕ) → Member i set → count_trailing_zeros k set ≤ i
unfolding has count_trailing_zeros
lowest_least zero set i m = omega arith
lowest_least (suc k) set zero m = omega (arith, trailing_odd k set (eqb-true (set % 2) 1 m))
lowest_least (suc k) set (suc i) m =
    let later : count_trailing_zeros k (set / 2) ≤ i = lowest_least k (set / 2) i m in
    ⊎_elim (λ e. omega (arith, trailing_even k set e)) (λ e. omega (arith, trailing_odd k set e)) (low_cases set)

-- `set & (set - 1)`
and_pred_odd : (set : ℕ) → set % 2 ≡ 1 → bit_and set (set - 1) ≡ set - 1
and_pred_odd set e =
    let halved : (set - 1) / 2 ≡ set / 2 = omega arith in
    let high : bit_and (set / 2) ((set - 1) / 2) ≡ set / 2 = ap (bit_and (set / 2)) halved ∙ and_self (set / 2) in
    omega (arith, and_step set (set - 1))

and_pred_even : (set : ℕ) → set % 2 ≡ 0 → 0 < set → bit_and set (set - 1) ≡ bit_and (set / 2) (set / 2 - 1) * 2
and_pred_even set e p =
    let halved : (set - 1) / 2 ≡ set / 2 - 1 = omega arith in
    let high : bit_and (set / 2) ((set - 1) / 2) ≡ bit_and (set / 2) (set / 2 - 1) = ap (bit_and (set / 2)) halved in
    omega (arith, and_step set (set - 1))

has_and_pred : (k set i : ℕ) → 0 < set → set < 2 ^ k → has (bit_and set (set - 1)) i ≡ (has set i && not (eqb i (count_trailing_zeros k set)))
unfolding has
has_and_pred zero set i p h = absurd (omega arith)
has_and_pred (suc k) set zero p h = ⊎_elim even odd (low_cases set)
  where
    even : set % 2 ≡ 0 → eqb (bit_and set (set - 1) % 2) 1 ≡ (eqb (set % 2) 1 && not (eqb zero (count_trailing_zeros (suc k) set)))
    even e =
        let low : bit_and set (set - 1) % 2 ≡ 0 = omega (arith, and_pred_even set e p) in
        simp (low, e)

    odd : set % 2 ≡ 1 → eqb (bit_and set (set - 1) % 2) 1 ≡ (eqb (set % 2) 1 && not (eqb zero (count_trailing_zeros (suc k) set)))
    odd e =
        let low : bit_and set (set - 1) % 2 ≡ 0 = omega (arith, and_pred_odd set e) in
        simp (low, e, trailing_odd k set e)
has_and_pred (suc k) set (suc i) p h = ⊎_elim (even (λ q. has_and_pred k (set / 2) i q (half_lt k set h))) odd (low_cases set)
  where
    even : (0 < set / 2 → has (bit_and (set / 2) (set / 2 - 1)) i ≡ (has (set / 2) i && not (eqb i (count_trailing_zeros k (set / 2)))))
        → set % 2 ≡ 0 → has (bit_and set (set - 1) / 2) i ≡ (has (set / 2) i && not (eqb (suc i) (count_trailing_zeros (suc k) set)))
    even later e =
        let high : bit_and set (set - 1) / 2 ≡ bit_and (set / 2) (set / 2 - 1) = omega (arith, and_pred_even set e p) in
        simp (high, trailing_even k set e, eqb-suc-suc, later (omega arith))

    odd : set % 2 ≡ 1 → has (bit_and set (set - 1) / 2) i ≡ (has (set / 2) i && not (eqb (suc i) (count_trailing_zeros (suc k) set)))
    odd e =
        let high : bit_and set (set - 1) / 2 ≡ set / 2 = omega (arith, and_pred_odd set e) in
        simp (high, trailing_odd k set e, eqb-suc-zero, and-true)

-- the members of the word without its lowest 1 are the others
member_and_pred : (set : ℕ) → 0 < set → set < 2 ^ 64
    → (i : ℕ) → Member i (bit_and set (set - 1)) ↔ (Member i set × (i ≡ count_trailing_zeros 64 set → ⊥))
member_and_pred set p h i = (
  λ m. let kept = others.0 m in (kept.0, λ e. kept.1 (has_power low i ∙ eq-eqb i low e)),
  λ q. others.1 (q.0, λ m. q.1 (eqb-true i low (sym (has_power low i) ∙ m))),
)
  where
    low : ℕ
    low = count_trailing_zeros 64 set

    others : Member i (bit_and set (set - 1)) ↔ (Member i set × (Member i (2 ^ low) → ⊥))
    others =
        member_difference set (2 ^ low) (bit_and set (set - 1))
        (λ j. has_and_pred 64 set j p h ∙ ap (λ (t : Bool). has set j && not t) (sym (has_power low j))) i

-- the lowest member, and then the members of the word without it
pub members_step : (set : ℕ) → 0 < set → set < 2 ^ 64 → members set ≡ count_trailing_zeros 64 set ∷ members (bit_and set (set - 1))
members_step set p h =
    members_unique set (low ∷ members rest) h
    (rising_cons low (members rest) (λ i m. above i ((member_members rest small i).1 m)) (members_rising rest))
    (λ i. (λ m. to i m (ℕ_discrete i low), λ m. ⊎_elim (λ e. ap (has set) e ∙ lowest_member 64 set p h) (from i) (Memᴰ.cases_cons m)))
  where
    low : ℕ
    low = count_trailing_zeros 64 set

    rest : ℕ
    rest = bit_and set (set - 1)

    small : rest < 2 ^ 64
    small = omega (arith, and_le_l set (set - 1))

    above : (i : ℕ) → Member i rest → low < i
    above i m = let q = (member_and_pred set p h i).0 m in omega (arith, lowest_least 64 set i q.0)

    to : (i : ℕ) → Member i set → Dec (i ≡ low) → Memᴰ i (low ∷ members rest)
    to i m (yes e) = Memᴰ.head e
    to i m (no n) = Memᴰ.tail ((member_members rest small i).0 ((member_and_pred set p h i).1 (m, n)))

    from : (i : ℕ) → Memᴰ i (members rest) → Member i set
    from i m = ((member_and_pred set p h i).0 ((member_members rest small i).1 m)).0

pub members_zero : members 0 ≡ []
members_zero = members_unique 0 [] (lit< tt) tt (λ i. (λ m. absurd (true≢false (sym m ∙ has_zero i)), λ m. absurd (Memᴰ.not-nil m)))

-- only the word 0 has no members
pub zero_empty : (set : ℕ) → set < 2 ^ 64 → eqb set 0 ≡ eqb (length (members set)) 0
zero_empty zero h = ap (λ (is : List ℕ). eqb (length is) 0) (sym members_zero)
zero_empty (suc n) h =
    eqb-suc-zero n ∙ sym (eqb-suc-zero (length (members (bit_and (suc n) (suc n - 1)))))
    ∙ ap (λ (is : List ℕ). eqb (length is) 0) (sym (members_step (suc n) (omega arith) h))

pub trailing_first : (set : ℕ) → set < 2 ^ 64 → count_trailing_zeros 64 set ≡ get_or (members set) 0 64
trailing_first zero h = trailing_of_zero 64 ∙ ap (λ (is : List ℕ). get_or is 0 64) (sym members_zero)
trailing_first (suc n) h = ap (λ (is : List ℕ). get_or is 0 64) (sym (members_step (suc n) (omega arith) h))

-- ---- a walk over the members, by what `is_empty`, `first` and `without_first` answer

pub walk_ends : (set : ℕ) → eqb (length (members set)) 0 ≡ true → members set ≡ []
walk_ends set e = go (members set) e
  where
    go : (is : List ℕ) → eqb (length is) 0 ≡ true → is ≡ []
    go [] e = refl
    go (i ∷ is) e = absurd (true≢false (sym e ∙ eqb-suc-zero (length is)))

pub walk_goes_on : (set lowest rest : ℕ) → eqb (length (members set)) 0 ≡ false → lowest ≡ get_or (members set) 0 64 → members rest ≡ drop 1 (members set)
    → members set ≡ lowest ∷ members rest
walk_goes_on set lowest rest e f r = go (members set) e ∙ ap₂ (λ (i : ℕ) (is : List ℕ). i ∷ is) (sym f) (sym r)
  where
    go : (is : List ℕ) → eqb (length is) 0 ≡ false → is ≡ get_or is 0 64 ∷ drop 1 is
    go [] e = absurd (true≢false e)
    go (i ∷ is) e = refl

-- ---- how many

length_half : (set i n : ℕ) → length (members_from set (suc i) n) ≡ length (members_from (set / 2) i n)
unfolding has members_from
length_half set i zero = refl
length_half set i (suc n) = go (has (set / 2) i) (length_half set (suc i) n)
  where
    go : (t : Bool) → length (members_from set (suc (suc i)) n) ≡ length (members_from (set / 2) (suc i) n)
        → length (cons_if t (suc i) (members_from set (suc (suc i)) n)) ≡ length (cons_if t i (members_from (set / 2) (suc i) n))
    go true e = ap suc e
    go false e = e

ones_members_from : (k set : ℕ) → set < 2 ^ k → ones set ≡ length (members_from set 0 k)
unfolding has members_from ones
ones_members_from zero set h = ap ones (lt-one h)
ones_members_from (suc k) set h =
    let later : ones (set / 2) ≡ length (members_from set 1 k) = ones_members_from k (set / 2) (half_lt k set h) ∙ sym (length_half set 0 k) in
    ones_step set ∙ ⊎_elim (λ (e : set % 2 ≡ 0). simp (e, later, zero-add)) (λ (e : set % 2 ≡ 1). simp (e, later, one-add)) (low_cases set)

pub ones_members : (set : ℕ) → set < 2 ^ 64 → ones set ≡ length (members set)
unfolding members
ones_members set h = ones_members_from 64 set h
