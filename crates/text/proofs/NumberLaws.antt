-- The cases of `number_of`, and of `principal_of` over it; and the digits that a number is read from, of a part of a field and as the
-- loop of `number_at` passes them.
-- Assumes nothing.
use Prim.Native.Nat.{ℕ, ◌≤◌, ◌<◌, zero, suc, ◌+◌, ◌-◌, ◌*◌, ◌^◌}
use mathlib.Core.Path.{◌≡◌, refl, sym, ap, ap₂, ◌∙◌}
use mathlib.Core.Bool.{true, false, and-false, Bool, cond, ◌&&◌}
use mathlib.Core.List.{[], ◌∷◌}
use mathlib.Core.Option.{Option, none, some}
use native.Mathlib.Omega.{arith}
use native.Mathlib.Numerals.{add-one}
use native.Mathlib.Nat.{pow-suc, pow-le-pow_right}
use lib.ListN.{length, get_or, take, drop, drop_of_length-le}
use lib.Dec.{eqb, leb, ltb, lit<}
use lib.Seq.{drop-cons, get_or-drop}
use borrow.Author.Tests.{eq-eqb, ne_eqb, le-leb, lt-leb, eqb-true, leb-true, ltb-true, ltb-false}
use Rattle.format.specs.Text.{Bytes, number_of, is_digit, all, leading_zero, value_from, is, principal_of, ◌<$>◌}
use Rattle.format.proofs.Booleans.{and_true as both}
use Rattle.std.specs.Prelude.{Option as Answer, None, Some}
use Rattle.std.specs.Option.{option_map}
use Rattle.std.proofs.lemmas.Option.{some_pair_parts}
use Rattle.parts.specs.Refusals.{bad_if_none, refusal_of}
use Rattle.parts.specs.Parts.{before}
use Rattle.text.specs.Numbers.{number_as, principal_as, digits_ahead, entry_as, number_at, NumberRead, PrincipalRead}

module _ (field : Bytes) where
  pub number_long : 5 < length field → number_of field ≡ none
  unfolding number_of
  number_long h = simp (lt-leb (length field) 5 h, and-false)

  pub number_stray : all is_digit field ≡ false → number_of field ≡ none
  unfolding number_of
  number_stray h = simp (h, and-false)

pub number_empty : (field : Bytes) → length field ≡ 0 → number_of field ≡ none
unfolding number_of
number_empty [] h = refl
number_empty (b ∷ bs) h = absurd (omega arith)

pub number_padded : (field : Bytes) → (length field ≡ 1 → ⊥) → get_or field 0 0 ≡ 48 → number_of field ≡ none
unfolding number_of
number_padded [] h e = refl
number_padded (d ∷ []) h e = absurd (h refl)
number_padded (d ∷ b ∷ bs) h e = simp (eq-eqb d 48 e, and-false)

unpadded : (field : Bytes) → (1 < length field → get_or field 0 0 ≡ 48 → ⊥) → leading_zero field ≡ false
unpadded [] h = refl
unpadded (d ∷ []) h = refl
unpadded (d ∷ b ∷ bs) h = ne_eqb d 48 (h (omega arith))

pub number_read : (field : Bytes) → 1 ≤ length field → length field ≤ 5 → (1 < length field → get_or field 0 0 ≡ 48 → ⊥) → all is_digit field ≡ true
    → number_of field ≡ some (value_from 0 field)
unfolding number_of
number_read field h l e d = simp (le-leb _ _ h, le-leb _ _ l, unpadded field e, d)

number_refusal : (o : Option ℕ) → refusal_of (number_as o) ≡ bad_if_none o
number_refusal none = refl
number_refusal (some n) = refl

pub number_answered : (field : Bytes) {r : Answer ℕ} → r ≡ number_as (number_of field) → NumberRead field r
number_answered field e = record { answer = e; refusal = ap refusal_of e ∙ number_refusal (number_of field) }

-- ---- a number or `-`

pub principal_absent : (field : Bytes) → is "-" field ≡ true → principal_as (principal_of field) ≡ Some None
unfolding principal_of
principal_absent field e = simp e

pub principal_number_lem : (field : Bytes) → is "-" field ≡ false
    → principal_as (principal_of field) ≡ option_map (λ n. Some n) (number_as (number_of field))
unfolding principal_of
principal_number_lem field e = simp e (by_case (number_of field))
  where
    by_case : (n : Option ℕ) → principal_as ((λ n. some n) <$> n) ≡ option_map (λ n. Some n) (number_as n)
    by_case none = refl
    by_case (some n) = refl

principal_refusal : (o : Option (Option ℕ)) → refusal_of (principal_as o) ≡ bad_if_none o
principal_refusal none = refl
principal_refusal (some i) = refl

pub principal_answered : (field : Bytes) {r : Answer (Answer ℕ)} → r ≡ principal_as (principal_of field) → PrincipalRead field r
principal_answered field e = record { answer = e; refusal = ap refusal_of e ∙ principal_refusal (principal_of field) }

-- ---- the digits at the start of some bytes

digits_all : (bs : Bytes) → all is_digit (digits_ahead bs) ≡ true
unfolding digits_ahead
digits_all [] = refl
digits_all (b ∷ bs) = by_test (is_digit b) refl (digits_all bs)
  where
    by_test : (t : Bool) → is_digit b ≡ t → all is_digit (digits_ahead bs) ≡ true → all is_digit (cond t (b ∷ digits_ahead bs) []) ≡ true
    by_test true e rest = simp (e, rest)
    by_test false e rest = refl

digits_length : (bs : Bytes) → length (digits_ahead bs) ≤ length bs
unfolding digits_ahead
digits_length [] = omega arith
digits_length (b ∷ bs) = by_test (is_digit b) (digits_length bs)
  where
    by_test : (t : Bool) → length (digits_ahead bs) ≤ length bs → length (cond t (b ∷ digits_ahead bs) []) ≤ suc (length bs)
    by_test true rest = omega arith
    by_test false rest = omega arith

digits_first : (bs : Bytes) → 1 ≤ length (digits_ahead bs) → get_or (digits_ahead bs) 0 0 ≡ get_or bs 0 0
unfolding digits_ahead
digits_first [] h = refl
digits_first (b ∷ bs) h = by_test (is_digit b) h
  where
    by_test : (t : Bool) → 1 ≤ length (cond t (b ∷ digits_ahead bs) []) → get_or (cond t (b ∷ digits_ahead bs) []) 0 0 ≡ b
    by_test true h = refl
    by_test false h = absurd (omega arith)

digits_whole : (bs : Bytes) → length (digits_ahead bs) ≡ length bs → digits_ahead bs ≡ bs
unfolding digits_ahead
digits_whole [] h = refl
digits_whole (b ∷ bs) h = by_test (is_digit b) h (digits_whole bs)
  where
    by_test : (t : Bool) → length (cond t (b ∷ digits_ahead bs) []) ≡ suc (length bs) → (length (digits_ahead bs) ≡ length bs → digits_ahead bs ≡ bs)
        → cond t (b ∷ digits_ahead bs) [] ≡ b ∷ bs
    by_test true h rest = ap (λ ds. b ∷ ds) (rest (omega arith))
    by_test false h rest = absurd (omega arith)

digits_part : (bs : Bytes) → length (digits_ahead bs) < length bs → all is_digit bs ≡ false
unfolding digits_ahead
digits_part [] h = absurd (omega arith)
digits_part (b ∷ bs) h = by_test (is_digit b) h (digits_part bs)
  where
    by_test : (t : Bool) → length (cond t (b ∷ digits_ahead bs) []) < suc (length bs) → (length (digits_ahead bs) < length bs → all is_digit bs ≡ false)
        → t && all is_digit bs ≡ false
    by_test true h rest = rest (omega arith)
    by_test false h rest = refl

-- up to a separator that is no digit
pub digits_to : (s : ℕ) → is_digit s ≡ false → (bs : Bytes) → digits_ahead (take (before s bs) bs) ≡ digits_ahead bs
unfolding digits_ahead before
digits_to s no_digit [] = refl
digits_to s no_digit (b ∷ bs) = by_test (eqb b s) refl (digits_to s no_digit bs)
  where
    by_test : (t : Bool) → eqb b s ≡ t → digits_ahead (take (before s bs) bs) ≡ digits_ahead bs
        → digits_ahead (take (cond t 0 (suc (before s bs))) (b ∷ bs)) ≡ digits_ahead (b ∷ bs)
    by_test true e rest = sym (ap (λ t. cond t (b ∷ digits_ahead bs) []) (ap is_digit (eqb-true b s e) ∙ no_digit))
    by_test false e rest = ap (λ ds. cond (is_digit b) (b ∷ ds) []) rest

-- ---- a part of a field with the digits from `start` on: it is a number where it has nothing else

-- what an answer tells of the number
pub was_no_number : (o : Option ℕ) → number_as o ≡ None → o ≡ none
was_no_number none e = refl
was_no_number (some n) e = let z : ◌≡◌ {A = ℕ} 0 1 = cc in absurd (omega arith)

pub was_number : (o : Option ℕ) (n : ℕ) → number_as o ≡ Some n → o ≡ some n
was_number none n e = let z : ◌≡◌ {A = ℕ} 0 1 = cc in absurd (omega arith)
was_number (some m) n e = cc

-- and an entry
was_bad : (o : Option ℕ) (end : ℕ) → entry_as (number_as o) end ≡ None → o ≡ none
was_bad none end e = refl
was_bad (some n) end e = let z : ◌≡◌ {A = ℕ} 0 1 = cc in absurd (omega arith)

was_value : (o : Option ℕ) (k n end : ℕ) → entry_as (number_as o) k ≡ Some (n, end) → (o ≡ some n) × (k ≡ end)
was_value none k n end e = let z : ◌≡◌ {A = ℕ} 0 1 = cc in absurd (omega arith)
was_value (some m) k n end e = let h = some_pair_parts m n k end e in (ap some h.0, h.1)

module _ (field : Bytes) (start : ℕ) (part : Bytes) (same : digits_ahead part ≡ digits_ahead (drop start field)) where
  cut : length (digits_ahead part) < length part → number_of part ≡ none
  cut h = number_stray part (digits_part part h)

  full : length (digits_ahead part) ≡ length part → number_of part ≡ number_of (digits_ahead (drop start field))
  full h = ap number_of (sym (digits_whole part h) ∙ same)

  pub part_bad : number_at field start ≡ None → number_of part ≡ none
  unfolding number_at
  part_bad e = by_test (ltb (length (digits_ahead part)) (length part)) refl
    where
      by_test : (t : Bool) → ltb (length (digits_ahead part)) (length part) ≡ t → number_of part ≡ none
      by_test true l = cut (ltb-true _ _ l)
      by_test false l =
          full (omega (arith, digits_length part, ltb-false (length (digits_ahead part)) (length part) l))
          ∙ was_bad (number_of (digits_ahead (drop start field))) _ e

  module _ (n end : ℕ) (e : number_at field start ≡ Some (n, end)) where
    value_at : (number_of (digits_ahead (drop start field)) ≡ some n) × (start + length (digits_ahead (drop start field)) ≡ end)
    unfolding number_at
    value_at = was_value (number_of (digits_ahead (drop start field))) (start + length (digits_ahead (drop start field))) n end e

    pub part_within : (start ≤ end) × (end ≤ start + length part)
    part_within = omega (arith, value_at.1, digits_length part, ap length same)

    pub part_cut : end < start + length part → number_of part ≡ none
    part_cut h = cut (omega (arith, value_at.1, ap length same))

    pub part_full : start + length part ≤ end → number_of part ≡ some n
    part_full h = full (omega (arith, value_at.1, digits_length part, ap length same)) ∙ value_at.0

-- ---- a turn of the reader

pub digit_range : (b : ℕ) → is_digit b ≡ true → (48 ≤ b) × (b ≤ 57)
digit_range b e = let h = both (leb 48 b) (leb b 57) e in (leb-true 48 b h.0, leb-true b 57 h.1)

-- the digits from `start` to `end` are read, at most five, and have this value
pub record Reading (field : Bytes) (start value end : ℕ) : Type 0 where
  pub from : start ≤ end
  pub within : end ≤ length field
  pub few : end ≤ start + 5
  pub counted : start + length (digits_ahead (drop start field)) ≡ end + length (digits_ahead (drop end field))
  pub whole : value_from 0 (digits_ahead (drop start field)) ≡ value_from value (digits_ahead (drop end field))
  pub small : (k : ℕ) → end ≤ start + k → value < 10 ^ k

pub reading_none : (field : Bytes) (start : ℕ) → start ≤ length field → Reading field start 0 start
reading_none field start inside =
    record {
      from = omega arith;
      within = inside;
      few = omega arith;
      counted = refl;
      whole = refl;
      small = λ k h. omega (arith, pow-le-pow_right {n = 10} (lit< tt) {i = 0} {j = k} (omega arith));
    }

module _ (field : Bytes) (start value end : ℕ) (r : Reading field start value end) where
  digit_here : end < length field → is_digit (get_or field end 0) ≡ true → digits_ahead (drop end field) ≡ get_or field end 0 ∷ digits_ahead (drop (end + 1) field)
  unfolding digits_ahead
  digit_here h e = rw (add-one, drop-cons field end 0, e)

  -- a sixth digit
  pub reading_long : end < length field → is_digit (get_or field end 0) ≡ true → end - start ≡ 5 → number_at field start ≡ None
  unfolding number_at
  reading_long h e l = rw (number_long (digits_ahead (drop start field)) (omega (arith, ap length (digit_here h e))))

  module _ (room : end - start ≡ 5 → ⊥) where
    pub reading_small : value < 10000
    reading_small = r.small 4 (omega arith)

    pub reading_more : end < length field → is_digit (get_or field end 0) ≡ true → Reading field start (value * 10 + (get_or field end 0 - 48)) (end + 1)
    reading_more h e =
        let here = digit_here h e in
        record {
          from = omega arith;
          within = omega arith;
          few = omega arith;
          counted = r.counted ∙ omega (arith, ap length here);
          whole = r.whole ∙ ap (value_from value) here;
          small = more (digit_range (get_or field end 0) e);
        }
      where
        more : (48 ≤ get_or field end 0) × (get_or field end 0 ≤ 57) → (k : ℕ) → end + 1 ≤ start + k → value * 10 + (get_or field end 0 - 48) < 10 ^ k
        more d zero l = absurd (omega arith)
        more d (suc k) l = rw pow-suc (omega (arith, r.small k (omega arith)))

  pub reading_past : length field ≤ end → digits_ahead (drop end field) ≡ []
  unfolding digits_ahead
  reading_past h = rw (drop_of_length-le field)

  pub reading_stray : end < length field → is_digit (get_or field end 0) ≡ false → digits_ahead (drop end field) ≡ []
  unfolding digits_ahead
  reading_stray h e = rw (drop-cons field end 0, e)

  -- no digit at `end`
  module _ (stop : digits_ahead (drop end field) ≡ []) where
    run : Bytes
    run = digits_ahead (drop start field)

    reaches : start + length run ≡ end
    unfolding run
    reaches = omega (arith, ap length stop)

    value_is : value_from 0 run ≡ value
    unfolding run
    value_is = r.whole ∙ ap (value_from value) stop

    number_is : (o : Option ℕ) → number_of run ≡ o → entry_as (number_as o) end ≡ number_at field start
    unfolding number_at run
    number_is o e = ap₂ (λ o k. entry_as (number_as o) k) (sym e) (sym reaches)

    pub read_none : end ≡ start → None ≡ number_at field start
    read_none h = number_is none (number_empty run (omega (arith, reaches)))

    module _ (any : end ≡ start → ⊥) where
      first : get_or run 0 0 ≡ get_or field start 0
      unfolding run
      first = digits_first (drop start field) (omega (arith, reaches)) ∙ get_or-drop start field 0 0 ∙ ap (λ k. get_or field k 0) (omega arith)

      pub read_padded : (end ≡ start + 1 → ⊥) → get_or field start 0 ≡ 48 → None ≡ number_at field start
      read_padded h e = number_is none (number_padded run (omega (arith, reaches)) (first ∙ e))

      pub read_value : (start + 1 < end → get_or field start 0 ≡ 48 → ⊥) → Some (value, end) ≡ number_at field start
      unfolding run
      read_value e =
          let unpadded : 1 < length run → get_or run 0 0 ≡ 48 → ⊥ = λ h z. e (omega (arith, reaches)) (sym first ∙ z) in
          let number = number_read run (omega (arith, reaches)) (omega (arith, reaches)) unpadded (digits_all (drop start field)) in
          number_is (some value) (number ∙ ap some value_is)
