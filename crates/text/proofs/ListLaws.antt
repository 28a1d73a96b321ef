-- What the numbers of one more item do to a list, and to what its reader knows of it.
-- Assumes nothing.
use Prim.Native.Nat.{ℕ, zero, suc, ◌+◌, ◌-◌, ◌%◌, ◌≤◌, ◌<◌, min, max}
use mathlib.Core.Path.{◌≡◌, refl, sym, ap, ap₂, ◌∙◌}
use mathlib.Core.Bool.{Bool, true, false, ◌&&◌, and-true, and-false}
use mathlib.Core.List.{List, [], ◌∷◌, ◌++◌, append_assoc, append-nil}
use mathlib.Core.Logic.{◌⊎◌, inl, inr}
use native.Mathlib.Omega.{arith}
use lib.Dec.{ltb, leb}
use lib.ListN.{length, set, length-append, length-set}
use lib.Seq.{set_out}
use borrow.Author.Tests.{lt-ltb, le-ltb, ltb-true, ltb-false, leb-true, leb-false}
use Rattle.format.specs.Text.{up_from, strictly_rising}
use Rattle.text.specs.Lists.{most_counted, above, laid_over, laid_at, spanned, listed_of, HeldList}
use Rattle.text.specs.declared.lists.Listed.{Listed}

-- ---- all numbers from one to another

length_up : (first k : ℕ) → length (up_from first k) ≡ k
unfolding up_from
length_up first zero = refl
length_up first (suc k) = ap suc (length_up (first + 1) k)

above_up : (first k : ℕ) → above (up_from first (suc k)) ≡ first + k + 1
unfolding up_from above
above_up first zero = omega arith
above_up first (suc k) = omega (arith, above_up (first + 1) k)

rising_up : (first k : ℕ) → strictly_rising (up_from first k) ≡ true
unfolding up_from strictly_rising
rising_up first zero = refl
rising_up first (suc zero) = refl
rising_up first (suc (suc k)) = rw (lt-ltb first (first + 1) (omega arith)) (rising_up (first + 1) (suc k))

-- the first of them, and those after it
spanned_cons : (first last : ℕ) → first ≤ last → spanned first last ≡ first ∷ up_from (first + 1) (last - first)
unfolding up_from
spanned_cons first last h = let more : last + 1 - first ≡ suc (last - first) = omega arith in ap (up_from first) more

pub spanned_one : (n : ℕ) → spanned n n ≡ n ∷ []
unfolding up_from
spanned_one n = let one : n + 1 - n ≡ 1 = omega arith in ap (up_from n) one

above_spanned : (first last : ℕ) → first ≤ last → above (spanned first last) ≡ last + 1
above_spanned first last h =
    let more : last + 1 - first ≡ suc (last - first) = omega arith in
    ap (λ k. above (up_from first k)) more ∙ omega (arith, above_up first (last - first))

-- ---- a list after another

above_append : (xs ys : List ℕ) → above (xs ++ ys) ≡ max (above xs) (above ys)
unfolding above
above_append [] ys = omega arith
above_append (x ∷ xs) ys = omega (arith, above_append xs ys)

-- one that rises from above all the others
rising_after : (xs : List ℕ) (a : ℕ) (ys : List ℕ) → strictly_rising (a ∷ ys) ≡ true → above xs ≤ a → strictly_rising (xs ++ a ∷ ys) ≡ strictly_rising xs
unfolding above strictly_rising
rising_after [] a ys r h = r
rising_after (i ∷ []) a ys r h = rw (lt-ltb i a (omega arith)) r
rising_after (i ∷ j ∷ js) a ys r h = ap (λ t. ltb i j && t) (rising_after (j ∷ js) a ys r (omega arith))

-- one that does not start above them
not_rising_after : (xs : List ℕ) (a : ℕ) (ys : List ℕ) → a < above xs → strictly_rising (xs ++ a ∷ ys) ≡ false
unfolding above strictly_rising
not_rising_after [] a ys h = absurd (omega arith)
not_rising_after (i ∷ []) a ys h = rw (le-ltb i a (omega arith))
not_rising_after (i ∷ j ∷ js) a ys h = by_test (ltb i j) refl (not_rising_after (j ∷ js) a ys)
  where
    by_test : (t : Bool) → ltb i j ≡ t → (a < above (j ∷ js) → strictly_rising ((j ∷ js) ++ a ∷ ys) ≡ false)
        → t && strictly_rising ((j ∷ js) ++ a ∷ ys) ≡ false
    by_test true e rest = rest (omega (arith, ltb-true i j e))
    by_test false e rest = refl

-- ---- what is known of a list

abbrev listing : ℕ → ℕ → Bool → Listed
listing count past rising = record { count = count; above = past; rising = rising }

same_listing : {c c' l l' : ℕ} {r r' : Bool} → c ≡ c' → l ≡ l' → r ≡ r' → listing c l r ≡ listing c' l' r'
same_listing p q s = cc

pub listed_count : (listed : Listed) (xs : List ℕ) → listed ≡ listed_of xs → listed.count ≡ min (length xs) most_counted
listed_count listed xs e = ap (λ l. l.count) e

module _ (first last : ℕ) (ordered : first ≤ last) (listed : Listed) (count : ℕ) (added : count ≡ min (listed.count + (last - first + 1)) most_counted) where
  counted_up : (xs : List ℕ) → listed ≡ listed_of xs → count ≡ min (length (xs ++ spanned first last)) most_counted
  counted_up xs e =
      omega (arith, added, listed_count listed xs e, length-append xs (spanned first last), length_up first (last + 1 - first))

  above_with : (xs : List ℕ) → above (xs ++ spanned first last) ≡ max (above xs) (last + 1)
  above_with xs = above_append xs (spanned first last) ∙ ap (max (above xs)) (above_spanned first last ordered)

  rising_with : (xs : List ℕ) → strictly_rising (xs ++ spanned first last) ≡ strictly_rising xs && leb (above xs) first
  rising_with xs = ap (λ l. strictly_rising (xs ++ l)) cons ∙ by_test (leb (above xs) first) refl
    where
      cons : spanned first last ≡ first ∷ up_from (first + 1) (last - first)
      cons = spanned_cons first last ordered

      by_test : (t : Bool) → leb (above xs) first ≡ t
          → strictly_rising (xs ++ first ∷ up_from (first + 1) (last - first)) ≡ strictly_rising xs && t
      by_test true e =
          let rises = sym (ap strictly_rising cons) ∙ rising_up first (last + 1 - first) in
          rising_after xs first _ rises (leb-true (above xs) first e) ∙ sym (and-true (strictly_rising xs))
      by_test false e = not_rising_after xs first _ (leb-false (above xs) first e) ∙ sym (and-false (strictly_rising xs))

  pub entered_with : (past : ℕ) → past ≡ max listed.above (last + 1) → (rising : Bool) → rising ≡ listed.rising && leb listed.above first
      → (xs : List ℕ) → listed ≡ listed_of xs → listing count past rising ≡ listed_of (xs ++ spanned first last)
  entered_with past is_past rising rises xs e =
      same_listing (counted_up xs e) (is_past ∙ ap (λ l. max l.above (last + 1)) e ∙ sym (above_with xs))
      (rises ∙ ap (λ l. l.rising && leb l.above first) e ∙ sym (rising_with xs))

-- ---- what is stored

laid_last : (xs : List ℕ) (n : ℕ) (was : List ℕ) → laid_over (xs ++ n ∷ []) was ≡ set (laid_over xs was) (length xs) (n % 65536)
unfolding laid_over
laid_last [] n [] = refl
laid_last [] n (o ∷ was) = refl
laid_last (x ∷ xs) n [] = refl
laid_last (x ∷ xs) n (o ∷ was) = ap (λ l. x % 65536 ∷ l) (laid_last xs n was)

pub laid_length : (xs was : List ℕ) → length (laid_over xs was) ≡ length was
unfolding laid_over
laid_length [] was = refl
laid_length (x ∷ xs) [] = refl
laid_length (x ∷ xs) (o ∷ was) = ap suc (laid_length xs was)

laid_more : (xs ys was : List ℕ) → laid_over (xs ++ ys) was ≡ laid_at (laid_over xs was) (length xs) ys
unfolding laid_at
laid_more xs [] was = ap (λ l. laid_over l was) (append-nil xs)
laid_more xs (y ∷ ys) was =
    ap (λ l. laid_over l was) (sym (append_assoc xs (y ∷ []) ys))
    ∙ laid_more (xs ++ y ∷ []) ys was
    ∙ ap₂ (λ t k. laid_at t k ys) (laid_last xs y was) (length-append xs (y ∷ []))

-- past the end of the table nothing is
laid_past : (table : List ℕ) (at : ℕ) (xs : List ℕ) → length table ≤ at → laid_at table at xs ≡ table
unfolding laid_at
laid_past table at [] h = refl
laid_past table at (x ∷ xs) h = ap (λ t. laid_at t (at + 1) xs) (set_out table at (x % 65536) h) ∙ laid_past table (at + 1) xs (omega arith)

-- one number
laid_one : (table : List ℕ) (at first last : ℕ) → first ≡ last → set table at (first % 65536) ≡ laid_at table at (spanned first last)
unfolding laid_at
laid_one table at first last h = ap (laid_at table at) (sym (spanned_one first)) ∙ ap (λ n. laid_at table at (spanned first n)) h

-- `left` numbers from `n` on go from `place` on
pub record Storing (was : List ℕ) (at first last : ℕ) (out : List ℕ) (place n left : ℕ) : Type 0 where
  pub kept : length out ≡ length was
  pub rest : laid_at was at (spanned first last) ≡ laid_at out place (up_from n left)

module _ (was : List ℕ) (at first last : ℕ) (out : List ℕ) (place n left : ℕ) (s : Storing was at first last out place n left) where
  pub stored_past : length out ≤ place → out ≡ laid_at was at (spanned first last)
  stored_past h = sym (s.rest ∙ laid_past out place (up_from n left) h)

  pub stored_all : left ≡ 0 → out ≡ laid_at was at (spanned first last)
  unfolding laid_at up_from
  stored_all h = sym (s.rest ∙ ap (λ k. laid_at out place (up_from n k)) h)

  -- one more; where it was the last one, it does not matter where the others would begin
  pub storing_more : (n' left' : ℕ) → left' + 1 ≡ left → (left' ≡ 0) ⊎ (n' ≡ n + 1) → Storing was at first last (set out place (n % 65536)) (place + 1) n' left'
  unfolding laid_at up_from
  storing_more n' left' one next =
      let one_more : left ≡ suc left' = omega arith in
      record {
        kept = length-set out place (n % 65536) ∙ s.kept;
        rest = s.rest ∙ ap (λ k. laid_at out place (up_from n k)) one_more ∙ ap (laid_at (set out place (n % 65536)) (place + 1)) (same next);
      }
    where
      same : (left' ≡ 0) ⊎ (n' ≡ n + 1) → up_from (n + 1) left' ≡ up_from n' left'
      same (inl e) = ap (up_from (n + 1)) e ∙ sym (ap (up_from n') e)
      same (inr e) = ap (λ m. up_from m left') (sym e)

pub run_more : (first last : ℕ) (xs was is is' : List ℕ) (listed r : Listed) → length is ≤ most_counted → HeldList xs was is listed
    → is' ≡ laid_at is listed.count (spanned first last) → (listed ≡ listed_of xs → r ≡ listed_of (xs ++ spanned first last))
    → HeldList (xs ++ spanned first last) was is' r
run_more first last xs was is is' listed r short h stored known =
    record {
      answer = known h.answer;
      stored =
          stored ∙ by_test (ltb most_counted (length xs)) refl
          ∙ ap (λ l. laid_at l (length xs) (spanned first last)) h.stored ∙ sym (laid_more xs (spanned first last) was);
    }
  where
    -- a count that stopped stands past the table's end, too
    by_test : (t : Bool) → ltb most_counted (length xs) ≡ t → laid_at is listed.count (spanned first last) ≡ laid_at is (length xs) (spanned first last)
    by_test true e =
        let past : most_counted < length xs = ltb-true most_counted (length xs) e in
        laid_past is listed.count _ (omega (arith, listed_count listed xs h.answer)) ∙ sym (laid_past is (length xs) _ (omega arith))
    by_test false e =
        let exact : listed.count ≡ length xs = omega (arith, listed_count listed xs h.answer, ltb-false most_counted (length xs) e) in
        ap (λ k. laid_at is k (spanned first last)) exact

-- a run of one number
pub number_more : (first last : ℕ) → first ≡ last → (xs was is is' : List ℕ) (listed r : Listed) → length is ≤ most_counted → HeldList xs was is listed
    → is' ≡ set is listed.count (first % 65536) → (listed ≡ listed_of xs → r ≡ listed_of (xs ++ spanned first first))
    → HeldList (xs ++ spanned first last) was is' r
number_more first last same xs was is is' listed r short h stored known =
    run_more first last xs was is is' listed r short h (stored ∙ laid_one is listed.count first last same)
    (λ e. known e ∙ ap (λ n. listed_of (xs ++ spanned first n)) same)
