-- The item that starts at a place of a field, by the number that stands there and the byte after it.
-- Assumes nothing.
use Prim.Native.Nat.{ℕ, zero, suc, ◌+◌, ◌-◌, ◌≤◌, ◌<◌}
use mathlib.Core.Path.{◌≡◌, refl, sym, ap, ap₂, ◌∙◌}
use mathlib.Core.Bool.{Bool, true, false}
use mathlib.Core.List.{List, [], ◌∷◌}
use mathlib.Core.Option.{Option, none, some}
use native.Mathlib.Numerals.{lt_of_le_of_ne}
use native.Mathlib.Omega.{arith}
use lib.Dec.{ltb}
use lib.ListN.{length, get_or, take, drop, length-take, length-drop}
use lib.Seq.{drop-drop, get_or-drop, get_or-take}
use borrow.Author.Tests.{ltb-true, ltb-false, lt-ltb, le-ltb}
use Rattle.std.specs.Prelude.{Option as Answer, None, Some}
use Rattle.std.proofs.lemmas.Option.{same_Some}
use Rattle.format.specs.Text.{Bytes, comma, hyphen, parts_at, only_if, Item, is_ordered, passing, item_from, item_of, meant_by, number_of, ◌<$>◌, ◌<*>◌}
use Rattle.format.proofs.Sides.{number_parts, number_item}
use Rattle.parts.specs.Parts.{before, next_at, between}
use Rattle.parts.proofs.PartLaws.{next_inside, next_found, next_least, next_bounds, next_same, next_part, last_part_lem, first_part}
use Rattle.text.specs.Numbers.{number_as, digits_ahead, number_at}
use Rattle.text.specs.Items.{item_by, span_as, part_at, item_at, run_at}
use Rattle.text.specs.Lists.{spanned}
use Rattle.text.specs.declared.items.Span.{Span}
use Rattle.text.proofs.ListLaws.{spanned_one}
use Rattle.text.proofs.NumberLaws.{digits_to, was_number, was_no_number, part_bad, part_within, part_cut, part_full}

-- ---- an item by its parts

-- no item begins with what is no number
item_headless : (first : Bytes) (rest : List Bytes) → number_of first ≡ none → item_from (first ∷ rest) ≡ none
item_headless first [] e = ap (λ o. (λ n. Item.one n) <$> o) e
item_headless first (last ∷ []) e = ap (λ o. (λ m n. Item.run m n) <$> o <*> number_of last) e
item_headless first (last ∷ p ∷ ps) e = refl

-- a number, a hyphen, and then one number more
item_parted : (first rest : Bytes) (n : ℕ) → number_of first ≡ some n
    → item_from (first ∷ parts_at hyphen rest) ≡ ((λ last. Item.run n last) <$> number_of rest)
item_parted first rest n e = by_rest (number_of rest) refl
  where
    with_first : (last : Bytes) → item_from (first ∷ last ∷ []) ≡ ((λ l. Item.run n l) <$> number_of last)
    with_first last = ap (λ o. (λ m n. Item.run m n) <$> o <*> number_of last) e

    more_parts : (parts : List Bytes) (p : Bytes) (ps : List Bytes) → parts ≡ p ∷ ps → (last : Bytes) → item_from (first ∷ last ∷ parts) ≡ none
    more_parts parts p ps h last = ap (λ l. item_from (first ∷ last ∷ l)) h

    by_test : (t : Bool) → ltb (next_at hyphen rest 0) (length rest) ≡ t → number_of rest ≡ none → item_from (first ∷ parts_at hyphen rest) ≡ none
    by_test true h k =
        let inside = ltb-true (next_at hyphen rest 0) (length rest) h in
        let past : next_at hyphen rest 0 + 1 ≤ length rest = omega arith in
        ap (λ parts. item_from (first ∷ parts)) (next_part hyphen rest 0 (omega arith) inside)
        ∙ more_parts _ _ _ (first_part hyphen rest (next_at hyphen rest 0 + 1) past) _
    by_test false h k =
        let at_end : next_at hyphen rest 0 ≡ length rest =
        omega (arith, ltb-false (next_at hyphen rest 0) (length rest) h, next_bounds hyphen rest 0 (omega arith)) in
        let whole = last_part_lem hyphen rest 0 (omega arith) at_end in
        ap (λ parts. item_from (first ∷ parts)) whole ∙ with_first rest ∙ ap (λ o. (λ l. Item.run n l) <$> o) k

    by_rest : (o : Option ℕ) → number_of rest ≡ o → item_from (first ∷ parts_at hyphen rest) ≡ ((λ last. Item.run n last) <$> o)
    by_rest none k = by_test (ltb (next_at hyphen rest 0) (length rest)) refl k
    by_rest (some last) k =
        ap (λ parts. item_from (first ∷ parts)) (number_parts rest last k) ∙ with_first rest ∙ ap (λ o. (λ l. Item.run n l) <$> o) k

abbrev pub spans : ℕ → ℕ → ℕ → Answer Span
spans first last end = Some (record { first = first; last = last; end = end })

span_parts : (a b k first last end : ℕ) → spans a b k ≡ spans first last end → (a ≡ first) × (b ≡ last) × (k ≡ end)
span_parts a b k first last end e = let h = same_Some _ _ e in (ap (λ s. s.first) h, ap (λ s. s.last) h, ap (λ s. s.end) h)

-- what an item's span tells of the item
pub was_span : (o : Option Item) (k first last end : ℕ) → span_as o k ≡ spans first last end
    → (item : Item) × (o ≡ some item) × (meant_by item ≡ spanned first last) × (k ≡ end)
was_span none k first last end e = let z : ◌≡◌ {A = ℕ} 0 1 = cc in absurd (omega arith)
was_span (some (Item.one n)) k first last end e =
    let h = span_parts n n k first last end e in
    (Item.one n, refl, sym (spanned_one n) ∙ ap₂ spanned h.0 h.1, h.2)
was_span (some (Item.run a b)) k first last end e =
    let h = span_parts a b k first last end e in
    (Item.run a b, refl, ap₂ spanned h.0 h.1, h.2)

pub was_no_span : (o : Option Item) (k : ℕ) → span_as o k ≡ None → o ≡ none
was_no_span none k e = refl
was_no_span (some (Item.one n)) k e = let z : ◌≡◌ {A = ℕ} 0 1 = cc in absurd (omega arith)
was_no_span (some (Item.run a b)) k e = let z : ◌≡◌ {A = ℕ} 0 1 = cc in absurd (omega arith)

-- a run is read only if it is ordered
pub span_ordered : (runs : Bool) (bs : Bytes) (k first last end : ℕ) → span_as (item_by runs bs) k ≡ spans first last end → first ≤ last
unfolding item_of
span_ordered true bs k first last end e = by_item (item_from (parts_at hyphen bs)) e
  where
    by_item : (o : Option Item) → span_as (passing is_ordered o) k ≡ spans first last end → first ≤ last
    by_item none h = let z : ◌≡◌ {A = ℕ} 0 1 = cc in absurd (omega arith)
    by_item (some (Item.one n)) h = omega (arith, span_parts n n k first last end h)
    by_item (some (Item.run a b)) h = by_test (ltb a b) refl h
      where
        by_test : (t : Bool) → ltb a b ≡ t → span_as (only_if t (some (Item.run a b))) k ≡ spans first last end → first ≤ last
        by_test true l g = omega (arith, span_parts a b k first last end g, ltb-true a b l)
        by_test false l g = let z : ◌≡◌ {A = ℕ} 0 1 = cc in absurd (omega arith)
span_ordered false bs k first last end e = by_number (number_of bs) e
  where
    by_number : (o : Option ℕ) → span_as ((λ n. Item.one n) <$> o) k ≡ spans first last end → first ≤ last
    by_number none h = let z : ◌≡◌ {A = ℕ} 0 1 = cc in absurd (omega arith)
    by_number (some n) h = omega (arith, span_parts n n k first last end h)

-- the later bytes of the first ones
drop-take : (k n : ℕ) (bs : Bytes) → drop k (take n bs) ≡ take (n - k) (drop k bs)
drop-take zero n bs = let all : n ≡ n - 0 = omega arith in ap (λ m. take m bs) all
drop-take (suc k) zero bs = let none : 0 ≡ 0 - suc k = omega arith in ap (λ m. take m (drop (suc k) bs)) none
drop-take (suc k) (suc n) [] = sym (none_taken (suc n - suc k))
  where
    none_taken : (m : ℕ) → take {A = ℕ} m [] ≡ []
    none_taken zero = refl
    none_taken (suc m) = refl
drop-take (suc k) (suc n) (b ∷ bs) = let same : n - k ≡ suc n - suc k = omega arith in drop-take k n bs ∙ ap (λ m. take m (drop k bs)) same

-- ---- the last number of a run

module _ (first : ℕ) (field : Bytes) (start : ℕ) where
  run_is : (o : Option ℕ) → number_of (part_at field start) ≡ o
      → span_as (passing is_ordered ((λ last. Item.run first last) <$> o)) (next_at comma field start) ≡ run_at first field start
  unfolding run_at
  run_is o e = ap (λ o. span_as (passing is_ordered ((λ last. Item.run first last) <$> o)) (next_at comma field start)) (sym e)

  module _ {end : ℕ} (to : end ≡ next_at comma field start) {r : Answer ℕ} (answer : r ≡ number_as (number_of (between field start end))) where
    number_is : (n : Answer ℕ) → r ≡ n → number_as (number_of (part_at field start)) ≡ n
    number_is n h = ap (λ k. number_as (number_of (between field start k))) (sym to) ∙ sym answer ∙ h

    pub run_bad : r ≡ None → None ≡ run_at first field start
    run_bad h = run_is none (was_no_number (number_of (part_at field start)) (number_is None h))

    module _ {last : ℕ} (h : r ≡ Some last) where
      run_tested : (t : Bool) → ltb first last ≡ t → span_as (only_if t (some (Item.run first last))) end ≡ run_at first field start
      run_tested t k =
          let value = was_number (number_of (part_at field start)) last (number_is (Some last) h) in
          ap₂ (λ t k. span_as (only_if t (some (Item.run first last))) k) (sym k) to ∙ run_is (some last) value

      pub run_rises : first < last → spans first last end ≡ run_at first field start
      run_rises l = run_tested true (lt-ltb first last l)

      pub run_falls : last ≤ first → None ≡ run_at first field start
      run_falls l = run_tested false (le-ltb first last l)

-- ---- the item at a place

module _ (field : List ℕ) (at : ℕ) (inside : at ≤ length field) where
  part : Bytes
  part = part_at field at

  part_end : at + length part ≡ next_at comma field at
  unfolding part
  part_end = omega (arith, length-take (next_at comma field at - at) (drop at field), length-drop at field, next_bounds comma field at inside)

  part_digits : digits_ahead part ≡ digits_ahead (drop at field)
  unfolding part
  part_digits =
      let size : next_at comma field at - at ≡ before comma (drop at field) = omega (arith, next_inside comma field at inside) in
      ap (λ n. digits_ahead (take n (drop at field))) size ∙ digits_to comma refl (drop at field)

  part_byte : (end : ℕ) → at ≤ end → end < next_at comma field at → get_or part (end - at) 0 ≡ get_or field end 0
  unfolding part
  part_byte end f l =
      let there : at + (end - at) ≡ end = omega arith in
      get_or-take (next_at comma field at - at) (drop at field) (end - at) 0 (omega arith)
      ∙ get_or-drop at field (end - at) 0 ∙ ap (λ k. get_or field k 0) there

  -- what stands before the first hyphen
  head : Bytes
  head = between part 0 (next_at hyphen part 0)

  head_size : length head ≡ next_at hyphen part 0
  unfolding head
  head_size = omega (arith, length-take (next_at hyphen part 0 - 0) (drop 0 part), next_bounds hyphen part 0 (omega arith))

  head_digits : digits_ahead head ≡ digits_ahead (drop at field)
  unfolding head
  head_digits =
      let size : next_at hyphen part 0 - 0 ≡ before hyphen part = omega (arith, next_inside hyphen part 0 (omega arith)) in
      ap (λ n. digits_ahead (take n part)) size ∙ digits_to hyphen refl part ∙ part_digits

  item_is : (runs : Bool) (o : Option Item) → item_by runs part ≡ o → span_as o (next_at comma field at) ≡ item_at runs field at
  unfolding item_at part
  item_is runs o e = ap (λ o. span_as o (next_at comma field at)) (sym e)

  no_item : (runs : Bool) → number_of part ≡ none → number_of head ≡ none → item_by runs part ≡ none
  unfolding item_of head
  no_item true e h =
      ap (λ parts. passing is_ordered (item_from parts)) (first_part hyphen part 0 (omega arith))
      ∙ ap (passing is_ordered) (item_headless head (drop 1 (parts_at hyphen part)) h)
  no_item false e h = ap (λ o. (λ n. Item.one n) <$> o) e

  one_item : (runs : Bool) (n : ℕ) → number_of part ≡ some n → item_by runs part ≡ some (Item.one n)
  one_item true n e = number_item part n e
  one_item false n e = ap (λ o. (λ n. Item.one n) <$> o) e

  pub item_bad : (runs : Bool) → number_at field at ≡ None → None ≡ item_at runs field at
  item_bad runs e = item_is runs none (no_item runs (part_bad field at part part_digits e) (part_bad field at head head_digits e))

  module _ (n end : ℕ) (e : number_at field at ≡ Some (n, end)) where
    up_to : (at ≤ end) × (end ≤ next_at comma field at)
    up_to = omega (arith, part_within field at part part_digits n end e, part_end)

    -- the number is all that stands there
    module _ (whole : next_at comma field at ≤ end) where
      there : end ≡ next_at comma field at
      there = omega (arith, up_to)

      number_there : number_of part ≡ some n
      number_there = part_full field at part part_digits n end e (omega (arith, part_end))

      item_full : (runs : Bool) → spans n n end ≡ item_at runs field at
      item_full runs = ap (λ k. spans n n k) there ∙ item_is runs (some (Item.one n)) (one_item runs n number_there)

    pub item_last : (runs : Bool) → end ≡ length field → spans n n end ≡ item_at runs field at
    item_last runs h = item_full (omega (arith, next_bounds comma field at inside)) runs

    module _ (not_last : end ≡ length field → ⊥) where
      pub number_inside : end < length field
      number_inside = lt_of_le_of_ne (omega (arith, up_to, next_bounds comma field at inside)) not_last

      pub item_comma : (runs : Bool) → get_or field end 0 ≡ comma → spans n n end ≡ item_at runs field at
      item_comma runs c = item_full (next_least comma field at end up_to.0 number_inside c) runs

      -- more stands there than the number
      module _ (no-comma : get_or field end 0 ≡ comma → ⊥) where
        past : end < next_at comma field at
        past =
            let found = next_found comma field at inside in
            lt_of_le_of_ne up_to.1 (λ there. no-comma (ap (λ k. get_or field k 0) there ∙ found (omega (arith, number_inside))))

        no_number_lem : number_of part ≡ none
        no_number_lem = part_cut field at part part_digits n end e (omega (arith, part_end, past))

        byte_here : get_or part (end - at) 0 ≡ get_or field end 0
        byte_here = part_byte end up_to.0 past

        pub item_stray : (runs : Bool) → (get_or field end 0 ≡ hyphen → ⊥) → None ≡ item_at runs field at
        item_stray runs no-hyphen = item_is runs none (no_item runs no_number_lem (part_cut field at head head_digits n end e further))
          where
            not_there : end ≡ at + length head → ⊥
            not_there h =
                let place : next_at hyphen part 0 ≡ end - at = omega (arith, head_size) in
                let found = next_found hyphen part 0 (omega arith) (omega (arith, part_end, past, up_to.0)) in
                no-hyphen (sym byte_here ∙ ap (λ k. get_or part k 0) (sym place) ∙ found)

            further : end < at + length head
            further = lt_of_le_of_ne (part_within field at head head_digits n end e).1 not_there

        pub item_no_run : (runs : Bool) → runs ≡ false → None ≡ item_at runs field at
        item_no_run runs off =
            item_is false none (ap (λ o. (λ n. Item.one n) <$> o) no_number_lem) ∙ ap (λ t. item_at t field at) (sym off)

        -- a run
        pub item_run : (runs : Bool) → runs ≡ true → get_or field end 0 ≡ hyphen → run_at n field (end + 1) ≡ item_at runs field at
        unfolding run_at item_of part head
        item_run runs on h =
            ap₂ (λ r next. span_as (passing is_ordered ((λ last. Item.run n last) <$> number_of r)) next) (sym rest_is) next_is
            ∙ item_is true _ (ap (passing is_ordered) (ap item_from parts_are ∙ item_parted head rest n number_here))
            ∙ ap (λ t. item_at t field at) (sym on)
          where
            rest : Bytes
            rest = drop (end - at + 1) part

            place : next_at hyphen part 0 ≡ end - at
            place =
                let least = next_least hyphen part 0 (end - at) (omega arith) (omega (arith, part_end, past, up_to.0)) (byte_here ∙ h) in
                omega (arith, least, head_size, part_within field at head head_digits n end e)

            number_here : number_of head ≡ some n
            number_here = part_full field at head head_digits n end e (omega (arith, head_size, place, up_to.0))

            parts_are : parts_at hyphen part ≡ head ∷ parts_at hyphen rest
            parts_are =
                next_part hyphen part 0 (omega arith) (omega (arith, place, part_end, past, up_to.0))
                ∙ ap (λ k. head ∷ parts_at hyphen (drop (k + 1) part)) place

            next_is : next_at comma field (end + 1) ≡ next_at comma field at
            next_is = next_same comma field at (end + 1) (omega (arith, up_to.0)) (omega (arith, past)) (omega (arith, number_inside))

            rest_is : rest ≡ part_at field (end + 1)
            rest_is =
                let there : at + (end - at + 1) ≡ end + 1 = omega (arith, up_to.0) in
                let size : next_at comma field at - at - (end - at + 1) ≡ next_at comma field (end + 1) - (end + 1) = omega (arith, next_is, up_to.0) in
                drop-take (end - at + 1) (next_at comma field at - at) (drop at field)
                ∙ ap₂ (λ n l. take n l) size (drop-drop (end - at + 1) at field ∙ ap (λ k. drop k field) there)
