-- The parts that separators bound, by the scan for a separator; and the fields of a line, as the parts between the ends that are found.
-- Assumes nothing.
use Prim.Native.Nat.{ℕ, zero, suc, ◌+◌, ◌-◌, ◌≤◌, ◌<◌}
use mathlib.Core.Path.{◌≡◌, refl, sym, ap, ap₂, ◌∙◌}
use mathlib.Core.Bool.{Bool, true, false, cond, and-false}
use mathlib.Core.List.{List, [], ◌∷◌}
use native.Mathlib.Nat.{add-zero}
use native.Mathlib.Numerals.{add-one, lt_of_le_of_ne}
use native.Mathlib.Omega.{arith}
use lib.Dec.{eqb, ltb}
use lib.ListN.{length, get_or, take, drop, length-take, length-drop, set, replicate, length-set, get_or-replicate, get_or-eq_default}
use lib.Seq.{drop-cons, drop-drop, get_or-drop, take_all, get_or-set_same, get_or-set_other, ext_get_or}
use borrow.Author.Tests.{eq-eqb, ne_eqb, lt-ltb, le-ltb, le-leb, lt-leb, eqb-true, ltb-true, ltb-false}
use Rattle.format.specs.Text.{Bytes, parts_at, onto, tab, fields_of}
use Rattle.format.specs.Line.{most_fields}
use Rattle.parts.specs.Parts.{before, next_at, between, ends_of, fields_read, start_of, FieldAt, Fielded, field_by, FieldPart}
use Rattle.parts.specs.declared.Fields.{Fields}

-- ---- the bytes before the first separator

before_le : (separator : ℕ) (bs : Bytes) → before separator bs ≤ length bs
unfolding before
before_le separator [] = omega arith
before_le separator (b ∷ bs) = by_test (eqb b separator) (before_le separator bs)
  where
    by_test : (t : Bool) → before separator bs ≤ length bs → cond t 0 (suc (before separator bs)) ≤ suc (length bs)
    by_test true h = omega arith
    by_test false h = omega arith

before_found : (separator : ℕ) (bs : Bytes) → before separator bs < length bs → get_or bs (before separator bs) 0 ≡ separator
unfolding before
before_found separator [] h = absurd (omega arith)
before_found separator (b ∷ bs) h = by_test (eqb b separator) refl h (before_found separator bs)
  where
    by_test : (t : Bool) → eqb b separator ≡ t → cond t 0 (suc (before separator bs)) < suc (length bs)
        → (before separator bs < length bs → get_or bs (before separator bs) 0 ≡ separator) → get_or (b ∷ bs) (cond t 0 (suc (before separator bs))) 0 ≡ separator
    by_test true e h rest = eqb-true b separator e
    by_test false e h rest = rest (omega arith)

before_least : (separator : ℕ) (bs : Bytes) (i : ℕ) → i < length bs → get_or bs i 0 ≡ separator → before separator bs ≤ i
unfolding before
before_least separator [] i h e = absurd (omega arith)
before_least separator (b ∷ bs) zero h e = rw (eq-eqb b separator e) (omega arith)
before_least separator (b ∷ bs) (suc i) h e = by_test (eqb b separator) (before_least separator bs i (omega arith) e)
  where
    by_test : (t : Bool) → before separator bs ≤ i → cond t 0 (suc (before separator bs)) ≤ suc i
    by_test true rest = omega arith
    by_test false rest = omega arith

parts_whole : (separator : ℕ) (bs : Bytes) → before separator bs ≡ length bs → parts_at separator bs ≡ bs ∷ []
unfolding before parts_at
parts_whole separator [] e = refl
parts_whole separator (b ∷ bs) e = by_test (eqb b separator) e (parts_whole separator bs)
  where
    by_test : (t : Bool) → cond t 0 (suc (before separator bs)) ≡ suc (length bs) → (before separator bs ≡ length bs → parts_at separator bs ≡ bs ∷ [])
        → cond t ([] ∷ parts_at separator bs) (onto b (parts_at separator bs)) ≡ (b ∷ bs) ∷ []
    by_test true e rest = absurd (omega arith)
    by_test false e rest = ap (onto b) (rest (omega arith))

parts_split : (separator : ℕ) (bs : Bytes) → before separator bs < length bs
    → parts_at separator bs ≡ take (before separator bs) bs ∷ parts_at separator (drop (suc (before separator bs)) bs)
unfolding before parts_at
parts_split separator [] h = absurd (omega arith)
parts_split separator (b ∷ bs) h = by_test (eqb b separator) h (parts_split separator bs)
  where
    by_test : (t : Bool) → cond t 0 (suc (before separator bs)) < suc (length bs)
        → (before separator bs < length bs → parts_at separator bs ≡ take (before separator bs) bs ∷ parts_at separator (drop (suc (before separator bs)) bs))
        → cond t ([] ∷ parts_at separator bs) (onto b (parts_at separator bs))
        ≡ take (cond t 0 (suc (before separator bs))) (b ∷ bs) ∷ parts_at separator (drop (cond t 0 (suc (before separator bs))) bs)
    by_test true h rest = refl
    by_test false h rest = ap (onto b) (rest (omega arith))

-- ---- the scan from a place of the bytes

module _ (separator : ℕ) (bs : Bytes) (start : ℕ) where
  pub next_none : length bs ≤ start → next_at separator bs start ≡ length bs
  unfolding next_at
  next_none h = omega arith

  pub next_inside : start ≤ length bs → next_at separator bs start ≡ start + before separator (drop start bs)
  unfolding next_at
  next_inside h = omega (arith, before_le separator (drop start bs), length-drop start bs)

  pub next_found : start ≤ length bs → next_at separator bs start < length bs → get_or bs (next_at separator bs start) 0 ≡ separator
  next_found h l =
      rw (next_inside h, ← get_or-drop) (before_found separator (drop start bs) (omega (arith, next_inside h, length-drop start bs)))

  pub next_least : (i : ℕ) → start ≤ i → i < length bs → get_or bs i 0 ≡ separator → next_at separator bs start ≤ i
  next_least i f l e =
      let there : start + (i - start) ≡ i = omega arith in
      let here = get_or-drop start bs (i - start) 0 ∙ ap (λ k. get_or bs k 0) there ∙ e in
      let least = before_least separator (drop start bs) (i - start) (omega (arith, length-drop start bs)) here in
      omega (arith, least, next_inside (omega arith))

  pub next_here : start < length bs → get_or bs start 0 ≡ separator → next_at separator bs start ≡ start
  unfolding before
  next_here h e = next_inside (omega arith) ∙ rw (drop-cons bs start 0, eq-eqb _ _ e) (omega arith)

  pub next_later : start < length bs → (get_or bs start 0 ≡ separator → ⊥) → next_at separator bs start ≡ next_at separator bs (start + 1)
  unfolding next_at before
  next_later h e = rw (add-one start, drop-cons bs start 0, ne_eqb _ _ e) (omega arith)

  pub next_bounds : start ≤ length bs → (start ≤ next_at separator bs start) × (next_at separator bs start ≤ length bs)
  unfolding next_at
  next_bounds h = omega arith

  -- no separator at or after `start`: what is left is one part
  pub last_part_lem : start ≤ length bs → next_at separator bs start ≡ length bs → parts_at separator (drop start bs) ≡ drop start bs ∷ []
  last_part_lem h e = parts_whole separator (drop start bs) (omega (arith, next_inside h, length-drop start bs))

  -- a separator: the part before it, and then those after it
  pub next_part : start ≤ length bs → next_at separator bs start < length bs
      → parts_at separator (drop start bs)
      ≡ take (next_at separator bs start - start) (drop start bs) ∷ parts_at separator (drop (next_at separator bs start + 1) bs)
  next_part h l =
      let k : ℕ = before separator (drop start bs) in
      let e : next_at separator bs start ≡ start + k = next_inside h in
      let size : k ≡ next_at separator bs start - start = omega arith in
      let past : start + suc k ≡ next_at separator bs start + 1 = omega arith in
      parts_split separator (drop start bs) (omega (arith, length-drop start bs))
      ∙ ap₂ (λ n rest. take n (drop start bs) ∷ parts_at separator rest) size (drop-drop (suc k) start bs ∙ ap (λ n. drop n bs) past)

  -- with a separator or not: the first part from `start` on
  pub first_part : start ≤ length bs
      → parts_at separator (drop start bs) ≡ take (next_at separator bs start - start) (drop start bs) ∷ drop 1 (parts_at separator (drop start bs))
  first_part h = by_test (ltb (next_at separator bs start) (length bs)) refl
    where
      by_test : (t : Bool) → ltb (next_at separator bs start) (length bs) ≡ t
          → parts_at separator (drop start bs) ≡ take (next_at separator bs start - start) (drop start bs) ∷ drop 1 (parts_at separator (drop start bs))
      by_test true e =
          let parts = next_part h (ltb-true _ _ e) in
          parts ∙ ap (λ rest. take (next_at separator bs start - start) (drop start bs) ∷ rest) (sym (ap (drop 1) parts))
      by_test false e =
          let end : next_at separator bs start ≡ length bs = omega (arith, next_bounds h, ltb-false (next_at separator bs start) (length bs) e) in
          let all : length (drop start bs) ≤ next_at separator bs start - start = omega (arith, length-drop start bs) in
          let parts = last_part_lem h end in
          parts ∙ ap₂ (λ part rest. part ∷ rest) (sym (take_all _ (drop start bs) all)) (sym (ap (drop 1) parts))

-- from a later place that the first separator does not stand before
pub next_same : (separator : ℕ) (bs : Bytes) (start later : ℕ) → start ≤ later → later ≤ next_at separator bs start → later ≤ length bs
    → next_at separator bs later ≡ next_at separator bs start
next_same separator bs start later f l h =
    omega (arith, not_before (ltb (next_at separator bs later) (length bs)) refl, not_after (ltb (next_at separator bs start) (length bs)) refl)
  where
    not_before : (b : Bool) → ltb (next_at separator bs later) (length bs) ≡ b → next_at separator bs start ≤ next_at separator bs later
    not_before true e =
        let inside = ltb-true _ _ e in
        let from_start : start ≤ next_at separator bs later = omega (arith, next_bounds separator bs later h) in
        next_least separator bs start (next_at separator bs later) from_start inside (next_found separator bs later h inside)
    not_before false e = omega (arith, ltb-false (next_at separator bs later) (length bs) e, next_bounds separator bs start (omega arith))

    not_after : (b : Bool) → ltb (next_at separator bs start) (length bs) ≡ b → next_at separator bs later ≤ next_at separator bs start
    not_after true e =
        let inside = ltb-true _ _ e in
        next_least separator bs later (next_at separator bs start) l inside (next_found separator bs start (omega arith) inside)
    not_after false e = omega (arith, ltb-false (next_at separator bs start) (length bs) e, next_bounds separator bs later h)

-- ---- the ends, by the fields' lengths

abbrev start_from : ℕ → List ℕ → ℕ → ℕ
start_from start ends zero = start
start_from start ends (suc i) = get_or ends i 0 + 1

ends_length : (n start : ℕ) (parts : List Bytes) → length (ends_of n start parts) ≡ n
unfolding ends_of
ends_length zero start parts = refl
ends_length (suc n) start [] = ap suc (ends_length n start [])
ends_length (suc n) start (part ∷ parts) = ap suc (ends_length n (start + length part + 1) parts)

ends_there : (n start : ℕ) (parts : List Bytes) (i : ℕ) → i < n → i < length parts
    → get_or (ends_of n start parts) i 0 ≡ start_from start (ends_of n start parts) i + length (get_or parts i [])
unfolding ends_of
ends_there zero start parts i h l = absurd (omega arith)
ends_there (suc n) start [] i h l = absurd (omega arith)
ends_there (suc n) start (part ∷ parts) zero h l = refl
ends_there (suc n) start (part ∷ parts) (suc zero) h l = ends_there n (start + length part + 1) parts zero (omega arith) (omega arith)
ends_there (suc n) start (part ∷ parts) (suc (suc i)) h l = ends_there n (start + length part + 1) parts (suc i) (omega arith) (omega arith)

ends_past : (n start : ℕ) (parts : List Bytes) (i : ℕ) → length parts ≤ i → get_or (ends_of n start parts) i 0 ≡ 0
unfolding ends_of
ends_past zero start parts i h = refl
ends_past (suc n) start [] zero h = refl
ends_past (suc n) start [] (suc i) h = ends_past n start [] i (omega arith)
ends_past (suc n) start (part ∷ parts) zero h = absurd (omega arith)
ends_past (suc n) start (part ∷ parts) (suc i) h = ends_past n (start + length part + 1) parts i (omega arith)

module _
    (line : Bytes) (ends : List ℕ) (sized : length ends ≡ most_fields)
    (found : (i : ℕ) → i < most_fields → i < length (fields_of line) → FieldAt line ends i)
    (unused : (i : ℕ) → i < most_fields → length (fields_of line) ≤ i → get_or ends i 0 ≡ 0) where
  end_there : (i : ℕ) → i < most_fields → i < length (fields_of line) → get_or ends i 0 ≡ start_of ends i + length (get_or (fields_of line) i [])
  end_there i h l =
      let p = found i h l in
      let size = length-take (get_or ends i 0 - start_of ends i) (drop (start_of ends i) line) in
      omega (arith, ap length p.part, size, length-drop (start_of ends i) line, p.ordered, p.inside)

  same_end : (i : ℕ) → i < most_fields → i < length (fields_of line) → get_or ends i 0 ≡ get_or (ends_of most_fields 0 (fields_of line)) i 0
  same_end zero h l = end_there 0 h l ∙ sym (ends_there most_fields 0 (fields_of line) 0 h l)
  same_end (suc i) h l =
      let before = same_end i (omega arith) (omega arith) in
      end_there (suc i) h l ∙ ap (λ n. n + 1 + length (get_or (fields_of line) (suc i) [])) before
      ∙ sym (ends_there most_fields 0 (fields_of line) (suc i) h l)

  ends_read : ends ≡ ends_of most_fields 0 (fields_of line)
  ends_read =
      ext_get_or 0 ends (ends_of most_fields 0 (fields_of line)) (sized ∙ sym (ends_length most_fields 0 (fields_of line))) (λ i h. each_end i (omega arith))
    where
      each_end : (i : ℕ) → i < most_fields → get_or ends i 0 ≡ get_or (ends_of most_fields 0 (fields_of line)) i 0
      each_end i h = by_test (ltb i (length (fields_of line))) refl
        where
          by_test : (t : Bool) → ltb i (length (fields_of line)) ≡ t → get_or ends i 0 ≡ get_or (ends_of most_fields 0 (fields_of line)) i 0
          by_test true e = same_end i h (ltb-true i (length (fields_of line)) e)
          by_test false e =
              let past = ltb-false i (length (fields_of line)) e in
              unused i h past ∙ sym (ends_past most_fields 0 (fields_of line) i past)

-- ---- a turn of the reader

-- `count` fields are read, and the next starts at `at`
pub record Fielding (line : Bytes) (ends : List ℕ) (count at : ℕ) : Type 0 where
  pub sized : length ends ≡ most_fields
  pub few : count ≤ at
  pub within : at ≤ length line
  pub rest : drop count (fields_of line) ≡ parts_at tab (drop at line)
  pub begins : count < most_fields → start_of ends count ≡ at
  pub found : (i : ℕ) → i < most_fields → i < count → FieldAt line ends i
  pub unused : (i : ℕ) → i < most_fields → count ≤ i → get_or ends i 0 ≡ 0

pub fielding_none : (line : Bytes) → Fielding line (replicate most_fields 0) 0 0
unfolding fields_of
fielding_none line =
    record {
      sized = refl;
      few = omega arith;
      within = omega arith;
      rest = refl;
      begins = λ _. refl;
      found = λ i _ h. absurd (omega arith);
      unused = λ i h _. get_or-replicate most_fields i 0 0 h;
    }

-- a turn finds the end of the next field, and writes it down if it is one of the first ones
module _
    (line : Bytes) (ends : List ℕ) (count at : ℕ) (f : Fielding line ends count at)
    (end : ℕ) (is-end : end ≡ next_at tab line at) (ends' : List ℕ) (written : ends' ≡ set ends count end) where
  pub end_bounds : (at ≤ end) × (end ≤ length line)
  end_bounds = rw is-end (next_bounds tab line at f.within)

  field_is : between line at end ≡ get_or (fields_of line) count []
  field_is =
      ap (between line at) is-end
      ∙ sym (ap (λ parts. get_or parts 0 []) (f.rest ∙ first_part tab line at f.within))
      ∙ get_or-drop count (fields_of line) 0 []
      ∙ ap (λ i. get_or (fields_of line) i []) (add-zero count)

  end_other : (i : ℕ) → (i ≡ count → ⊥) → get_or ends' i 0 ≡ get_or ends i 0
  end_other i n = ap (λ l. get_or l i 0) written ∙ get_or-set_other ends count i end 0 n

  end_here : count < most_fields → get_or ends' count 0 ≡ end
  end_here h = ap (λ l. get_or l count 0) written ∙ get_or-set_same ends count end 0 (omega (arith, f.sized))

  start_same : (i : ℕ) → i ≤ count → start_of ends' i ≡ start_of ends i
  start_same zero h = refl
  start_same (suc i) h = ap (λ n. n + 1) (end_other i (λ e. omega arith))

  earlier : (i : ℕ) → i < count → FieldAt line ends i → FieldAt line ends' i
  earlier i h p =
      let start = start_same i (omega arith) in
      let same = end_other i (λ e. omega arith) in
      record { ordered = rw (start, same) p.ordered; inside = rw same p.inside; part = rw (start, same) p.part }

  latest : count < most_fields → FieldAt line ends' count
  latest h =
      let start = start_same count (omega arith) ∙ f.begins h in
      record { ordered = rw (start, end_here h) end_bounds.0; inside = rw (end_here h) end_bounds.1; part = rw (start, end_here h) field_is }

  found' : (i : ℕ) → i < most_fields → i < count + 1 → FieldAt line ends' i
  found' i h l = by_test (ltb i count) refl
    where
      by_test : (t : Bool) → ltb i count ≡ t → FieldAt line ends' i
      by_test true e = earlier i (ltb-true i count e) (f.found i h (ltb-true i count e))
      by_test false e = let last : i ≡ count = omega (arith, ltb-false i count e) in rw last (latest (omega arith))

  unused' : (i : ℕ) → i < most_fields → count + 1 ≤ i → get_or ends' i 0 ≡ 0
  unused' i h l = end_other i (λ e. omega arith) ∙ f.unused i h (omega arith)

  sized' : length ends' ≡ most_fields
  sized' = ap length written ∙ length-set ends count end ∙ f.sized

  pub fielding_more : (end ≡ length line → ⊥) → Fielding line ends' (count + 1) (end + 1)
  fielding_more n =
      let inside : next_at tab line at < length line = rw is-end at (lt_of_le_of_ne end_bounds.1 n) in
      record {
        sized = sized';
        few = omega (arith, end_bounds, f.few);
        within = omega arith;
        rest =
            sym (drop-drop 1 count (fields_of line)) ∙ ap (drop 1) (f.rest ∙ next_part tab line at f.within inside)
            ∙ ap (λ k. parts_at tab (drop (k + 1) line)) (sym is-end);
        begins = λ l. rw (add-one count) (ap (λ k. k + 1) (end_here (omega arith)));
        found = found';
        unused = unused';
      }

  pub fielded : end ≡ length line → Fielded line (record { count = count + 1; ends = ends' })
  unfolding fields_read
  fielded h =
      let one = ap length (f.rest ∙ last_part_lem tab line at f.within (sym is-end ∙ h)) in
      let all : count + 1 ≡ length (fields_of line) = omega (arith, one, length-drop count (fields_of line)) in
      let ends-all = ends_read line ends' sized' (λ i h l. found' i h (omega arith)) (λ i h l. unused' i h (omega arith)) in
      record { read = ap₂ (λ c e. record { count = c; ends = e }) all ends-all; counted = all; found = found'; unused = unused' }

-- ---- a field by the ends that were read

-- a line has a field, if an empty one
some_field : (line : Bytes) → 1 ≤ length (fields_of line)
unfolding fields_of
some_field line = omega (arith, ap length (first_part tab line 0 (omega arith)))

start_first : (ends : List ℕ) (i : ℕ) → i ≡ 0 → start_of ends i ≡ 0
start_first ends zero h = refl
start_first ends (suc i) h = absurd (omega arith)

start_past : (ends : List ℕ) (i : ℕ) → (i ≡ 0 → ⊥) → start_of ends i ≡ get_or ends (i - 1) 0 + 1
start_past ends zero h = absurd (h refl)
start_past ends (suc i) h = let e : i ≡ suc i - 1 = omega arith in ap (λ k. get_or ends k 0 + 1) e

module _ (line : Bytes) (f : Fields) (i : ℕ) where
  by_ends : i < most_fields → start_of f.ends i ≤ get_or f.ends i 0 → get_or f.ends i 0 ≤ length line
      → field_by line f i ≡ between line (start_of f.ends i) (get_or f.ends i 0)
  unfolding field_by
  by_ends few ordered inside = simp (lt-ltb i most_fields few, le-leb _ _ ordered, le-leb _ _ inside)

  none_by_most : most_fields ≤ i → field_by line f i ≡ []
  unfolding field_by
  none_by_most h = simp (le-ltb i most_fields h)

  none_by_start : get_or f.ends i 0 < start_of f.ends i → field_by line f i ≡ []
  unfolding field_by
  none_by_start h = simp (lt-leb (start_of f.ends i) (get_or f.ends i 0) h, and-false)

  none_by_end : length line < get_or f.ends i 0 → field_by line f i ≡ []
  unfolding field_by
  none_by_end h = simp (lt-leb (get_or f.ends i 0) (length line) h, and-false)

  -- by the fields of this line
  pub field_found : Fielded line f → i < most_fields → field_by line f i ≡ get_or (fields_of line) i []
  field_found p few = by_test (ltb i f.count) refl
    where
      by_test : (t : Bool) → ltb i f.count ≡ t → field_by line f i ≡ get_or (fields_of line) i []
      by_test true e =
          let found = p.found i few (ltb-true i f.count e) in
          by_ends few found.ordered found.inside ∙ found.part
      by_test false e =
          let past = ltb-false i f.count e in
          let first : 0 < i = omega (arith, p.counted, some_field line) in
          let start = start_past f.ends i (λ (e : i ≡ 0). omega arith) in
          none_by_start (omega (arith, p.unused i few past)) ∙ sym (get_or-eq_default (fields_of line) [] (omega (arith, p.counted)))

  field_part : {r : Bytes} → field_by line f i ≡ r → FieldPart line f i r
  field_part e = record { part = sym e; field = λ p few. sym e ∙ field_found p few }

  pub no_field_most : most_fields ≤ i → FieldPart line f i []
  no_field_most h = field_part (none_by_most h)

  pub no_field_end : length line < get_or f.ends i 0 → FieldPart line f i []
  no_field_end h = field_part (none_by_end h)

  pub no_field_start : (i ≡ 0 → ⊥) → get_or f.ends i 0 ≤ get_or f.ends (i - 1) 0 → FieldPart line f i []
  no_field_start n h = field_part (none_by_start (omega (arith, start_past f.ends i n)))

  module _ (few : i < most_fields) (inside : get_or f.ends i 0 ≤ length line) where
    pub field_first : i ≡ 0 → FieldPart line f i (take (get_or f.ends i 0) line)
    field_first h =
        let start = start_first f.ends i h in
        let size : get_or f.ends i 0 - 0 ≡ get_or f.ends i 0 = omega arith in
        field_part (by_ends few (omega arith) inside ∙ ap (λ k. between line k (get_or f.ends i 0)) start ∙ ap (λ n. take n line) size)

    pub field_later : (i ≡ 0 → ⊥) → get_or f.ends (i - 1) 0 < get_or f.ends i 0
        → FieldPart line f i (between line (get_or f.ends (i - 1) 0 + 1) (get_or f.ends i 0))
    field_later n h =
        let start = start_past f.ends i n in
        field_part (by_ends few (omega arith) inside ∙ ap (λ k. between line k (get_or f.ends i 0)) start)
