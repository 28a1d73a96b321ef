-- A loop over the first records of a table: what each turn of it, and each way out, says of the place of the first that passes a
-- test. Assumes nothing.
use Prim.Native.Nat.{ℕ, zero, suc, ◌+◌, ◌-◌, ◌*◌, ◌≤◌, ◌<◌}
use native.Mathlib.Decide.{dec_lt}
use native.Mathlib.Nat.{mul-zero, sub-zero}
use native.Mathlib.Omega.{arith}
use mathlib.Core.Bool.{Bool, true, false, cond, ◌||◌}
use mathlib.Core.List.{List, [], ◌∷◌}
use mathlib.Core.Option.{Option, none, some}
use mathlib.Core.Path.{◌≡◌, refl, sym, ap, ◌∙◌}
use borrow.Author.Tests.{le-leb, lt-leb}
use lib.ListN.{length, take, drop, length-drop}
use lib.Seq.{drop-drop}
use Rattle.format.specs.Text.{Bytes, any}
use Rattle.tables.specs.Names.{first_records, spelled_by, place_from, place_of, found_as, name_refusal, NameFound}
use Rattle.std.specs.Prelude.{Option as Found}

module _ (test : List ℕ → Bool) (width : ℕ) where
  -- the place of the first of so many records that passes, counted from k
  abbrev pub found_from : ℕ → ℕ → List ℕ → Option ℕ
  found_from k count table = place_from k test (first_records width count table)

  module _ (table : List ℕ) (at : ℕ) (l : at ≤ length table) where
    next_record : (k n : ℕ) → at + width ≤ length table
        → found_from k (suc n) (drop at table) ≡ cond (test (take width (drop at table))) (some k) (found_from (suc k) n (drop (at + width) table))
    unfolding first_records
    next_record k n h =
        ap (λ (b : Bool). place_from k test (cond b (take width (drop at table) ∷ first_records width n (drop width (drop at table))) []))
        (le-leb width _ (simp length-drop (omega arith)))
        ∙ ap (λ (rest : List ℕ). cond (test (take width (drop at table))) (some k) (found_from (suc k) n rest)) (drop-drop width at table)

    no_record : (k n : ℕ) → length table < at + width → found_from k n (drop at table) ≡ none
    unfolding first_records
    no_record k zero h = refl
    no_record k (suc n) h =
        ap (λ (b : Bool). place_from k test (cond b (take width (drop at table) ∷ first_records width n (drop width (drop at table))) []))
        (lt-leb width _ (simp length-drop (omega arith)))

  -- the loop has passed i records, none of which passes the test
  pub record Passed (count : ℕ) (table : List ℕ) (i : ℕ) : Type 0 where
    pub within : width * i ≤ length table
    pub rest : found_from 0 count table ≡ found_from i (count - i) (drop (width * i) table)

  module _ (count : ℕ) (table : List ℕ) where
    pub start : Passed count table 0
    start =
        let at : 0 ≡ width * 0 = sym (mul-zero width) in
        record {
          within = omega arith;
          rest = ap (λ (n : ℕ). found_from 0 n table) (sym (sub-zero count)) ∙ ap (λ (k : ℕ). found_from 0 (count - 0) (drop k table)) at;
        }

    module _ {i : ℕ} (p : Passed count table i) (l : i < count) (h : width * i + width ≤ length table) where
      -- one record more
      head : found_from 0 count table
          ≡ cond (test (take width (drop (width * i) table))) (some i) (found_from (suc i) (count - suc i) (drop (width * i + width) table))
      head = p.rest ∙ ap (λ (n : ℕ). found_from i n (drop (width * i) table)) one ∙ next_record table (width * i) p.within i (count - suc i) h
        where
          one : count - i ≡ suc (count - suc i)
          one = omega arith

      abbrev after : Option ℕ
      after = found_from (suc i) (count - suc i) (drop (width * i + width) table)

      pub next : (at : ℕ) → at ≡ width * i + width → (j : ℕ) → j ≡ suc i → width * j ≡ at
          → test (take width (drop (width * i) table)) ≡ false → Passed count table j
      next at e j f g t =
          record {
            within = omega arith;
            rest =
                head ∙ ap (λ (b : Bool). cond b (some i) after) t
                ∙ ap (λ (k : ℕ). found_from k (count - k) (drop (width * i + width) table)) (sym f)
                ∙ ap (λ (k : ℕ). found_from j (count - j) (drop k table)) (sym (g ∙ e));
          }

      pub found : test (take width (drop (width * i) table)) ≡ true → found_from 0 count table ≡ some i
      found t = head ∙ ap (λ (b : Bool). cond b (some i) after) t

    -- no record is left: none of the count, or none that lies inside
    pub ended : {i : ℕ} → Passed count table i → (i < count → length table < width * i + width) → found_from 0 count table ≡ none
    unfolding first_records
    ended {i} p h = p.rest ∙ left (dec_lt i count)
      where
        left : Dec (i < count) → found_from i (count - i) (drop (width * i) table) ≡ none
        left (yes l) = no_record table (width * i) p.within i (count - i) (h l)
        left (no n) = let no_more : count - i ≡ 0 = omega arith in ap (λ (k : ℕ). found_from i k (drop (width * i) table)) no_more

-- what the place says of the number
module _ (text name : Bytes) where
  abbrev refused : Bool → Option ℕ
  refused used = cond used (some 6) none

  placed : (k : ℕ) (records : List (List ℕ))
      → name_refusal (found_as (place_from k (spelled_by text name) records)) ≡ refused (any (spelled_by text name) records)
  placed k [] = refl
  placed k (x ∷ xs) = by_test (spelled_by text name x) (placed (suc k) xs)
    where
      by_test : (b : Bool) → name_refusal (found_as (place_from (suc k) (spelled_by text name) xs)) ≡ refused (any (spelled_by text name) xs)
          → name_refusal (found_as (cond b (some k) (place_from (suc k) (spelled_by text name) xs))) ≡ refused (b || any (spelled_by text name) xs)
      by_test true e = refl
      by_test false e = e

  pub name_looked : (records : List (List ℕ)) {r : Found ℕ} → found_as (place_of (spelled_by text name) records) ≡ r → NameFound text name records r
  name_looked records e = record { answer = sym e; refusal = ap name_refusal (sym e) ∙ placed 0 records }
