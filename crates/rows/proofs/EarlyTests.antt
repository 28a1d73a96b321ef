-- The tests by what is known of a row as it was read, and by the counts, are those of the row over the body; and what it says of
-- the row that none of them applies.
use Prim.Native.Nat.{ℕ, ◌+◌, ◌≤◌, ◌<◌, min, max}
use native.Mathlib.Omega.{arith}
use mathlib.Core.Path.{◌≡◌, refl, sym, ap, ap₂, subst, ◌∙◌}
use mathlib.Core.Bool.{Bool, true, false, not, ◌||◌, or-false}
use mathlib.Core.List.{List, [], ◌∷◌}
use mathlib.Core.Option.{Option, none, some}
use lib.Dec.{ltb, leb}
use lib.ListN.{length, take}
use borrow.Author.Tests.{leb-true, leb-false, lt-ltb, le-ltb, ltb-true, ltb-false}
use Rattle.equilibrium.specs.Meaning.{◌∈◌}
use Rattle.format.specs.Text.{any, strictly_rising}
use Rattle.format.specs.File.{Row, Body}
use Rattle.format.specs.Tables.{absent, most_on_side, most_rows, most_entries}
use Rattle.format.specs.Tests.{Test, ◌when◌, first, not_earlier, unknown_formula, listed, bad_side}
use Rattle.format.proofs.Booleans as booleans
use Rattle.format.proofs.Tested.{passes}
use Rattle.format.proofs.GoodBodies.{Held, good_held}
use Rattle.format.proofs.Formulas.{known_earlier}
use Rattle.text.specs.Numbers.{number_as}
use Rattle.text.specs.Lists.{most_counted, above, listed_of}
use Rattle.std.specs.Prelude.{Option as Given}
use Rattle.text.specs.declared.lists.Listed.{Listed}
use Rattle.counts.specs.Counts.{counts_of, full_for}
use Rattle.tables.specs.Holding.{Sided}
use Rattle.counts.specs.declared.Counts.{Counts}
use Rattle.early.specs.Early.{past_of, ahead_of, bad_of, references_of, early_of}
use Rattle.rows.specs.Judgement.{Ground, early_tests}
use Rattle.rows.specs.Judging.{Judging}
use Rattle.drafts.specs.declared.Draft.{Draft}
use Rattle.drafts.specs.Drafts.{Narrow, Drafted}

-- some number of a list is not earlier exactly if the least number above them all is past
pub past_listed : (xs : List ℕ) (h : ℕ) → past_of (listed_of xs) h ≡ any (not_earlier h) xs
unfolding above
past_listed [] h = le-ltb h 0 (omega arith)
past_listed (x ∷ xs) h = by_tests (leb h x) (any (not_earlier h) xs) refl (past_listed xs h)
  where
    by_tests : (s t : Bool) → leb h x ≡ s → ltb h (above xs) ≡ t → ltb h (max (x + 1) (above xs)) ≡ s || t
    by_tests true t e k = lt-ltb h _ (omega (arith, leb-true h x e))
    by_tests false true e k = lt-ltb h _ (omega (arith, ltb-true h (above xs) k))
    by_tests false false e k = le-ltb h _ (omega (arith, leb-false h x e, ltb-false h (above xs) k))

-- where a count stops, it passes every limit that its list passes
ltb_alike : (most m n : ℕ) → (most < n → most < m) → (n ≤ most → m ≤ most) → ltb most m ≡ ltb most n
ltb_alike most m n above below = by_test (ltb most n) refl
  where
    by_test : (t : Bool) → ltb most n ≡ t → ltb most m ≡ t
    by_test true e = lt-ltb most m (above (ltb-true most n e))
    by_test false e = le-ltb most m (below (ltb-false most n e))

-- a side is bad exactly if what is known of it says so
pub bad_listed : (xs : List ℕ) → bad_of (listed_of xs) ≡ bad_side xs
bad_listed xs =
    ap (λ (t : Bool). not (strictly_rising xs) || t)
    (ltb_alike most_on_side (min (length xs) most_counted) (length xs) (λ (h : most_on_side < length xs). omega arith) (λ (h : length xs ≤ most_on_side). omega arith))

full_counted : (c : Counts) (l r : ℕ) → full_for c (min l most_counted) (min r most_counted) ≡ full_for c l r
unfolding full_for
full_counted c l r = ap₂ (λ (s t : Bool). leb most_rows c.rows || s || t) (over c.left l) (over c.right r)
  where
    over : (held n : ℕ) → ltb most_entries (held + min n most_counted) ≡ ltb most_entries (held + n)
    over held n =
        ltb_alike most_entries (held + min n most_counted) (held + n)
        (λ (h : most_entries < held + n). omega arith) (λ (h : held + n ≤ most_entries). omega arith)

ahead_listed : (o : Option ℕ) (h : ℕ) → ahead_of (number_as o) h ≡ any (not_earlier h) (listed o)
ahead_listed none h = refl
ahead_listed (some i) h = sym (or-false (leb h i))

-- the draft of a row, where nothing is stored beside it
abbrev draft_of : Row → ℕ → ℕ → ℕ → Draft
draft_of r rule one two =
    record {
      rule = rule;
      principal = number_as r.principal;
      premises = listed_of r.premises;
      first = one;
      second = two;
      left = listed_of r.left;
      right = listed_of r.right;
    }

-- 5, 7 and 9
abbrev tests : Bool → Bool → Bool → List Test
tests full unknown bad = (5 when full) ∷ (7 when unknown) ∷ (9 when bad) ∷ []

own_tests : (b : Body) (r : Row) (rule one two : ℕ) → early_of (draft_of r rule one two) (counts_of b) ≡ early_tests b r
unfolding full_for
own_tests b r rule one two =
    ap (λ (t : Bool). tests t (references_of (draft_of r rule one two) (counts_of b)) (bad_of (listed_of r.left) || bad_of (listed_of r.right)))
    (full_counted (counts_of b) (length r.left) (length r.right))
    ∙ ap₂ (λ (s t : Bool). tests (full_for (counts_of b) (length r.left) (length r.right)) (references_of (draft_of r rule one two) (counts_of b)) (s || t))
    (bad_listed r.left) (bad_listed r.right)
    ∙ ap (λ (t : Bool). tests (full_for (counts_of b) (length r.left) (length r.right)) t (bad_side r.left || bad_side r.right)) (
    ap₂ (λ (s t : Bool). s || t || past_of (listed_of r.left) (length b.nodes) || past_of (listed_of r.right) (length b.nodes))
    (ahead_listed r.principal (length b.nodes)) (past_listed r.premises (length b.rows))
    ∙ ap₂ (λ (s t : Bool). unknown_formula b (listed r.principal) || any (not_earlier (length b.rows)) r.premises || s || t)
    (past_listed r.left (length b.nodes)) (past_listed r.right (length b.nodes)))

-- the tests of a row as it was read are its tests over the body
pub early_same : (b : Body) {r : Row} {d : Draft} {c : Counts} {left right : List ℕ} → c ≡ counts_of b → Drafted r d left right → early_of d c ≡ early_tests b r
early_same b {r} {d} {c} counts drafted =
    ap (early_of d) counts
    ∙ ap₂ (λ (o : Given ℕ) (l : Listed). early_of
    (record { rule = d.rule; principal = o; premises = l; first = d.first; second = d.second; left = d.left; right = d.right }) (counts_of b))
    drafted.principal drafted.premises
    ∙ ap₂ (λ (l m : Listed). early_of (record {
      rule = d.rule;
      principal = number_as r.principal;
      premises = listed_of r.premises;
      first = d.first;
      second = d.second;
      left = l;
      right = m;
    }) (counts_of b)) drafted.left_laid.answer drafted.right_laid.answer
    ∙ own_tests b r d.rule d.first d.second

-- numbers below a limit that 16 bits hold
narrow_below : (h : ℕ) (xs : List ℕ) → h ≤ absent → ((x : ℕ) → x ∈ xs → x < h) → Narrow xs
narrow_below h xs fits below x m = omega (arith, below x m)

good_side : (b : Body) (side : List ℕ) → unknown_formula b side ≡ false → bad_side side ≡ false → Sided b side
good_side b side known good = record { known = known; rising = booleans.not_false _ (booleans.or_false (not (strictly_rising side)) _ good).0 }

-- a side that is not bad is short
pub short_side : (side : List ℕ) → bad_side side ≡ false → length side ≤ most_on_side
short_side side good = ltb-false most_on_side (length side) (booleans.or_false (not (strictly_rising side)) _ good).1

-- a row that none of the early tests refuses, ready for its rule
pub ready : {b : Body} {r : Row} {d : Draft} {c : Counts} {left right formulas notes rows left_pool right_pool : List ℕ}
    → Ground b c formulas notes rows left_pool right_pool → Drafted r d left right → first (early_tests b r) ≡ none
    → Judging b r formulas notes rows left_pool right_pool d (take d.left.count left) (take d.right.count right)
ready {b} {r} {d} {c} {left} {right} g drafted e =
    record {
      formulas_held = record { good = g.good; table = g.nodes };
      atoms_known = g.known.atoms;
      rows_held = g.rows_held;
      rule = sym drafted.rule;
      principal = drafted.principal;
      count = sym (ap (λ (l : Listed). l.count) drafted.premises);
      first_premise = sym (drafted.first_premise narrow);
      second_premise = sym (drafted.second_premise narrow);
      left_side = sym left_is;
      right_side = sym right_is;
      principal_known = known.0;
      premises_earlier = earlier;
      left_sided = subst (Sided b) (sym left_is) (good_side b r.left known.2 sides.0);
      right_sided = subst (Sided b) (sym right_is) (good_side b r.right known.3 sides.1);
    }
  where
    held : Held b
    held = good_held g.good

    known :
        (unknown_formula b (listed r.principal) ≡ false) × (any (not_earlier (length b.rows)) r.premises ≡ false)
        × (unknown_formula b r.left ≡ false) × (unknown_formula b r.right ≡ false)
    known = booleans.or_false₄ _ _ _ _ (passes 7 (early_tests b r) e)

    sides : (bad_side r.left ≡ false) × (bad_side r.right ≡ false)
    sides = booleans.or_false _ _ (passes 9 (early_tests b r) e)

    earlier : (i : ℕ) → i ∈ r.premises → i < length b.rows
    earlier i m = leb-false (length b.rows) i (booleans.any_false (not_earlier (length b.rows)) r.premises known.1 i m)

    narrow : Narrow r.premises
    narrow = narrow_below (length b.rows) r.premises (omega (arith, held.few_rows)) earlier

    narrow_side : (side : List ℕ) → unknown_formula b side ≡ false → Narrow side
    narrow_side side k = narrow_below (length b.nodes) side (omega (arith, held.few_nodes)) (known_earlier b side k)

    left_is : take d.left.count left ≡ r.left
    left_is = drafted.left_laid.front (short_side r.left sides.0) (narrow_side r.left known.2)

    right_is : take d.right.count right ≡ r.right
    right_is = drafted.right_laid.front (short_side r.right sides.1) (narrow_side r.right known.3)
