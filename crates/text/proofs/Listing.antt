-- A turn of the reader of a list: the items before a place are read.
-- Assumes nothing.
use Prim.Native.Nat.{ℕ, ◌+◌, ◌≤◌, ◌<◌}
use mathlib.Core.Path.{◌≡◌, refl, sym, ap, ◌∙◌}
use mathlib.Core.Bool.{Bool, true, false}
use mathlib.Core.List.{List, [], ◌∷◌, ◌++◌, append_assoc, append-nil}
use mathlib.Core.Option.{Option, none, some}
use native.Mathlib.Numerals.{lt_of_le_of_ne}
use native.Mathlib.Omega.{arith}
use lib.ListN.{length, drop}
use Rattle.std.specs.Prelude.{None, Some}
use Rattle.format.specs.Text.{Bytes, comma, parts_at, each, is, Item, meant_by, written_out, items_of, side_of, list_of, number_of, ◌<$>◌, ◌<*>◌}
use Rattle.parts.specs.Refusals.{bad_if_none, refusal_of}
use Rattle.parts.specs.Parts.{next_at}
use Rattle.parts.proofs.PartLaws.{next_bounds, next_part, last_part_lem, first_part}
use Rattle.text.specs.Items.{item_by, part_at, item_at}
use Rattle.text.specs.Lists.{most_counted, laid_over, spanned, listed_of, listed_as, ListedInto, HeldList, list_by, leads, items_ahead, entries_of}
use Rattle.text.specs.declared.lists.Listed.{Listed}
use Rattle.text.proofs.ItemLaws.{spans, was_span, was_no_span, span_ordered}
use Rattle.text.proofs.ListLaws.{listed_count, laid_length}

-- ---- a list by its items

each_plain : (parts : List Bytes) → each number_of parts ≡ (written_out <$> each (item_by false) parts)
each_plain [] = refl
each_plain (p ∷ ps) = ap (λ q. (λ y ys. y ∷ ys) <$> number_of p <*> q) (each_plain ps) ∙ read (number_of p) (each (item_by false) ps)
  where
    read : (o : Option ℕ) (q : Option (List Item))
        → ((λ y ys. y ∷ ys) <$> o <*> (written_out <$> q)) ≡ (written_out <$> ((λ y ys. y ∷ ys) <$> ((λ n. Item.one n) <$> o) <*> q))
    read none q = refl
    read (some n) none = refl
    read (some n) (some items) = refl

list_by_lem : (runs : Bool) (field : Bytes) → is "-" field ≡ false → list_by runs field ≡ (written_out <$> each (item_by runs) (parts_at comma field))
unfolding side_of items_of list_of
list_by_lem true field e = simp e
list_by_lem false field e = simp e (each_plain (parts_at comma field))

list_none : (runs : Bool) (field : Bytes) → is "-" field ≡ true → list_by runs field ≡ some []
unfolding side_of items_of list_of
list_none true field e = simp e
list_none false field e = simp e

-- ---- a turn

some_injective : (xs ys : List ℕ) → some xs ≡ some ys → xs ≡ ys
some_injective xs ys e = cc

-- what is read, in front of what the items that are left mean
infixr 30 ◌then◌
abbrev ◌then◌ : List ℕ → Option (List Item) → Option (List ℕ)
xs then o = (λ items. xs ++ written_out items) <$> o

then_none : (o : Option (List Item)) → [] then o ≡ (written_out <$> o)
then_none none = refl
then_none (some items) = refl

then_item : (xs : List ℕ) (item : Item) (o : Option (List Item)) → xs then ((λ y ys. y ∷ ys) <$> some item <*> o) ≡ (xs ++ meant_by item) then o
then_item xs item none = refl
then_item xs item (some items) = ap some (sym (append_assoc xs (meant_by item) (written_out items)))

-- the items before `at` are read
pub record Listing (runs : Bool) (field was out : List ℕ) (listed : Listed) (at : ℕ) : Type 0 where
  pub entries : List ℕ
  pub holds : HeldList entries was out listed
  pub within : at ≤ length field
  pub whole : list_by runs field ≡ entries then each (item_by runs) (parts_at comma (drop at field))
  pub begun : entries_of runs field ≡ entries ++ items_ahead runs (parts_at comma (drop at field))

list_refusal : (o : Option (List ℕ)) → refusal_of (listed_as o) ≡ bad_if_none o
list_refusal none = refl
list_refusal (some xs) = refl

pub listing_none : (runs : Bool) (field was : List ℕ) → is "-" field ≡ false → {listed : Listed} → listed ≡ listed_of []
    → Listing runs field was was listed 0
unfolding entries_of laid_over
listing_none runs field was e empty =
    record {
      entries = [];
      holds = record { answer = empty; stored = refl };
      within = omega arith;
      whole = list_by_lem runs field e ∙ sym (then_none (each (item_by runs) (parts_at comma field)));
      begun = simp e;
    }

pub listed_none : (runs : Bool) (field was : List ℕ) → is "-" field ≡ true → {listed : Listed} → listed ≡ listed_of []
    → ListedInto runs field was was (Some listed)
unfolding entries_of laid_over
listed_none runs field was e empty =
    let none_there = list_none runs field e in
    let answer = ap (λ l. Some l) empty ∙ ap listed_as (sym none_there) in
    record {
      answer = answer;
      refusal = ap refusal_of answer ∙ list_refusal (list_by runs field);
      stored = λ xs h. ap (λ xs. laid_over xs was) (some_injective [] xs (sym none_there ∙ h));
      begun = simp e;
      kept = refl;
    }

-- a turn reads the next item
module _ (runs : Bool) (field was out : List ℕ) (listed : Listed) (at : ℕ) (l : Listing runs field was out listed at) where
  next : Option Item
  next = item_by runs (part_at field at)

  later : Option (List Item)
  later = each (item_by runs) (drop 1 (parts_at comma (drop at field)))

  whole_by : (o : Option Item) → next ≡ o → list_by runs field ≡ l.entries then ((λ y ys. y ∷ ys) <$> o <*> later)
  unfolding next later
  whole_by o e =
      l.whole ∙ ap (λ parts. l.entries then each (item_by runs) parts) (first_part comma field at l.within)
      ∙ ap (λ o. l.entries then ((λ y ys. y ∷ ys) <$> o <*> later)) e

  begun_by : (o : Option Item) → next ≡ o → entries_of runs field ≡ l.entries ++ leads o (items_ahead runs (drop 1 (parts_at comma (drop at field))))
  unfolding next
  begun_by o e =
      l.begun ∙ ap (λ parts. l.entries ++ items_ahead runs parts) (first_part comma field at l.within)
      ∙ ap (λ o. l.entries ++ leads o (items_ahead runs (drop 1 (parts_at comma (drop at field))))) e

  pub listing_length : length out ≡ length was
  listing_length = ap length l.holds.stored ∙ laid_length l.entries was

  pub listing_count : listed.count ≤ most_counted
  listing_count = omega (arith, listed_count listed l.entries l.holds.answer)

  pub listed_bad : item_at runs field at ≡ None → ListedInto runs field was out None
  unfolding item_at next
  listed_bad e =
      let no_item = was_no_span next (next_at comma field at) e in
      let bad : list_by runs field ≡ none = whole_by none no_item in
      let ahead : entries_of runs field ≡ l.entries = begun_by none no_item ∙ append-nil l.entries in
      record {
        answer = ap listed_as (sym bad);
        refusal = ap bad_if_none (sym bad);
        stored = λ xs h. absurd (none_some xs (sym bad ∙ h));
        begun = l.holds.stored ∙ ap (λ xs. laid_over xs was) (sym ahead);
        kept = listing_length;
      }
    where
      none_some : (xs : List ℕ) → none ≡ some xs → ⊥
      none_some xs e = let z : ◌≡◌ {A = ℕ} 0 1 = cc in omega arith

  module _ (first last end : ℕ) (e : item_at runs field at ≡ spans first last end) where
    item_read : (item : Item) × (next ≡ some item) × (meant_by item ≡ spanned first last) × (next_at comma field at ≡ end)
    unfolding item_at next
    item_read = was_span next (next_at comma field at) first last end e

    pub item_ordered : first ≤ last
    unfolding item_at
    item_ordered = span_ordered runs (part_at field at) (next_at comma field at) first last end e

    pub item_bounds : (at ≤ end) × (end ≤ length field)
    item_bounds = rw item_read.3 at (next_bounds comma field at l.within)

    whole_one : list_by runs field ≡ (l.entries ++ spanned first last) then later
    whole_one =
        whole_by (some item_read.0) item_read.1 ∙ then_item l.entries item_read.0 later
        ∙ ap (λ xs. (l.entries ++ xs) then later) item_read.2

    begun_one : entries_of runs field ≡ (l.entries ++ spanned first last) ++ items_ahead runs (drop 1 (parts_at comma (drop at field)))
    begun_one =
        begun_by (some item_read.0) item_read.1
        ∙ ap (λ xs. l.entries ++ (xs ++ items_ahead runs (drop 1 (parts_at comma (drop at field))))) item_read.2
        ∙ sym (append_assoc l.entries (spanned first last) (items_ahead runs (drop 1 (parts_at comma (drop at field)))))

    module _ (out' : List ℕ) (listed' : Listed) (h : HeldList (l.entries ++ spanned first last) was out' listed') where
      pub listing_more : (end ≡ length field → ⊥) → Listing runs field was out' listed' (end + 1)
      unfolding later
      listing_more not_last =
          let inside : end < length field = lt_of_le_of_ne item_bounds.1 not_last in
          let next_one = next_part comma field at l.within (rw item_read.3 inside) in
          let rest = ap (drop 1) next_one ∙ ap (λ k. parts_at comma (drop (k + 1) field)) item_read.3 in
          record {
            entries = l.entries ++ spanned first last;
            holds = h;
            within = omega arith;
            whole = whole_one ∙ ap (λ parts. (l.entries ++ spanned first last) then each (item_by runs) parts) rest;
            begun = begun_one ∙ ap (λ parts. (l.entries ++ spanned first last) ++ items_ahead runs parts) rest;
          }

      pub listed_last : end ≡ length field → ListedInto runs field was out' (Some listed')
      unfolding later
      listed_last at_end =
          let rest = last_part_lem comma field at l.within (item_read.3 ∙ at_end) in
          let xs : List ℕ = l.entries ++ spanned first last in
          let full : list_by runs field ≡ some xs =
          whole_one ∙ ap (λ parts. xs then each (item_by runs) (drop 1 parts)) rest ∙ ap some (append-nil xs) in
          let all : entries_of runs field ≡ xs =
          begun_one ∙ ap (λ parts. xs ++ items_ahead runs (drop 1 parts)) rest ∙ append-nil xs in
          let answer = ap (λ l. Some l) h.answer ∙ ap listed_as (sym full) in
          record {
            answer = answer;
            refusal = ap refusal_of answer ∙ list_refusal (list_by runs field);
            stored = λ ys e. h.stored ∙ ap (λ xs. laid_over xs was) (some_injective _ ys (sym full ∙ e));
            begun = h.stored ∙ ap (λ xs. laid_over xs was) (sym all);
            kept = ap length h.stored ∙ laid_length xs was;
          }
