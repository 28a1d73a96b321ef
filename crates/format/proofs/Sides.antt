-- What a number is made of; a plain list, as a side, means what it meant before there were runs; and what a run means.
use Prim.Native.Nat.{ℕ, zero, suc, ◌+◌, ◌-◌, ◌≤◌, ◌<◌}
use mathlib.Core.Path.{◌≡◌, refl, sym, ap, ap₂, ◌∙◌}
use mathlib.Core.Bool.{Bool, true, false, not, cond, ◌&&◌, true≢false, false≢true}
use mathlib.Core.List.Memᴰ
use mathlib.Core.List.{List, [], ◌∷◌}
use mathlib.Core.Logic.{⊎_elim, ◌↔◌}
use mathlib.Core.Option.{Option, none, some}
use native.Mathlib.Omega.{arith}
use lib.Dec.{ltb, leb}
use lib.ListN.{length}
use borrow.Author.Tests.{leb-true, ltb-true, ltb-false, ne_eqb}
use Rattle.equilibrium.specs.Meaning.{◌∈◌}
use Rattle.format.specs.Text.{Bytes, comma, hyphen, all, each, is, is_digit, leading_zero, value_from, only_if, number_of, list_of, parts_at, ◌<$>◌, ◌<*>◌}
use Rattle.format.specs.Text.{Item, is_ordered, passing, item_from, item_of, items_of, up_from, meant_by, written_out, side_of}
use Rattle.format.proofs.Booleans.{and_true}
use Rattle.format.proofs.Joined.{Without, parts_one}

-- ---- what is there

pub only_some : {A : Type 0} (t : Bool) (o : Option A) (x : A) → only_if t o ≡ some x → (t ≡ true) × (o ≡ some x)
only_some true o x e = (refl, e)
only_some false o x e = let z : ◌≡◌ {A = ℕ} 0 1 = cc in absurd (omega arith)

-- ---- a number

-- a field that writes a number
pub record Digits (field : Bytes) (n : ℕ) : Type 0 where
  pub some_digit : 1 ≤ length field
  pub digits : all is_digit field ≡ true
  pub no_zero : leading_zero field ≡ false
  pub value : value_from 0 field ≡ n

pub number_digits : (field : Bytes) (n : ℕ) → number_of field ≡ some n → Digits field n
unfolding number_of
number_digits field n e =
    let k = only_some (leb 1 (length field) && leb (length field) 5 && all is_digit field && not (leading_zero field)) (some (value_from 0 field)) n e in
    let last = and_true (leb 1 (length field) && leb (length field) 5 && all is_digit field) (not (leading_zero field)) k.0 in
    let third = and_true (leb 1 (length field) && leb (length field) 5) (all is_digit field) last.0 in
    let two = and_true (leb 1 (length field)) (leb (length field) 5) third.0 in
    record {
      some_digit = leb-true 1 (length field) two.0;
      digits = third.1;
      no_zero = was_not (leading_zero field) last.1;
      value = cc;
    }
  where
    was_not : (t : Bool) → not t ≡ true → t ≡ false
    was_not true h = absurd (false≢true h)
    was_not false h = refl

-- digits are no other byte
pub digits_without : (s : ℕ) → is_digit s ≡ false → (bs : Bytes) → all is_digit bs ≡ true → Without s bs
digits_without s no_digit [] e = tt
digits_without s no_digit (b ∷ bs) e =
    let parts = and_true (is_digit b) (all is_digit bs) e in
    (ne_eqb b s (λ (h : b ≡ s). true≢false (sym parts.0 ∙ ap is_digit h ∙ no_digit)), digits_without s no_digit bs parts.1)

-- a number is one part
pub number_parts : (part : Bytes) (n : ℕ) → number_of part ≡ some n → parts_at hyphen part ≡ part ∷ []
number_parts part n e = parts_one hyphen part (digits_without hyphen refl part (number_digits part n e).digits)

-- ---- a plain list as a side

pub number_item : (part : Bytes) (n : ℕ) → number_of part ≡ some n → item_of part ≡ some (Item.one n)
unfolding item_of
number_item part n e =
    ap (λ (parts : List Bytes). passing is_ordered (item_from parts)) (number_parts part n e)
    ∙ ap (λ (o : Option ℕ). passing is_ordered ((λ n. Item.one n) <$> o)) e

-- items that are all numbers
abbrev ones : List ℕ → List Item
ones [] = []
ones (n ∷ ns) = Item.one n ∷ ones ns

ones_meant : (ns : List ℕ) → written_out (ones ns) ≡ ns
ones_meant [] = refl
ones_meant (n ∷ ns) = ap (λ (l : List ℕ). n ∷ l) (ones_meant ns)

each_item : (parts : List Bytes) (ns : List ℕ) → each number_of parts ≡ some ns → each item_of parts ≡ some (ones ns)
each_item [] ns e = let none_left : ◌≡◌ {A = List ℕ} [] ns = cc in ap (λ (l : List ℕ). some (ones l)) none_left
each_item (p ∷ ps) ns e = read (number_of p) refl (each number_of ps) (λ ms. each_item ps ms) e
  where
    read : (o : Option ℕ) → number_of p ≡ o → (q : Option (List ℕ)) → ((ms : List ℕ) → q ≡ some ms → each item_of ps ≡ some (ones ms))
        → ((λ y ys. y ∷ ys) <$> o <*> q) ≡ some ns → ((λ y ys. y ∷ ys) <$> item_of p <*> each item_of ps) ≡ some (ones ns)
    read none h q rest m = let z : ◌≡◌ {A = ℕ} 0 1 = cc in absurd (omega arith)
    read (some n) h none rest m = let z : ◌≡◌ {A = ℕ} 0 1 = cc in absurd (omega arith)
    read (some n) h (some ms) rest m =
        let whole : n ∷ ms ≡ ns = cc in
        ap₂ (λ (o : Option Item) (q : Option (List Item)). (λ y ys. y ∷ ys) <$> o <*> q) (number_item p n h) (rest ms refl)
        ∙ ap (λ (l : List ℕ). some (ones l)) whole

pub side_kept : (field : Bytes) (ns : List ℕ) → list_of field ≡ some ns → side_of field ≡ some ns
unfolding list_of side_of items_of
side_kept field ns e = by_test (is "-" field) e
  where
    by_test : (t : Bool) → cond t (some []) (each number_of (parts_at comma field)) ≡ some ns
        → (written_out <$> cond t (some []) (each item_of (parts_at comma field))) ≡ some ns
    by_test true k = k
    by_test false k = ap (λ (o : Option (List Item)). written_out <$> o) (each_item (parts_at comma field) ns k) ∙ ap some (ones_meant ns)

-- ---- what a run means

up_members : (k first i : ℕ) → (i ∈ up_from first k) ↔ ((first ≤ i) × (i < first + k))
unfolding up_from
up_members zero first i = (λ m. absurd (Memᴰ.not-nil m), λ (h : (first ≤ i) × (i < first + 0)). absurd (omega arith))
up_members (suc k) first i = (to (up_members k (first + 1) i).0, from (ltb first i) refl (up_members k (first + 1) i).1)
  where
    to : (i ∈ up_from (first + 1) k → (first + 1 ≤ i) × (i < first + 1 + k)) → i ∈ first ∷ up_from (first + 1) k → (first ≤ i) × (i < first + suc k)
    to later m = ⊎_elim (λ (e : i ≡ first). omega arith) (λ n. omega (arith, later n)) (Memᴰ.cases_cons m)

    from : (t : Bool) → ltb first i ≡ t → ((first + 1 ≤ i) × (i < first + 1 + k) → i ∈ up_from (first + 1) k)
        → (first ≤ i) × (i < first + suc k) → i ∈ first ∷ up_from (first + 1) k
    from true e later h = Memᴰ.tail (later (omega (arith, ltb-true first i e)))
    from false e later h = let same : i ≡ first = omega (arith, ltb-false first i e) in Memᴰ.head same

-- all numbers from its first to its last, and no others
pub run_members : (first last i : ℕ) → is_ordered (Item.run first last) ≡ true → (i ∈ meant_by (Item.run first last)) ↔ ((first ≤ i) × (i ≤ last))
run_members first last i e =
    let below = ltb-true first last e in
    let members = up_members (last + 1 - first) first i in
    (λ m. omega (arith, members.0 m), λ (h : (first ≤ i) × (i ≤ last)). members.1 (omega arith))
