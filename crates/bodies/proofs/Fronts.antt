-- A table that begins with what is held: the part that is read right after it, one formula or row fewer, and zeros to its end. Any lists.
use Prim.Native.Nat.{ℕ, zero, suc, ◌+◌, ◌-◌, ◌≤◌, ◌<◌}
use native.Mathlib.Decide.{dec_lt}
use native.Mathlib.Omega.{arith}
use mathlib.Core.Path.{◌≡◌, refl, sym, ap, ap₂, subst, ◌∙◌}
use mathlib.Core.Bool.{true}
use mathlib.Core.List.{List, [], ◌∷◌, ◌++◌, append_assoc, append-nil}
use lib.Dec.{eqb}
use lib.ListN.{length, take, drop, replicate, length-append, take-append-drop}
use lib.Seq.{drop_at, length-take-le}
use borrow.Author.Tests.{eqb-true}
use Rattle.format.specs.Text.{all}
use Rattle.format.specs.File.{Node, Row}
use Rattle.format.specs.Tables.{part, padded, join_all, node_record, row_record, row_records, left_pool, right_pool}
use Rattle.format.proofs.Booleans.{and_true}
use Rattle.tables.specs.Holding.{Begins, HoldsNodes, HoldsRows}
use Rattle.tables.proofs.Placed.{part_inside, part_outside, part_between}
use Rattle.tables.proofs.Encoded.{join_all_append, records_append}
use Rattle.bodies.specs.Walk.{zeros_from}

-- the same numbers
pub begins_same : {xs ys table : List ℕ} → xs ≡ ys → Begins xs table → Begins ys table
begins_same {table = table} e b = subst (λ (l : List ℕ). Begins l table) e b

-- fewer
begins_less : (xs ys : List ℕ) {table : List ℕ} → Begins (xs ++ ys) table → Begins xs table
begins_less xs ys b = record { rest = ys ++ b.rest; whole = b.whole ∙ append_assoc xs ys b.rest }

-- parts

-- a part that is not empty lies inside
pub part_there : (table : List ℕ) (start k : ℕ) → (part table start k ≡ [] → ⊥) → start + k ≤ length table
part_there table start k there = cases (dec_lt (length table) (start + k))
  where
    cases : Dec (length table < start + k) → start + k ≤ length table
    cases (yes l) = absurd (there (part_outside table start k l))
    cases (no n) = omega arith

-- a part that lies inside, right after what the table begins with, has its length, and the table begins with it too
pub part_next : (xs table : List ℕ) (start k : ℕ) → Begins xs table → length xs ≡ start → start + k ≤ length table
    → (length (part table start k) ≡ k) × Begins (xs ++ part table start k) table
part_next xs table start k b at inside = (ap length read ∙ length-take-le k b.rest room, record { rest = drop k b.rest; whole = whole })
  where
    room : k ≤ length b.rest
    room = omega (arith, ap length b.whole, length-append xs b.rest)

    read : part table start k ≡ take k b.rest
    read = part_inside table start k inside ∙ ap (take k) (ap (drop start) b.whole ∙ drop_at xs b.rest start at)

    whole : table ≡ xs ++ part table start k ++ drop k b.rest
    whole =
        b.whole ∙ ap (λ (l : List ℕ). xs ++ l) (sym (take-append-drop k b.rest) ∙ ap (λ (l : List ℕ). l ++ drop k b.rest) (sym read))
        ∙ sym (append_assoc xs (part table start k) (drop k b.rest))

module _ (xs ys : List ℕ) {table : List ℕ} (b : Begins (xs ++ ys) table) where
  -- what follows right after xs lies inside
  pub inside_begun : length xs + length ys ≤ length table
  inside_begun = omega (arith, ap length b.whole, length-append (xs ++ ys) b.rest, length-append xs ys)

  -- and is read there
  pub part_begun : part table (length xs) (length ys) ≡ ys
  part_begun =
      ap (λ (l : List ℕ). part l (length xs) (length ys)) (b.whole ∙ append_assoc xs ys b.rest) ∙ part_between xs ys b.rest _ _ refl refl

-- one more record, and one fewer

pub joined_last : {X : Type 0} (f : X → List ℕ) (xs : List X) (x : X) → join_all f (xs ++ x ∷ []) ≡ join_all f xs ++ f x
joined_last f xs x = join_all_append f xs (x ∷ []) ∙ ap (λ (l : List ℕ). join_all f xs ++ l) (append-nil (f x))

pub records_last : (rows : List Row) (r : Row) → row_records (rows ++ r ∷ []) ≡ row_records rows ++ row_record rows r
records_last rows r = records_append [] rows (r ∷ [])

pub nodes_less : (nodes : List Node) (node : Node) {table : List ℕ} → HoldsNodes (nodes ++ node ∷ []) table → HoldsNodes nodes table
nodes_less nodes node h =
    record { records = begins_less (join_all node_record nodes) (node_record node) (begins_same (joined_last node_record nodes node) h.records) }

module _ (rows : List Row) (r : Row) {table left right : List ℕ} (h : HoldsRows (rows ++ r ∷ []) table left right) where
  -- the sides of the last row stand after those of the others
  pub left_begun : Begins (left_pool rows ++ r.left) left
  left_begun = begins_same (joined_last (λ (q : Row). q.left) rows r) h.left_pool

  pub right_begun : Begins (right_pool rows ++ r.right) right
  right_begun = begins_same (joined_last (λ (q : Row). q.right) rows r) h.right_pool

  pub rows_less : HoldsRows rows table left right
  rows_less =
      record {
        records = begins_less (row_records rows) (row_record rows r) (begins_same (records_last rows r) h.records);
        left_pool = begins_less (left_pool rows) r.left left_begun;
        right_pool = begins_less (right_pool rows) r.right right_begun;
      }

-- zeros

zeros_only : (xs : List ℕ) → all (λ x. eqb x 0) xs ≡ true → xs ≡ replicate (length xs) 0
zeros_only [] h = refl
zeros_only (x ∷ xs) h =
    let both = and_true (eqb x 0) (all (λ y. eqb y 0) xs) h in
    ap₂ (λ (y : ℕ) (ys : List ℕ). y ∷ ys) (eqb-true x 0 both.0) (zeros_only xs both.1)

only_zeros : (n : ℕ) → all (λ x. eqb x 0) (replicate n 0) ≡ true
only_zeros zero = refl
only_zeros (suc n) = only_zeros n

module _ (xs table : List ℕ) (n : ℕ) (at : length xs ≡ n) where
  pub zeros_padded : Begins xs table → zeros_from n table ≡ true → table ≡ padded (length table) xs
  unfolding zeros_from
  zeros_padded b h =
      let same : drop n table ≡ b.rest = ap (drop n) b.whole ∙ drop_at xs b.rest n at in
      let size : length b.rest ≡ length table - length xs = omega (arith, ap length b.whole, length-append xs b.rest) in
      b.whole ∙ ap (λ (l : List ℕ). xs ++ l) (zeros_only b.rest (ap (all (λ x. eqb x 0)) (sym same) ∙ h) ∙ ap (λ (k : ℕ). replicate k 0) size)

  pub padded_zeros : table ≡ padded (length table) xs → zeros_from n table ≡ true
  unfolding zeros_from
  padded_zeros e =
      ap (λ (l : List ℕ). all (λ x. eqb x 0) (drop n l)) e
      ∙ ap (all (λ x. eqb x 0)) (drop_at xs (replicate (length table - length xs) 0) n at)
      ∙ only_zeros (length table - length xs)
