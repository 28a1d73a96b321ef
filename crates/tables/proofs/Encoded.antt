-- Tables that hold a file: the records and sides of what it lists, and zeros after them. What is read, fetched or looked for
-- there is what was listed, and what is put right after it is listed next. Assumes nothing.
use Prim.Native.Nat.{ℕ, suc, ◌+◌, ◌*◌, ◌≤◌, ◌<◌}
use native.Mathlib.Nat.{le_of_lt, add_comm, mul-zero, mul-suc}
use native.Mathlib.Omega.{arith}
use mathlib.Core.Bool.{Bool, cond, ◌&&◌, ◌||◌}
use mathlib.Core.List.Memᴰ
use mathlib.Core.List.{List, [], ◌∷◌, ◌++◌, map, append_assoc, append-nil}
use mathlib.Core.Path.{◌≡◌, refl, sym, ap, ap₂, ◌∙◌}
use borrow.Author.Tests.{le-leb}
use lib.ListN.{length, get_or, take, drop, length-append}
use lib.Seq.{split_at, length-take-le, take_at, drop_at}
use Rattle.equilibrium.specs.Meaning.{◌∈◌}
use Rattle.format.specs.Text.{Bytes, any, same_list}
use Rattle.format.specs.File.{Node, Row, Name}
use Rattle.elk.specs.Rules.{code_of}
use Rattle.format.specs.Tables.{Side, fetched, part, row_at, padded, join_all, node_record, name_record}
use Rattle.format.specs.Tables.{name_width, node_width, row_width, row_record, records_after, row_records}
use Rattle.tables.specs.Records.{on_side, written, node_at, row_from}
use Rattle.tables.specs.Holding.{Begins, HoldsNodes, HoldsRows}
use Rattle.tables.specs.Names.{first_records, spelled, spelled_by, StandsIn}
use Rattle.tables.proofs.Placed.{part_between, written_padded}

-- a table with zeros after what it holds begins with it
pub begins_padded : {held table : List ℕ} → table ≡ padded (length table) held → Begins held table
begins_padded e = record { rest = _; whole = e }

first_record : (width n : ℕ) (front rest : List ℕ) → length front ≡ width → first_records width (suc n) (front ++ rest) ≡ front ∷ first_records width n rest
unfolding first_records
first_record width n front rest e =
    ap (λ (b : Bool). cond b (take width (front ++ rest) ∷ first_records width n (drop width (front ++ rest))) [])
    (le-leb width _ (simp length-append (omega arith)))
    ∙ ap₂ (λ (head tail : List ℕ). head ∷ first_records width n tail) (take_at front rest width e) (drop_at front rest width e)

module _ {A : Type 0} (f : A → List ℕ) where
  pub join_all_append : (xs ys : List A) → join_all f (xs ++ ys) ≡ join_all f xs ++ join_all f ys
  join_all_append [] ys = refl
  join_all_append (x ∷ xs) ys = ap (λ (r : List ℕ). f x ++ r) (join_all_append xs ys) ∙ sym (append_assoc (f x) (join_all f xs) (join_all f ys))

  -- what x writes right after the others makes it the last one
  pub put_encoded : (n : ℕ) (xs : List A) (x : A) (at : ℕ) → length (join_all f xs) ≡ at → at + length (f x) ≤ n
      → written (padded n (join_all f xs)) at (f x) ≡ padded n (join_all f (xs ++ x ∷ []))
  put_encoded n xs x at e room =
      written_padded n (join_all f xs) (f x) at e room
      ∙ ap (padded n) (ap (λ (r : List ℕ). join_all f xs ++ r) (sym (append-nil (f x))) ∙ sym (join_all_append xs (x ∷ [])))

  -- what x wrote stands after what those before it wrote
  entry_at : (xs : List A) (i : ℕ) (d : A) (rest : List ℕ) → i < length xs
      → join_all f xs ++ rest ≡ join_all f (take i xs) ++ (f (get_or xs i d) ++ (join_all f (drop (suc i) xs) ++ rest))
  entry_at xs i d rest h =
      ap (λ (l : List A). join_all f l ++ rest) (split_at xs i d h)
      ∙ ap (λ (l : List ℕ). l ++ rest) (join_all_append (take i xs) (get_or xs i d ∷ drop (suc i) xs))
      ∙ simp append_assoc

  entry_held : {table : List ℕ} (xs : List A) → Begins (join_all f xs) table → (i : ℕ) (d : A) → i < length xs
      → part table (length (join_all f (take i xs))) (length (f (get_or xs i d))) ≡ f (get_or xs i d)
  entry_held xs b i d h =
      ap (λ (t : List ℕ). part t (length (join_all f (take i xs))) (length (f (get_or xs i d)))) (b.whole ∙ entry_at xs i d b.rest h)
      ∙ part_between (join_all f (take i xs)) (f (get_or xs i d)) _ _ _ refl refl

  -- where each writes as many numbers
  module _ (width : ℕ) (same : (x : A) → length (f x) ≡ width) where
    joined_length : (xs : List A) → length (join_all f xs) ≡ width * length xs
    joined_length [] = sym (mul-zero width)
    joined_length (x ∷ xs) =
        length-append (f x) (join_all f xs) ∙ ap₂ ◌+◌ (same x) (joined_length xs) ∙ add_comm width (width * length xs) ∙ sym (mul-suc width (length xs))

    records_joined : (xs : List A) (rest : List ℕ) → first_records width (length xs) (join_all f xs ++ rest) ≡ map f xs
    unfolding first_records
    records_joined [] rest = refl
    records_joined (x ∷ xs) rest =
        ap (first_records width (suc (length xs))) (append_assoc (f x) (join_all f xs) rest)
        ∙ first_record width (length xs) (f x) (join_all f xs ++ rest) (same x)
        ∙ ap (λ (r : List (List ℕ)). f x ∷ r) (records_joined xs rest)

    -- record i is what the one at i wrote
    pub record_at_lem : (xs : List A) (i : ℕ) (d : A) (rest : List ℕ) → i < length xs → part (join_all f xs ++ rest) (width * i) width ≡ f (get_or xs i d)
    record_at_lem xs i d rest h =
        ap (λ (table : List ℕ). part table (width * i) width) (entry_at xs i d rest h)
        ∙ part_between (join_all f (take i xs)) (f (get_or xs i d)) (join_all f (drop (suc i) xs) ++ rest) (width * i) width
        (joined_length (take i xs) ∙ ap (λ (k : ℕ). width * k) (length-take-le i xs (le_of_lt h))) (same (get_or xs i d))

-- formulas

node_width_lem : (m : Node) → length (node_record m) ≡ node_width
node_width_lem Node.bot = refl
node_width_lem (Node.atom k) = refl
node_width_lem (Node.not i) = refl
node_width_lem (Node.and i j) = refl
node_width_lem (Node.or i j) = refl
node_width_lem (Node.imp i j) = refl

pub nodes_length : (nodes : List Node) → length (join_all node_record nodes) ≡ node_width * length nodes
nodes_length = joined_length node_record node_width node_width_lem

-- record i of the formulas table is that of node i
pub node_held : {nodes : List Node} {table : List ℕ} → HoldsNodes nodes table → (i : ℕ) (d : Node) → i < length nodes
    → node_at table i ≡ node_record (get_or nodes i d)
node_held {nodes} b i d h =
    ap (λ (t : List ℕ). node_at t i) b.records.whole ∙ record_at_lem node_record node_width node_width_lem nodes i d b.records.rest h

-- names

pub names_length : (names : List Name) → length (join_all name_record names) ≡ name_width * length names
names_length = joined_length name_record name_width (λ m. refl)

-- among names that stand in the text where their records say, a name is held by its spelling
pub name_held : (text : Bytes) (names : List Name) (table : List ℕ) (name : Bytes) → ((m : Name) → m ∈ names → StandsIn text m)
    → Begins (join_all name_record names) table
    → any (spelled_by text name) (first_records name_width (length names) table) ≡ any (λ m. same_list m.name name) names
unfolding spelled
name_held text names table name stands held =
    ap (λ (t : List ℕ). any (spelled_by text name) (first_records name_width (length names) t)) held.whole
    ∙ ap (any (spelled_by text name)) (records_joined name_record name_width (λ m. refl) names held.rest)
    ∙ each names stands
  where
    spelled_there : (m : Name) → StandsIn text m → spelled text m.start (length m.name) name ≡ same_list m.name name
    spelled_there m s = ap₂ (λ (b : Bool) (l : Bytes). b && same_list l name) (le-leb _ _ s.inside) s.there

    each : (ms : List Name) → ((m : Name) → m ∈ ms → StandsIn text m)
        → any (spelled_by text name) (map name_record ms) ≡ any (λ m. same_list m.name name) ms
    each [] h = refl
    each (m ∷ ms) h = ap₂ ◌||◌ (spelled_there m (h m (Memᴰ.head refl))) (each ms (λ n in-ms. h n (Memᴰ.tail in-ms)))

-- rows

pub records_append : (earlier xs ys : List Row) → records_after earlier (xs ++ ys) ≡ records_after earlier xs ++ records_after (earlier ++ xs) ys
records_append earlier [] ys = ap (λ (l : List Row). records_after l ys) (sym (append-nil earlier))
records_append earlier (x ∷ xs) ys =
    ap (λ (rest : List ℕ). row_record earlier x ++ rest) (records_append (earlier ++ x ∷ []) xs ys)
    ∙ sym (append_assoc (row_record earlier x) (records_after (earlier ++ x ∷ []) xs) _)
    ∙ ap (λ (l : List Row). records_after earlier (x ∷ xs) ++ records_after l ys) (append_assoc earlier (x ∷ []) xs)

records_length : (earlier rows : List Row) → length (records_after earlier rows) ≡ row_width * length rows
records_length earlier [] = refl
records_length earlier (x ∷ xs) = omega (arith, records_length (earlier ++ x ∷ []) xs)

pub rows_length : (rows : List Row) → length (row_records rows) ≡ row_width * length rows
rows_length rows = records_length [] rows

-- a row put after the others
pub put_row_encoded : (n : ℕ) (rows : List Row) (r : Row) → row_width * length rows + row_width ≤ n
    → written (padded n (row_records rows)) (row_width * length rows) (row_record rows r) ≡ padded n (row_records (rows ++ r ∷ []))
put_row_encoded n rows r room =
    written_padded n (row_records rows) (row_record rows r) (row_width * length rows) (rows_length rows) room
    ∙ ap (padded n) (sym (records_append [] rows (r ∷ [])))

module _ {rows : List Row} {table left right : List ℕ} (held : HoldsRows rows table left right) (i : ℕ) (d : Row) (h : i < length rows) where
  -- record i of the rows table is that of row i, over the rows before it
  pub row_held : row_at table i ≡ row_record (take i rows) (get_or rows i d)
  row_held =
      ap (λ (t : List ℕ). part t (row_width * i) row_width)
      (held.records.whole ∙ ap (λ (l : List ℕ). l ++ rest) split ∙ append_assoc (row_records (take i rows)) _ rest)
      ∙ part_between (row_records (take i rows)) (row_record (take i rows) (get_or rows i d))
      (records_after (take i rows ++ get_or rows i d ∷ []) (drop (suc i) rows) ++ rest) (row_width * i) row_width
      (rows_length (take i rows) ∙ ap (λ (k : ℕ). row_width * k) (length-take-le i rows (le_of_lt h))) refl
    where
      rest : List ℕ
      rest = held.records.rest

      split : row_records rows ≡ row_records (take i rows) ++ records_after (take i rows) (get_or rows i d ∷ drop (suc i) rows)
      split = ap row_records (split_at rows i d h) ∙ records_append [] (take i rows) (get_or rows i d ∷ drop (suc i) rows)

  -- the rule of record i is the code of the row's rule
  pub rule_held : (row_from (row_at table i)).rule ≡ code_of (get_or rows i d).rule
  rule_held = ap (λ (t : List ℕ). (row_from t).rule) row_held

  -- what is fetched of row i is that side of it
  pub side_held : (side : Side) → fetched table left right side i ≡ on_side side (get_or rows i d)
  unfolding fetched
  side_held Side.left =
      ap (λ (numbers : List ℕ). part left (get_or numbers 4 0) (get_or numbers 5 0)) row_held
      ∙ entry_held (λ (r : Row). r.left) rows held.left_pool i d h
  side_held Side.right =
      ap (λ (numbers : List ℕ). part right (get_or numbers 6 0) (get_or numbers 7 0)) row_held
      ∙ entry_held (λ (r : Row). r.right) rows held.right_pool i d h
