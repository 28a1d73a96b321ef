-- What is enough for a line to pass its tests: the order of its kind and number, and what a formula and a row have to be.
-- It is the other direction of Tested and of RowPasses.
use Prim.Native.Nat.{ℕ, ◌≤◌, ◌<◌}
use native.Mathlib.Decide.{dec_lt}
use native.Mathlib.Omega.{arith}
use mathlib.Core.Path.{◌≡◌, refl, sym, ap, ◌∙◌}
use mathlib.Core.Bool.{true, false}
use mathlib.Core.List.Memᴰ
use mathlib.Core.List.{List, [], ◌∷◌}
use mathlib.Core.Option.{none}
use lib.ListN.{length, get_or}
use borrow.Author.Tests.{eq-eqb, lt-leb, lt-ltb, le-ltb}
use Rattle.equilibrium.specs.Meaning.{◌∈◌}
use Rattle.format.specs.File.{Node, Row, Body, Stage}
use Rattle.format.specs.Tables.{node_record, most_formulas, most_rows, most_entries}
use Rattle.format.specs.Tests.{first, rank, goes_on, may_follow, out_of_order, refers_ahead, same_node, node_tests, body_tests}
use Rattle.format.specs.Passing.{RowInstance}
use Rattle.format.proofs.Booleans.{any_none, same_list_lem}
use Rattle.format.proofs.Tested.{PassedRow}
use Rattle.format.proofs.RowPasses.{row_passes_exactly}

-- a later stage
pub follow_later : (s t : Stage) → rank s < rank t → may_follow s t ≡ true
follow_later s t l = rw (lt-ltb (rank s) (rank t) l)

-- a stage that goes on, or a later one
follow_on : (s t : Stage) → rank s ≤ rank t → goes_on t ≡ true → may_follow s t ≡ true
follow_on s t h on = cases (dec_lt (rank s) (rank t))
  where
    cases : Dec (rank s < rank t) → may_follow s t ≡ true
    cases (yes k) = follow_later s t k
    cases (no n) = rw (le-ltb (rank s) (rank t) (omega arith), eq-eqb (rank s) (rank t) (omega arith), on)

-- a kind that may follow, with the next number
pub order_enough : (s t : Stage) (held n : ℕ) → rank s ≤ rank t → goes_on t ≡ true → n ≡ held → out_of_order s t held n ≡ false
order_enough s t held n h l e = rw (follow_on s t h l, eq-eqb n held e)

-- the node of a record
abbrev node_back : List ℕ → Node
node_back [] = Node.bot
node_back (w ∷ []) = Node.bot
node_back (w ∷ i ∷ []) = Node.bot
node_back (w ∷ i ∷ j ∷ rest) = get_or (Node.bot ∷ Node.atom i ∷ Node.not i ∷ Node.and i j ∷ Node.or i j ∷ Node.imp i j ∷ []) w Node.bot

node_record_back : (n : Node) → node_back (node_record n) ≡ n
node_record_back Node.bot = refl
node_record_back (Node.atom k) = refl
node_record_back (Node.not i) = refl
node_record_back (Node.and i j) = refl
node_record_back (Node.or i j) = refl
node_record_back (Node.imp i j) = refl

-- nodes with the same word and operands are equal
same_node_lem : (m n : Node) → same_node m n ≡ true → m ≡ n
same_node_lem m n e = sym (node_record_back m) ∙ ap node_back (same_list_lem (node_record m) (node_record n) e) ∙ node_record_back n

-- a formula over earlier numbers that is not there yet
pub node_enough : (b : Body) (node : Node) → length b.nodes < most_formulas → refers_ahead b node ≡ false → (node ∈ b.nodes → ⊥)
    → first (node_tests b node) ≡ none
node_enough b node room earlier new =
    let fresh = any_none (λ m. same_node m node) b.nodes (λ m i e. new (Memᴰ.cast (sym (same_node_lem m node e)) i)) in
    rw (lt-leb most_formulas (length b.nodes) room, earlier, fresh)

-- a row that is an instance, where there is room for it
pub row_enough : (b : Body) (r : Row) → PassedRow b r → RowInstance b r → first (body_tests b r) ≡ none
row_enough b r p i =
    rw (
      lt-leb most_rows (length b.rows) p.rows_room,
      le-ltb most_entries _ p.left_room,
      le-ltb most_entries _ p.right_room,
      p.principal_known,
      p.premises_earlier,
      p.left_known,
      p.right_known,
      p.left_good,
      p.right_good,
    ) ((row_passes_exactly b r).1 i)
