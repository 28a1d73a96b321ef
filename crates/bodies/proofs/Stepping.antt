-- One step of the walk over the tables of an open file. A step that went through read a formula or a row that passes its tests, and
-- the tables, which began with what a good body's hold, begin with what those of the longer body hold.
use Prim.Native.Nat.{ℕ, zero, suc, ◌+◌, ◌*◌, ◌≤◌, ◌<◌}
use native.Mathlib.Omega.{arith}
use mathlib.Core.Path.{◌≡◌, refl, sym, ap, subst, ◌∙◌}
use mathlib.Core.Bool.{true}
use mathlib.Core.List.{List, [], ◌∷◌, ◌++◌}
use mathlib.Core.Option.{Option, none, some}
use lib.Dec.{leb, eqb}
use lib.ListN.{length, get_or, length-append}
use lib.Seq.{ext_get_or}
use borrow.Author.Tests.{leb-true, eqb-true}
use Rattle.elk.specs.Rules.{Rule, code_of}
use Rattle.format.specs.Text.{◌<$>◌, ◌<*>◌, only_if}
use Rattle.format.specs.File.{Node, Row, Body, add_node, add_row}
use Rattle.format.specs.Tables.{absent, or_absent, part, row_at, node_width, row_width, node_record, row_record, row_records, join_all, left_pool, right_pool, most_atoms}
use Rattle.format.specs.Tests.{first, node_tests, body_tests}
use Rattle.format.specs.Good.{GoodBody, bare, atoms, formula, row}
use Rattle.format.proofs.Booleans.{and_true}
use Rattle.tables.specs.Records.{node_at}
use Rattle.tables.specs.Holding.{Begins, HoldsNodes, HoldsRows}
use Rattle.tables.proofs.Encoded.{nodes_length, rows_length}
use Rattle.bodies.specs.Open.{Tables}
use Rattle.bodies.specs.Walk.{unless, node_from, node_in, next_node, node_step, rule_at, premises_from, in_place, row_with, row_in, next_row, row_step}
use Rattle.bodies.proofs.Choices.{only_some, unless_some, then_some, both_some}
use Rattle.bodies.proofs.Decoding.{node_exact, rule_back, rule_exact, principal_exact, premises_exact}
use Rattle.bodies.proofs.Fronts.{begins_same, part_there, part_next, joined_last, records_last}

-- the tables begin with what a good body's hold
pub record Read (t : Tables) (b : Body) : Type 0 where
  pub good : GoodBody b
  pub nodes : HoldsNodes b.nodes t.formulas
  pub rows : HoldsRows b.rows t.rows t.left t.right

-- all tables begin with nothing
pub bare_read : (t : Tables) (n : ℕ) → n ≤ most_atoms → Read t (bare n)
bare_read t n h =
    record {
      good = atoms n h;
      nodes = record { records = nothing t.formulas };
      rows = record { records = nothing t.rows; left_pool = nothing t.left; right_pool = nothing t.right };
    }
  where
    nothing : (table : List ℕ) → Begins [] table
    nothing table = record { rest = table; whole = refl }

-- one formula more

-- a step over the formulas that went through
pub record NodeStepped (t : Tables) (b u : Body) : Type 0 where
  pub node : Node
  pub read : next_node t b ≡ some node
  pub passes : first (node_tests b node) ≡ none
  pub same : add_node b node ≡ u

pub node_stepped : (t : Tables) (b u : Body) → node_step t b ≡ some u → NodeStepped t b u
node_stepped t b u e =
    let found = then_some (next_node t b) (λ node. unless (first (node_tests b node)) (add_node b node)) e in
    let ok = unless_some (first (node_tests b found.0)) (add_node b found.0) found.2 in
    record { node = found.0; read = found.1; passes = ok.0; same = ok.1 }

-- it has one formula more
pub node_step_count : (t : Tables) (b u : Body) → node_step t b ≡ some u → length u.nodes ≡ length b.nodes + 1
node_step_count t b u e =
    let s = node_stepped t b u e in sym (ap (λ (d : Body). length d.nodes) s.same) ∙ length-append b.nodes (s.node ∷ [])

-- three numbers from which a formula is read are its record
node_numbers_lem : (numbers : List ℕ) (node : Node) → length numbers ≡ node_width → node_in numbers ≡ some node → numbers ≡ node_record node
node_numbers_lem [] node size e = absurd (omega arith)
node_numbers_lem (x ∷ []) node size e = absurd (omega arith)
node_numbers_lem (x ∷ y ∷ []) node size e = absurd (omega arith)
node_numbers_lem (x ∷ y ∷ z ∷ []) node size e = node_exact x y z node e
node_numbers_lem (x ∷ y ∷ z ∷ w ∷ ws) node size e = absurd (omega arith)

no_numbers_no_node : (node : Node) → node_in [] ≡ some node → ⊥
unfolding node_from
no_numbers_no_node node e = let z : ◌≡◌ {A = ℕ} 0 1 = cc in omega arith

-- the table goes on with the formula that is read next
node_next : {nodes : List Node} {table : List ℕ} (node : Node) → HoldsNodes nodes table → node_in (node_at table (length nodes)) ≡ some node
    → HoldsNodes (nodes ++ node ∷ []) table
node_next {nodes} {table} node h e =
    record {
      records = begins_same (ap (λ (l : List ℕ). join_all node_record nodes ++ l) (node_numbers_lem numbers node next.0 e)
          ∙ sym (joined_last node_record nodes node)) next.1;
    }
  where
    numbers : List ℕ
    numbers = node_at table (length nodes)

    inside : node_width * length nodes + node_width ≤ length table
    inside = part_there table (node_width * length nodes) node_width (λ empty. no_numbers_no_node node (ap node_in (sym empty) ∙ e))

    next : (length numbers ≡ node_width) × Begins (join_all node_record nodes ++ numbers) table
    next = part_next (join_all node_record nodes) table (node_width * length nodes) node_width h.records (nodes_length nodes) inside

-- what a step over the formulas keeps
pub node_step_read : (t : Tables) (b u : Body) → Read t b → b.rows ≡ [] → node_step t b ≡ some u → Read t u × (u.rows ≡ []) × (u.atoms ≡ b.atoms)
node_step_read t b u p none_yet e =
    let s = node_stepped t b u e in
    let longer : Read t (add_node b s.node) = record {
      good = formula p.good none_yet s.node s.passes;
      nodes = node_next s.node p.nodes s.read;
      rows = p.rows;
    } in
    subst (λ (d : Body). Read t d × (d.rows ≡ []) × (d.atoms ≡ b.atoms)) s.same (longer, none_yet, refl)

-- one row more

-- a step over the rows that went through
pub record RowStepped (t : Tables) (b u : Body) : Type 0 where
  pub r : Row
  pub read : next_row t b ≡ some r
  pub passes : first (body_tests b r) ≡ none
  pub same : add_row b r ≡ u

pub row_stepped : (t : Tables) (b u : Body) → row_step t b ≡ some u → RowStepped t b u
row_stepped t b u e =
    let found = then_some (next_row t b) (λ r. unless (first (body_tests b r)) (add_row b r)) e in
    let ok = unless_some (first (body_tests b found.0)) (add_row b found.0) found.2 in
    record { r = found.0; read = found.1; passes = ok.0; same = ok.1 }

-- it has one row more
pub row_step_count : (t : Tables) (b u : Body) → row_step t b ≡ some u → length u.rows ≡ length b.rows + 1
row_step_count t b u e =
    let s = row_stepped t b u e in sym (ap (λ (d : Body). length d.rows) s.same) ∙ length-append b.rows (s.r ∷ [])

-- the side of a row that follows those before it in its pool
record SideRead (start len : ℕ) (pool before side : List ℕ) : Type 0 where
  starts : length before ≡ start
  inside : start + len ≤ length pool
  entries : side ≡ part pool start len

side_read : (start len : ℕ) (pool before side : List ℕ) → in_place start len pool before ≡ true → side ≡ part pool start len
    → SideRead start len pool before side
side_read start len pool before side e same =
    let both = and_true (eqb start (length before)) (leb (start + len) (length pool)) e in
    record { starts = sym (eqb-true start (length before) both.0); inside = leb-true (start + len) (length pool) both.1; entries = same }

-- it has its length, and the pool goes on with it
side_next : {start len : ℕ} {pool before side : List ℕ} → SideRead start len pool before side → Begins before pool
    → (length side ≡ len) × Begins (before ++ side) pool
side_next {start} {len} {pool} {before} {side} s b =
    subst (λ (l : List ℕ). (length l ≡ len) × Begins (before ++ l) pool) (sym s.entries) (part_next before pool start len b s.starts s.inside)

-- what is known of a row that was read from a record's numbers
record RowRead (t : Tables) (before : List Row) (numbers : List ℕ) (r : Row) : Type 0 where
  rule : code_of r.rule ≡ get_or numbers 0 absent
  principal : or_absent r.principal ≡ get_or numbers 1 absent
  one : get_or r.premises 0 absent ≡ get_or numbers 2 absent
  two : get_or r.premises 1 absent ≡ get_or numbers 3 absent
  left : SideRead (get_or numbers 4 absent) (get_or numbers 5 absent) t.left (left_pool before) r.left
  right : SideRead (get_or numbers 6 absent) (get_or numbers 7 absent) t.right (right_pool before) r.right

row_read_lem : (t : Tables) (before : List Row) (numbers : List ℕ) (r : Row) → row_in t before numbers ≡ some r → RowRead t before numbers r
row_read_lem t before numbers r e =
    record {
      rule = ap (λ (q : Row). code_of q.rule) (sym same) ∙ rule_exact (n 0) parts.0 parts.2;
      principal = ap (λ (q : Row). or_absent q.principal) (sym same) ∙ principal_exact (n 1);
      one = ap (λ (q : Row). get_or q.premises 0 absent) (sym same) ∙ premises.0;
      two = ap (λ (q : Row). get_or q.premises 1 absent) (sym same) ∙ premises.1;
      left = side_read (n 4) (n 5) t.left (left_pool before) r.left outer.0 (ap (λ (q : Row). q.left) (sym same));
      right = side_read (n 6) (n 7) t.right (right_pool before) r.right inner.0 (ap (λ (q : Row). q.right) (sym same));
    }
  where
    n : ℕ → ℕ
    n i = get_or numbers i absent

    make : Rule → List ℕ → Row
    make = row_with numbers (part t.left (n 4) (n 5)) (part t.right (n 6) (n 7))

    outer : (in_place (n 4) (n 5) t.left (left_pool before) ≡ true)
        × (only_if (in_place (n 6) (n 7) t.right (right_pool before)) (make <$> rule_at (n 0) <*> premises_from (n 2) (n 3)) ≡ some r)
    outer = only_some _ _ r e

    inner : (in_place (n 6) (n 7) t.right (right_pool before) ≡ true) × (make <$> rule_at (n 0) <*> premises_from (n 2) (n 3) ≡ some r)
    inner = only_some _ _ r outer.1

    parts : (q : Rule) × (ps : List ℕ) × (rule_at (n 0) ≡ some q) × (premises_from (n 2) (n 3) ≡ some ps) × (make q ps ≡ r)
    parts = both_some make (rule_at (n 0)) (premises_from (n 2) (n 3)) inner.1

    same : make parts.0 parts.1 ≡ r
    same = parts.4

    premises : (get_or parts.1 0 absent ≡ n 2) × (get_or parts.1 1 absent ≡ n 3)
    premises = premises_exact (n 2) (n 3) parts.1 parts.3

no_numbers_no_row : (t : Tables) (before : List Row) (r : Row) → row_in t before [] ≡ some r → ⊥
no_numbers_no_row t before r e =
    let none_there : ◌≡◌ {A = Option Rule} none (some r.rule) = ap rule_at (sym (row_read_lem t before [] r e).rule) ∙ rule_back r.rule in
    let z : ◌≡◌ {A = ℕ} 0 1 = cc in
    omega arith

-- eight numbers from which a row is read are its record, if its sides have the lengths that they say
row_numbers_lem : (t : Tables) (before : List Row) (numbers : List ℕ) (r : Row) → length numbers ≡ row_width → RowRead t before numbers r
    → length r.left ≡ get_or numbers 5 absent → length r.right ≡ get_or numbers 7 absent → numbers ≡ row_record before r
row_numbers_lem t before numbers r size read left right = ext_get_or absent numbers (row_record before r) size (λ i h. at i (omega (arith, size)))
  where
    at : (i : ℕ) → i < 8 → get_or numbers i absent ≡ get_or (row_record before r) i absent
    at zero h = sym read.rule
    at (suc zero) h = sym read.principal
    at (suc (suc zero)) h = sym read.one
    at (suc (suc (suc zero))) h = sym read.two
    at (suc (suc (suc (suc zero)))) h = sym read.left.starts
    at (suc (suc (suc (suc (suc zero))))) h = sym left
    at (suc (suc (suc (suc (suc (suc zero)))))) h = sym read.right.starts
    at (suc (suc (suc (suc (suc (suc (suc zero))))))) h = sym right
    at (suc (suc (suc (suc (suc (suc (suc (suc i)))))))) h = absurd (omega arith)

-- the three tables go on with the row that is read next
row_next : (t : Tables) {rows : List Row} (r : Row) → HoldsRows rows t.rows t.left t.right → row_in t rows (row_at t.rows (length rows)) ≡ some r
    → HoldsRows (rows ++ r ∷ []) t.rows t.left t.right
row_next t {rows} r h e =
    record {
      records = begins_same (ap (λ (l : List ℕ). row_records rows ++ l) (row_numbers_lem t rows numbers r next.0 read left.0 right.0)
          ∙ sym (records_last rows r)) next.1;
      left_pool = begins_same (sym (joined_last (λ (q : Row). q.left) rows r)) left.1;
      right_pool = begins_same (sym (joined_last (λ (q : Row). q.right) rows r)) right.1;
    }
  where
    numbers : List ℕ
    numbers = row_at t.rows (length rows)

    inside : row_width * length rows + row_width ≤ length t.rows
    inside = part_there t.rows (row_width * length rows) row_width (λ empty. no_numbers_no_row t rows r (ap (row_in t rows) (sym empty) ∙ e))

    next : (length numbers ≡ row_width) × Begins (row_records rows ++ numbers) t.rows
    next = part_next (row_records rows) t.rows (row_width * length rows) row_width h.records (rows_length rows) inside

    read : RowRead t rows numbers r
    read = row_read_lem t rows numbers r e

    left : (length r.left ≡ get_or numbers 5 absent) × Begins (left_pool rows ++ r.left) t.left
    left = side_next read.left h.left_pool

    right : (length r.right ≡ get_or numbers 7 absent) × Begins (right_pool rows ++ r.right) t.right
    right = side_next read.right h.right_pool

-- what a step over the rows keeps
pub row_step_read : (t : Tables) (b u : Body) → Read t b → row_step t b ≡ some u → Read t u × (u.nodes ≡ b.nodes) × (u.atoms ≡ b.atoms)
row_step_read t b u p e =
    let s = row_stepped t b u e in
    let longer : Read t (add_row b s.r) = record {
      good = row p.good s.r s.passes;
      nodes = p.nodes;
      rows = row_next t s.r p.rows s.read;
    } in
    subst (λ (d : Body). Read t d × (d.nodes ≡ b.nodes) × (d.atoms ≡ b.atoms)) s.same (longer, refl, refl)
