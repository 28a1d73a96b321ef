-- The walk finds the body of an open file exactly if there is one. So there is at most one, and whether there is one is decided.
use Prim.Native.Nat.{ℕ, ◌*◌, ◌≤◌}
use native.Mathlib.Omega.{arith}
use native.Mathlib.Numerals.{add-one}
use mathlib.Core.Path.{◌≡◌, refl, sym, ap, ap₂, subst, ◌∙◌}
use mathlib.Core.Bool.{Bool, true, ◌&&◌}
use mathlib.Core.List.{List, [], ◌∷◌, ◌++◌}
use mathlib.Core.Option.{Option, none, some}
use mathlib.Core.Logic.{◌↔◌}
use lib.Dec.{leb, eqb}
use lib.ListN.{length, get_or, length-append}
use lib.Seq.{take_at, get_or_at}
use borrow.Author.Tests.{leb-true, le-leb, eqb-true, eq-eqb}
use Rattle.elk.specs.Rules.{Rule, code_of}
use Rattle.format.specs.Text.{◌<$>◌, ◌<*>◌, only_if}
use Rattle.format.specs.File.{Node, Row, Body, add_node, add_row}
use Rattle.format.specs.Line.{make_row}
use Rattle.format.specs.Tables.{absent, or_absent, part, row_at, node_width, row_width, padded, encode_body, node_record, row_record, left_pool, right_pool, most_atoms}
use Rattle.format.specs.Tests.{first, node_tests, body_tests}
use Rattle.format.specs.Good.{GoodBody, bare, atoms, formula, row}
use Rattle.format.proofs.Booleans.{and_true}
use Rattle.format.proofs.GoodBodies.{good_held}
use Rattle.counts.specs.Counts.{counts_of}
use Rattle.counts.specs.declared.Counts.{Counts}
use Rattle.tables.specs.Holding.{Begins, HoldsNodes, HoldsRows}
use Rattle.tables.proofs.Encoded.{begins_padded, nodes_length, rows_length, node_held, row_held}
use Rattle.bodies.specs.Open.{Tables, filled, IsOpen}
use Rattle.bodies.specs.Walk.{and_then, repeated, unless, node_in, next_node, node_step}
use Rattle.bodies.specs.Walk.{rule_at, principal_from, premises_from, in_place, row_in, next_row, row_step}
use Rattle.bodies.specs.Walk.{within, zeros_from, zeros_after, pools_agree, walked_nodes, walked_rows, body_in}
use Rattle.bodies.proofs.Choices.{only_some, then_some, repeated_keeps, repeated_last, repeated_counts}
use Rattle.bodies.proofs.Decoding.{node_back_lem, rule_back, principal_back, premises_back}
use Rattle.bodies.proofs.Fronts.{part_begun, inside_begun, nodes_less, left_begun, right_begun, rows_less, zeros_padded, padded_zeros}
use Rattle.bodies.proofs.GoodRows.{principal_small, premises_few}
-- the steps
pub use Rattle.bodies.proofs.Stepping.{Read, bare_read, NodeStepped, node_stepped, node_step_count, node_step_read}
pub use Rattle.bodies.proofs.Stepping.{RowStepped, row_stepped, row_step_count, row_step_read}

-- the limits

within_atoms : (c : Counts) → within c ≡ true → c.atoms ≤ most_atoms
unfolding within
within_atoms c e = leb-true c.atoms most_atoms (and_true (leb c.atoms most_atoms) _ e).0

all_true : {i j k l m : Bool} → i ≡ true → j ≡ true → k ≡ true → l ≡ true → m ≡ true → i && (j && (k && (l && m))) ≡ true
all_true p q r s u = rw (p, q, r, s, u)

pub good_within : {b : Body} → GoodBody b → within (counts_of b) ≡ true
unfolding within
good_within g =
    let held = good_held g in
    all_true (le-leb _ _ held.few_atoms) (le-leb _ _ held.few_nodes) (le-leb _ _ held.few_rows) (le-leb _ _ held.few_left)
    (le-leb _ _ held.few_right)

-- what the tables and counts of an open file show without a walk

module _ (t : Tables) (c : Counts) (b : Body) (o : IsOpen t c b) where
  formulas_padded : t.formulas ≡ padded (length t.formulas) (encode_body [] b).formulas
  formulas_padded = ap (λ (u : Tables). u.formulas) o.tables

  rows_padded : t.rows ≡ padded (length t.rows) (encode_body [] b).rows
  rows_padded = ap (λ (u : Tables). u.rows) o.tables

  left_padded : t.left ≡ padded (length t.left) (encode_body [] b).left
  left_padded = ap (λ (u : Tables). u.left) o.tables

  right_padded : t.right ≡ padded (length t.right) (encode_body [] b).right
  right_padded = ap (λ (u : Tables). u.right) o.tables

  -- the tables of an open file begin with what its body's hold
  pub open_read : Read t b
  open_read =
      record {
        good = o.good;
        nodes = record { records = begins_padded formulas_padded };
        rows = record { records = begins_padded rows_padded; left_pool = begins_padded left_padded; right_pool = begins_padded right_padded };
      }

  open_within : within c ≡ true
  open_within = ap within o.counts ∙ good_within o.good

  open_zeros : zeros_after t c ≡ true
  open_zeros =
      let held = encode_body [] b in
      ap (zeros_after t) o.counts
      ∙ all_true refl (padded_zeros held.formulas t.formulas _ (nodes_length b.nodes) formulas_padded)
      (padded_zeros held.rows t.rows _ (rows_length b.rows) rows_padded)
      (padded_zeros held.left t.left _ refl left_padded)
      (padded_zeros held.right t.right _ refl right_padded)

same_tables : (t u : Tables) → t.formulas ≡ u.formulas → t.rows ≡ u.rows → t.left ≡ u.left → t.right ≡ u.right → t ≡ u
same_tables t u f r l q =
    ap₂ (λ (x y : List ℕ). record { formulas = x; rows = y; left = t.left; right = t.right }) f r
    ∙ ap₂ (λ (x y : List ℕ). record { formulas = u.formulas; rows = u.rows; left = x; right = y }) l q

same_counts : (c d : Counts) → c.atoms ≡ d.atoms → c.formulas ≡ d.formulas → c.rows ≡ d.rows → c.left ≡ d.left → c.right ≡ d.right → c ≡ d
same_counts c d a f r l q =
    ap (λ (x : ℕ). record { atoms = x; formulas = c.formulas; rows = c.rows; left = c.left; right = c.right }) a
    ∙ ap₂ (λ (x y : ℕ). record { atoms = d.atoms; formulas = x; rows = y; left = c.left; right = c.right }) f r
    ∙ ap₂ (λ (x y : ℕ). record { atoms = d.atoms; formulas = d.formulas; rows = d.rows; left = x; right = y }) l q

-- what is found is the body of the open file

pub found_open : (t : Tables) (c : Counts) (b : Body) → body_in t c ≡ some b → IsOpen t c b
unfolding body_in
found_open t c b e = record { good = end.0.good; counts = counts; tables = tables }
  where
    tests : (within c && zeros_after t c ≡ true) × (and_then (walked_nodes t c) (walked_rows t c) ≡ some b)
    tests = only_some (within c && zeros_after t c) (and_then (walked_nodes t c) (walked_rows t c)) b e

    before : (within c ≡ true) × (zeros_after t c ≡ true)
    before = and_true (within c) (zeros_after t c) tests.0

    zero₁ :
        (zeros_from (node_width * c.formulas) t.formulas ≡ true)
        × (zeros_from (row_width * c.rows) t.rows && (zeros_from c.left t.left && zeros_from c.right t.right) ≡ true)
    zero₁ = and_true _ _ before.1

    zero₂ : (zeros_from (row_width * c.rows) t.rows ≡ true) × (zeros_from c.left t.left && zeros_from c.right t.right ≡ true)
    zero₂ = and_true _ _ zero₁.1

    zero₃ : (zeros_from c.left t.left ≡ true) × (zeros_from c.right t.right ≡ true)
    zero₃ = and_true _ _ zero₂.1

    nodes : (d : Body) × (walked_nodes t c ≡ some d) × (walked_rows t c d ≡ some b)
    nodes = then_some (walked_nodes t c) (walked_rows t c) tests.1

    rows : (u : Body) × (repeated (row_step t) c.rows nodes.0 ≡ some u) × (only_if (pools_agree c u) (some u) ≡ some b)
    rows = then_some (repeated (row_step t) c.rows nodes.0) (λ u. only_if (pools_agree c u) (some u)) nodes.2

    last : (pools_agree c rows.0 ≡ true) × (some rows.0 ≡ some b)
    last = only_some (pools_agree c rows.0) (some rows.0) b rows.2

    same : rows.0 ≡ b
    same = let q = last.1 in cc

    pools : (eqb (length (left_pool b.rows)) c.left ≡ true) × (eqb (length (right_pool b.rows)) c.right ≡ true)
    pools = and_true _ _ (ap (pools_agree c) (sym same) ∙ last.0)

    -- what the steps over the formulas keep
    Middle : Body → Type 0
    Middle d = Read t d × (d.rows ≡ []) × (d.atoms ≡ c.atoms)

    middle : Middle nodes.0
    middle =
        repeated_keeps (node_step t) Middle
        (λ d u p k. let more = node_step_read t d u p.0 p.1 k in (more.0, more.1, more.2 ∙ p.2))
        c.formulas (bare c.atoms) (bare_read t c.atoms (within_atoms c before.0), refl, refl) nodes.1

    -- and what those over the rows keep
    End : Body → Type 0
    End d = Read t d × (d.atoms ≡ c.atoms) × (d.nodes ≡ nodes.0.nodes)

    end : End b
    end =
        subst End same
        (repeated_keeps (row_step t) End
        (λ d u p k. let more = row_step_read t d u p.0 k in (more.0, more.2 ∙ p.1, more.1 ∙ p.2))
        c.rows nodes.0 (middle.0, middle.2, refl) rows.1)

    node_count : length b.nodes ≡ c.formulas
    node_count =
        omega (
          arith,
          repeated_counts (node_step t) (λ (d : Body). length d.nodes) (node_step_count t) c.formulas (bare c.atoms) nodes.1,
          ap (λ (ns : List Node). length ns) end.2,
        )

    row_count : length b.rows ≡ c.rows
    row_count =
        omega (
          arith,
          repeated_counts (row_step t) (λ (d : Body). length d.rows) (row_step_count t) c.rows nodes.0 rows.1,
          ap (λ (rs : List Row). length rs) middle.1,
          ap (λ (d : Body). length d.rows) same,
        )

    left_count : length (left_pool b.rows) ≡ c.left
    left_count = eqb-true _ _ pools.0

    right_count : length (right_pool b.rows) ≡ c.right
    right_count = eqb-true _ _ pools.1

    counts : c ≡ counts_of b
    counts = same_counts c (counts_of b) (sym end.1) (sym node_count) (sym row_count) (sym left_count) (sym right_count)

    tables : t ≡ filled t b
    tables =
        same_tables t (filled t b)
        (zeros_padded _ t.formulas _ (nodes_length b.nodes ∙ ap (λ (k : ℕ). node_width * k) node_count) end.0.nodes.records zero₁.0)
        (zeros_padded _ t.rows _ (rows_length b.rows ∙ ap (λ (k : ℕ). row_width * k) row_count) end.0.rows.records zero₂.0)
        (zeros_padded _ t.left _ left_count end.0.rows.left_pool zero₃.0)
        (zeros_padded _ t.right _ right_count end.0.rows.right_pool zero₃.1)

-- the body of an open file is found

-- a body without its rows
abbrev formulas_only : Body → Body
formulas_only b = record { atoms = b.atoms; nodes = b.nodes; rows = [] }

without_rows : (b : Body) → b.rows ≡ [] → formulas_only b ≡ b
without_rows b e = ap (λ (rs : List Row). record { atoms = b.atoms; nodes = b.nodes; rows = rs }) (sym e)

-- a formula that stands right after those of a body is read there
pub node_put : (t : Tables) (b : Body) (node : Node) → HoldsNodes (b.nodes ++ node ∷ []) t.formulas → next_node t b ≡ some node
node_put t b node h =
    ap node_in (node_held h (length b.nodes) node (omega (arith, length-append b.nodes (node ∷ [])))
    ∙ ap node_record (get_or_at b.nodes node [] node (length b.nodes) refl))
    ∙ node_back_lem node

finds_nodes : {b : Body} → GoodBody b → (t : Tables) → HoldsNodes b.nodes t.formulas
    → repeated (node_step t) (length b.nodes) (bare b.atoms) ≡ some (formulas_only b)
finds_nodes (atoms n h) t held = refl
finds_nodes (formula {b} g e node ok) t held =
    ap (λ (k : ℕ). repeated (node_step t) k (bare b.atoms)) (length-append b.nodes (node ∷ []) ∙ add-one (length b.nodes))
    ∙ repeated_last (node_step t) (length b.nodes) (bare b.atoms) (formulas_only b) (finds_nodes g t (nodes_less b.nodes node held))
    ∙ ap (node_step t) (without_rows b e)
    ∙ ap (λ (o : Option Node). and_then o (λ m. unless (first (node_tests b m)) (add_node b m))) (node_put t b node held)
    ∙ ap (λ (o : Option ℕ). unless o (add_node b node)) ok
    ∙ ap (λ (d : Body). some d) (sym (without_rows (add_node b node) e))
finds_nodes (row g r ok) t held = finds_nodes g t held

-- a row that passes its tests over a good body, and stands right after its rows, is read there
pub row_put : (t : Tables) (b : Body) (r : Row) → GoodBody b → first (body_tests b r) ≡ none
    → HoldsRows (b.rows ++ r ∷ []) t.rows t.left t.right → next_row t b ≡ some r
row_put t b r g ok h =
    ap (row_in t b.rows) numbers
    ∙ ap₂ (λ (i j : Bool). only_if i (only_if j (made (part t.left ls (length r.left)) (part t.right rs (length r.right)))))
    (place t.left (left_pool b.rows) r.left left) (place t.right (right_pool b.rows) r.right right)
    ∙ ap₂ made (part_begun (left_pool b.rows) r.left left) (part_begun (right_pool b.rows) r.right right)
    ∙ ap₂ (λ (o : Option Rule) (p : Option (List ℕ)).
    (λ rule premises. make_row rule (principal_from (or_absent r.principal)) premises r.left r.right) <$> o <*> p)
    (rule_back r.rule) (premises_back r.premises (premises_few b r g ok))
    ∙ ap (λ (p : Option ℕ). some (make_row r.rule p r.premises r.left r.right)) (principal_back r.principal (principal_small b r g ok))
  where
    ls : ℕ
    ls = length (left_pool b.rows)

    rs : ℕ
    rs = length (right_pool b.rows)

    numbers : row_at t.rows (length b.rows) ≡ row_record b.rows r
    numbers =
        row_held h (length b.rows) r (omega (arith, length-append b.rows (r ∷ [])))
        ∙ ap₂ row_record (take_at b.rows (r ∷ []) (length b.rows) refl) (get_or_at b.rows r [] r (length b.rows) refl)

    made : List ℕ → List ℕ → Option Row
    made l q =
        (λ rule premises. make_row rule (principal_from (or_absent r.principal)) premises l q)
        <$> rule_at (code_of r.rule) <*> premises_from (get_or r.premises 0 absent) (get_or r.premises 1 absent)

    left : Begins (left_pool b.rows ++ r.left) t.left
    left = left_begun b.rows r h

    right : Begins (right_pool b.rows ++ r.right) t.right
    right = right_begun b.rows r h

    place : (pool before side : List ℕ) → Begins (before ++ side) pool → in_place (length before) (length side) pool before ≡ true
    place pool before side begun = ap₂ ◌&&◌ (eq-eqb (length before) (length before) refl) (le-leb _ _ (inside_begun before side begun))

finds_rows : {b : Body} → GoodBody b → (t : Tables) → HoldsRows b.rows t.rows t.left t.right
    → repeated (row_step t) (length b.rows) (formulas_only b) ≡ some b
finds_rows (atoms n h) t held = refl
finds_rows (formula {b} g e node ok) t held =
    ap (λ (rs : List Row). repeated (row_step t) (length rs) (formulas_only (add_node b node))) e ∙ ap (λ (d : Body). some d) (without_rows (add_node b node) e)
finds_rows (row {b} g r ok) t held =
    ap (λ (k : ℕ). repeated (row_step t) k (formulas_only b)) (length-append b.rows (r ∷ []) ∙ add-one (length b.rows))
    ∙ repeated_last (row_step t) (length b.rows) (formulas_only b) b (finds_rows g t (rows_less b.rows r held))
    ∙ ap (λ (o : Option Row). and_then o (λ q. unless (first (body_tests b q)) (add_row b q))) (row_put t b r g ok held)
    ∙ ap (λ (o : Option ℕ). unless o (add_row b r)) ok

pub open_found : (t : Tables) (c : Counts) (b : Body) → IsOpen t c b → body_in t c ≡ some b
unfolding body_in
open_found t c b o =
    let read = open_read t c b o in
    ap₂ (λ (i j : Bool). only_if (i && j) (and_then (walked_nodes t c) (walked_rows t c))) (open_within t c b o) (open_zeros t c b o)
    ∙ ap (λ (d : Counts). and_then (walked_nodes t d) (walked_rows t d)) o.counts
    ∙ ap (λ (q : Option Body). and_then q (walked_rows t (counts_of b))) (finds_nodes o.good t read.nodes)
    ∙ ap (λ (q : Option Body). and_then q (λ u. only_if (pools_agree (counts_of b) u) (some u))) (finds_rows o.good t read.rows)
    ∙ ap₂ (λ (i j : Bool). only_if (i && j) (some b)) (eq-eqb (length (left_pool b.rows)) _ refl) (eq-eqb (length (right_pool b.rows)) _ refl)

-- the walk is exact
pub body_exact : (t : Tables) (c : Counts) (b : Body) → (body_in t c ≡ some b) ↔ IsOpen t c b
body_exact t c b = (found_open t c b, open_found t c b)

-- so an open file has one body at most: with the counts, the tables tell it
pub one_body : (t : Tables) (c : Counts) (b d : Body) → IsOpen t c b → IsOpen t c d → b ≡ d
one_body t c b d p q = let e : ◌≡◌ {A = Option Body} (some b) (some d) = sym (open_found t c b p) ∙ open_found t c d q in cc

-- nothing is found exactly if there is none
pub no_body_lem : (t : Tables) (c : Counts) → (body_in t c ≡ none) ↔ ((b : Body) → IsOpen t c b → ⊥)
no_body_lem t c = (to, from (body_in t c) refl)
  where
    to : body_in t c ≡ none → (b : Body) → IsOpen t c b → ⊥
    to e b o =
        let found : ◌≡◌ {A = Option Body} none (some b) = sym e ∙ open_found t c b o in
        let z : ◌≡◌ {A = ℕ} 0 1 = cc in
        omega arith

    from : (o : Option Body) → body_in t c ≡ o → ((b : Body) → IsOpen t c b → ⊥) → o ≡ none
    from none e h = refl
    from (some b) e h = absurd (h b (found_open t c b e))

-- whether there is one is decided
pub open? : (t : Tables) (c : Counts) → Dec ((b : Body) × IsOpen t c b)
open? t c = by_walk (body_in t c) refl
  where
    by_walk : (o : Option Body) → body_in t c ≡ o → Dec ((b : Body) × IsOpen t c b)
    by_walk none e = no (λ p. (no_body_lem t c).0 e p.0 p.1)
    by_walk (some b) e = yes (b, found_open t c b e)
