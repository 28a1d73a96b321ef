-- The lines of a good body with good names, as they are written, lead to it: each passes its tests.
use Prim.Native.Nat.{ℕ, ◌+◌, ◌≤◌}
use mathlib.Core.Path.{◌≡◌, refl, sym, ap, ap₂, subst, ◌∙◌}
use mathlib.Core.Bool.{true, false}
use mathlib.Core.List.Memᴰ
use mathlib.Core.List.{List, [], ◌∷◌, ◌++◌, map, map-append, append-nil, append_assoc}
use mathlib.Core.Option.{Option, none}
use native.Mathlib.Omega.{arith}
use lib.ListN.{length, get_or, length-append, length-map}
use borrow.Author.Tests.{lt-leb, leb-false}
use Rattle.equilibrium.specs.Meaning.{◌∈◌}
use Rattle.format.specs.Text.{Bytes, any, is_name, same_list}
use Rattle.format.specs.File.{Node, Row, Name, Model, Body, Stage, in_atoms, in_formulas, in_rows}
use Rattle.format.specs.File.{File, no_file, add_node, add_row}
use Rattle.format.specs.Line.{Line, atom_line, formula_line, row_line}
use Rattle.format.specs.Tables.{most_atoms, most_formulas, most_rows}
use Rattle.format.specs.Tests.{◌when◌, first, rank, out_of_order, not_earlier, unknown_formula, listed, refers_ahead}
use Rattle.format.specs.Tests.{atom_tests, node_tests, formula_tests, body_tests, row_tests}
use Rattle.format.specs.Judged.{Place, Outcome, next, settled, step, after, below, run}
use Rattle.format.specs.Judged.{top}
use Rattle.format.specs.Judged.{with_atom, with_node, with_row, name_start}
use Rattle.format.specs.Good.{bare, GoodBody, atoms, formula, row, spellings, GoodNames}
use Rattle.format.specs.Written.{Each, decimal, Small, node_numbers, Writable, bytes_of}
use Rattle.format.specs.Document.{Document, numbered, atom_lines, formula_lines, row_lines}
use Rattle.format.specs.Document.{names_from, names_in}
use Rattle.format.proofs.Booleans.{or_false, same_list_lem, any_none}
use Rattle.format.proofs.Fold.{place_after, run_append}
use Rattle.format.proofs.Stepping.{first_passes, step_atom, step_formula, step_row}
use Rattle.format.proofs.Tested.{passes, PassedRow, passed_row}
use Rattle.format.proofs.GoodBodies.{Distinct, distinct_apart, Held, good_held}
use Rattle.format.proofs.Enough.{order_enough}
use Rattle.format.proofs.Joined.{each_append}
use Rattle.format.proofs.WrittenLines.{fields_back, line_back}

-- ---- lines that lead from one file to another

-- the lines can be written, and what is written leads on from this place
pub record Leads (p : Place) (ls : List Line) (f t : File) : Type 0 where
  pub writable : Each Writable ls
  pub runs : run step p (map bytes_of ls) f ≡ next t

pub leads_nil : {p : Place} {f t : File} → f ≡ t → Leads p [] f t
unfolding run
leads_nil e = record { writable = tt; runs = ap next e }

pub leads_cons : {p : Place} {l : Line} {ls : List Line} {f u t : File} → Writable l → step f p (bytes_of l) ≡ next u
    → Leads (below p (bytes_of l)) ls u t → Leads p (l ∷ ls) f t
unfolding run
leads_cons {p} {l} {ls} w e rest =
    record { writable = (w, rest.writable); runs = ap (λ (o : Outcome File). after o (run step (below p (bytes_of l)) (map bytes_of ls))) e ∙ rest.runs }

-- the place after some lines
abbrev pub past : Place → List Line → Place
past p ls = place_after p (map bytes_of ls)

pub leads_append : {p : Place} {ms ns : List Line} {f u t : File} → Leads p ms f u → Leads (past p ms) ns u t → Leads p (ms ++ ns) f t
leads_append {p} {ms} {ns} {f} first rest =
    record {
      writable = each_append Writable ms ns first.writable rest.writable;
      runs =
          ap (λ ls. run step p ls f) (map-append bytes_of ms ns)
          ∙ run_append step p (map bytes_of ms) (map bytes_of ns) f
          ∙ ap (λ o. after o (run step (past p ms) (map bytes_of ns))) first.runs
          ∙ rest.runs;
    }

-- one line more
leads_snoc : {p : Place} {ls : List Line} {f u t : File} (l : Line) → Leads p ls f u → Writable l → step u (past p ls) (bytes_of l) ≡ next t
    → Leads p (ls ++ l ∷ []) f t
leads_snoc l before w e = leads_append before (leads_cons w e (leads_nil refl))

pub past_line : (p : Place) (ls : List Line) → (past p ls).line ≡ p.line + length ls
past_line p [] = omega arith
past_line p (l ∷ ls) = past_line (below p (bytes_of l)) ls ∙ omega arith

-- a file before its claim
abbrev pub unclaimed : List Name → Stage → Option Model → Body → File
unclaimed names s m b = record { names = names; body = b; stage = s; model = m; claim = none }

-- ---- A lines

-- the names of a text are spelled as they were given
spelled : (n start : ℕ) (names : List Bytes) → spellings (names_from n start names) ≡ names
spelled n start [] = refl
spelled n start (name ∷ names) = ap (λ (rest : List Bytes). name ∷ rest) (spelled (n + 1) _ names)

-- names that are good
pub names_good : (names : List Bytes) → ((name : Bytes) → name ∈ names → is_name name ≡ true) → Distinct [] names → GoodNames (length names) (names_in names)
names_good names form apart =
    record {
      count = sym (length-map (names_in names) (λ (n : Name). n.name)) ∙ ap length same;
      form = λ name m. form name (subst (λ (ns : List Bytes). name ∈ ns) same m);
      distinct = λ i j h k e. apart i j h k (sym (ap (λ (ns : List Bytes). get_or ns i []) same) ∙ e ∙ ap (λ (ns : List Bytes). get_or ns j []) same);
    }
  where
    same : spellings (names_in names) ≡ names
    same = spelled 0 0 names

-- the file after some A lines
abbrev atom_file : ℕ → List Name → File
atom_file k names = unclaimed names in_atoms none (bare k)

new_name : (name : Bytes) (before : List Name) → (name ∈ spellings before → ⊥) → any (λ m. same_list m.name name) before ≡ false
new_name name before new =
    any_none (λ m. same_list m.name name) before (λ m i e. new (Memᴰ.cast (sym (same_list_lem m.name name e)) (Memᴰ.map (λ (n : Name). n.name) i)))

names_lead : (names : List Bytes) (p : Place) (k total : ℕ) (before : List Name) → k + length names ≡ total → total ≤ most_atoms
    → ((name : Bytes) → name ∈ names → is_name name ≡ true) → Distinct [] (spellings before ++ names)
    → Leads p (numbered atom_line k names) (atom_file k before) (atom_file total (before ++ names_from k p.start names))
names_lead [] p k total before e l form apart = leads_nil (ap₂ atom_file (omega arith) (sym (append-nil before)))
names_lead (name ∷ names) p k total before e l form apart =
    let more =
    names_lead names (below p (bytes_of (atom_line k name))) (k + 1) total (before ++ own ∷ []) (omega arith) l (λ n m. form n (Memᴰ.tail m)) rest in
    leads_cons writable stepped (subst (Leads _ _ _) (ap (atom_file total) (append_assoc before (own ∷ []) _)) more)
  where
    own : Name
    own = record { start = p.start + 3 + length (decimal k); name = name }

    is_name_lem : is_name name ≡ true
    is_name_lem = form name (Memᴰ.head refl)

    writable : Writable (atom_line k name)
    writable = (omega arith, is_name_lem)

    start_is : name_start p (bytes_of (atom_line k name)) ≡ own.start
    start_is = ap (λ (fs : List Bytes). p.start + 3 + length (get_or fs 1 [])) (fields_back (atom_line k name) writable)

    passing : first (atom_tests (atom_file k before) k name) ≡ none
    passing =
        let order = order_enough in_atoms in_atoms k k (omega arith) refl refl in
        let new = new_name name before (distinct_apart [] (spellings before) name names apart) in
        rw (order, lt-leb most_atoms k (omega arith), is_name_lem, new)

    stepped : step (atom_file k before) p (bytes_of (atom_line k name)) ≡ next (atom_file (k + 1) (before ++ own ∷ []))
    stepped =
        step_atom (atom_file k before) p _ k name (line_back (atom_line k name) writable)
        ∙ ap₂ (λ o (s : ℕ). settled o p.line (with_atom (atom_file k before) s name)) passing start_is

    rest : Distinct [] (spellings (before ++ own ∷ []) ++ names)
    rest =
        let one = map-append (λ (n : Name). n.name) before (own ∷ []) in
        subst (Distinct []) (sym (ap (λ (ns : List Bytes). ns ++ names) one ∙ append_assoc (spellings before) (name ∷ []) names)) apart

-- ---- F and N lines: what passes its tests can be written

-- numbers below a count that is held
pub small_numbers : (held : ℕ) → held ≤ most_rows → (ns : List ℕ) → any (not_earlier held) ns ≡ false → Each Small ns
small_numbers held l [] e = tt
small_numbers held l (n ∷ ns) e =
    let parts = or_false (not_earlier held n) (any (not_earlier held) ns) e in
    (omega (arith, leb-false held n parts.0), small_numbers held l ns parts.1)

small_node : (b : Body) (n : Node) → b.atoms ≤ most_atoms → length b.nodes ≤ most_formulas → refers_ahead b n ≡ false
    → Each Small (node_numbers n)
small_node b Node.bot l h e = tt
small_node b (Node.atom k) l h e = (omega (arith, leb-false b.atoms k e), tt)
small_node b (Node.not i) l h e = small_numbers (length b.nodes) (omega arith) (i ∷ []) e
small_node b (Node.and i j) l h e = small_numbers (length b.nodes) (omega arith) (i ∷ j ∷ []) e
small_node b (Node.or i j) l h e = small_numbers (length b.nodes) (omega arith) (i ∷ j ∷ []) e
small_node b (Node.imp i j) l h e = small_numbers (length b.nodes) (omega arith) (i ∷ j ∷ []) e

pub row_writable : (b : Body) (r : Row) → length b.nodes ≤ most_formulas → PassedRow b r → Writable (row_line (length b.rows) r)
row_writable b r l ok =
    let premises = small_numbers (length b.rows) (omega arith) r.premises ok.premises_earlier in
    (omega arith, formulas (listed r.principal) ok.principal_known, premises, formulas r.left ok.left_known, formulas r.right ok.right_known)
  where
    formulas : (ns : List ℕ) → unknown_formula b ns ≡ false → Each Small ns
    formulas ns e = small_numbers (length b.nodes) (omega arith) ns e

-- ---- A, F and N lines

-- a body with names for its atoms, before there is a claim
abbrev claimless : List Bytes → Body → Document
claimless names b = record { names = names; nodes = b.nodes; rows = b.rows; model = none; left = []; right = [] }

-- its lines
abbrev pub lines_before : List Bytes → Body → List Line
lines_before names b = atom_lines (claimless names b) ++ (formula_lines (claimless names b) ++ row_lines (claimless names b))

numbered_snoc : {X : Type 0} (line : ℕ → X → Line) (n : ℕ) (xs : List X) (x : X) (k : ℕ) → k ≡ n + length xs
    → numbered line n (xs ++ x ∷ []) ≡ numbered line n xs ++ line k x ∷ []
numbered_snoc line n [] x k e = let same : n ≡ k = omega arith in ap (λ (m : ℕ). line m x ∷ []) same
numbered_snoc line n (y ∷ ys) x k e = ap (λ (ls : List Line). line n y ∷ ls) (numbered_snoc line (n + 1) ys x k (omega arith))

-- the number of a line is the count of those before it

formula_line_lem : (names : List Bytes) (b : Body) (node : Node)
    → formula_lines (claimless names (add_node b node)) ≡ formula_lines (claimless names b) ++ formula_line (length b.nodes) node ∷ []
formula_line_lem names b node = numbered_snoc formula_line _ b.nodes node (length b.nodes) (omega arith)

row_line_lem : (names : List Bytes) (b : Body) (r : Row)
    → row_lines (claimless names (add_row b r)) ≡ row_lines (claimless names b) ++ row_line (length b.rows) r ∷ []
row_line_lem names b r = numbered_snoc row_line _ b.rows r (length b.rows) (omega arith)

lines_node : (names : List Bytes) (b : Body) (node : Node) → b.rows ≡ []
    → lines_before names b ++ formula_line (length b.nodes) node ∷ [] ≡ lines_before names (add_node b node)
lines_node names b node none_yet =
    before_none (atom_lines d) (formula_lines d) (row_lines d) (formula_line (length b.nodes) node) no_rows
    ∙ ap (λ (fs : List Line). atom_lines d ++ (fs ++ row_lines d)) (sym (formula_line_lem names b node))
  where
    d : Document
    d = claimless names b

    no_rows : row_lines d ≡ []
    no_rows = ap (λ (rs : List Row). row_lines (claimless names (record { atoms = b.atoms; nodes = b.nodes; rows = rs }))) none_yet

    before_none : (ls ms ns : List Line) (l : Line) → ns ≡ [] → (ls ++ (ms ++ ns)) ++ l ∷ [] ≡ ls ++ ((ms ++ l ∷ []) ++ ns)
    before_none ls ms ns l e = rw e (simp (append-nil, append_assoc))

lines_row : (names : List Bytes) (b : Body) (r : Row) → lines_before names b ++ row_line (length b.rows) r ∷ [] ≡ lines_before names (add_row b r)
lines_row names b r = rw (row_line_lem names b r) (simp append_assoc)

-- the lines of a body lead to it
pub record LeadsTo (names : List Bytes) (b : Body) : Type 0 where
  pub stage : Stage
  pub no_model : rank stage ≤ 2
  pub no_rows : b.rows ≡ [] → rank stage ≤ 1
  pub leads : Leads top (lines_before names b) no_file (unclaimed (names_in names) stage none b)

pub body_leads : (names : List Bytes) {b : Body} → GoodBody b → GoodNames b.atoms (names_in names) → LeadsTo names b
body_leads names (atoms n h) good =
    record {
      stage = in_atoms;
      no_model = omega arith;
      no_rows = λ e. omega arith;
      leads = subst (λ (ls : List Line). Leads top ls no_file (atom_file n (names_in names))) (sym (append-nil (numbered atom_line 0 names))) only_names;
    }
  where
    same : spellings (names_in names) ≡ names
    same = spelled 0 0 names

    count : length names ≡ n
    count = sym (ap length same) ∙ length-map (names_in names) (λ (m : Name). m.name) ∙ good.count

    form : (name : Bytes) → name ∈ names → is_name name ≡ true
    form name m = good.form name (subst (λ (ns : List Bytes). name ∈ ns) (sym same) m)

    all_apart : Distinct [] (spellings (names_in names))
    all_apart i j l k = good.distinct i j (omega (arith, ap length same, count)) (omega (arith, ap length same, count))

    only_names : Leads top (numbered atom_line 0 names) no_file (atom_file n (names_in names))
    only_names = names_lead names top 0 n [] (omega (arith, count)) h form (subst (Distinct []) same all_apart)
body_leads names (formula {b} g none_yet node ok) good = add (body_leads names g good)
  where
    held : Held b
    held = good_held g

    writable : Writable (formula_line (length b.nodes) node)
    writable = (omega (arith, held.few_nodes), small_node b node held.few_atoms held.few_nodes (passes 7 (node_tests b node) ok))

    add : LeadsTo names b → LeadsTo names (add_node b node)
    add before =
        record {
          stage = in_formulas;
          no_model = omega arith;
          no_rows = λ e. omega arith;
          leads = subst (λ (ls : List Line). Leads top ls no_file (with_node now node)) (lines_node names b node none_yet) more;
        }
      where
        line : Line
        line = formula_line (length b.nodes) node

        now : File
        now = unclaimed (names_in names) before.stage none b

        passing : first (formula_tests now (length b.nodes) node) ≡ none
        passing =
            let h = before.no_rows none_yet in
            let order = order_enough before.stage in_formulas (length b.nodes) (length b.nodes) h refl refl in
            first_passes (4 when out_of_order before.stage in_formulas (length b.nodes) (length b.nodes)) (node_tests b node) order ∙ ok

        stepped : step now (past top (lines_before names b)) (bytes_of line) ≡ next (with_node now node)
        stepped =
            step_formula now _ _ (length b.nodes) node (line_back line writable)
            ∙ ap (λ o. settled o (past top (lines_before names b)).line (with_node now node)) passing

        more : Leads top (lines_before names b ++ line ∷ []) no_file (with_node now node)
        more = leads_snoc line before.leads writable stepped
body_leads names (row {b} g r ok) good = add (body_leads names g good)
  where
    writable : Writable (row_line (length b.rows) r)
    writable = row_writable b r (good_held g).few_nodes (passed_row b r ok)

    add : LeadsTo names b → LeadsTo names (add_row b r)
    add before =
        record {
          stage = in_rows;
          no_model = omega arith;
          no_rows = λ e. absurd (omega (arith, length-append b.rows (r ∷ []), ap length e));
          leads = subst (λ (ls : List Line). Leads top ls no_file (with_row now r)) (lines_row names b r) more;
        }
      where
        line : Line
        line = row_line (length b.rows) r

        now : File
        now = unclaimed (names_in names) before.stage none b

        passing : first (row_tests now (length b.rows) r) ≡ none
        passing =
            let h = before.no_model in
            let order = order_enough before.stage in_rows (length b.rows) (length b.rows) h refl refl in
            first_passes (4 when out_of_order before.stage in_rows (length b.rows) (length b.rows)) (body_tests b r) order ∙ ok

        stepped : step now (past top (lines_before names b)) (bytes_of line) ≡ next (with_row now r)
        stepped =
            step_row now _ _ (length b.rows) r (line_back line writable)
            ∙ ap (λ o. settled o (past top (lines_before names b)).line (with_row now r)) passing

        more : Leads top (lines_before names b ++ line ∷ []) no_file (with_row now r)
        more = leads_snoc line before.leads writable stepped
