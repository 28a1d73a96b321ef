-- F lines: which number a formula earns, and the file with one formula more in its tables.
use Prim.Native.Nat.{ℕ, ◌+◌, ◌*◌, ◌%◌, ◌≤◌, ◌<◌}
use native.Mathlib.Omega.{arith}
use mathlib.Core.Path.{◌≡◌, refl, sym, ap, ap₂, subst, ◌∙◌}
use mathlib.Core.Bool.{Bool, true, false, cond, ◌||◌, or-false}
use mathlib.Core.List.Memᴰ
use mathlib.Core.List.{List, [], ◌∷◌, ◌++◌}
use mathlib.Core.Option.{Option, none, some}
use lib.Dec.{leb}
use lib.ListN.{length, get_or, set, length-set}
use borrow.Author.Tests.{le-leb, lt-leb, leb-false}
use Rattle.equilibrium.specs.Meaning.{◌∈◌}
use Rattle.format.specs.Text.{Bytes, fields_of, number_of, is, any, same_list, ◌<$>◌, ◌<*>◌}
use Rattle.format.specs.File.{Node, Body, File, in_formulas}
use Rattle.format.specs.Line.{formula_line, line_of, node_of}
use Rattle.format.specs.Tables.{absent, join_all, node_record, node_width, most_formulas}
use Rattle.format.specs.Tests.{◌when◌, rank, out_of_order, unknown_formula, refers_ahead, same_node, first, formula_tests}
use Rattle.format.specs.Judged.{Place, refused, settled, step, with_node}
use Rattle.format.specs.Good.{Good}
use Rattle.format.proofs.GoodBodies.{Held, good_held}
use Rattle.format.proofs.Stepping.{step_formula}
use Rattle.format.proofs.Formulas.{known_earlier}
use Rattle.parts.specs.Parts.{Fielded}
use Rattle.text.specs.Numbers.{number_as, NumberRead}
use Rattle.std.specs.Prelude.{Option as Answer, None, Some, Result, Ok, Err}
use Rattle.std.proofs.lemmas.Option.{none-some, same_Some}
use Rattle.refusals.specs.Refusals.{number_of as refusal_number}
use Rattle.refusals.specs.declared.Refusal.{Refusal}
use Rattle.refusals.specs.declared.Refusal.TheVariants.{FormulaAgain}
use Rattle.refusals.proofs.OneNumber.{number_of-some}
use Rattle.parts.specs.declared.Fields.{Fields}
use Rattle.tables.specs.Records.{written, record_numbers}
use Rattle.counts.specs.Counts.{counts_of, count_formula}
use Rattle.known.specs.Entering.{Entry, entry_refusal, Appended, Enters, full, held, new, FormulaEntered}
use Rattle.counts.specs.declared.Counts.{Counts}
use Rattle.known.specs.declared.NoEntry.{NoEntry}
use Rattle.tables.specs.declared.records.NodeRecord.{NodeRecord}
use Rattle.counts.proofs.Counting.{counts_node}
use Rattle.tables.proofs.Encoded.{nodes_length}
use Rattle.known.proofs.Indexing.{length_entered}
use Rattle.known.proofs.Knowing.{known_more}
use Rattle.state.specs.State.{passed_by, not_next, Memory, Exactly, Stored}
use Rattle.state.specs.Lined.{OfKind, Lined}
use Rattle.lines.specs.FormulaLines.{written_of, written_as, narrowed, ahead_in, FormulaNumbered, FormulaLined, with_formulas}
use Rattle.early.specs.Early.{numbered}
use Rattle.state.specs.declared.State.{State}
use Rattle.lines.specs.declared.formula.Written.{Written}
use Rattle.text.proofs.NumberLaws.{was_number, was_no_number}
use Rattle.lines.specs.Stepping.{at_line}
use Rattle.lines.proofs.LineLaws.{
  line_formula,
  line_no_formula,
  number_given,
  keeps_passed,
  steps_next,
  line_refused,
  written_length,
  put_exactly,
  nodes_held,
}
use Rattle.rows.proofs.Numbering.{numbered_none}
use Rattle.state.proofs.Order.{order_same}

-- ---- operands that are not earlier

ahead_of : (b : Body) (m : Node) → ahead_in (written_of m) (counts_of b) ≡ refers_ahead b m
ahead_of b Node.bot = refl
ahead_of b (Node.atom k) = refl
ahead_of b (Node.not i) = sym (or-false (leb (length b.nodes) i))
ahead_of b (Node.and i j) = ap (λ (t : Bool). leb (length b.nodes) i || t) (sym (or-false (leb (length b.nodes) j)))
ahead_of b (Node.or i j) = ap (λ (t : Bool). leb (length b.nodes) i || t) (sym (or-false (leb (length b.nodes) j)))
ahead_of b (Node.imp i j) = ap (λ (t : Bool). leb (length b.nodes) i || t) (sym (or-false (leb (length b.nodes) j)))

-- a formula whose operands are earlier fits a record of 16-bit numbers
record_fits : (b : Body) → Held b → (m : Node) → refers_ahead b m ≡ false → record_numbers (narrowed (written_of m)) ≡ node_record m
record_fits b limits m e = cases m e
  where
    same : (i : ℕ) → i < 65536 → i % 65536 ≡ i
    same i h = omega arith

    earlier : (is : List ℕ) → unknown_formula b is ≡ false → (i : ℕ) → i ∈ is → i % 65536 ≡ i
    earlier is e i m = same i (omega (arith, known_earlier b is e i m, limits.few_nodes))

    both : (w i j : ℕ) → unknown_formula b (i ∷ j ∷ []) ≡ false → ◌≡◌ {A = List ℕ} (w ∷ i % 65536 ∷ j % 65536 ∷ []) (w ∷ i ∷ j ∷ [])
    both w i j e =
        ap₂ (λ (x y : ℕ). w ∷ x ∷ y ∷ []) (earlier (i ∷ j ∷ []) e i (Memᴰ.head refl)) (earlier (i ∷ j ∷ []) e j (Memᴰ.tail (Memᴰ.head refl)))

    cases : (n : Node) → refers_ahead b n ≡ false → record_numbers (narrowed (written_of n)) ≡ node_record n
    cases Node.bot e = refl
    cases (Node.atom k) e = ap (λ (x : ℕ). 1 ∷ x ∷ absent ∷ []) (same k (omega (arith, leb-false b.atoms k e, limits.few_atoms)))
    cases (Node.not i) e = ap (λ (x : ℕ). 2 ∷ x ∷ absent ∷ []) (earlier (i ∷ []) e i (Memᴰ.head refl))
    cases (Node.and i j) e = both 3 i j e
    cases (Node.or i j) e = both 4 i j e
    cases (Node.imp i j) e = both 5 i j e

-- ---- the numbers 4, 5 and 7, and then 8

abbrev first_number : Bool → Bool → Bool → Option ℕ
first_number out over ahead = first ((4 when out) ∷ (5 when over) ∷ (7 when ahead) ∷ [])

module _ (s : State) (n : ℕ) (node : Written) where
  by_tests : (out over ahead : Bool) → not_next s.stage (rank in_formulas) s.counts.formulas n ≡ out → leb most_formulas s.counts.formulas ≡ over
      → ahead_in node s.counts ≡ ahead → (k : ℕ) → numbered k ≡ first_number out over ahead → FormulaNumbered s n node k
  by_tests out over ahead p q r k e = record { tests = e ∙ cc }

  pub number_out : not_next s.stage (rank in_formulas) s.counts.formulas n ≡ true → FormulaNumbered s n node 4
  number_out p = by_tests true _ _ p refl refl 4 refl

  module _ (p : not_next s.stage (rank in_formulas) s.counts.formulas n ≡ false) where
    pub number_full : most_formulas ≤ s.counts.formulas → FormulaNumbered s n node 5
    number_full q = by_tests false true _ p (le-leb _ _ q) refl 5 refl

    module _ (q : s.counts.formulas < most_formulas) where
      pub number_ahead : ahead_in node s.counts ≡ true → FormulaNumbered s n node 7
      number_ahead r = by_tests false false true p (lt-leb _ _ q) r 7 refl

      pub number_none : ahead_in node s.counts ≡ false → FormulaNumbered s n node 0
      number_none r = by_tests false false false p (lt-leb _ _ q) r 0 refl

module _ (out room ahead again : Bool) (k : ℕ) (e : numbered k ≡ first ((4 when out) ∷ (5 when room) ∷ (7 when ahead) ∷ [])) where
  numbered_early : (k ≡ 0 → ⊥) → numbered k ≡ first ((4 when out) ∷ (5 when room) ∷ (7 when ahead) ∷ (8 when again) ∷ [])
  numbered_early h = cases out room ahead e
    where
      cases : (a b c : Bool) → numbered k ≡ first ((4 when a) ∷ (5 when b) ∷ (7 when c) ∷ [])
          → numbered k ≡ first ((4 when a) ∷ (5 when b) ∷ (7 when c) ∷ (8 when again) ∷ [])
      cases true b c e = e
      cases false true c e = e
      cases false false true e = e
      cases false false false e = absurd (h ((numbered_none k).0 e))

  numbered_late : k ≡ 0
      → (ahead ≡ false) × (room ≡ false) × (first ((4 when out) ∷ (5 when room) ∷ (7 when ahead) ∷ (8 when again) ∷ []) ≡ cond again (some 8) none)
  numbered_late z = cases out room ahead (sym e ∙ (numbered_none k).1 z)
    where
      cases : (a b c : Bool) → first ((4 when a) ∷ (5 when b) ∷ (7 when c) ∷ []) ≡ none
          → (c ≡ false) × (b ≡ false) × (first ((4 when a) ∷ (5 when b) ∷ (7 when c) ∷ (8 when again) ∷ []) ≡ cond again (some 8) none)
      cases true b c e = let z : ◌≡◌ {A = ℕ} 0 1 = cc in absurd (omega arith)
      cases false true c e = let z : ◌≡◌ {A = ℕ} 0 1 = cc in absurd (omega arith)
      cases false false true e = let z : ◌≡◌ {A = ℕ} 0 1 = cc in absurd (omega arith)
      cases false false false e = (refl, refl, refl)

-- ---- the fields

-- the formula that an F line writes
abbrev node_in : Bytes → Option Node
node_in line = node_of (get_or (fields_of line) 2 []) (get_or (fields_of line) 3 []) (get_or (fields_of line) 4 [])

well_written : (o : Option Node) (w : Written) → written_as o ≡ Some w → (m : Node) × (o ≡ some m) × (w ≡ written_of m)
well_written none w e = absurd (none-some w e)
well_written (some m) w e = (m, refl, sym (same_Some _ _ e))

badly_written : (o : Option Node) → written_as o ≡ None → o ≡ none
badly_written none e = refl
badly_written (some m) e = absurd (none-some (written_of m) (sym e))

-- what an F line writes: a formula under its number
pub record FormulaRead (line : Bytes) (n : ℕ) (node : Written) : Type 0 where
  pub formula : Node
  pub read : line_of line ≡ some (formula_line n formula)
  pub written : node ≡ written_of formula

module _ (line : Bytes) (fields : Fields) (fielded : Fielded line fields) (kind : OfKind "F" line) where
  pub formula_miscounted : (fields.count ≡ 5 → ⊥) → line_of line ≡ none
  formula_miscounted h = line_no_formula line kind (λ e. h (fielded.counted ∙ e))

  module _ (five : fields.count ≡ 5) where
    by_fields : (o : Option ℕ) (q : Option Node) → number_of (get_or (fields_of line) 1 []) ≡ o → node_in line ≡ q
        → line_of line ≡ (λ n m. formula_line n m) <$> o <*> q
    by_fields o q e k =
        line_formula line kind (sym fielded.counted ∙ five)
        ∙ ap₂ (λ (x : Option ℕ) (y : Option Node). (λ n m. formula_line n m) <$> x <*> y) e k

    module _ {first : Bytes} {own : Answer ℕ} (at_first : first ≡ get_or (fields_of line) 1 []) (number_read : NumberRead first own) where
      own_is : own ≡ number_as (number_of (get_or (fields_of line) 1 []))
      own_is = number_read.answer ∙ ap (λ (x : Bytes). number_as (number_of x)) at_first

      pub formula_unnumbered : own ≡ None → line_of line ≡ none
      formula_unnumbered e = by_fields none (node_in line) (was_no_number _ (sym own_is ∙ e)) refl

      module _ {n : ℕ} (is_number : own ≡ Some n) {b c d : Bytes} (at_b : b ≡ get_or (fields_of line) 2 []) (at_c : c ≡ get_or (fields_of line) 3 [])
          (at-d : d ≡ get_or (fields_of line) 4 []) {node : Answer Written} (is-node : node ≡ written_as (node_of b c d)) where
        number_is : number_of (get_or (fields_of line) 1 []) ≡ some n
        number_is = was_number _ n (sym own_is ∙ is_number)

        node_is : node ≡ written_as (node_in line)
        node_is =
            let word = at_b in
            let one = at_c in
            let two = at-d in
            is-node ∙ cc

        pub formula_unwritten : node ≡ None → line_of line ≡ none
        formula_unwritten e = by_fields (some n) none number_is (badly_written (node_in line) (sym node_is ∙ e))

        pub formula_read : {w : Written} → node ≡ Some w → FormulaRead line n w
        formula_read {w} e =
            let found = well_written (node_in line) w (sym node_is ∙ e) in
            record { formula = found.0; read = by_fields (some n) (some found.0) number_is found.1; written = found.2 }

-- ---- what entering the formula came to

module _ {formulas notes formulas' notes' : List ℕ} {count : ℕ} {key : NodeRecord} where
  pub entered_held : {r : Entry} → Enters formulas notes count key formulas' notes' r → (i : ℕ) → r ≡ Err (NoEntry.Held i)
      → (formulas' ≡ formulas) × (notes' ≡ notes)
  entered_held (full most same-formulas same-notes) i e = let z : ◌≡◌ {A = ℕ} 0 1 = cc in absurd (omega arith)
  entered_held (held j few found same-formulas same-notes) i e = (same-formulas, same-notes)
  entered_held (new few found more) i e = let z : ◌≡◌ {A = ℕ} 0 1 = cc in absurd (omega arith)

  pub entered_full : {r : Entry} → Enters formulas notes count key formulas' notes' r → r ≡ Err NoEntry.Full → most_formulas ≤ count
  entered_full (full most same-formulas same-notes) e = most
  entered_full (held j few found same-formulas same-notes) e = let z : ◌≡◌ {A = ℕ} 0 1 = cc in absurd (omega arith)
  entered_full (new few found more) e = let z : ◌≡◌ {A = ℕ} 0 1 = cc in absurd (omega arith)

  pub entered_new : {r : Entry} → Enters formulas notes count key formulas' notes' r → (i : ℕ) → r ≡ Ok i
      → Appended formulas notes count key formulas' notes'
  entered_new (full most same-formulas same-notes) i e = let z : ◌≡◌ {A = ℕ} 0 1 = cc in absurd (omega arith)
  entered_new (held j few found same-formulas same-notes) i e = let z : ◌≡◌ {A = ℕ} 0 1 = cc in absurd (omega arith)
  entered_new (new few found more) i e = more

  formulas_length : Appended formulas notes count key formulas' notes' → length formulas' ≡ length formulas
  formulas_length more = ap length more.put ∙ written_length formulas (node_width * count) (record_numbers key)

  notes_length : Appended formulas notes count key formulas' notes' → length notes' ≡ length notes
  notes_length more = ap length more.noted ∙ length_entered (set notes count more.atoms) count (record_numbers key) ∙ length-set notes count more.atoms

-- ---- the line, by a beginning that the tables hold

module _ (line : Bytes) (s : State) (formulas notes : List ℕ) (n : ℕ) (node : Written) (k : ℕ) (numbers : FormulaNumbered s n node k)
    (read : FormulaRead line n node) where
  abbrev m : Node
  m = read.formula

  module _ {text : Bytes} {f : File} {done : List Bytes} (t : Memory) (p : Place) (good : Good done f)
      (stored : Stored text f s (with_formulas t formulas notes)) where
    abbrev nodes : List Node
    nodes = f.body.nodes

    abbrev out : Bool
    out = out_of_order f.stage in_formulas (length nodes) n

    abbrev over : Bool
    over = leb most_formulas (length nodes)

    abbrev ahead : Bool
    ahead = refers_ahead f.body m

    abbrev again : Bool
    again = any (λ x. same_node x m) nodes

    held_count : s.counts.formulas ≡ length nodes
    held_count = ap (λ (c : Counts). c.formulas) stored.counts

    tests_here : numbered k ≡ first ((4 when out) ∷ (5 when over) ∷ (7 when ahead) ∷ [])
    tests_here =
        let order : not_next s.stage (rank in_formulas) s.counts.formulas n ≡ out =
        order_same f.stage in_formulas (length nodes) n stored.stage held_count in
        let room : leb most_formulas s.counts.formulas ≡ over = ap (leb most_formulas) held_count in
        let earlier : ahead_in node s.counts ≡ ahead = ap₂ ahead_in read.written stored.counts ∙ ahead_of f.body m in
        numbers.tests ∙ cc

    early : (refusal : Refusal) → k ≡ refusal_number refusal → step f p line ≡ refused (refusal_number refusal) p.line
    early refusal is =
        let some_number : k ≡ 0 → ⊥ = λ z. number_of-some refusal (sym is ∙ z) in
        step_formula f p line n m read.read
        ∙ number_given refusal k _ p.line (with_node f m) (numbered_early out over ahead again k tests_here some_number) is

    module _ (z : k ≡ 0) (key : NodeRecord) (is_key : key ≡ narrowed node) where
      late : (ahead ≡ false) × (over ≡ false) × (first (formula_tests f n m) ≡ cond again (some 8) none)
      late = numbered_late out over ahead again k tests_here z

      is_record : record_numbers key ≡ node_record m
      is_record = ap record_numbers (is_key ∙ ap narrowed read.written) ∙ record_fits f.body (good_held good.body) m late.0

      -- the number of the line is the one that the answer stands for
      entry_tells : {formulas' notes' : List ℕ} {entry : Entry} → FormulaEntered formulas notes s.counts.formulas key formulas' notes' entry
          → step f p line ≡ settled (entry_refusal entry) p.line (with_node f m)
      entry_tells {entry} entered =
          step_formula f p line n m read.read ∙ ap (λ (o : Option ℕ). settled o p.line (with_node f m)) (late.2 ∙ sym tells)
        where
          tells : entry_refusal entry ≡ cond again (some 8) none
          tells =
              entered.refusal nodes (nodes_held stored) stored.known.index
              ∙ ap₂ (λ (a b : Bool). first ((5 when a) ∷ (8 when b) ∷ [])) (ap (leb most_formulas) held_count ∙ late.1)
              (ap (λ (l : List ℕ). any (λ x. same_list (node_record x) l) nodes) is_record)

      module _ {formulas' notes' : List ℕ} (more : Appended formulas notes s.counts.formulas key formulas' notes') where
        room : length nodes < most_formulas
        room = leb-false _ _ late.1

        formulas_held : Exactly (join_all node_record (nodes ++ m ∷ [])) formulas'
        formulas_held =
            subst (Exactly (join_all node_record (nodes ++ m ∷ []))) (sym put_there)
            (put_exactly node_record formulas nodes m (node_width * length nodes) stored.formulas (nodes_length nodes) fits)
          where
            put_there : formulas' ≡ written formulas (node_width * length nodes) (node_record m)
            put_there = more.put ∙ ap₂ (λ (c : ℕ) (l : List ℕ). written formulas (node_width * c) l) held_count is_record

            fits : node_width * length nodes + length (node_record m) ≤ length formulas
            fits = omega (arith, ap length (sym is_record), room, stored.full.formulas)

        after : Stored text (with_node f m) (passed_by s (count_formula s.counts) (rank in_formulas)) (with_formulas t formulas' notes')
        after =
            let whole = stored.full in
            record {
              full =
                  record {
                    names = whole.names;
                    formulas = omega (arith, formulas_length more, whole.formulas);
                    notes = omega (arith, notes_length more, whole.notes);
                    rows = whole.rows;
                    left = whole.left;
                    right = whole.right;
                  };
              counts = ap count_formula stored.counts ∙ counts_node f.body m room;
              stage = refl;
              model = stored.model;
              claim = stored.claim;
              names_in = stored.names_in;
              names = stored.names;
              formulas = formulas_held;
              known =
                  known_more good.body stored.known m is_record more late.0 held_count (omega (arith, held_count, room)) whole.notes;
              rows = stored.rows;
              left = stored.left;
              right = stored.right;
            }

  -- ---- what the line comes to

  pub formula_early : {r : Result State Refusal} (refusal : Refusal) → k ≡ refusal_number refusal → r ≡ Err refusal
      → FormulaLined line s r formulas notes formulas notes
  formula_early refusal is e text start number t =
      line_refused refusal _ (ap (at_line number) e) (λ f p done good stored. early t p good stored refusal is)

  module _ (z : k ≡ 0) {key : NodeRecord} (is_key : key ≡ narrowed node) {formulas' notes' : List ℕ} {entry : Entry}
      (entered : FormulaEntered formulas notes s.counts.formulas key formulas' notes' entry) where
    told : {text : Bytes} {f : File} {done : List Bytes} (t : Memory) (p : Place) → Good done f → Stored text f s (with_formulas t formulas notes)
        → {o : Option ℕ} → entry_refusal entry ≡ o → step f p line ≡ settled o p.line (with_node f m)
    told {f} t p good stored e = entry_tells t p good stored z key is_key entered ∙ ap (λ (o : Option ℕ). settled o p.line (with_node f m)) e

    pub formula_held : {r : Result State Refusal} (i : ℕ) → entry ≡ Err (NoEntry.Held i) → r ≡ Err FormulaAgain
        → FormulaLined line s r formulas notes formulas' notes'
    formula_held {r} i is_held_lem e text start number t =
        let same = entered_held entered.entry i is_held_lem in
        subst (λ (u : Memory). Lined text start line number s (at_line number r) (with_formulas t formulas notes) u)
        (ap₂ (with_formulas t) (sym same.0) (sym same.1))
        (line_refused FormulaAgain _ (ap (at_line number) e) (λ f p done good stored. told t p good stored (ap entry_refusal is_held_lem)))

    pub formula_full : (r : Result State Refusal) → entry ≡ Err NoEntry.Full → FormulaLined line s r formulas notes formulas' notes'
    formula_full r is-full =
        let out = not_next s.stage (rank in_formulas) s.counts.formulas n in
        let ahead-here = ahead_in node s.counts in
        let few = leb-false most_formulas s.counts.formulas (numbered_late out _ ahead-here false k numbers.tests z).1 in
        absurd (omega (arith, few, entered_full entered.entry is-full))

    pub formula_new : {r : Result State Refusal} (i : ℕ) → entry ≡ Ok i → r ≡ Ok (passed_by s (count_formula s.counts) (rank in_formulas))
        → FormulaLined line s r formulas notes formulas' notes'
    formula_new {r} i is-new e text start number t =
        let more = entered_new entered.entry i is-new in
        let passed = ap (at_line number) e in
        record {
          steps =
              λ f p done good stored size at_start at-line.
              steps_next _ (with_node f m) (told t p good stored (ap entry_refusal is-new)) passed (after t p good stored z key is_key more);
          keeps =
              keeps_passed passed
              (record { names = refl; formulas = formulas_length more; notes = notes_length more; rows = refl; left = refl; right = refl });
        }
