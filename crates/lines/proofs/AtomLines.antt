-- A lines: the number that an atom earns, where the name stands in the text, and the file with one atom more in its tables.
use Prim.Native.Nat.{ℕ, zero, suc, ◌+◌, ◌-◌, ◌*◌, ◌%◌, ◌≤◌, ◌<◌}
use native.Mathlib.Omega.{arith}
use mathlib.Core.Path.{◌≡◌, refl, sym, ap, ap₂, subst, ◌∙◌}
use mathlib.Core.Bool.{Bool, true, false, cond, not, ◌||◌, or-true, false≢true}
use mathlib.Core.List.Memᴰ
use mathlib.Core.List.{List, [], ◌∷◌, ◌++◌}
use mathlib.Core.Logic.{⊎_elim}
use mathlib.Core.Option.{Option, none, some}
use lib.Dec.{leb}
use lib.ListN.{length, get_or, take, drop, length-take, length-drop}
use lib.Seq.{take-take, drop-drop}
use borrow.Author.Tests.{le-leb, lt-leb, leb-false}
use Rattle.equilibrium.specs.Meaning.{◌∈◌}
use Rattle.format.specs.Text.{Bytes, fields_of, number_of, same_list, is_name, any}
use Rattle.format.specs.File.{Name, File, in_atoms}
use Rattle.format.specs.Line.{atom_line, line_of}
use Rattle.format.specs.Tables.{name_record, name_width, join_all, most_atoms, most_bytes}
use Rattle.format.specs.Tests.{Test, ◌when◌, rank, first, out_of_order, atom_tests}
use Rattle.format.specs.Judged.{Place, settled, with_atom, name_start}
use Rattle.format.specs.Good.{Good}
use Rattle.format.proofs.Booleans as booleans
use Rattle.format.proofs.Tested.{passes}
use Rattle.format.proofs.Stepping.{first_applies, first_passes, step_atom}
use Rattle.parts.specs.Parts.{start_of, between, FieldAt, Fielded}
use Rattle.text.specs.Numbers.{number_as}
use Rattle.std.specs.Prelude.{Option as Answer, None, Some, Result, Ok, Err}
use Rattle.std.specs.Option.{is_some}
use Rattle.refusals.specs.Refusals.{number_of as refusal_number}
use Rattle.refusals.specs.declared.Refusal.{Refusal}
use Rattle.refusals.specs.declared.Refusal.TheVariants.{BadLine}
use Rattle.parts.specs.declared.Fields.{Fields}
use Rattle.counts.specs.Counts.{count_atom}
use Rattle.tables.specs.Holding.{Begins}
use Rattle.tables.specs.Names.{first_records, spelled_by, name_refusal, NameFound, StandsIn}
use Rattle.tables.specs.Records.{written}
use Rattle.counts.specs.declared.Counts.{Counts}
use Rattle.counts.proofs.Counting.{counts_atom}
use Rattle.tables.proofs.Encoded.{begins_padded, names_length, name_held}
use Rattle.early.specs.Early.{numbered}
use Rattle.state.specs.State.{passed_by, not_next, Memory, Exactly, Stored}
use Rattle.state.specs.Lined.{OfKind}
use Rattle.lines.specs.Stepping.{at_line}
use Rattle.lines.specs.AtomLines.{AtomNumbered, AtomLined, with_names}
use Rattle.state.specs.declared.State.{State}
use Rattle.text.proofs.NumberLaws.{was_number, was_no_number}
use Rattle.lines.proofs.LineLaws.{
  atom_written,
  line_atom,
  line_no_atom,
  number_given,
  none_given,
  keeps_passed,
  steps_next,
  line_refused,
  line_bad,
  written_length,
  put_exactly,
}
use Rattle.state.proofs.Order.{order_same}

-- ---- the fields

-- the name of an A line, and where it starts if the line starts there
abbrev pub name_in : Bytes → Bytes
name_in line = get_or (fields_of line) 2 []

abbrev pub start_in : ℕ → Bytes → ℕ
start_in start line = start + 3 + length (get_or (fields_of line) 1 [])

module _ (line : Bytes) (fields : Fields) (fielded : Fielded line fields) (kind : OfKind "A" line) where
  pub atom_miscounted : (fields.count ≡ 3 → ⊥) → line_of line ≡ none
  atom_miscounted h = line_no_atom line kind (λ e. h (fielded.counted ∙ e))

  module _ (three : fields.count ≡ 3) where
    by_number : (o : Option ℕ) → number_of (get_or (fields_of line) 1 []) ≡ o → line_of line ≡ atom_written (name_in line) o
    by_number o e = line_atom line kind (sym fielded.counted ∙ three) ∙ ap (atom_written (name_in line)) e

    pub atom_unnumbered : number_as (number_of (get_or (fields_of line) 1 [])) ≡ None → line_of line ≡ none
    atom_unnumbered e = by_number none (was_no_number _ e)

    pub atom_read : (n : ℕ) → number_as (number_of (get_or (fields_of line) 1 [])) ≡ Some n → line_of line ≡ some (atom_line n (name_in line))
    atom_read n e = by_number (some n) (was_number _ n e)

-- ---- the number that an atom earns

-- the name is one of those that are held, by their records
abbrev used : Bytes → List ℕ → State → Bytes → Bool
used text names s name = any (spelled_by text name) (first_records name_width s.counts.atoms names)

abbrev six_if : Bool → Option ℕ
six_if b = cond b (some 6) none

six_told : (a b : Bool) → six_if a ≡ six_if b → a ≡ b
six_told true true e = refl
six_told false false e = refl
six_told true false e = let z : ◌≡◌ {A = ℕ} 0 1 = cc in absurd (omega arith)
six_told false true e = let z : ◌≡◌ {A = ℕ} 0 1 = cc in absurd (omega arith)

six_some : (r : Answer ℕ) → is_some r ≡ true → name_refusal r ≡ six_if true
six_some None e = absurd (false≢true e)
six_some (Some i) e = refl

six_none : (r : Answer ℕ) → is_some r ≡ false → name_refusal r ≡ six_if false
six_none None e = refl
six_none (Some i) e = absurd (false≢true (sym e))

-- the tests of an atom, by the state and the names table
abbrev atom_of : Bytes → List ℕ → State → ℕ → Bytes → List Test
atom_of text names s n name =
    (4 when not_next s.stage (rank in_atoms) s.counts.atoms n)
    ∷ (5 when leb most_atoms s.counts.atoms)
    ∷ (6 when not (is_name name) || used text names s name)
    ∷ []

module _ (text : Bytes) (names : List ℕ) (s : State) (n : ℕ) (name : Bytes) where
  tests_same : (f : File) → s.counts.atoms ≡ f.body.atoms → length f.names ≡ f.body.atoms → s.stage ≡ rank f.stage
      → ((m : Name) → m ∈ f.names → StandsIn text m) → Begins (join_all name_record f.names) names
      → atom_of text names s n name ≡ atom_tests f n name
  tests_same f atoms many stage stands held =
      ap₂ (λ (a b : Bool). (4 when a) ∷ (5 when b) ∷ (6 when not (is_name name) || used text names s name) ∷ [])
      (order_same f.stage in_atoms f.body.atoms n stage atoms) (ap (leb most_atoms) atoms)
      ∙ ap
      (λ (b : Bool). (4 when out_of_order f.stage in_atoms f.body.atoms n) ∷ (5 when leb most_atoms f.body.atoms)
      ∷ (6 when not (is_name name) || b) ∷ [])
      used_same
    where
      used_same : used text names s name ≡ any (λ (m : Name). same_list m.name name) f.names
      used_same =
          ap (λ (k : ℕ). any (spelled_by text name) (first_records name_width k names)) (atoms ∙ sym many)
          ∙ name_held text f.names names name stands held

  numbered_atom : (k : ℕ) → numbered k ≡ first (atom_of text names s n name) → AtomNumbered text names s n name k
  numbered_atom k e =
      record {
        passed = λ z.
            let through = none_given k _ e z in (
              leb-false _ _ (passes 5 (atom_of text names s n name) through),
              booleans.not_false _ (booleans.or_false (not (is_name name)) _ (passes 6 (atom_of text names s n name) through)).0,
            );
        tests = λ f atoms many stage stands held. e ∙ ap first (tests_same f atoms many stage stands held);
      }

  abbrev out : Bool
  out = not_next s.stage (rank in_atoms) s.counts.atoms n

  abbrev full : Bool
  full = leb most_atoms s.counts.atoms

  abbrev bad : Bool
  bad = not (is_name name) || used text names s name

  pub atom_out : out ≡ true → AtomNumbered text names s n name 4
  atom_out e = numbered_atom 4 (sym (first_applies (4 when out) ((5 when full) ∷ (6 when bad) ∷ []) e))

  module _ (ordered : out ≡ false) where
    pub atom_full : most_atoms ≤ s.counts.atoms → AtomNumbered text names s n name 5
    atom_full h =
        numbered_atom 5 (
        sym (first_passes (4 when out) ((5 when full) ∷ (6 when bad) ∷ []) ordered ∙ first_applies (5 when full) ((6 when bad) ∷ []) (le-leb _ _ h)))

    module _ (room : s.counts.atoms < most_atoms) where
      named : (b : Bool) → bad ≡ b → first (atom_of text names s n name) ≡ six_if b
      named b e =
          first_passes (4 when out) ((5 when full) ∷ (6 when bad) ∷ []) ordered
          ∙ first_passes (5 when full) ((6 when bad) ∷ []) (lt-leb _ _ room)
          ∙ ap six_if e

      pub atom_misnamed : is_name name ≡ false → AtomNumbered text names s n name 6
      atom_misnamed e = numbered_atom 6 (sym (named true (ap (λ (b : Bool). not b || used text names s name) e)))

      module _ {r : Answer ℕ} (looked : NameFound text name (first_records name_width s.counts.atoms names) r) where
        by_answer : (b : Bool) → name_refusal r ≡ six_if b → used text names s name ≡ b
        by_answer b e = six_told (used text names s name) b (sym looked.refusal ∙ e)

        pub atom_used : is_some r ≡ true → AtomNumbered text names s n name 6
        atom_used e =
            numbered_atom 6 (
            sym (named true (ap (λ (b : Bool). not (is_name name) || b) (by_answer true (six_some r e)) ∙ or-true (not (is_name name)))))

        pub atom_new : is_name name ≡ true → is_some r ≡ false → AtomNumbered text names s n name 0
        atom_new e k = numbered_atom 0 (sym (named false (ap₂ (λ (a b : Bool). not a || b) e (by_answer false (six_none r k)))))

-- ---- where the name stands

field_length : (line : Bytes) (ends : List ℕ) (i : ℕ) → FieldAt line ends i → start_of ends i + length (get_or (fields_of line) i []) ≡ get_or ends i 0
field_length line ends i p =
    let size : length (between line (start_of ends i) (get_or ends i 0)) ≡ get_or ends i 0 - start_of ends i =
    simp (length-take, length-drop) (omega (arith, p.ordered, p.inside)) in
    omega (arith, p.ordered, ap length p.part, size)

-- a part of a part
part_of_part : (xs : List ℕ) (m a k : ℕ) → a + k ≤ m → take k (drop a (take m xs)) ≡ take k (drop a xs)
part_of_part xs m zero k h = take-take k m xs (omega arith)
part_of_part xs zero (suc a) k h = absurd (omega arith)
part_of_part [] (suc m) (suc a) k h = refl
part_of_part (x ∷ xs) (suc m) (suc a) k h = part_of_part xs m a k (omega arith)

module _ (line : Bytes) (fields : Fields) (fielded : Fielded line fields) (kind : OfKind "A" line) (three : fields.count ≡ 3) where
  found : (i : ℕ) → i < 3 → FieldAt line fields.ends i
  found i h = fielded.found i (omega arith) (omega arith)

  name_starts : get_or fields.ends 1 0 + 1 ≡ 3 + length (get_or (fields_of line) 1 [])
  name_starts =
      omega (arith, field_length line fields.ends 0 (found 0 (omega arith)), field_length line fields.ends 1 (found 1 (omega arith)), ap length kind)

  name_inside : 3 + length (get_or (fields_of line) 1 []) + length (name_in line) ≤ length line
  name_inside = omega (arith, name_starts, field_length line fields.ends 2 (found 2 (omega arith)), (found 2 (omega arith)).inside)

  name_there : take (length (name_in line)) (drop (3 + length (get_or (fields_of line) 1 [])) line) ≡ name_in line
  name_there =
      let ends = field_length line fields.ends 2 (found 2 (omega arith)) in
      let size : length (name_in line) ≡ get_or fields.ends 2 0 - (get_or fields.ends 1 0 + 1) = omega (arith, ends) in
      ap₂ (λ (k a : ℕ). take k (drop a line)) size (sym name_starts) ∙ (found 2 (omega arith)).part

-- the name of a line that starts at this byte lies there in the text
pub record NameAt (text : Bytes) (start : ℕ) (line : Bytes) : Type 0 where
  pub fits : start_in start line + length (name_in line) ≤ length text
  pub stands : take (length (name_in line)) (drop (start_in start line) text) ≡ name_in line

module _ (text : Bytes) (start end : ℕ) (ordered : start ≤ end) (within : end ≤ length text)
    (fields : Fields) (fielded : Fielded (between text start end) fields) (kind : OfKind "A" (between text start end)) (three : fields.count ≡ 3) where
  line_length : length (between text start end) ≡ end - start
  line_length = simp (length-take, length-drop) (omega arith)

  pub name_at_lem : NameAt text start (between text start end)
  name_at_lem =
      let line : Bytes = between text start end in
      let offset : ℕ = 3 + length (get_or (fields_of line) 1 []) in
      let place : start + offset ≡ start_in start line = omega arith in
      let inside = name_inside line fields fielded kind three in
      record {
        fits = omega (arith, inside, line_length);
        stands =
            ap (λ (k : ℕ). take (length (name_in line)) (drop k text)) (sym place)
            ∙ ap (take (length (name_in line))) (sym (drop-drop offset start text))
            ∙ sym (part_of_part (drop start text) (end - start) offset (length (name_in line)) (omega (arith, inside, line_length)))
            ∙ name_there line fields fielded kind three;
      }

-- the same of a line that is that part
pub name_of_line : (text : Bytes) (start end : ℕ) → start ≤ end → end ≤ length text → (line : Bytes) → line ≡ between text start end
    → (fields : Fields) → Fielded line fields → OfKind "A" line → fields.count ≡ 3 → NameAt text start line
name_of_line text start end ordered within line is fields fielded kind three =
    subst (NameAt text start) (sym is)
    (name_at_lem text start end ordered within fields (subst (λ (l : Bytes). Fielded l fields) is fielded) (subst (OfKind "A") is kind) three)

-- ---- one atom more

name_some : (name : Bytes) → is_name name ≡ true → 0 < length name
unfolding is_name
name_some [] e = absurd (false≢true e)
name_some (b ∷ bs) e = omega arith

-- the numbers of the new record, in 16 bits
abbrev new_numbers : ℕ → Bytes → List ℕ
new_numbers start line = (start_in start line % 65536) ∷ (length (name_in line) % 65536) ∷ []

-- the names with the new record
abbrev names_with : List ℕ → State → ℕ → Bytes → List ℕ
names_with names s start line = written names (name_width * s.counts.atoms) (new_numbers start line)

module _ {text line : Bytes} {start : ℕ} (at : NameAt text start line) (f : File) (p : Place) {s : State} {t : Memory}
    (stored : Stored text f s t) (many : length f.names ≡ f.body.atoms) (size : length text ≤ most_bytes) (placed : p.start ≡ start)
    (room : s.counts.atoms < most_atoms) (named : is_name (name_in line) ≡ true) where
  abbrev new : Name
  new = record { start = name_start p line; name = name_in line }

  numbers_new : new_numbers start line ≡ name_record new
  numbers_new = ap₂ (λ (x y : ℕ). x ∷ y ∷ []) starts long
    where
      starts : start_in start line % 65536 ≡ name_start p line
      starts = omega (arith, at.fits, name_some (name_in line) named)

      long : length (name_in line) % 65536 ≡ length (name_in line)
      long = omega (arith, at.fits)

  atoms_held : s.counts.atoms ≡ f.body.atoms
  atoms_held = ap (λ (c : Counts). c.atoms) stored.counts

  stand : (m : Name) → m ∈ f.names ++ new ∷ [] → StandsIn text m
  stand m k = ⊎_elim (stored.names_in m) here (Memᴰ.append_cases f.names k)
    where
      here : m ∈ new ∷ [] → StandsIn text m
      here j =
          subst (StandsIn text) (sym (Memᴰ.eq_of_singleton j))
          (record {
            inside = omega (arith, at.fits);
            there = ap (λ (k : ℕ). take (length (name_in line)) (drop (k + 3 + length (get_or (fields_of line) 1 [])) text)) placed ∙ at.stands;
          })

  pub atom_stored : Stored text (with_atom f (name_start p line) (name_in line)) (passed_by s (count_atom s.counts) (rank in_atoms))
      (with_names t (names_with t.names s start line))
  atom_stored =
      record {
        full =
            record {
              names = omega (arith, written_length t.names (name_width * s.counts.atoms) (new_numbers start line), stored.full.names);
              formulas = stored.full.formulas;
              notes = stored.full.notes;
              rows = stored.full.rows;
              left = stored.full.left;
              right = stored.full.right;
            };
        counts = ap count_atom stored.counts ∙ counts_atom f.body (omega (arith, atoms_held));
        stage = refl;
        model = stored.model;
        claim = stored.claim;
        names_in = stand;
        names =
            subst (λ (xs : List ℕ). Exactly (join_all name_record (f.names ++ new ∷ [])) (written t.names (name_width * s.counts.atoms) xs))
            (sym numbers_new)
            (put_exactly name_record t.names f.names new (name_width * s.counts.atoms) stored.names
            (names_length f.names ∙ ap (λ (k : ℕ). name_width * k) (many ∙ sym atoms_held)) (omega (arith, stored.full.names)));
        formulas = stored.formulas;
        known = record { atoms = stored.known.atoms; index = stored.known.index };
        rows = stored.rows;
        left = stored.left;
        right = stored.right;
      }

-- ---- what the function of A lines comes to

pub numbered_as : {text : Bytes} {names : List ℕ} {s : State} {n : ℕ} {a b : Bytes} {k : ℕ} → a ≡ b → AtomNumbered text names s n a k
    → AtomNumbered text names s n b k
numbered_as {text} {names} {s} {n} {k = k} e = subst (λ (x : Bytes). AtomNumbered text names s n x k) e

pub atom_bad : {text : Bytes} {start : ℕ} {line : Bytes} {s : State} {r : Result State Refusal} (names : List ℕ) → line_of line ≡ none
    → r ≡ Err BadLine → AtomLined text start line s r names names
atom_bad names e given number t = line_bad (with_names t names) e (ap (at_line number) given)

module _ (text : Bytes) (start : ℕ) (line : Bytes) (s : State) (r : Result State Refusal) (names : List ℕ) (n : ℕ)
    (read : line_of line ≡ some (atom_line n (name_in line))) (k : ℕ) (numbers : AtomNumbered text names s n (name_in line) k) where
  tests_of : (t : Memory) (f : File) (done : List Bytes) → Good done f → Stored text f s (with_names t names)
      → numbered k ≡ first (atom_tests f n (name_in line))
  tests_of t f done good stored =
      numbers.tests f (ap (λ (c : Counts). c.atoms) stored.counts) good.names.count stored.stage stored.names_in
      (begins_padded stored.names)

  pub atom_refused : (refusal : Refusal) → k ≡ refusal_number refusal → r ≡ Err refusal → AtomLined text start line s r names names
  atom_refused refusal is given number t =
      line_refused refusal (with_names t names) (ap (at_line number) given) (λ f p done good stored.
      step_atom f p line n (name_in line) read ∙ number_given refusal k _ p.line _ (tests_of t f done good stored) is)

  atom_passed : NameAt text start line → k ≡ 0 → r ≡ Ok (passed_by s (count_atom s.counts) (rank in_atoms))
      → AtomLined text start line s r names (names_with names s start line)
  atom_passed at zero-k given number t =
      let ok = ap (at_line number) given in
      record {
        steps = λ f p done good stored size placed on.
            let passed = numbers.passed zero-k in
            steps_next _ (with_atom f (name_start p line) (name_in line))
            (step_atom f p line n (name_in line) read
            ∙ ap (λ (o : Option ℕ). settled o p.line (with_atom f (name_start p line) (name_in line))) (none_given k _ (tests_of t f done good stored) zero-k))
            ok (atom_stored at f p stored good.names.count size placed passed.0 passed.1);
        keeps =
            keeps_passed ok
            (record {
              names = written_length names (name_width * s.counts.atoms) (new_numbers start line);
              formulas = refl;
              notes = refl;
              rows = refl;
              left = refl;
              right = refl;
            });
      }

  -- the same, by the record as it is put
  pub atom_put : NameAt text start line → k ≡ 0 → r ≡ Ok (passed_by s (count_atom s.counts) (rank in_atoms))
      → (a l : ℕ) → a ≡ start_in start line % 65536 → l ≡ length (name_in line) % 65536
      → (after : List ℕ) → after ≡ written names (name_width * s.counts.atoms) (a ∷ l ∷ []) → AtomLined text start line s r names after
  atom_put at zero-k given a l starts long after put =
      subst (AtomLined text start line s r names)
      (ap₂ (λ (x y : ℕ). written names (name_width * s.counts.atoms) (x ∷ y ∷ [])) (sym starts) (sym long) ∙ sym put)
      (atom_passed at zero-k given)
