-- What a row that is well written comes to.
use Prim.Native.Nat.{ℕ, ◌≤◌}
use native.Mathlib.Omega.{arith}
use mathlib.Core.Path.{◌≡◌, refl, sym, ap, ◌∙◌}
use mathlib.Core.Bool.{Bool, true, false}
use mathlib.Core.List.{List}
use mathlib.Core.Option.{Option, none, some}
use lib.ListN.{length, get_or}
use Rattle.format.specs.Text.{Bytes}
use Rattle.format.specs.File.{Row, in_rows, File}
use Rattle.format.specs.Line.{row_line, line_of}
use Rattle.format.specs.Tables.{most_bytes}
use Rattle.format.specs.Tests.{◌when◌, rank, first, out_of_order, body_tests, row_tests}
use Rattle.format.specs.Judged.{Place, next, settled, step, with_row}
use Rattle.format.specs.Good.{Good}
use Rattle.format.proofs.Stepping.{first_applies, first_passes, step_row}
use Rattle.counts.specs.Counts.{count_row}
use Rattle.counts.specs.declared.Counts.{Counts}
use Rattle.early.specs.Early.{numbered}
use Rattle.rows.specs.Judgement.{RowNumbered}
use Rattle.drafts.specs.declared.Draft.{Draft}
use Rattle.rows.proofs.Numbering.{numbered_none}
use Rattle.state.specs.State.{not_next, passed_by, Memory, SameLengths, Stored, Steps, Keeps}
use Rattle.state.specs.Lined.{Lined}
use Rattle.lines.specs.RowLines.{with_rows, RowSettled}
use Rattle.state.specs.declared.State.{State}
use Rattle.std.specs.Prelude.{Result, Ok, Err}
use Rattle.refusals.specs.Refusals.{number_of as refusal_number}
use Rattle.refusals.specs.declared.Refusal.{Refusal}
use Rattle.refusals.specs.declared.Refusal.TheVariants.{OutOfOrder}
use Rattle.lines.specs.Stepping.{at_line}
use Rattle.lines.proofs.RowFields.{row_drafted}
use Rattle.lines.proofs.RowPut.{rows_length, left_length, right_length, counts_same, row_put, left_put, right_put}
use Rattle.lines.proofs.LineLaws.{number_given, keeps_refused, keeps_passed, steps_next, line_refused, ground}
use Rattle.drafts.specs.Drafts.{Drafted, draft_of, RowLaid}
use Rattle.drafts.specs.Storing.{RowStored}
use Rattle.drafts.specs.declared.RowRead.{RowRead}
use Rattle.state.proofs.Order.{order_same}

-- ---- a row that is well written

-- the line is out of order, or its number is not the next one
abbrev pub other : RowRead → State → Bool
other row s = not_next s.stage (rank in_rows) s.counts.rows row.number

module _ (text line : Bytes) (start number : ℕ) (s : State) {n : ℕ} {q : Row} {row : RowRead} {above l r : List ℕ}
    (well : line_of line ≡ some (row_line n q)) (h : RowLaid n q row above l r) where
  -- number 4
  order_asked : {f : File} {t : Memory} → Stored text f s t → other row s ≡ out_of_order f.stage in_rows (length f.body.rows) n
  order_asked {f} stored =
      ap (λ (z : RowRead). other z s) h.read
      ∙ order_same f.stage in_rows (length f.body.rows) n stored.stage (ap (λ (c : Counts). c.rows) stored.counts)

  pub row_misplaced : {stepped : Result State Refusal} (t : Memory) → other row s ≡ true
      → stepped ≡ Err OutOfOrder → Lined text start line number s (at_line number stepped) t t
  row_misplaced t other given =
      line_refused OutOfOrder t (ap (at_line number) given) (λ f p done good stored.
      step_row f p line n q well
      ∙ ap (λ (o : Option ℕ). settled o p.line (with_row f q))
      (first_applies (4 when out_of_order f.stage in_rows (length f.body.rows) n) (body_tests f.body q) (sym (order_asked stored) ∙ other)))

  module _ (next_one : other row s ≡ false) {d : Draft} (drafted : Drafted q d l r) {formulas notes rows left right : List ℕ} {k : ℕ}
      (numbers : RowNumbered d s.counts l r formulas notes rows left right k) where
    -- the number that the row earns
    row_earns : {f : File} (t : Memory) {done : List Bytes} → Good done f → Stored text f s (with_rows t formulas notes rows left right)
        → numbered k ≡ first (row_tests f n q)
    row_earns {f} t good stored =
        numbers.given f.body q (ground stored good) drafted
        ∙ sym (first_passes (4 when out_of_order f.stage in_rows (length f.body.rows) n) (body_tests f.body q) (sym (order_asked stored) ∙ next_one))

    pub row_refused : {stepped : Result State Refusal} (t : Memory) (refusal : Refusal) → k ≡ refusal_number refusal → stepped ≡ Err refusal
        → Lined text start line number s (at_line number stepped) (with_rows t formulas notes rows left right) (with_rows t formulas notes rows left right)
    row_refused t refusal is given =
        line_refused refusal (with_rows t formulas notes rows left right) (ap (at_line number) given) (λ f p done good stored.
        step_row f p line n q well
        ∙ number_given refusal k _ p.line (with_row f q) (row_earns t good stored) is)

    -- a row that passes
    module _ (passed : k ≡ 0) {rows' left' right' : List ℕ} (w : RowStored d s.counts l r rows left right rows' left' right')
        {f : File} (p : Place) (t : Memory) {done : List Bytes} (good : Good done f)
        (stored : Stored text f s (with_rows t formulas notes rows left right)) where
      steps : step f p line ≡ next (with_row f q)
      steps =
          step_row f p line n q well
          ∙ ap (λ (o : Option ℕ). settled o p.line (with_row f q)) (sym (row_earns t good stored) ∙ (numbered_none k).1 passed)

      tests : first (body_tests f.body q) ≡ none
      tests = sym (numbers.given f.body q (ground stored good) drafted) ∙ (numbered_none k).1 passed

      pub row_stored : {counts : Counts} → counts ≡ count_row s.counts d.left.count d.right.count
          → Stored text (with_row f q) (passed_by s counts (rank in_rows)) (with_rows t formulas notes rows' left' right')
      row_stored e =
          record {
            full =
                record {
                  names = stored.full.names;
                  formulas = stored.full.formulas;
                  notes = stored.full.notes;
                  rows = omega (arith, stored.full.rows, rows_length w);
                  left = omega (arith, stored.full.left, left_length w);
                  right = omega (arith, stored.full.right, right_length w);
                };
            counts = e ∙ counts_same good.body stored.counts tests drafted;
            stage = refl;
            model = stored.model;
            claim = stored.claim;
            names_in = stored.names_in;
            names = stored.names;
            formulas = stored.formulas;
            known = record { atoms = stored.known.atoms; index = stored.known.index };
            rows = row_put good.body stored.counts tests drafted w stored.full.rows stored.rows;
            left = left_put good.body stored.counts tests drafted w stored.full.left stored.left;
            right = right_put good.body stored.counts tests drafted w stored.full.right stored.right;
          }

-- what is written of a row changes no length
pub row_lengths : {d : Draft} {c : Counts} {l r rows left right rows' left' right' : List ℕ} (t : Memory) (formulas notes : List ℕ)
    → RowStored d c l r rows left right rows' left' right'
    → SameLengths (with_rows t formulas notes rows left right) (with_rows t formulas notes rows' left' right')
row_lengths t formulas notes w =
    record {
      names = refl;
      formulas = refl;
      notes = refl;
      rows = rows_length w;
      left = left_length w;
      right = right_length w;
    }

-- ---- what settling a row comes to

module _ (row : RowRead) (above l r formulas notes : List ℕ) (s : State) (stepped : Result State Refusal) (rows left right : List ℕ) where
  pub settled_misplaced : other row s ≡ true → stepped ≡ Err OutOfOrder → RowSettled row above l r formulas notes s stepped rows left right rows left right
  settled_misplaced other given =
      record {
        lined = λ text line start number n q t well h. row_misplaced text line start number s well h (with_rows t formulas notes rows left right) other given;
        keeps = λ number t. keeps_refused (with_rows t formulas notes rows left right) (ap (at_line number) given);
      }

  module _ (next_one : other row s ≡ false) (one two : ℕ) (is_one : one ≡ get_or above 0 0) (is_two : two ≡ get_or above 1 0)
      (d : Draft) (is-draft : d ≡ draft_of row one two) (k : ℕ) (numbers : RowNumbered d s.counts l r formulas notes rows left right k) where
    pub settled_refused : (refusal : Refusal) → k ≡ refusal_number refusal → stepped ≡ Err refusal
        → RowSettled row above l r formulas notes s stepped rows left right rows left right
    settled_refused refusal is given =
        record {
          lined = λ text line start number n q t well h. row_refused text line start number s well h next_one
              (row_drafted h is_one is_two is-draft) numbers t refusal is given;
          keeps = λ number t. keeps_refused (with_rows t formulas notes rows left right) (ap (at_line number) given);
        }

    pub settled_stored : k ≡ 0 → (rows' left' right' : List ℕ) → RowStored d s.counts l r rows left right rows' left' right'
        → (counts : Counts) → counts ≡ count_row s.counts d.left.count d.right.count → stepped ≡ Ok (passed_by s counts (rank in_rows))
        → RowSettled row above l r formulas notes s stepped rows left right rows' left' right'
    settled_stored passed rows' left' right' w counts is-counts given =
        record {
          lined = λ text line start number n q t well h. record { steps = steps_stored text line start number n q t well h; keeps = keeps number t };
          keeps = keeps;
        }
      where
        keeps : (number : ℕ) (t : Memory)
            → Keeps (at_line number stepped) (with_rows t formulas notes rows left right) (with_rows t formulas notes rows' left' right')
        keeps number t = keeps_passed (ap (at_line number) given) (row_lengths t formulas notes w)

        steps_stored : (text line : Bytes) (start number n : ℕ) (q : Row) (t : Memory) → line_of line ≡ some (row_line n q) → RowLaid n q row above l r
            → (f : File) (p : Place) (done : List Bytes) → Good done f → Stored text f s (with_rows t formulas notes rows left right) → length text ≤ most_bytes
            → p.start ≡ start → p.line ≡ number
            → Steps text (step f p line) (at_line number stepped) (with_rows t formulas notes rows' left' right')
        steps_stored text line start number n q t well h f p done good stored size placed at =
            let drafted = row_drafted h is_one is_two is-draft in
            steps_next _ (with_row f q) (steps text line start number s well h next_one drafted numbers passed w p t good stored)
            (ap (at_line number) given) (row_stored text line start number s well h next_one drafted numbers passed w p t good stored is-counts)
