-- The tables of a body with one row more: a row that passes its tests is put after the others, and so are its sides, and the counts
-- are the new body's.
use Prim.Native.Nat.{ℕ, ◌*◌, ◌%◌, ◌≤◌}
use native.Mathlib.Omega.{arith}
use mathlib.Core.Path.{◌≡◌, refl, sym, ap, ap₂, subst, ◌∙◌}
use mathlib.Core.Bool.{false}
use mathlib.Core.List.Memᴰ
use mathlib.Core.List.{List, [], ◌∷◌, ◌++◌}
use mathlib.Core.Option.{Option, none, some}
use lib.ListN.{length, get_or, take}
use borrow.Author.Tests.{leb-false}
use Rattle.elk.specs.Rules.{code_of}
use Rattle.format.specs.File.{Row, Body, add_row}
use Rattle.format.specs.Tables.{absent, or_absent, left_pool, right_pool, row_width, row_record, row_records, padded, least}
use Rattle.format.specs.Tests.{first, listed, unknown_formula, bad_side, body_tests}
use Rattle.format.specs.Good.{GoodBody}
use Rattle.format.proofs.Booleans.{any_false}
use Rattle.format.proofs.Tested.{passes, PassedRow, passed_row}
use Rattle.format.proofs.GoodBodies.{Held, good_held}
use Rattle.format.proofs.Formulas.{known_earlier}
use Rattle.text.specs.Numbers.{number_as}
use Rattle.text.specs.declared.lists.Listed.{Listed}
use Rattle.counts.specs.Counts.{counts_of, full_for, count_row}
use Rattle.counts.specs.declared.Counts.{Counts}
use Rattle.counts.proofs.Counting.{counts_row}
use Rattle.tables.specs.Records.{written, row_numbers}
use Rattle.tables.proofs.Encoded.{put_row_encoded}
use Rattle.drafts.specs.Drafts.{Narrow, Laid, Drafted, principal_number}
use Rattle.drafts.specs.Storing.{record_of, RowStored}
use Rattle.drafts.specs.declared.Draft.{Draft}
use Rattle.rows.proofs.EarlyTests.{short_side}
use Rattle.state.specs.State.{Exactly}
use Rattle.lines.proofs.RowFields.{small_mod}
use Rattle.lines.proofs.LineLaws.{written_length, put_exactly}

-- what is written of a row changes no length

module _ {d : Draft} {c : Counts} {l r rows left right rows' left' right' : List ℕ} (w : RowStored d c l r rows left right rows' left' right') where
  pub rows_length : length rows' ≡ length rows
  rows_length = ap length w.row_written ∙ written_length rows _ _

  pub left_length : length left' ≡ length left
  left_length = ap length w.left_written ∙ written_length left _ _

  pub right_length : length right' ≡ length right
  right_length = ap length w.right_written ∙ written_length right _ _

-- a row that passes its tests
module _ {b : Body} (good : GoodBody b) {c : Counts} (is-counts : c ≡ counts_of b) {q : Row} (tests : first (body_tests b q) ≡ none)
    {d : Draft} {l r : List ℕ} (drafted : Drafted q d l r) where
  fits : PassedRow b q
  fits = passed_row b q tests

  held : Held b
  held = good_held good

  short : (side : List ℕ) {listed : Listed} {table : List ℕ} → Laid side listed table → bad_side side ≡ false → unknown_formula b side ≡ false
      → take listed.count table ≡ side
  short side laid good_side known =
      laid.front (short_side side good_side) (λ x m. omega (arith, known_earlier b side known x m, held.few_nodes))

  counted : {side : List ℕ} {listed : Listed} {table : List ℕ} → Laid side listed table → bad_side side ≡ false → listed.count ≡ length side
  counted {side} laid good_side = omega (arith, ap (λ (z : Listed). z.count) laid.answer, short_side side good_side)

  left_is : take d.left.count l ≡ q.left
  left_is = short q.left drafted.left_laid fits.left_good fits.left_known

  right_is : take d.right.count r ≡ q.right
  right_is = short q.right drafted.right_laid fits.right_good fits.right_known

  left_count : d.left.count ≡ length q.left
  left_count = counted drafted.left_laid fits.left_good

  right_count : d.right.count ≡ length q.right
  right_count = counted drafted.right_laid fits.right_good

  rows_count : c.rows ≡ length b.rows
  rows_count = ap (λ (z : Counts). z.rows) is-counts

  left_held : c.left ≡ length (left_pool b.rows)
  left_held = ap (λ (z : Counts). z.left) is-counts

  right_held : c.right ≡ length (right_pool b.rows)
  right_held = ap (λ (z : Counts). z.right) is-counts

  principal_same : (o : Option ℕ) → unknown_formula b (listed o) ≡ false → principal_number (number_as o) ≡ or_absent o
  principal_same none e = refl
  principal_same (some i) e = small_mod i (omega (arith, known_earlier b (i ∷ []) e i (Memᴰ.head refl), held.few_nodes))

  narrow : Narrow q.premises
  narrow x m = omega (arith, leb-false (length b.rows) x (any_false _ q.premises fits.premises_earlier x m), fits.rows_room)

  numbers_same : row_numbers (record_of d c) ≡ row_record b.rows q
  numbers_same =
      let a1 : d.rule ≡ code_of q.rule = drafted.rule in
      let a2 : principal_number d.principal ≡ or_absent q.principal =
      ap principal_number drafted.principal ∙ principal_same q.principal fits.principal_known in
      let a3 : d.first ≡ get_or q.premises 0 absent = drafted.first_premise narrow in
      let a4 : d.second ≡ get_or q.premises 1 absent = drafted.second_premise narrow in
      let a5 : c.left % 65536 ≡ length (left_pool b.rows) = small_mod c.left (omega (arith, left_held, held.few_left)) ∙ left_held in
      let a6 : d.left.count % 65536 ≡ length q.left = small_mod d.left.count (omega (arith, left_count, fits.left_room)) ∙ left_count in
      let a7 : c.right % 65536 ≡ length (right_pool b.rows) = small_mod c.right (omega (arith, right_held, held.few_right)) ∙ right_held in
      let a8 : d.right.count % 65536 ≡ length q.right = small_mod d.right.count (omega (arith, right_count, fits.right_room)) ∙ right_count in
      cc (a1, a2, a3, a4, a5, a6, a7, a8)

  room : full_for (counts_of b) (length q.left) (length q.right) ≡ false
  unfolding full_for
  room = passes 5 (body_tests b q) tests

  -- the counts
  pub counts_same : count_row c d.left.count d.right.count ≡ counts_of (add_row b q)
  counts_same =
      ap (λ (z : Counts). count_row z d.left.count d.right.count) is-counts ∙ ap₂ (count_row (counts_of b)) left_count right_count
      ∙ counts_row b q room

  -- the tables
  module _ {rows left right rows' left' right' : List ℕ} (w : RowStored d c l r rows left right rows' left' right') where
    pub row_put : least.rows ≤ length rows → Exactly (row_records b.rows) rows → Exactly (row_records (b.rows ++ q ∷ [])) rows'
    row_put long exact =
        let put : rows' ≡ written rows (row_width * length b.rows) (row_record b.rows q) =
        w.row_written ∙ ap₂ (λ (m : ℕ) (numbers : List ℕ). written rows (row_width * m) numbers) rows_count numbers_same in
        put
        ∙ ap (λ (table : List ℕ). written table (row_width * length b.rows) (row_record b.rows q)) exact
        ∙ put_row_encoded (length rows) b.rows q (omega (arith, fits.rows_room, long))
        ∙ ap (λ (m : ℕ). padded m (row_records (b.rows ++ q ∷ []))) (sym (rows_length w))

    pub left_put : least.left ≤ length left → Exactly (left_pool b.rows) left → Exactly (left_pool (b.rows ++ q ∷ [])) left'
    left_put long exact =
        subst (Exactly (left_pool (b.rows ++ q ∷ []))) (sym (w.left_written ∙ ap₂ (written left) left_held left_is)) (
        put_exactly (λ (z : Row). z.left) left b.rows q (length (left_pool b.rows)) exact refl (omega (arith, fits.left_room, long)))

    pub right_put : least.right ≤ length right → Exactly (right_pool b.rows) right → Exactly (right_pool (b.rows ++ q ∷ [])) right'
    right_put long exact =
        subst (Exactly (right_pool (b.rows ++ q ∷ []))) (sym (w.right_written ∙ ap₂ (written right) right_held right_is)) (
        put_exactly (λ (z : Row). z.right) right b.rows q (length (right_pool b.rows)) exact refl (omega (arith, fits.right_room, long)))
