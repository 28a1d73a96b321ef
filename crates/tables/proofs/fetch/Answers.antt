-- `tables::fetch` meets its contract: inside the table the row's record says where the side lies, and outside the part is empty. Assumes nothing.
use Prim.Native.Nat.{ℕ, ◌+◌, ◌*◌, ◌≤◌, ◌<◌, zero-le}
use native.Mathlib.Omega.{arith}
use mathlib.Core.Bool.{Bool}
use mathlib.Core.List.{List, []}
use mathlib.Core.Path.{◌≡◌, sym, ap, ap₂, ◌∙◌}
use lib.Dec.{lit<}
use lib.ListN.{length, get_or}
use Rattle.format.specs.Tables.{Side, fetched, part, row_width}
use Rattle.tables.specs.Records.{side_wanted}
use Rattle.tables.proofs.Placed.{part_inside, part_outside, part_at}
use Rattle.tables.proofs.fetch.Goals as goal

module _ (rows left right : List ℕ) (row : ℕ) where
  outside : (side : Side) → length rows < row_width * row + row_width → fetched rows left right side row ≡ []
  unfolding fetched
  outside Side.left h = ap (λ (r : List ℕ). part left (get_or r 4 0) (get_or r 5 0)) (part_outside rows (row_width * row) row_width h) ∙ part_inside left 0 0 zero-le
  outside Side.right h =
      ap (λ (r : List ℕ). part right (get_or r 6 0) (get_or r 7 0)) (part_outside rows (row_width * row) row_width h) ∙ part_inside right 0 0 zero-le

  module _ (h : row_width * row + row_width ≤ length rows) where
    field : (k : ℕ) → k < row_width → get_or (part rows (row_width * row) row_width) k 0 ≡ get_or rows (row_width * row + k) 0
    field k l = part_at rows (row_width * row) row_width k 0 0 h l

    inside_left : fetched rows left right Side.left row ≡ part left (get_or rows (row_width * row + 4) 0) (get_or rows (row_width * row + 5) 0)
    unfolding fetched
    inside_left = ap₂ (part left) (field 4 (lit< tt)) (field 5 (lit< tt))

    inside_right : fetched rows left right Side.right row ≡ part right (get_or rows (row_width * row + 6) 0) (get_or rows (row_width * row + 7) 0)
    unfolding fetched
    inside_right = ap₂ (part right) (field 6 (lit< tt)) (field 7 (lit< tt))

pub returns-then-row-rows : goal.returns-then-row-rows
returns-then-row-rows c =
    let args = c.args in
    sym (outside args.rows.now args.left.now args.right.now args.row (side_wanted args.want_left) (omega arith))

pub returns-then-want_left : goal.returns-then-want_left
returns-then-want_left c =
    let args = c.args in
    c.part.ensures
    ∙ sym (ap (λ (wanted : Bool). fetched args.rows.now args.left.now args.right.now (side_wanted wanted) args.row)
    c.if-want_left.true
    ∙ inside_left args.rows.now args.left.now args.right.now args.row (omega arith))

pub returns : goal.returns
returns c =
    let args = c.args in
    c.part-2.ensures
    ∙ sym (ap (λ (wanted : Bool). fetched args.rows.now args.left.now args.right.now (side_wanted wanted) args.row)
    c.if-want_left.false
    ∙ inside_right args.rows.now args.left.now args.right.now args.row (omega arith))
