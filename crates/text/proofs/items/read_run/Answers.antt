-- `text::items::read_run` meets its contract. Assumes nothing.
use Prim.Native.Nat.{◌≤◌}
use mathlib.Core.Path.{◌∙◌}
use lib.ListN.{length}
use Rattle.parts.proofs.PartLaws.{next_bounds}
use Rattle.text.proofs.ItemLaws.{run_bad, run_rises, run_falls}
use Rattle.text.proofs.items.read_run.Goals as goal
use Rattle.text.proofs.items.read_run.Goals.{After-find-end}

-- the next comma lies between `at` and the end of the field
bounds : (c : After-find-end) → (c.args.at ≤ c.find-end.result) × (c.find-end.result ≤ length c.args.field.now)
bounds c = rw c.find-end.ensures (next_bounds _ _ _ c.requires)

pub slice_bounds-read_number-count : goal.slice_bounds-read_number-count
slice_bounds-read_number-count c = (bounds c).0

pub slice_bounds-read_number-start : goal.slice_bounds-read_number-start
slice_bounds-read_number-start c = (bounds c).0

pub slice_bounds-read_number-end : goal.slice_bounds-read_number-end
slice_bounds-read_number-end c = (bounds c).1

pub returns-in_err-last : goal.returns-in_err-last
returns-in_err-last c = c.from_residual.ensures ∙ run_bad _ _ _ c.find-end.ensures c.read_number.ensures.answer (c.in_err-last.was)

pub returns-then-first-last : goal.returns-then-first-last
returns-then-first-last c = run_rises _ _ _ c.find-end.ensures c.read_number.ensures.answer (c.in_ok-last.was) c.if-first-last.true

pub returns : goal.returns
returns c = run_falls _ _ _ c.find-end.ensures c.read_number.ensures.answer (c.in_ok-last.was) c.if-first-last.false
