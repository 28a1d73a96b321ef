-- `parts::field` meets its contract. Assumes nothing.
use native.Mathlib.Omega.{arith}
use lib.ListN.{length-take}
use Rattle.parts.proofs.PartLaws.{no_field_most, no_field_end, no_field_start, field_first, field_later}
use Rattle.parts.proofs.field.Goals as goal

pub returns-then-i-ge-MOST_FIELDS : goal.returns-then-i-ge-MOST_FIELDS
returns-then-i-ge-MOST_FIELDS c = no_field_most _ _ _ (omega arith)

pub returns-then-end-line : goal.returns-then-end-line
returns-then-end-line c = no_field_end _ _ _ (omega arith)

pub slice_bounds-result-end-then-i-eq0 : goal.slice_bounds-result-end-then-i-eq0
slice_bounds-result-end-then-i-eq0 c = simp length-take (omega arith)

pub returns-then-i-eq0 : goal.returns-then-i-eq0
returns-then-i-eq0 c = field_first _ _ _ (omega arith) (omega arith) (omega arith)

pub returns-then-before-end : goal.returns-then-before-end
returns-then-before-end c = no_field_start _ _ _ c.if-i-eq0.false (omega arith)

pub returns : goal.returns
returns c = field_later _ _ _ (omega arith) (omega arith) c.if-i-eq0.false (omega arith)
