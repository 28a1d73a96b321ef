-- `handed::derivation::read_rows` meets its contract. The loop's invariant: so many rows are those of a good body.
use Rattle.bodies.specs.Open.{four}
use Rattle.handed.proofs.Rows.{RowsSoFar}
use Rattle.handed.proofs.derivation.read_rows.Given as goal

abbrev pub invariant-loop-row : goal.invariant-loop-row
invariant-loop-row l =
    RowsSoFar (four l.fn.body.formulas.now l.fn.body.rows.now l.fn.body.left.now l.fn.body.right.now) l.fn.body.notes.now l.counts l.held l._row
