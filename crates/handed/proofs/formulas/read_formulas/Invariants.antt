-- `handed::formulas::read_formulas` meets its contract. The loop's invariant: the first `i` formulas are those of a good body, which
-- the notes know.
use Rattle.handed.proofs.Entering.{NodesSoFar}
use Rattle.handed.proofs.formulas.read_formulas.Given as goal

abbrev pub invariant-loop-i : goal.invariant-loop-i
invariant-loop-i l = NodesSoFar l.formulas l.initial.notes l.counts l.notes l.i
