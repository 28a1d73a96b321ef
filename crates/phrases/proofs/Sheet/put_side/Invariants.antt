-- `phrases::Sheet::put_side` meets its contract. The invariant of its loop: the formulas after the first are written up to a place.
use lib.ListN.{drop}
use Rattle.writer.proofs.Writing.{Begun}
use Rattle.phrases.proofs.TableRows.{further}
use Rattle.phrases.proofs.Sheet.put_side.Given as goal

abbrev pub invariant-loop-i : goal.invariant-loop-i
invariant-loop-i l =
    Begun (further l.self.text.now l.self.names.now l.self.formulas.now l.rest)
    (further l.self.text.now l.self.names.now l.self.formulas.now (drop l.i-index l.rest)) l.initial.out l.out
