-- `tables::names::find_name` meets its contract. The invariant of its loop: the names passed are others. Assumes nothing.
use Rattle.format.specs.Tables.{name_width}
use Rattle.tables.specs.Names.{spelled_by}
use Rattle.tables.proofs.Turns.{Passed}
use Rattle.tables.proofs.names.find_name.Given as goal

abbrev pub invariant-loop-i : goal.invariant-loop-i
invariant-loop-i l = Passed (spelled_by l.text l.name) name_width l.count l.names l.i
