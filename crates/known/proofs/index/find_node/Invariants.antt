-- `known::index::find_node` meets its contract. The invariant of its loop: for every list of formulas that the table holds with
-- their index, the walk is at a cursor. Assumes nothing.
use mathlib.Core.List.{List}
use Rattle.format.specs.File.{Node}
use Rattle.tables.specs.Records.{record_numbers}
use Rattle.tables.specs.Holding.{HoldsNodes}
use Rattle.known.specs.Index.{Indexed}
use Rattle.known.proofs.Indexing.{Cursor}
use Rattle.known.proofs.index.find_node.Given as goal

abbrev pub invariant-loop-after : goal.invariant-loop-after
invariant-loop-after l = (nodes : List Node) → HoldsNodes nodes l.formulas → Indexed nodes l.notes → Cursor nodes (record_numbers l.key) l.after

abbrev pub decreases-loop-after : goal.decreases-loop-after
decreases-loop-after l = l.after
