-- `tables::records::node` meets its contract: inside the table each field is read at its place, and outside all are absent. Assumes nothing.
use Prim.Native.Nat.{◌+◌, ◌*◌, ◌≤◌}
use native.Mathlib.Omega.{arith}
use mathlib.Core.Path.{sym, ap}
use lib.Dec.{lit<}
use lib.ListN.{length}
use Rattle.format.specs.Tables.{absent}
use Rattle.format.specs.Tables.{node_width}
use Rattle.tables.specs.Records.{record_from}
use Rattle.tables.proofs.Placed.{part_outside, part_first, part_at}
use Rattle.tables.proofs.records.node.Goals as goal

pub returns-then-i-formulas : goal.returns-then-i-formulas
returns-then-i-formulas c = ap record_from (sym (part_outside c.args.formulas.now _ node_width (omega arith)))

pub returns : goal.returns
returns c =
    let formulas = c.args.formulas.now in
    let at = node_width * c.args.i in
    let inside : at + node_width ≤ length formulas = omega arith in
    sym (λ j. record {
      word = part_first formulas at node_width absent 0 inside (lit< tt) j;
      first = part_at formulas at node_width 1 absent 0 inside (lit< tt) j;
      second = part_at formulas at node_width 2 absent 0 inside (lit< tt) j;
    })
