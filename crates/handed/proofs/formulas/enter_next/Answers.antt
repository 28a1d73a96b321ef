-- `handed::formulas::enter_next` meets its contract: the record is read, and noted where it may follow. Assumes nothing.
use mathlib.Core.Path.{sym, subst}
use Rattle.handed.specs.Handed.{NodeEntered}
use Rattle.handed.proofs.Entering.{entered_none, entered_some}
use Rattle.handed.proofs.formulas.enter_next.Goals as goal

pub returns-then-is_formula : goal.returns-then-is_formula
returns-then-is_formula c =
    let args = c.args in
    entered_some _ _ args.atoms args.i c.node-key.result c.node-key.ensures _ c.is_formula.ensures c.if-is_formula.true
    c.note_formula.ensures _ c.is_ok.ensures.value

pub returns-else-is_formula : goal.returns-else-is_formula
returns-else-is_formula c =
    let args = c.args in
    subst (NodeEntered args.formulas.now args.notes.now args.atoms args.i args.notes.now) (sym c.if-is_formula.false)
    (entered_none _ _ args.atoms args.i c.node-key.result c.node-key.ensures _ c.is_formula.ensures c.if-is_formula.false)
