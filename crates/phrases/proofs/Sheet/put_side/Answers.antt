use mathlib.Core.Path.{sym, ◌∙◌}
use Rattle.writer.proofs.Writing.{puts_as, puts_then, begun_after, begun_more, begun_all}
use Rattle.phrases.proofs.TableRows.{further_first, further_end, side_empty, side_first}
use Rattle.phrases.proofs.Sheet.put_side.Goals as goal

pub returns-in_default : goal.returns-in_default
returns-in_default c =
    let self = c.args.self in
    puts_as (side_empty self.text.now self.names.now self.formulas.now _ _ c.args.formulas.now c.in_default.ensures.cases ∙ sym c.empty.ensures)
    c.put.ensures

pub loop-i-init : goal.loop-i-init
loop-i-init c = begun_after c.put_formula.ensures

pub loop-i-preserved : goal.loop-i-preserved
loop-i-preserved c =
    let self = c.args.self in
    begun_more c.loop-i.invariant
    (further_first self.text.now self.names.now self.formulas.now c.in-Some.rest.now c.loop-i.i-index _ c.loop-i-test.true
    c.from-in-loop-i.ensures)
    (puts_then c.put-in-loop-i.ensures c.put_formula-in-loop-i.ensures)

pub returns : goal.returns
returns c =
    let self = c.args.self in
    puts_as (side_first self.text.now self.names.now self.formulas.now _ _ c.args.formulas.now c.in-Some.rest.now _ _ c.in-Some.ensures.cases.0 c.from.ensures)
    (puts_then (puts_as (sym c.opening.ensures) c.put-2.ensures) (puts_then c.put_formula.ensures
    (begun_all c.loop-i.invariant (further_end self.text.now self.names.now self.formulas.now c.in-Some.rest.now c.loop-i.i-index c.loop-i-test.false))))
