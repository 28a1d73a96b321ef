-- `adding::reading::read_text` meets its contract: the text is one complete line, or no row. Assumes nothing.
use Prim.Native.Nat.{ℕ}
use native.Mathlib.Omega.{arith}
use mathlib.Core.Path.{sym, ap, ◌∙◌}
use mathlib.Core.Option.{Option}
use lib.ListN.{take}
use lib.Seq.{length-take-le}
use Rattle.format.specs.Line.{Line, line_of}
use Rattle.open.specs.Adding.{with_line}
use Rattle.adding.proofs.RowTexts.{none_said, no_line, more_text, one_line, said_same}
use Rattle.adding.proofs.reading.read_text.Goals as goal

pub returns-then-end-text : goal.returns-then-end-text
returns-then-end-text c =
    let args = c.args in
    none_said _ _ _ _
    (λ b. ap (λ (o : Option Line). with_line o b) (no_line args.text.now (omega (arith, c.find-end.ensures, c.if-end-text.true))))

pub returns-then-end-text-2 : goal.returns-then-end-text-2
returns-then-end-text-2 c =
    let args = c.args in
    let end = c.find-end.ensures in
    none_said _ _ _ _
    (λ b. ap (λ (o : Option Line). with_line o b)
    (more_text args.text.now (omega (arith, end, c.if-end-text.false)) (λ e. c.if-end-text-2.true (omega (arith, end, e)))))

pub slice_bounds-read_line-end : goal.slice_bounds-read_line-end
slice_bounds-read_line-end c = sym (length-take-le _ _ (omega (arith, c.if-end-text.false)))

pub returns : goal.returns
returns c =
    let text = c.args.text.now in
    let end = c.find-end.ensures in
    said_same
    (one_line text (omega (arith, end, c.if-end-text.false)) (omega (arith, end, c.if-end-text-2.false))
    ∙ ap (λ (k : ℕ). line_of (take k text)) (sym end)) c.read_line.ensures
