-- `writer::names::name` meets its contract: inside the table the record says where the name lies. Assumes nothing.
use native.Mathlib.Omega.{arith}
use mathlib.Core.Path.{sym, ◌∙◌}
use Rattle.writer.proofs.Spelled.{spelling_outside, spelling_inside}
use Rattle.writer.proofs.names.name.Goals as goal

pub returns-then-atom-names : goal.returns-then-atom-names
returns-then-atom-names c =
    let args = c.args in
    sym (spelling_outside args.text.now args.names.now args.atom (omega arith))

pub returns : goal.returns
returns c =
    let args = c.args in
    c.piece.ensures ∙ sym (spelling_inside args.text.now args.names.now args.atom (omega arith))
