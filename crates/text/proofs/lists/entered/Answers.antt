-- `text::lists::entered` meets its contract. Assumes nothing.
use mathlib.Core.Path.{sym, ap, ◌∙◌}
use mathlib.Core.Bool.{◌&&◌}
use lib.Dec.{leb}
use Rattle.text.proofs.ListLaws.{entered_with}
use Rattle.text.proofs.lists.entered.Goals as goal

pub returns-then-listed : goal.returns-then-listed
returns-then-listed c xs e =
    let args = c.args in
    let rises = ap (λ t. t && leb args.listed.above args.first) (sym c.if-listed.true) in
    entered_with _ _ c.requires.1 _ _ c.counted.ensures _ c.max.ensures _ rises xs e

pub returns-else-listed : goal.returns-else-listed
returns-else-listed c xs e =
    let args = c.args in
    let rises = c.if-listed.false ∙ ap (λ t. t && leb args.listed.above args.first) (sym c.if-listed.false) in
    entered_with _ _ c.requires.1 _ _ c.counted.ensures _ c.max.ensures _ rises xs e
