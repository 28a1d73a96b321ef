-- `lines::model::model_line` meets its contract. Assumes nothing.
use mathlib.Core.Path.{refl, sym, ◌∙◌}
use lib.Dec.{lit≤}
use Rattle.lines.proofs.ModelLines.{model_miscounted, model_bad, model_read}
use Rattle.lines.proofs.model.model_line.Goals as goal

pub returns-then-line-ne2 : goal.returns-then-line-ne2
returns-then-line-ne2 c = model_miscounted _ _ _ _ c.requires (λ e. c.if-line-ne2.true (c.args.line.fielded.counted ∙ e)) refl

pub returns-in_default : goal.returns-in_default
returns-in_default c =
    model_bad _ _ _ _ c.requires (sym c.args.line.fielded.counted ∙ c.if-line-ne2.false) c.field.ensures c.read_side.ensures c.in_default.is refl

pub returns : goal.returns
returns c =
    model_read _ _ _ _ c.requires (sym c.args.line.fielded.counted ∙ c.if-line-ne2.false) c.field.ensures c.read_side.ensures c.in-Some.is (lit≤ tt)
    c.settle_model.ensures
