-- `alike::blocks::joined_truth` meets its contract. Assumes nothing.
use mathlib.Core.Path.{ap, ap₂, ◌∙◌}
use Rattle.alike.specs.Blocks.{both_of, raised_of}
use Rattle.alike.proofs.BlockDigits.{truth_is}
use Rattle.alike.proofs.blocks.joined_truth.Goals as goal

pub returns : goal.returns
returns c =
    let there = c.joined-there.ensures in
    let bound = c.raised-bound.ensures ∙ ap (raised_of c.args.signs.alone) there in
    truth_is (c.both.ensures ∙ ap₂ both_of bound c.joined.ensures) (c.both-2.ensures ∙ ap₂ both_of bound c.joined-2.ensures) there
