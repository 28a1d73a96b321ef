-- `alike::blocks::put_truth` meets its contract: its three blocks one after the other. Assumes nothing.
use Rattle.alike.proofs.BlockDigits.{truth_put}
use Rattle.alike.proofs.blocks.put_truth.Goals as goal

pub returns : goal.returns
returns c =
    truth_put c.args.table.now c.args.slot c.args.truth c.requires c.put_block.ensures c.put_block-2.ensures
    c.put_block-3.ensures
