-- `alike::blocks::also_in` meets its contract. Assumes nothing.
use Rattle.alike.specs.Blocks.{also_in}
use Rattle.alike.proofs.blocks.also_in.Goals as goal

pub returns : goal.returns
unfolding also_in
returns c = cc
