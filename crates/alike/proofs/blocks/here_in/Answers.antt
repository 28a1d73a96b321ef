-- `alike::blocks::here_in` meets its contract. Assumes nothing.
use Rattle.alike.specs.Blocks.{here_in}
use Rattle.alike.proofs.blocks.here_in.Goals as goal

pub returns : goal.returns
unfolding here_in
returns c = cc
