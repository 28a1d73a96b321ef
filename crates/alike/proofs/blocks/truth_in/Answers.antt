-- `alike::blocks::truth_in` meets its contract. Assumes nothing.
use borrow.Author.Rules.{rules}
use Rattle.alike.specs.Blocks.{here_in, also_in, there_in}
use Rattle.alike.proofs.blocks.truth_in.Goals as goal

pub returns : goal.returns
unfolding here_in also_in there_in
returns c = search rules
