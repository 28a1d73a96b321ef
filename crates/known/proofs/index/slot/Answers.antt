-- `known::index::slot` meets its contract. Assumes nothing.
use Rattle.known.proofs.index.slot.Goals as goal

pub returns : goal.returns
returns c = let word = c.from.ensures in let first = c.from-2.ensures in let second = c.from-3.ensures in cc
