-- `alike::survivors::any_alike` meets its contract. Assumes nothing.
use borrow.Author.Rules.{rules}
use Rattle.alike.proofs.Choosing.{any_alike}
use Rattle.alike.proofs.survivors.any_alike.Goals as goal

pub returns : goal.returns
returns c = any_alike c.alike_all.ensures c.requires.1 _ c.is_empty.ensures (search rules)
