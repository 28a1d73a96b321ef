-- `text::lists::store` meets its contract: a store past the end changes nothing. Assumes nothing.
use mathlib.Core.Path.{sym}
use lib.Seq.{set_out}
use Rattle.text.proofs.lists.store.Goals as goal

pub returns-then-at-out : goal.returns-then-at-out
returns-then-at-out c = cc

pub returns-else-at-out : goal.returns-else-at-out
returns-else-at-out c = sym (set_out _ _ _ c.if-at-out.false)
