-- `known::index::put_word` meets its contract: outside the table nothing is stored. Assumes nothing.
use mathlib.Core.Path.{sym}
use lib.Seq.{set_out}
use Rattle.known.proofs.index.put_note.Goals as goal

pub returns-else-at-notes : goal.returns-else-at-notes
returns-else-at-notes c = sym (set_out _ _ _ c.if-at-notes.false)
