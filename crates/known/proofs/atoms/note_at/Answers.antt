-- `known::atoms::note_at` meets its contract. Assumes nothing.
use Prim.Native.Nat.{ℕ}
use mathlib.Core.Path.{ap, ◌∙◌}
use lib.ListN.{get_or}
use Rattle.known.proofs.atoms.note_at.Goals as goal

pub returns : goal.returns
returns c = c.note.ensures ∙ ap (λ (k : ℕ). get_or c.args.notes.now k 0) c.from.ensures
