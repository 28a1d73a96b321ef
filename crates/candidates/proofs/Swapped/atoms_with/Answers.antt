-- `candidates::Swapped::atoms_with` meets its contract. Assumes nothing.
use Prim.Native.Nat.{ℕ}
use mathlib.Core.Path.{ap, ◌∙◌}
use lib.Bits.{bit_or}
use lib.ListN.{get_or}
use Rattle.candidates.proofs.Swapped.atoms_with.Goals as goal

pub returns : goal.returns
returns c =
    let self = c.args.self in
    ap (bit_or self.atoms) (c.note.ensures ∙ ap (λ (x : ℕ). get_or self.notes.now x 0) c.formula_at.ensures)
