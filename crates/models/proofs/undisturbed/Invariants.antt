-- `models::undisturbed` meets its contract. The invariants of its loops: no part before this one upsets the model, and those formulas of the
-- sheet that were passed hold in this part with the model. Assumes nothing.
use mathlib.Core.Bool.{false}
use mathlib.Core.Path.{◌≡◌}
use lib.ListN.{length}
use Rattle.format.specs.Tables.{most_formulas}
use Rattle.pairs.specs.Truths.{noted_at}
use Rattle.models.specs.Models.{upsets, some_below}
use Rattle.models.proofs.Passing.{Passed}
use Rattle.models.proofs.undisturbed.Given as goal

abbrev pub invariant-loop-i : goal.invariant-loop-i
invariant-loop-i l = (l.upset ≡ false) × Passed (noted_at l.here) l.sheet l.i

abbrev pub invariant-parts : goal.invariant-parts
invariant-parts l = (l.upset ≡ false) × (length l.here ≡ most_formulas) × (some_below (upsets l.formulas l.sheet l.model) l.n ≡ false)
