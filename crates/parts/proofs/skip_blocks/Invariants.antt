-- `parts::skip_blocks` meets its contract. The loop's invariant: what is looked for from `from` is what is looked for from `at`.
-- Assumes nothing.
use Prim.Native.Nat.{◌-◌}
use mathlib.Core.Path.{◌≡◌}
use lib.ListN.{length}
use Rattle.parts.specs.Parts.{next_at}
use Rattle.parts.proofs.skip_blocks.Given as goal

abbrev pub invariant-loop-at : goal.invariant-loop-at
invariant-loop-at l = next_at l.byte l.bytes l.from ≡ next_at l.byte l.bytes l.at

abbrev pub decreases-loop-at : goal.decreases-loop-at
decreases-loop-at l = length l.bytes - l.at
