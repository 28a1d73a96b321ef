-- `parts::block_lacks` meets its contract. The loop's invariant: while `lacks` holds, what is looked for from `at` is what is looked for from `i`.
-- Assumes nothing.
use Prim.Native.Nat.{◌+◌, ◌-◌, ◌≤◌}
use mathlib.Core.Path.{◌≡◌}
use mathlib.Core.Bool.{true}
use Rattle.parts.specs.Parts.{next_at}
use Rattle.parts.proofs.block_lacks.Given as goal

abbrev pub invariant-loop-i : goal.invariant-loop-i
invariant-loop-i l = (l.i ≤ l.at + 16) × (l.lacks ≡ true → next_at l.byte l.bytes l.at ≡ next_at l.byte l.bytes l.i)

abbrev pub decreases-loop-i : goal.decreases-loop-i
decreases-loop-i l = l.at + 16 - l.i
