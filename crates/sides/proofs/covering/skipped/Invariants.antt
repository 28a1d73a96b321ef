-- `sides::covering::skipped` meets its contract. The loop's invariant: from `at` to i every number is below x.
use Prim.Native.Nat.{ℕ, ◌-◌, ◌≤◌, ◌<◌}
use mathlib.Core.List.{List}
use lib.ListN.{length, get_or}
use Rattle.sides.proofs.covering.skipped.Given as goal

abbrev pub Below : List ℕ → ℕ → ℕ → ℕ → Type 0
Below side at x i = (k : ℕ) → at ≤ k → k < i → get_or side k 0 < x

abbrev pub invariant-loop-i : goal.invariant-loop-i
invariant-loop-i l = Below l.side l.at l.x l.i

abbrev pub decreases-loop-i : goal.decreases-loop-i
decreases-loop-i l = length l.side - l.i
