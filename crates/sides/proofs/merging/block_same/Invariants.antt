-- `sides::merging::block_same` meets its contract. The invariant of its loop: while `same` holds, the first k numbers are the same.
use Prim.Native.Nat.{ℕ, ◌+◌, ◌-◌, ◌≤◌, ◌<◌}
use mathlib.Core.Path.{◌≡◌}
use mathlib.Core.Bool.{true}
use lib.ListN.{get_or}
use Rattle.sides.proofs.merging.block_same.Given as goal

abbrev pub invariant-loop-k : goal.invariant-loop-k
invariant-loop-k l = (l.k ≤ 8) × (l.same ≡ true → (n : ℕ) → n < l.k → get_or l.a (l.i + n) 0 ≡ get_or l.b (l.j + n) 0)

abbrev pub decreases-loop-k : goal.decreases-loop-k
decreases-loop-k l = 8 - l.k
