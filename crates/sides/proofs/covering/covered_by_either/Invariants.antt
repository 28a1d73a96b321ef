-- `sides::covering::covered_by_either` meets its contract. The loop's invariant: the numbers of a before i are in b or in c, and what the
-- two cursors have passed is below a[i].
use Prim.Native.Nat.{ℕ, ◌-◌}
use mathlib.Core.Bool.{true}
use mathlib.Core.List.{List, ◌++◌}
use mathlib.Core.Path.{◌≡◌}
use lib.ListN.{length}
use Rattle.format.specs.Text.{strictly_rising}
use Rattle.sides.proofs.Either.{Passed, Found}
use Rattle.sides.proofs.covering.covered_by_either.Given as goal

pub record Cursors (a b c : List ℕ) (i j k : ℕ) : Type 0 where
  pub found : Found a i (b ++ c)
  pub passed_b : strictly_rising a ≡ true → Passed a i b j
  pub passed_c : strictly_rising a ≡ true → Passed a i c k

abbrev pub invariant-loop-i : goal.invariant-loop-i
invariant-loop-i l = Cursors l.a l.b l.c l.i l.j l.k

abbrev pub decreases-loop-i : goal.decreases-loop-i
decreases-loop-i l = length l.a - l.i
