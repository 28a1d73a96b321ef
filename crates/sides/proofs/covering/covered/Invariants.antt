-- `sides::covering::covered` meets its contract. The invariant of its loop: a is covered exactly where its rest from i is, and where
-- both lists rise, all before j in b is below a[i]. So a number of a that is below b[j], or finds b at its end, is not in b. Assumes nothing.
use Prim.Native.Nat.{ℕ, ◌+◌, ◌-◌, ◌<◌}
use mathlib.Core.Bool.{true}
use mathlib.Core.List.{List}
use mathlib.Core.Path.{◌≡◌}
use lib.ListN.{length, get_or, drop}
use Rattle.format.specs.Text.{strictly_rising}
use Rattle.sides.proofs.Sets.{covered_by}
use Rattle.sides.proofs.covering.covered.Given as goal

pub record Cursors (a : List ℕ) (x y : ℕ) (b : List ℕ) (i j : ℕ) : Type 0 where
  pub settled : covered_by a x y b ≡ covered_by (drop i a) x y b
  pub below : strictly_rising a ≡ true → strictly_rising b ≡ true → i < length a → (k : ℕ) → k < j → get_or b k 0 < get_or a i 0

abbrev pub invariant-loop-i : goal.invariant-loop-i
invariant-loop-i l = Cursors l.a l.x l.y l.b l.i l.j

abbrev pub decreases-loop-i : goal.decreases-loop-i
decreases-loop-i l = (length l.a - l.i) + (length l.b - l.j)
