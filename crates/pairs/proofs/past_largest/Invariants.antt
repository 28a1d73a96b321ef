-- `pairs::past_largest` meets its contract. The invariant of its loop: those passed are below, and no number below it is past them all. Assumes nothing.
use Prim.Native.Nat.{ℕ, ◌≤◌, ◌<◌}
use lib.ListN.{get_or}
use Rattle.equilibrium.specs.Meaning.{◌∈◌}
use Rattle.pairs.proofs.past_largest.Given as goal

abbrev pub invariant-loop-x : goal.invariant-loop-x
invariant-loop-x l = ((j : ℕ) → j < l.x-index → get_or l.side j 0 < l.past) × ((m : ℕ) → ((x : ℕ) → x ∈ l.side → x < m) → l.past ≤ m)
