-- `alike::mark_candidates` meets its contract. The invariant of its loop: the candidates that are not in the rest are marked. Assumes
-- nothing.
use Prim.Native.Nat.{ℕ, ◌^◌, ◌≤◌, ◌<◌}
use mathlib.Core.List.{List}
use mathlib.Core.Logic.{◌⊎◌}
use mathlib.Core.Path.{◌≡◌}
use lib.ListN.{length, get_or}
use Rattle.equilibrium.specs.Meaning.{◌∈◌}
use Rattle.format.specs.Tables.{most_formulas}
use Rattle.atomset.specs.AtomSet.{Member}
use Rattle.atomset.specs.Walk.{members_left}
use Rattle.alike.specs.Under.{Marked}
use Rattle.alike.proofs.mark_candidates.Given as goal

pub record MarkedSoFar (side : List ℕ) (candidates : ℕ) (marks₀ marks rest : List ℕ) : Type 0 where
  pub long : length marks ≡ length marks₀
  pub kept : (x : ℕ) → Marked marks₀ x → Marked marks x
  pub passed :
      (c : ℕ) → Member c candidates → get_or side c 0 < most_formulas → most_formulas ≤ length marks₀ → (c ∈ rest) ⊎ Marked marks (get_or side c 0)

abbrev pub invariant-loop-c : goal.invariant-loop-c
invariant-loop-c l = MarkedSoFar l.side l.candidates l.initial.marks l.marks (members_left l.c-iterator)
