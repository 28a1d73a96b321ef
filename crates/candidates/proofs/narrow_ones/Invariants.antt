-- `candidates::narrow_ones` meets its contract: candidates filtered one by one. Assumes nothing.
use Prim.Native.Nat.{◌^◌, ◌<◌}
use lib.ListN.{get_or}
use Rattle.atomset.specs.Walk.{members_left}
use Rattle.candidates.specs.Candidates.{Few}
use Rattle.alike.proofs.Remaining.{Filtering}
use Rattle.candidates.proofs.narrow_ones.Given as goal

abbrev pub invariant-loop-c : goal.invariant-loop-c
invariant-loop-c l = (l.kept < 2 ^ 64) × Filtering (λ c. Few l.swapped.notes.now l.swapped.atoms (get_or l.swapped.side.now c 0)) l.alive l.kept (members_left l.c-iterator)
