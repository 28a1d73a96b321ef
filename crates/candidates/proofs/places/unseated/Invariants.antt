-- `candidates::places::unseated` meets its contract: atoms filtered one by one. Assumes nothing.
use Prim.Native.Nat.{◌^◌, ◌≤◌, ◌<◌}
use Rattle.atomset.specs.Walk.{members_left}
use Rattle.alike.specs.Truths.{place_of}
use Rattle.alike.specs.Survivors.{most_places}
use Rattle.alike.proofs.Remaining.{Filtering}
use Rattle.candidates.proofs.places.unseated.Given as goal

abbrev pub invariant-loop-atom : goal.invariant-loop-atom
invariant-loop-atom l = (l.lacking < 2 ^ 64) × Filtering (λ p. most_places ≤ place_of l.places p) l.set l.lacking (members_left l.atom-iterator)
