-- `alike::survivors::still_alike` meets its contract: candidates filtered one by one. Assumes nothing.
use Prim.Native.Nat.{◌^◌, ◌<◌}
use lib.ListN.{get_or}
use Rattle.atomset.specs.Walk.{members_left}
use Rattle.alike.specs.Survivors.{SameHere}
use Rattle.alike.proofs.Remaining.{Filtering}
use Rattle.alike.proofs.survivors.still_alike.Given as goal

abbrev pub invariant-loop-c : goal.invariant-loop-c
invariant-loop-c l =
    (l.kept < 2 ^ 64)
    × Filtering (λ c. SameHere l.table l.slots l.question.own (get_or l.question.side.now c 0)) l.question.candidates l.kept (members_left l.c-iterator)
