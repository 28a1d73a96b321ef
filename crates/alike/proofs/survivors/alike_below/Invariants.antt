-- `alike::survivors::alike_below` meets its contract. The invariant of its loop: the candidates left are alike in the parts gone
-- through. Assumes nothing.
use Prim.Native.Nat.{◌-◌, ◌^◌, ◌≤◌}
use mathlib.Core.Path.{◌≡◌}
use lib.ListN.{length}
use Rattle.atomset.specs.AtomSet.{members}
use Rattle.alike.proofs.Surviving.{BelowSoFar}
use Rattle.alike.proofs.survivors.alike_below.Given as goal

abbrev pub invariant-loop-n : goal.invariant-loop-n
invariant-loop-n l = (l.last ≡ 2 ^ length (members l.t)) × (l.last ≤ 256) × BelowSoFar l.steps.records.now l.steps.count l.steps.slots.now l.steps.places.now l.t l.question.own l.question.side.now l.question.candidates l.initial.table l.table l.kept l.n

abbrev pub decreases-loop-n : goal.decreases-loop-n
decreases-loop-n l = l.last - l.n
