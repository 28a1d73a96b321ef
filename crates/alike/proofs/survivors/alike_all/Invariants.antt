-- `alike::survivors::alike_all` meets its contract. The invariant of its loop: the candidates left are alike with each t gone
-- through. Assumes nothing.
use Prim.Native.Nat.{◌-◌, ◌^◌, ◌≤◌}
use mathlib.Core.Path.{◌≡◌}
use lib.ListN.{length}
use Rattle.atomset.specs.AtomSet.{members}
use Rattle.alike.proofs.Surviving.{AllSoFar}
use Rattle.alike.proofs.survivors.alike_all.Given as goal

abbrev pub invariant-loop-m : goal.invariant-loop-m
invariant-loop-m l = (l.last ≡ 2 ^ length (members l.outer)) × (l.m ≤ l.last) × AllSoFar l.steps.records.now l.steps.count l.steps.slots.now l.steps.places.now l.outer l.question.own l.question.side.now l.question.candidates l.initial.table l.table l.kept l.m
