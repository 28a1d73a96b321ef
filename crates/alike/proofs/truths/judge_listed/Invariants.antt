-- `alike::truths::judge_listed` meets its contract. The invariant of its loop: the formulas from k on are judged. Assumes nothing.
use Prim.Native.Nat.{◌*◌, ◌≤◌}
use lib.ListN.{length}
use Rattle.alike.specs.Blocks.{truth_words}
use Rattle.alike.proofs.TruthBits.{JudgedFrom}
use Rattle.alike.proofs.truths.judge_listed.Given as goal

abbrev pub invariant-loop-k : goal.invariant-loop-k
invariant-loop-k l = (truth_words * l.steps.count ≤ length l.initial.table) × JudgedFrom l.steps.records.now l.steps.count l.steps.places.now l.sets.h l.sets.g l.sets.t l.initial.table l.table l.k
