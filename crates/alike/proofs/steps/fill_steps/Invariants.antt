-- `alike::steps::fill_steps` meets its contract. The invariant of its loop: the first k steps are there. Assumes nothing.
use Prim.Native.Nat.{◌-◌}
use lib.ListN.{length}
use Rattle.alike.proofs.Stepping.{FilledTo}
use Rattle.alike.proofs.steps.fill_steps.Given as goal

abbrev pub invariant-loop-k : goal.invariant-loop-k
invariant-loop-k l = FilledTo l.formulas l.list l.slots l.initial.steps l.steps l.k
