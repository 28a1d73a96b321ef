-- `run::run` meets its contract: the loop keeps `Reached`, in the tables that were lent.
use Prim.Native.Nat.{◌-◌}
use lib.ListN.{length}
use Rattle.run.specs.Lent.{held_with, Same}
use Rattle.run.proofs.Running.{Reached}
use Rattle.run.proofs.run.Given as goal

abbrev pub invariant-loop-end : goal.invariant-loop-end
invariant-loop-end l =
    Same l.initial.lent l.lent
    × Reached l.text (held_with l.initial.lent l.initial.notes) l.line l.at l.end l.state (held_with l.lent l.notes)

abbrev pub decreases-loop-end : goal.decreases-loop-end
decreases-loop-end l = length l.text - l.at
