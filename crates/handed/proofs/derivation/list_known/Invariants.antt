-- `handed::derivation::list_known` meets its contract. The loop's invariant: what is known of the numbers passed.
use mathlib.Core.Path.{◌≡◌}
use lib.ListN.{take}
use Rattle.text.specs.Lists.{listed_of}
use Rattle.handed.proofs.derivation.list_known.Given as goal

abbrev pub invariant-loop-x : goal.invariant-loop-x
invariant-loop-x l = record { count = l.x-index; above = l.above; rising = l.rising } ≡ listed_of (take l.x-index l.list)
