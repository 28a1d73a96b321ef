-- `schema::additions::negation_on` meets its contract. The loop's invariant: the negation is looked for in the rest of the side.
use mathlib.Core.Path.{◌≡◌}
use lib.ListN.{drop}
use Rattle.schema.specs.Additions.{negation_in}
use Rattle.schema.proofs.additions.negation_on.Given as goal

abbrev pub invariant-loop-x : goal.invariant-loop-x
invariant-loop-x l = negation_in l.formulas l.side l.a ≡ negation_in l.formulas (drop l.x-index l.side) l.a
