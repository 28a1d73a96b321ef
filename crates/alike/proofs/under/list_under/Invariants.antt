-- `alike::under::list_under` meets its contract. The invariant of its loop: the marked formulas from i on are listed. Assumes nothing.
use Rattle.alike.specs.Under.{Room}
use Rattle.alike.proofs.Listing.{SoFar}
use Rattle.alike.proofs.under.list_under.Given as goal

abbrev pub invariant-loop-i : goal.invariant-loop-i
invariant-loop-i l = Room l.marks l.list l.slots × SoFar l.formulas l.end l.initial.marks l.marks l.list l.slots l.count l.i
