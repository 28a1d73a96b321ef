-- `unstable::fixing::fixes` meets its contract. The invariant of its loop: what is to show of the side and of l is what is left to show.
use Rattle.unstable.proofs.FixingPass.{Passing}
use Rattle.unstable.proofs.fixing.fixes.Given as goal

abbrev pub invariant-loop-x : goal.invariant-loop-x
invariant-loop-x l = Passing l.formulas l.side l.l l.set l.others l.fixed l.x-index l.j
