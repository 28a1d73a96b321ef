-- `text::lists::read_items` meets its contract. The loop's invariant is `Listing`: the items before `at` are read.
-- Assumes nothing.
use Prim.Native.Nat.{◌-◌}
use lib.ListN.{length}
use Rattle.text.proofs.Listing.{Listing}
use Rattle.text.proofs.lists.read_items.Given as goal

abbrev pub invariant-loop-item : goal.invariant-loop-item
invariant-loop-item l = Listing l.runs l.field l.initial.out l.out l.listed l.at

abbrev pub decreases-loop-item : goal.decreases-loop-item
decreases-loop-item l = length l.field - l.at
