-- `pairs::fill_here` meets its contract. The invariant of its loop: the truths of the formulas passed are noted. Assumes nothing.
use mathlib.Core.Path.{◌≡◌}
use lib.ListN.{length}
use Rattle.pairs.specs.Truths.{truths_here, noted, noted_at}
use Rattle.pairs.proofs.fill_here.Given as goal

abbrev pub invariant-loop-i : goal.invariant-loop-i
invariant-loop-i l = (length l.here ≡ length l.initial.here) × (l.here ≡ noted (truths_here l.formulas l.h (noted_at l.there) l.i) l.initial.here)
