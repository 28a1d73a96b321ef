-- `pairs::fill_there` meets its contract. The invariant of its loop: the truths of the formulas passed are noted. Assumes nothing.
use mathlib.Core.Path.{◌≡◌}
use lib.ListN.{length}
use Rattle.pairs.specs.Truths.{truths_there, noted}
use Rattle.pairs.proofs.fill_there.Given as goal

abbrev pub invariant-loop-i : goal.invariant-loop-i
invariant-loop-i l = (length l.there ≡ length l.initial.there) × (l.there ≡ noted (truths_there l.formulas l.t l.i) l.initial.there)
