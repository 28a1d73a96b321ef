-- `parts::find_near` meets its contract. The loop's invariant: what is looked for from `from` is what is looked for from `at`.
-- Assumes nothing.
use mathlib.Core.Path.{◌≡◌}
use Rattle.parts.specs.Parts.{next_at}
use Rattle.parts.proofs.find_near.Given as goal

abbrev pub invariant-loop-at : goal.invariant-loop-at
invariant-loop-at l = next_at l.byte l.bytes l.from ≡ next_at l.byte l.bytes l.at
