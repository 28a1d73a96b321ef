-- `text::lists::store_run` meets its contract. The loop's invariant is `Storing`: the numbers that are left go where the places that are
-- left begin. Assumes nothing.
use Rattle.std.proofs.Common.{◌+◌, ◌-◌, ◌≤◌}
use Rattle.text.proofs.ListLaws.{Storing}
use Rattle.text.proofs.lists.store_run.Given as goal

abbrev pub invariant-loop-place : goal.invariant-loop-place
invariant-loop-place l =
    (l.at ≤ l.place) × Storing l.initial.out l.at l.first l.last l.out l.place (l.first + (l.place - l.at)) (l.last + 1 - l.first - (l.place - l.at))
