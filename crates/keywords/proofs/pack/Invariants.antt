-- `keywords::pack` meets its contract. The loop's invariant: `key` is that of the bytes behind those that are left.
-- Assumes nothing.
use Rattle.std.proofs.Common.{◌≡◌, List, ◌++◌, ℕ}
use Rattle.keywords.specs.Words.{key_of}
use Rattle.keywords.proofs.pack.Given as goal

abbrev pub invariant-loop-b : goal.invariant-loop-b
invariant-loop-b l = (ys : List ℕ) × (l.b-iterator.iter.rest.now ++ ys ≡ l.field) × (l.key ≡ key_of ys)
