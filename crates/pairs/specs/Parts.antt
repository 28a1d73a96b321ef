-- The parts of a set of atoms, counted: part n holds the set's j-th atom where n has digit j. So the parts of k atoms are
-- those of 0, 1, .. up to 2^k - 1, and the last is the set itself.
use Rattle.std.specs.Prelude.{ℕ, ◌/◌, List, [], ◌∷◌}
use Rattle.atomset.specs.AtomSet.{has, cons_if}

-- part n of the atoms listed
unfoldable pub part : ℕ → List ℕ → List ℕ
part n [] = []
part n (p ∷ ps) = cons_if (has n 0) p (part (n / 2) ps)
