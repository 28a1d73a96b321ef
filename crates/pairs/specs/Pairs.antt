-- Whether a formula holds in a here-and-there pair (h,t) of sets of atoms, each one word, computed.
use Rattle.std.specs.Prelude.{ℕ, Bool, false, not, ◌&&◌, ◌||◌}
use Rattle.equilibrium.specs.Formula.{Formula, falsum, atom, neg, conj, disj, imp}
use Rattle.atomset.specs.AtomSet.{has}

-- in the pair (h,t): `~A` looks at (t,t) alone, and `A->B` at both pairs
unfoldable pub holds_in : ℕ → ℕ → Formula → Bool
holds_in h t falsum = false
holds_in h t (atom p) = has h p
holds_in h t (neg A) = not (holds_in t t A)
holds_in h t (conj A B) = holds_in h t A && holds_in h t B
holds_in h t (disj A B) = holds_in h t A || holds_in h t B
holds_in h t (imp A B) = (not (holds_in t t A) || holds_in t t B) && (not (holds_in h t A) || holds_in h t B)
