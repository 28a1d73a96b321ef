-- Words of atoms as the sets of `unst`: V, S and its rest. A property of atoms has at most one word.
use Prim.Native.Nat.{ℕ, ◌-◌, ◌^◌, ◌<◌}
use native.Mathlib.Omega.{arith}
use mathlib.Core.Bool.{true, not, ◌&&◌}
use mathlib.Core.List.{List}
use mathlib.Core.Path.{◌≡◌, sym, ◌∙◌}
use lib.Bits.{bit_and, and_lt}
use Rattle.atomset.specs.AtomSet.{has, Member}
use Rattle.atomset.proofs.Digits.{has_and_not}
use Rattle.atomset.proofs.Membership.{member_difference, included_antisym}
use Rattle.unstable.specs.Unstable.{occurs_on, WordOf}

-- a property has one word
pub word_unique : {P : ℕ → Type 0} {a b : ℕ} → WordOf P a → WordOf P b → a ≡ b
word_unique {a} {b} wa wb =
    included_antisym 64 a b wa.small wb.small (λ p m. (wb.its p).1 ((wa.its p).0 m)) (λ p m. (wa.its p).1 ((wb.its p).0 m))

-- the atoms of a side, as they were gathered
pub atoms_word :
    (notes side : List ℕ) (v : ℕ) → v < 2 ^ 64 → ((p : ℕ) → has v p ≡ occurs_on notes side p) → WordOf (λ p. occurs_on notes side p ≡ true) v
atoms_word notes side v h e = record { small = h; its = λ p. (λ m. sym (e p) ∙ m, λ t. e p ∙ t) }

-- v without the members of set
pub difference_word :
    (v set others : ℕ) → others < 2 ^ 64 → ((p : ℕ) → has others p ≡ (has v p && not (has set p)))
    → WordOf (λ p. Member p v × (Member p set → ⊥)) others
difference_word v set others h e = record { small = h; its = member_difference v set others e }

abbrev pub rest_of : ℕ → ℕ → ℕ
rest_of v set = bit_and v ((2 ^ 64 - 1) - set)

pub rest_word : {v set : ℕ} → v < 2 ^ 64 → set < 2 ^ 64 → WordOf (λ p. Member p v × (Member p set → ⊥)) (rest_of v set)
rest_word {v} {set} hv hs =
    difference_word v set (rest_of v set) (and_lt 64 v ((2 ^ 64 - 1) - set) hv (omega arith)) (λ p. has_and_not 64 v set p hv hs)
