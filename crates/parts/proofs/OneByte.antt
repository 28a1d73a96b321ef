-- A field of one byte is told by that byte. Assumes nothing.
use Prim.Native.Nat.{ℕ}
use mathlib.Core.Path.{◌≡◌, refl}
use mathlib.Core.Bool.{false, and-true, and-false}
use mathlib.Core.List.{[], ◌∷◌}
use native.Mathlib.Omega.{arith}
use lib.Dec.{eqb}
use lib.ListN.{length, get_or}
use Rattle.format.specs.Text.{Bytes, same_list}

pub one_byte : (field : Bytes) (b : ℕ) → length field ≡ 1 → same_list field (b ∷ []) ≡ eqb (get_or field 0 0) b
unfolding same_list
one_byte [] b h = absurd (omega arith)
one_byte (x ∷ []) b h = and-true (eqb x b)
one_byte (x ∷ y ∷ ys) b h = absurd (omega arith)

pub not_one_byte : (field : Bytes) (b : ℕ) → (length field ≡ 1 → ⊥) → same_list field (b ∷ []) ≡ false
unfolding same_list
not_one_byte [] b h = refl
not_one_byte (x ∷ []) b h = absurd (h refl)
not_one_byte (x ∷ y ∷ ys) b h = and-false (eqb x b)
