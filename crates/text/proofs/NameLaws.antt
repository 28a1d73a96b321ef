-- A test of every byte, and the cases of `is_name`.
-- Assumes nothing.
use Prim.Native.Nat.{ℕ, ◌≤◌, ◌<◌}
use mathlib.Core.Path.{◌≡◌, refl, ap}
use mathlib.Core.Bool.{Bool, true, false, ◌&&◌, and-false}
use Rattle.std.specs.List.{list_all}
use mathlib.Core.List.{[], ◌∷◌}
use native.Mathlib.Omega.{arith}
use lib.ListN.{length, get_or}
use borrow.Author.Tests.{le-leb, lt-leb}
use Rattle.format.specs.Text.{Bytes, all, is_name, is_letter, starts_with_letter}
use Rattle.text.specs.Names.{name_byte}

pub all_listed : (test : ℕ → Bool) (bs : Bytes) → all test bs ≡ list_all test bs
all_listed test [] = refl
all_listed test (b ∷ bs) = ap (λ t. test b && t) (all_listed test bs)

starts : (field : Bytes) → starts_with_letter field ≡ is_letter (get_or field 0 0)
starts [] = refl
starts (b ∷ bs) = refl

pub name_empty : (field : Bytes) → length field ≡ 0 → is_name field ≡ false
unfolding is_name
name_empty [] h = refl
name_empty (b ∷ bs) h = absurd (omega arith)

module _ (field : Bytes) where
  pub name_start_lem : is_letter (get_or field 0 0) ≡ false → is_name field ≡ false
  unfolding is_name
  name_start_lem e = simp (starts field, e)

  pub name_long : 24 < length field → is_name field ≡ false
  unfolding is_name
  name_long h = simp (lt-leb (length field) 24 h, and-false)

  pub name_bytes : length field ≤ 24 → is_letter (get_or field 0 0) ≡ true → is_name field ≡ all name_byte field
  unfolding is_name
  name_bytes h e = simp (le-leb _ _ h, starts field, e)
