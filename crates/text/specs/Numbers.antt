-- What the readers of a number and of a principal formula answer, as a function of what the field writes
-- (`Rattle.format.specs.Text`).
use Rattle.std.specs.Prelude.{ℕ, ◌+◌, ◌≡◌, cond, [], ◌∷◌, length, drop, Option, None, Some}
use Rattle.std.proofs.Math.Option as Math
use Rattle.format.specs.Text.{Bytes, is_digit, number_of, principal_of}
use Rattle.parts.specs.Refusals.{bad_if_none, refusal_of}

-- a number, or none
abbrev pub number_as : Math.Option ℕ → Option ℕ
number_as Math.none = None
number_as (Math.some n) = Some n

pub record NumberRead (field : Bytes) (r : Option ℕ) : Type 0 where
  pub answer : r ≡ number_as (number_of field)
  pub refusal : refusal_of r ≡ bad_if_none (number_of field)

-- a number or `-`, where it is well written
abbrev pub principal_as : Math.Option (Math.Option ℕ) → Option (Option ℕ)
principal_as Math.none = None
principal_as (Math.some i) = Some (number_as i)

pub record PrincipalRead (field : Bytes) (r : Option (Option ℕ)) : Type 0 where
  pub answer : r ≡ principal_as (principal_of field)
  pub refusal : refusal_of r ≡ bad_if_none (principal_of field)

-- ---- a number within a field

-- a number and the place after it
abbrev pub entry_as : Option ℕ → ℕ → Option (ℕ × ℕ)
entry_as None end = None
entry_as (Some n) end = Some (n, end)

-- the digits at the start
unfoldable pub digits_ahead : Bytes → Bytes
digits_ahead [] = []
digits_ahead (b ∷ bs) = cond (is_digit b) (b ∷ digits_ahead bs) []

-- the number that the run of digits from a place on writes
unfoldable pub number_at : Bytes → ℕ → Option (ℕ × ℕ)
number_at field start = entry_as (number_as (number_of (digits_ahead (drop start field)))) (start + length (digits_ahead (drop start field)))
