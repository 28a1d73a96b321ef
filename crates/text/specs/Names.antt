-- The bytes of a name.
use Rattle.std.specs.Prelude.{ℕ, Bool, ◌||◌, eqb}
use Rattle.format.specs.Text.{is_digit, is_letter}

-- a-z, 0-9 or `_`
abbrev pub name_byte : ℕ → Bool
name_byte b = is_letter b || is_digit b || eqb b 95
