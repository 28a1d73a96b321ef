-- The refusal numbers that the readers' answers stand for (paper 01, "How a text is turned down").
use Rattle.std.specs.Prelude.{ℕ, Bool, true, false, Option as Answer, None, Some}
use Rattle.std.proofs.Math.Option.{Option, none, some}

-- no LF, unknown kind or word, wrong fields, number or list badly written
abbrev pub bad_line : ℕ
bad_line = 3

-- what is not well written is a bad line; what is well written is not refused by its reader
abbrev pub bad_unless : Bool → Option ℕ
bad_unless true = none
bad_unless false = some bad_line

-- the same of what can be read or not
abbrev pub bad_if_none : {A : Type 0} → Option A → Option ℕ
bad_if_none none = some bad_line
bad_if_none (some a) = none

-- and of a reader's answer
abbrev pub refusal_of : {A : Type 0} → Answer A → Option ℕ
refusal_of None = some bad_line
refusal_of (Some a) = none
