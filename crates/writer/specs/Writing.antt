-- What a writer does to a lent text: the words stand after what was written before, or there was no room for them. How far it is
-- written is Rust's option: up to a byte, or there was no room.
use Rattle.std.specs.Prelude.{ℕ, ◌+◌, ◌≤◌, ◌≡◌, [], ◌∷◌, ◌++◌, ltb, length, take, Option as Reach, Some, None}
use Rattle.std.proofs.Math.Option.{Option, none, some}
use Rattle.format.specs.Text.{Bytes}
use Rattle.format.specs.Tests.{◌when◌, first}

-- the number of a lent space that is too small (paper 02, M-100)
abbrev pub no_room : ℕ
no_room = 14

-- how far a text is written, where no number of 02 applies, and where one does
abbrev pub written_as : Option ℕ → ℕ → Reach ℕ
written_as none end = Some end
written_as (some n) end = None

-- 02's number of how far a text is written
abbrev pub written_refusal : Reach ℕ → Option ℕ
written_refusal (Some end) = none
written_refusal None = some no_room

-- so many bytes more in a lent text of this length: 14 applies where they do not fit
abbrev pub after : ℕ → Reach ℕ → ℕ → Reach ℕ
after space (Some at) count = written_as (first ((no_room when ltb space (at + count)) ∷ [])) (at + count)
after space None count = None

-- what was written of a lent text: nothing that counts, where there was no room
abbrev pub front : Bytes → Reach ℕ → Bytes
front text (Some at) = take at text
front text None = []

-- from a lent text with something written to one with these words more
pub record Writes (words text : Bytes) (before : Reach ℕ) (text' : Bytes) (after' : Reach ℕ) : Type 0 where
  pub length_kept : length text' ≡ length text
  pub reached : after' ≡ after (length text) before (length words)
  pub refusal : (at : ℕ) → before ≡ Some at → written_refusal after' ≡ first ((no_room when ltb (length text) (at + length words)) ∷ [])
  pub in_front : (at : ℕ) → before ≡ Some at → at + length words ≤ length text → take (at + length words) text' ≡ take at text ++ words
