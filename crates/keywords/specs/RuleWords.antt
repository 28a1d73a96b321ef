-- The words of the rules held end to end, with their starts (paper 02, M-103), and the one rule whose word a field can be.
use Rattle.std.specs.Prelude.{ℕ, ◌+◌, ◌-◌, ◌*◌, ◌/◌, ◌%◌, ◌<◌, true, [], map, ◌≡◌, length, get_or}
use Rattle.elk.specs.Rules.{Rule, rules, code_of, word_of}
use Rattle.format.specs.Text.{Bytes, bytes, is}
use Rattle.format.specs.Tables.{part, join_all}

-- the start of a code's word; past the last one, the end of all words
abbrev pub start_in : Bytes → Bytes → ℕ → ℕ
start_in words starts code = get_or starts code (length words)

-- the bytes from a code's start to the next one, or to the end
abbrev pub word_in : Bytes → Bytes → ℕ → Bytes
word_in words starts code = part words (start_in words starts code) (start_in words starts (code + 1) - start_in words starts code)

-- The words of the rules stand in these 184 bytes, end to end in the order of their codes, and each exactly from its start to the next
-- one, or to the end.
pub record WordsStand (words starts : Bytes) : Type 0 where
  pub whole : length words ≡ 184
  pub end_to_end : words ≡ join_all (λ r. bytes (word_of r)) rules
  pub count : length starts ≡ length rules
  pub each : (r : Rule) → word_in words starts (code_of r) ≡ bytes (word_of r)

-- the word of a code; no bytes where no rule has it
abbrev pub word_at : ℕ → Bytes
word_at code = get_or (map (λ r. bytes (word_of r)) rules) code []

-- ---- finding the word

-- a place among 64 by a field's length, its second byte and its last two: no two rules' words have one place
abbrev pub place_of : Bytes → ℕ
place_of field = (17 * length field + 2 * get_or field 1 0 + 3 * get_or field (length field - 2) 0 / 2 + get_or field (length field - 1) 0) % 64

-- a table of 64 codes that has each rule's at the place of its word
pub record CodesPlaced (codes : Bytes) : Type 0 where
  pub count : length codes ≡ 64
  pub held : (place : ℕ) → get_or codes place 0 < length rules
  pub each : (r : Rule) → get_or codes (place_of (bytes (word_of r))) 0 ≡ code_of r

-- the code of a rule, and the only one whose word the field can be
pub record Candidate (field : Bytes) (code : ℕ) : Type 0 where
  pub held : code < length rules
  pub only : (r : Rule) → is (word_of r) field ≡ true → code ≡ code_of r
