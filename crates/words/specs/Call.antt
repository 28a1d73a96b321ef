-- What the call answers, and what it leaves in the lent text and in the lent tables (paper 02, M-100).
use Rattle.std.specs.Prelude.{ℕ, cond, [], ◌∷◌, eqb, leb, length}
use Rattle.format.specs.Text.{Bytes}
use Rattle.format.specs.Tables.{Lent, padded, Contents}
use Rattle.format.specs.Judged.{Ruling, accepted, turned_down, judged, beginning, held_by}
use Rattle.writer.specs.Writing.{no_room}
use Rattle.words.specs.Words.{words_in}

-- the ruling on a file, and after all its numbers 14, with line 0, where the words are longer than the lent space
abbrev pub fitted : ℕ → Bytes → Ruling → Ruling
fitted space words (accepted l) = cond (leb (length words) space) (accepted l) (turned_down no_room 0)
fitted space words (turned_down n l) = turned_down n l

-- the number and line for a text, with tables of these lengths and so many bytes lent
unfoldable pub words_judged : Lent → ℕ → Bytes → Ruling
words_judged lent space text = fitted space (words_in text) (judged lent text)

-- the words of a call that succeeds, and nothing else
abbrev pub kept : Ruling → Bytes → Bytes
kept (accepted l) words = words
kept (turned_down n l) words = []

-- the lent text in the end: zeros follow the words, and a refusal zeroes it
unfoldable pub words_left : Lent → ℕ → Bytes → Bytes
words_left lent space text = padded space (kept (words_judged lent space text) (words_in text))

-- what the lent tables hold in the end: the file of a call that succeeds, and nothing after any refusal
unfoldable pub words_contents : Lent → ℕ → Bytes → Contents
words_contents lent space text = held_by (words_judged lent space text) (beginning text)

-- what a reader of a lent text sees: the bytes before the first zero
abbrev pub until_zero : Bytes → Bytes
until_zero [] = []
until_zero (b ∷ bs) = cond (eqb b 0) [] (b ∷ until_zero bs)
