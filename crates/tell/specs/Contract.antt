-- The promise of the call that tells a file's rows in words, for any text, any lent tables and any lent text.
use Rattle.std.specs.Prelude.{ℕ, Bool, cond, [], ◌≡◌, leb, length}
use Rattle.format.specs.Text.{Bytes}
use Rattle.format.specs.Tables.{Contents, Lent, padded}
use Rattle.format.specs.Judged.{number_in, line_in, ClaimFails, ClaimShown}
use Rattle.answers.specs.Answers.{filled}
use Rattle.answers.specs.declared.Answer.{Answer}
use Rattle.sentences.specs.Sentences.{table_sentences}
use Rattle.words.specs.Call.{words_judged, words_left, words_contents}

-- the sentences of the first rows of these tables
abbrev pub sentences_of : Bytes → Contents → ℕ → Bytes
sentences_of text t count = table_sentences text t.names t.formulas t.rows t.left t.right 0 count

-- words and zeros after them in a lent text of this length where they fit, and zeros alone where they do not
pub record PutsWords (words : Bytes) (space : ℕ) (text : Bytes) (fit : Bool) : Type 0 where
  pub fits : fit ≡ leb (length words) space
  pub left : text ≡ padded space (cond fit words [])

-- Number and line are those of the definition; the lent text at exit holds exactly the words of the file and zeros after them, and
-- the tables the file, or zeros alone; and a text whose rows are told makes no claim that fails, and one that is confirmed or shows
-- a contradiction.
pub record Tells (text : Bytes) (lent : Lent) (space : ℕ) (t : Contents) (words : Bytes) (answer : Answer) : Type 0 where
  pub number : answer.number ≡ number_in (words_judged lent space text)
  pub line : answer.line ≡ line_in (words_judged lent space text)
  pub words_told : words ≡ words_left lent space text
  pub tables : t ≡ filled lent (words_contents lent space text)
  pub claim_holds : answer.number ≡ 0 → ClaimFails text → ⊥
  pub claim_shown : answer.number ≡ 0 → ClaimShown text
