-- The promise of opening a beginning of a file (paper 02, M-105), for any text and any lent tables.
use Rattle.std.specs.Prelude.{ℕ, ◌-◌, ◌≡◌, Bool, true, false, ltb, Result, Ok, Err}
use Rattle.format.specs.Text.{Bytes}
use Rattle.format.specs.File.{File}
use Rattle.format.specs.Tables.{Contents, Lent}
use Rattle.format.specs.Judged.{number_in, line_in}
use Rattle.refusals.specs.declared.Refusal.TheVariants.{BadLine}
use Rattle.state.specs.declared.Refused.{Refused}
use Rattle.run.specs.declared.Ran.{Ran}
use Rattle.run.specs.declared.Stopped.{Stopped}
use Rattle.answers.specs.Answers.{filled}
use Rattle.answers.specs.declared.Accepted.{Accepted}
use Rattle.judge.specs.declared.Judged.{Judged}
use Rattle.counts.specs.Counts.{counts_of}
use Rattle.bodies.specs.Open.{Tables, four, IsOpen, filled as filledBy}
use Rattle.open.specs.Files.{opened, opening_ruling, opening_contents, opening_counts}

-- by whether bytes are left after the complete lines
abbrev pub closing : Bool → Ran → Result Accepted Refused
closing true ran = Err (record { refusal = BadLine; line = ran.line })
closing false ran = Ok (record { line = ran.line - 1; counts = ran.state.counts })

-- the answer after the complete lines of a text of this length
unfoldable pub closed_by : ℕ → Result Ran Stopped → Result Accepted Refused
closed_by len (Err s) = Err s.refused
closed_by len (Ok ran) = closing (ltb ran.at len) ran

-- Number and line are those of the definition, the counts are those of the file that is opened, and the tables at exit hold exactly
-- that file and zeros after it; a text that is refused leaves no counts and zeros alone.
pub record Opens (text : Bytes) (lent : Lent) (t : Contents) (r : Judged) : Type 0 where
  pub number : r.answer.number ≡ number_in (opening_ruling (opened lent text) text)
  pub line : r.answer.line ≡ line_in (opening_ruling (opened lent text) text)
  pub counts : r.counts ≡ opening_counts (opened lent text)
  pub tables : t ≡ filled lent (opening_contents (opened lent text))

-- the four tables of an open file among the five
abbrev pub four_of : Contents → Tables
four_of u = four u.formulas u.rows u.left u.right

-- What a beginning that is opened leaves, in tables of the lengths of these four: the open file of its body, with the counts that are
-- answered.
pub record LeavesOpen (t : Tables) (u : Contents) (r : Judged) (f : File) : Type 0 where
  pub tables : four_of u ≡ filledBy t f.body
  pub counts : r.counts ≡ counts_of f.body
  pub is_open : IsOpen (four_of u) r.counts f.body
