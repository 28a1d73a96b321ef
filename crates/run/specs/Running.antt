-- The invariant of the run over a text's lines, which holds when the line at a place is about to be read, and what the run
-- over the complete lines comes to.
use Rattle.std.specs.Prelude.{ℕ, ◌+◌, ◌≤◌, ◌<◌, ◌≡◌, List, length, drop, replicate, Result, Ok, Err, MatchResult}
use Rattle.format.specs.Text.{Bytes, line_feed, lines_of}
use Rattle.format.specs.File.{File, no_file}
use Rattle.format.specs.Tables.{most_bytes}
use Rattle.format.specs.Judged.{Place, refused, top, beginning, run_from, answer_from}
use Rattle.format.specs.Good.{Good}
use Rattle.parts.specs.Parts.{next_at}
use Rattle.refusals.specs.Refusals.{number_of}
use Rattle.refusals.specs.declared.Refusal.TheVariants.{TooLong}
use Rattle.state.specs.State.{Memory, Full, SameLengths, Stored, start}
use Rattle.state.specs.declared.State.{State}
use Rattle.run.specs.Lent.{five_of, Zeros}
use Rattle.run.specs.declared.Ran.{Ran}
use Rattle.run.specs.declared.Stopped.{Stopped}

abbrev pub place : ℕ → ℕ → Place
place line at = record { line = line; start = at }

-- the file of the lines before a place is stored and they are counted, and what is left of the text decides the answer
pub record Running (text : Bytes) (line at : ℕ) (s : State) (t : Memory) : Type 0 where
  pub done : List Bytes
  pub file : File
  pub good : Good done file
  pub stored : Stored text file s t
  pub answer : answer_from top text no_file ≡ answer_from (place line at) (drop at text) file
  pub outcome : beginning text ≡ run_from (place line at) (drop at text) file
  pub counted : length (lines_of text).complete + 1 ≡ line + length (lines_of (drop at text)).complete
  pub rest : (lines_of text).rest ≡ (lines_of (drop at text)).rest

-- all complete lines have passed, and the run stands after the last one
pub record Passes (text : Bytes) (ran : Ran) (t : Memory) : Type 0 where
  pub running : Running text ran.line ran.at ran.state t
  pub all : length text ≤ next_at line_feed text ran.at

-- the text is refused with a line's number, and the run stands before the line at which that was seen
pub record Stops (text : Bytes) (s : Stopped) (t : Memory) : Type 0 where
  pub refuses : beginning text ≡ refused (number_of s.refused.refusal) s.refused.line
  pub line : ℕ
  pub running : Running text line s.at s.state t

-- one or the other
abbrev pub Runs : Bytes → Result Ran Stopped → Memory → Type 0
Runs text r t = MatchResult r (λ ran. Passes text ran t) (λ s. Stops text s t)

-- where it stands
abbrev pub stands_at : Result Ran Stopped → ℕ
stands_at (Ok ran) = ran.at
stands_at (Err s) = s.at

-- tables of full length that hold nothing, with nothing known of any formula
pub record Fresh (t : Memory) : Type 0 where
  pub full : Full t
  pub zeros : Zeros (five_of t)
  pub no_notes : t.notes ≡ replicate (length t.notes) 0

-- a text that is too long: none of its lines is read
abbrev pub unread : Result Ran Stopped
unread = Err (record { refused = record { refusal = TooLong; line = 0 }; at = 0; state = start })

-- From tables t the run leaves tables u. Where t holds something or is not of full length, it is free what the lines come to;
-- the run stops inside the text and changes no table's length all the same.
pub record RunOver (text : Bytes) (r : Result Ran Stopped) (t u : Memory) : Type 0 where
  pub too_long : most_bytes < length text → (r ≡ unread) × (u ≡ t)
  pub runs : length text ≤ most_bytes → Fresh t → Runs text r u
  pub within : stands_at r ≤ length text
  pub lengths : SameLengths t u
