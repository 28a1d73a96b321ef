-- The promises of adding and of preview (paper 02, M-105), for any text, any lent tables and any counts.
use Rattle.std.specs.Prelude.{ℕ, ◌≡◌}
use Rattle.format.specs.Text.{Bytes}
use Rattle.format.specs.Judged.{number_in, line_in}
use Rattle.counts.specs.Counts.{count_row}
use Rattle.counts.specs.declared.Counts.{Counts}
use Rattle.answers.specs.Answers.{answer}
use Rattle.answers.specs.declared.Answer.{Answer}
use Rattle.bodies.specs.Open.{Tables}
use Rattle.open.specs.Adding.{added, previewed}
use Rattle.adding.specs.declared.OpenFile.{OpenFile}
use Rattle.adding.specs.declared.Added.{Added}

abbrev pub refused_with : OpenFile → Answer → Added
refused_with file a = record { answer = a; file = file }

-- the row was added: 0 with line 1
abbrev pub added_with : OpenFile → ℕ → ℕ → Added
added_with file left right = record { answer = answer 0 1; file = record { counts = count_row file.counts left right } }

-- A row added: number and line, the counts that are handed back, and the tables at exit. A refusal, whatever its number, leaves
-- counts and tables as they were.
pub record Adds (t : Tables) (c : Counts) (text : Bytes) (u : Tables) (r : Added) : Type 0 where
  pub number : r.answer.number ≡ number_in (added t c text).ruling
  pub line : r.answer.line ≡ line_in (added t c text).ruling
  pub counts : r.file.counts ≡ (added t c text).counts
  pub tables : u ≡ (added t c text).tables
  pub unchanged : (r.answer.number ≡ 0 → ⊥) → (r.file.counts ≡ c) × (u ≡ t)

-- a row tried: number and line as adding it would give them
pub record Previews (t : Tables) (c : Counts) (text : Bytes) (r : Answer) : Type 0 where
  pub number : r.number ≡ number_in (previewed t c text)
  pub line : r.line ≡ line_in (previewed t c text)
