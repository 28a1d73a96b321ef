-- The answer after the run over a text's complete lines, and what an answer says of the text.
use Rattle.std.specs.Prelude.{ℕ, ◌≡◌, Bool, true, false, List, eqb, ltb, unwrap_or, Result, Ok, Err, IsErrAnd, MatchResult}
use Rattle.format.specs.Text.{Bytes}
use Rattle.format.specs.File.{File, no_file, claimed}
use Rattle.format.specs.Tables.{Contents, Lent, padded}
use Rattle.format.specs.Good.{Good}
use Rattle.format.specs.Tests.{rank}
use Rattle.format.specs.Judged.{accepted, turned_down, next, top, beginning, answer_from}
use Rattle.refusals.specs.Refusals.{number_of}
use Rattle.refusals.specs.declared.Refusal.TheVariants.{BadLine, NoClaim}
use Rattle.state.specs.State.{Memory, Stored}
use Rattle.state.specs.declared.State.{State}
use Rattle.state.specs.declared.Refused.{Refused}
use Rattle.run.specs.declared.Ran.{Ran}
use Rattle.run.specs.declared.Stopped.{Stopped}
use Rattle.answers.specs.declared.Answer.{Answer}
use Rattle.answers.specs.declared.Accepted.{Accepted}

abbrev pub answer : ℕ → ℕ → Answer
answer number line = record { number = number; line = line }

-- the answer of a refusal
abbrev pub refusing : Refused → Answer
refusing r = answer (number_of r.refusal) r.line

-- by whether bytes are left after the complete lines, and a claim was made: the claim's line and the counts, or a refusal on the line after
-- the last one
abbrev pub answer_by : Bool → Bool → Ran → Result Accepted Refused
answer_by true made ran = Err (record { refusal = BadLine; line = ran.line })
answer_by false false ran = Err (record { refusal = NoClaim; line = ran.line })
answer_by false true ran = Ok (record { line = unwrap_or ran.state.claim 0; counts = ran.state.counts })

-- after the complete lines of a text of this length
unfoldable pub finished : ℕ → Result Ran Stopped → Result Accepted Refused
finished len (Err s) = Err s.refused
finished len (Ok ran) = answer_by (ltb ran.at len) (eqb ran.state.stage (rank claimed)) ran

-- the same of a run that is refused with anything: what it is refused with, or a refusal of the end, as what the answer is refused with
abbrev pub Finishes : {S E : Type 0} → (S → E → Type 0) → (Refused → E → Type 0) → ℕ → Result Ran S → Result Accepted E → Type 0
Finishes stopped refused len (Err s) r = IsErrAnd r (stopped s)
Finishes stopped refused len (Ok ran) r =
    MatchResult (answer_by (ltb ran.at len) (eqb ran.state.stage (rank claimed)) ran) (λ a. r ≡ Ok a) (λ e. IsErrAnd r (refused e))

-- tables of these lengths that hold these contents, and zeros after them
abbrev pub filled : Lent → Contents → Contents
filled lent c =
    record {
      names = padded lent.names c.names;
      formulas = padded lent.formulas c.formulas;
      rows = padded lent.rows c.rows;
      left = padded lent.left c.left;
      right = padded lent.right c.right;
    }

-- the state in which a run ends
abbrev pub state_of : Result Ran Stopped → State
state_of (Ok ran) = ran.state
state_of (Err s) = s.state

-- the run over all lines of a text accepts it: the tables and the state hold its file
pub record Accepts (text : Bytes) (s : State) (a : Accepted) (t : Memory) : Type 0 where
  pub line : answer_from top text no_file ≡ accepted a.line
  pub file : File
  pub is_file : beginning text ≡ next file
  pub lines : List Bytes
  pub good : Good lines file
  pub stored : Stored text file s t
  pub counts : a.counts ≡ s.counts

-- or it refuses it
abbrev pub Refuses : Bytes → Refused → Type 0
Refuses text r = answer_from top text no_file ≡ turned_down (number_of r.refusal) r.line
