-- The promise of the whole-file call: demands 1 and 3, and what paper 02 adds to acceptance (M-101), for any text and any lent tables.
use Rattle.std.specs.Prelude.{◌≡◌, Result, Ok, Err}
use Rattle.format.specs.Text.{Bytes}
use Rattle.equilibrium.specs.Meaning.{◌∈◌}
use Rattle.format.specs.File.{Name, File}
use Rattle.format.specs.Tables.{Contents, Lent, least, encode}
use Rattle.format.specs.Good.{GoodBody, GoodNames}
use Rattle.format.specs.Judged.{accepted, number_in, line_in, next, beginning, judged, contents, ClaimFails, ClaimShown}
use Rattle.counts.specs.Counts.{counts_of, no_counts}
use Rattle.counts.specs.declared.Counts.{Counts}
use Rattle.tables.specs.Names.{StandsIn}
use Rattle.run.specs.Lent.{lengths}
use Rattle.answers.specs.Answers.{answer, refusing, filled}
use Rattle.state.specs.declared.Refused.{Refused}
use Rattle.answers.specs.declared.Accepted.{Accepted}
use Rattle.answers.specs.declared.Answer.{Answer}
use Rattle.judge.specs.declared.Judged.{Judged}

-- the answer and the counts that the end of a text gives: no counts of a refusal
abbrev pub judged_by : Result Accepted Refused → Judged
judged_by (Ok a) = record { answer = answer 0 a.line; counts = a.counts }
judged_by (Err e) = record { answer = refusing e; counts = no_counts }

-- Number and line are those of the definition, and the tables at exit hold exactly the accepted file and zeros after it (or zeros
-- alone). A text that is accepted makes no claim that fails, and its claim is confirmed by the model on its M line or shows a
-- contradiction.
pub record Judges (text : Bytes) (lent : Lent) (t : Contents) (answer : Answer) : Type 0 where
  pub number : answer.number ≡ number_in (judged lent text)
  pub line : answer.line ≡ line_in (judged lent text)
  pub tables : t ≡ filled lent (contents lent text)
  pub claim_holds : answer.number ≡ 0 → ClaimFails text → ⊥
  pub claim_shown : answer.number ≡ 0 → ClaimShown text

-- the file of an accepted text, with its counts, in tables that hold it and zeros after it
pub record Filed (text : Bytes) (t : Contents) (counts : Counts) : Type 0 where
  pub file : File
  pub is_file : beginning text ≡ next file
  pub good : GoodBody file.body
  pub named : GoodNames file.body.atoms file.names
  pub names_in : (n : Name) → n ∈ file.names → StandsIn text n
  pub holds : t ≡ filled (lengths t) (encode file)
  pub counted : counts ≡ counts_of file.body

-- the same promise, with the file of a text that is accepted, and no counts of one that is refused
pub record JudgesFile (text : Bytes) (lent : Lent) (t : Contents) (r : Judged) : Type 0 where
  pub judges : Judges text lent t r.answer
  pub accepts : r.answer.number ≡ 0 → judged lent text ≡ accepted r.answer.line
  pub filed : r.answer.number ≡ 0 → Filed text t r.counts
  pub none_filed : (r.answer.number ≡ 0 → ⊥) → r.counts ≡ no_counts

-- the promise of a call that lends tables of its own
pub record Checks (text : Bytes) (answer : Answer) : Type 0 where
  pub number : answer.number ≡ number_in (judged least text)
  pub line : answer.line ≡ line_in (judged least text)
  pub claim_holds : answer.number ≡ 0 → ClaimFails text → ⊥
  pub claim_shown : answer.number ≡ 0 → ClaimShown text
