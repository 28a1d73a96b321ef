-- What trying a row comes to: it passes over the body of the open file, or it is refused.
use Rattle.std.specs.Prelude.{ℕ, ◌≤◌, ◌≡◌, false, List, length, Result, Ok, Err}
use Rattle.std.proofs.Math.Option.{none}
use Rattle.format.specs.Text.{Bytes}
use Rattle.format.specs.File.{Row, Body, add_row}
use Rattle.format.specs.Tables.{too_short, most_on_side}
use Rattle.format.specs.Tests.{first, body_tests}
use Rattle.format.specs.Judged.{Outcome, next, refused}
use Rattle.refusals.specs.Refusals.{number_of}
use Rattle.refusals.specs.declared.Refusal.{Refusal}
use Rattle.state.specs.declared.Refused.{Refused}
use Rattle.counts.specs.declared.Counts.{Counts}
use Rattle.drafts.specs.Drafts.{Drafted}
use Rattle.drafts.specs.declared.Draft.{Draft}
use Rattle.rows.specs.Judgement.{Ground}
use Rattle.bodies.specs.Open.{Tables, lent_of, IsOpen}
use Rattle.open.specs.Adding.{said_in, with_line, tried}

-- a refusal with this line
abbrev pub turned_down_by : Refusal → ℕ → Result Draft Refused
turned_down_by refusal line = Err (record { refusal = refusal; line = line })

-- the outcome over a body, and the row of the draft and these tables where it passes
pub data Comes (o : Outcome Body) (b : Body) (l r : List ℕ) : Result Draft Refusal → Type 0 where
  refuses : (e : Refusal) → o ≡ refused (number_of e) 1 → Comes o b l r (Err e)
  passes : (q : Row) (d : Draft) → o ≡ next (add_row b q) → first (body_tests b q) ≡ none → Drafted q d l r → Comes o b l r (Ok d)

-- a text, over every good body that the tables begin with
abbrev pub TextJudged : Tables → List ℕ → Counts → Bytes → List ℕ → List ℕ → List ℕ → List ℕ → Result Draft Refusal → Type 0
TextJudged t notes c text l r l' r' judged =
    (b : Body) → Ground b c t.formulas notes t.rows t.left t.right → most_on_side ≤ length l → most_on_side ≤ length r
    → Comes (with_line (said_in text) b) b l' r' judged

-- a refusal, or a row that passes in the open file of a body
pub data Tries (t : Tables) (c : Counts) (text : Bytes) (l r : List ℕ) : Result Draft Refused → Type 0 where
  refuses : (e : Refused) → tried t c text ≡ refused (number_of e.refusal) e.line → Tries t c text l r (Err e)
  passes :
      (b : Body) (q : Row) (d : Draft) → too_short (lent_of t) ≡ false → IsOpen t c b → tried t c text ≡ next (add_row b q)
      → first (body_tests b q) ≡ none → Drafted q d l r → Tries t c text l r (Ok d)

-- in tables for the sides that have room for them
abbrev pub RowTried : Tables → Counts → Bytes → List ℕ → List ℕ → List ℕ → List ℕ → Result Draft Refused → Type 0
RowTried t c text l r l' r' trial = most_on_side ≤ length l → most_on_side ≤ length r → Tries t c text l' r' trial
