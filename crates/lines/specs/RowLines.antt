-- N lines: their order, and what the line comes to. Only the rows and their sides can change.
use Rattle.std.specs.Prelude.{ℕ, ◌≡◌, List, Result}
use Rattle.std.proofs.Math.Option.{some}
use Rattle.format.specs.Text.{Bytes}
use Rattle.format.specs.File.{Row}
use Rattle.format.specs.Line.{row_line, line_of}
use Rattle.drafts.specs.Drafts.{RowLaid}
use Rattle.drafts.specs.declared.RowRead.{RowRead}
use Rattle.state.specs.State.{Memory, Keeps}
use Rattle.state.specs.Lined.{Lined}
use Rattle.state.specs.declared.State.{State}
use Rattle.refusals.specs.declared.Refusal.{Refusal}
use Rattle.lines.specs.Stepping.{at_line}

-- the contents with other formulas, words, rows and pools
abbrev pub with_rows : Memory → List ℕ → List ℕ → List ℕ → List ℕ → List ℕ → Memory
with_rows t formulas notes rows left right = record { names = t.names; formulas = formulas; notes = notes; rows = rows; left = left; right = right }

pub record RowSettled (row : RowRead) (above l k formulas notes : List ℕ) (s : State) (r : Result State Refusal)
    (rows left right rows' left' right' : List ℕ) : Type 0 where
  pub lined :
      (text line : Bytes) (start number n : ℕ) (q : Row) (t : Memory) → line_of line ≡ some (row_line n q) → RowLaid n q row above l k
      → Lined text start line number s (at_line number r) (with_rows t formulas notes rows left right) (with_rows t formulas notes rows' left' right')
  pub keeps : (number : ℕ) (t : Memory) → Keeps (at_line number r) (with_rows t formulas notes rows left right) (with_rows t formulas notes rows' left' right')

abbrev pub RowLined : Bytes → List ℕ → List ℕ → State → Result State Refusal → List ℕ → List ℕ → List ℕ → List ℕ → List ℕ → List ℕ → Type 0
RowLined line formulas notes s r rows left right rows' left' right' =
    (text : Bytes) (start number : ℕ) (t : Memory)
    → Lined text start line number s (at_line number r) (with_rows t formulas notes rows left right) (with_rows t formulas notes rows' left' right')
