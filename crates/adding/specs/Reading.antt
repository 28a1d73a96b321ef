-- The text of one row, read: what it says, or that it is another text.
use Rattle.std.specs.Prelude.{ℕ, ◌≤◌, ◌≡◌, List, [], ◌∷◌, length, Option, None, Some}
use Rattle.std.proofs.Math.Option as Math
use Rattle.format.specs.Text.{Bytes}
use Rattle.format.specs.File.{Row, Body}
use Rattle.format.specs.Line.{Line, row_line, line_of}
use Rattle.format.specs.Tables.{absent, most_on_side}
use Rattle.format.specs.Judged.{refused}
use Rattle.drafts.specs.Drafts.{RowLaid}
use Rattle.drafts.specs.declared.RowRead.{RowRead}
use Rattle.open.specs.Adding.{said_in, with_line}

-- What is said is read as a row, with its lists in tables that have room for a side; and it is another line, or badly written,
-- exactly where some field is not well written.
pub record SaidRead (said : Math.Option Line) (premises left right premises' left' right' : List ℕ) (read : Option RowRead) : Type 0 where
  pub other : read ≡ None → (b : Body) → with_line said b ≡ refused 3 1
  pub found :
      (row : RowRead) → read ≡ Some row → premises ≡ absent ∷ absent ∷ [] → most_on_side ≤ length left → most_on_side ≤ length right
      → (n : ℕ) × (q : Row) × (said ≡ Math.some (row_line n q)) × RowLaid n q row premises' left' right'

abbrev pub RowLineRead : Bytes → List ℕ → List ℕ → List ℕ → List ℕ → List ℕ → List ℕ → Option RowRead → Type 0
RowLineRead line = SaidRead (line_of line)

abbrev pub RowTextRead : Bytes → List ℕ → List ℕ → List ℕ → List ℕ → List ℕ → List ℕ → Option RowRead → Type 0
RowTextRead text = SaidRead (said_in text)
