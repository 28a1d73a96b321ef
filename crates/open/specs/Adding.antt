-- A row added to an open file, or tried first (paper 02, M-105).
use Rattle.std.specs.Prelude.{ℕ, cond, not, List, [], ◌∷◌, eqb, ltb, length}
use Rattle.std.proofs.Math.Option.{Option, none, some}
use Rattle.format.specs.Text.{Bytes, lines_of}
use Rattle.format.specs.File.{Row, Body, add_row}
use Rattle.format.specs.Line.{Line, atom_line, formula_line, row_line, model_line, claim_line, line_of}
use Rattle.format.specs.Tables.{too_short, most_bytes}
use Rattle.format.specs.Tests.{Test, ◌when◌, first, body_tests}
use Rattle.format.specs.Judged.{Outcome, next, refused, Ruling, accepted, turned_down}
use Rattle.counts.specs.Counts.{counts_of}
use Rattle.counts.specs.declared.Counts.{Counts}
use Rattle.bodies.specs.Open.{Tables, lent_of, filled, IsOpen}
use Rattle.bodies.specs.Walk.{and_then}
use Rattle.bodies.proofs.Walking.{open?}

-- the one complete line; none if there are fewer or more, or bytes after it
abbrev pub only_line : List Bytes → Bytes → Option Bytes
only_line [] rest = none
only_line (l ∷ []) [] = some l
only_line (l ∷ []) (b ∷ bs) = none
only_line (l ∷ k ∷ ls) rest = none

-- what the text of one line says; none if it is no line or badly written
unfoldable pub said_in : Bytes → Option Line
said_in text = and_then (only_line (lines_of text).complete (lines_of text).rest) line_of

-- as 01's N line, where any row may follow: an open file has no stage
abbrev pub open_tests : Body → ℕ → Row → List Test
open_tests b n r = (4 when not (eqb n (length b.rows))) ∷ body_tests b r

-- the body with the row, where no test applies
abbrev pub entered : Option ℕ → Body → Outcome Body
entered none b = next b
entered (some n) b = refused n 1

-- an N line; other text earns 3
abbrev pub with_line : Option Line → Body → Outcome Body
with_line none b = refused 3 1
with_line (some (atom_line n name)) b = refused 3 1
with_line (some (formula_line n node)) b = refused 3 1
with_line (some (row_line n r)) b = entered (first (open_tests b n r)) (add_row b r)
with_line (some (model_line atoms)) b = refused 3 1
with_line (some (claim_line left right)) b = refused 3 1

-- a text that may be too long
unfoldable pub with_text : Bytes → Body → Outcome Body
with_text text b = cond (ltb most_bytes (length text)) (refused 2 0) (with_line (said_in text) b)

-- in the body that the tables and counts are of, as is decided; 4 where there is none
abbrev pub in_body : {t : Tables} {c : Counts} → Dec ((b : Body) × IsOpen t c b) → (Body → Outcome Body) → Outcome Body
in_body (yes p) k = k p.0
in_body (no n) k = refused 4 0

-- 1, then 4 for the open file, then 2, then the row
unfoldable pub tried : Tables → Counts → Bytes → Outcome Body
tried t c text = cond (too_short (lent_of t)) (refused 1 0) (in_body (open? t c) (with_text text))

-- number and line; success reports line 1
abbrev pub ruling_of : Outcome Body → Ruling
ruling_of (next b) = accepted 1
ruling_of (refused n l) = turned_down n l

-- the counts that are handed back; a refusal leaves them unchanged
abbrev pub counts_after : Counts → Outcome Body → Counts
counts_after c (next b) = counts_of b
counts_after c (refused n l) = c

-- the tables after the call; a refusal leaves them unchanged
abbrev pub tables_after : Tables → Outcome Body → Tables
tables_after t (next b) = filled t b
tables_after t (refused n l) = t

-- what adding a row comes to
pub record Added : Type 0 where
  pub ruling : Ruling
  pub counts : Counts
  pub tables : Tables

-- by what trying it comes to
abbrev pub added_by : Tables → Counts → Outcome Body → Added
added_by t c o = record { ruling = ruling_of o; counts = counts_after c o; tables = tables_after t o }

-- adding the row of a text
abbrev pub added : Tables → Counts → Bytes → Added
added t c text = added_by t c (tried t c text)

-- a preview: number and line alone
abbrev pub previewed : Tables → Counts → Bytes → Ruling
previewed t c text = ruling_of (tried t c text)
