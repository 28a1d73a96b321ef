-- A whole file to be written: its parts, its lines and its text; the file that the text comes to; and what the papers ask of it
-- besides the form of its lines. WrittenDocuments proves that every good one is accepted as written.
use Rattle.std.specs.Prelude.{ℕ, ◌+◌, ◌-◌, ◌≤◌, ◌≡◌, true, List, [], ◌∷◌, ◌++◌, length}
use Rattle.std.proofs.Math.Option.{Option, none, some}
use Rattle.format.specs.Text.{Bytes, ◌<$>◌}
use Rattle.format.specs.File.{Node, Row, Name, Model, Body, claimed, File, decoded}
use Rattle.format.specs.Line.{Line, atom_line, formula_line, row_line, model_line, claim_line}
use Rattle.format.specs.Tables.{most_bytes}
use Rattle.format.specs.Tests.{last_is}
use Rattle.format.specs.Model.{ModelFits}
use Rattle.format.specs.Good.{GoodBody, GoodNames, GoodModel}
use Rattle.format.specs.Written.{decimal, bytes_of, text_of}

-- the names of the atoms, the formulas, the rows, the atoms of the M line if there is one, and the two sides of the claim
pub record Document : Type 0 where
  pub names : List Bytes
  pub nodes : List Node
  pub rows : List Row
  pub model : Option (List ℕ)
  pub left : List ℕ
  pub right : List ℕ

-- ---- its text

-- items as lines that are numbered from n on
abbrev pub numbered : {X : Type 0} → (ℕ → X → Line) → ℕ → List X → List Line
numbered line n [] = []
numbered line n (x ∷ xs) = line n x ∷ numbered line (n + 1) xs

-- the A lines
abbrev pub atom_lines : Document → List Line
atom_lines d = numbered atom_line 0 d.names

-- the F lines
abbrev pub formula_lines : Document → List Line
formula_lines d = numbered formula_line 0 d.nodes

-- the N lines
abbrev pub row_lines : Document → List Line
row_lines d = numbered row_line 0 d.rows

-- the M line, if there is one
abbrev pub model_lines : Option (List ℕ) → List Line
model_lines none = []
model_lines (some atoms) = model_line atoms ∷ []

-- all A lines, then F, then N, then the M line, then the C line
abbrev pub lines_in : Document → List Line
lines_in d = atom_lines d ++ (formula_lines d ++ (row_lines d ++ (model_lines d.model ++ claim_line d.left d.right ∷ [])))

-- the text of a document
abbrev pub written : Document → Bytes
written d = text_of (lines_in d)

-- ---- the file that the text comes to

-- the names of A lines that are numbered from n on, the first of which starts at this byte
abbrev pub names_from : ℕ → ℕ → List Bytes → List Name
names_from n start [] = []
names_from n start (name ∷ names) =
    record { start = start + 3 + length (decimal n); name = name } ∷ names_from (n + 1) (start + length (bytes_of (atom_line n name)) + 1) names

-- the names of a text that begins with their A lines
abbrev pub names_in : List Bytes → List Name
names_in names = names_from 0 0 names

-- its atoms, formulas and rows
abbrev pub body_of : Document → Body
body_of d = record { atoms = length d.names; nodes = d.nodes; rows = d.rows }

-- the model of these atoms on this line
abbrev pub model_on : ℕ → List ℕ → Model
model_on line atoms = record { line = line; atoms = atoms }

-- the file, with the claim on the last line and its model on the one before
abbrev pub file_of : Document → File
file_of d =
    record {
      names = names_in d.names;
      body = body_of d;
      stage = claimed;
      model = model_on (length (lines_in d) - 1) <$> d.model;
      claim = some (record { line = length (lines_in d); left = d.left; right = d.right });
    }

-- ---- what is asked of it

-- all that 01 and 02 ask of a file but for the tables lent with it
pub record GoodDocument (d : Document) : Type 0 where
  -- names of 01's form, no two alike
  pub names : GoodNames (length d.names) (names_in d.names)
  -- atoms, formulas and rows that pass their tests, each over those before it
  pub body : GoodBody (body_of d)
  -- an M line whose atoms are there and rise
  pub model : (atoms : List ℕ) → d.model ≡ some atoms → GoodModel (length d.names) atoms
  -- the last row is an ELK row with exactly the claim's sides
  pub claim : last_is d.rows d.left d.right ≡ true
  -- the M line confirms the claim, or there is none and the claim reports a contradiction
  pub fits : ModelFits (decoded d.nodes d.left) (decoded d.nodes d.right) d.model
  -- as many bytes as a text may have
  pub short : length (written d) ≤ most_bytes
