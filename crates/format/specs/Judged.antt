-- How a text is judged: a fold over its lines, of which the first that is refused decides (paper 01, "How a text is turned down";
-- 02, M-101, for the model beside the claim), and the claim that the text makes.
use Rattle.std.specs.Prelude.{ℕ, ◌+◌, ◌≡◌, List, [], ◌∷◌, ◌++◌, ltb, length, get_or}
use Rattle.std.proofs.Math.Option.{Option, none, some}
use Rattle.equilibrium.specs.Meaning.{◌∈◌, Fails}
use Rattle.format.specs.Text.{Bytes, lines_of, fields_of}
use Rattle.format.specs.File.{Node, Row, Model, Claim, in_atoms, in_formulas, in_rows, modelled, claimed, File, add_node, add_row, no_file, decoded}
use Rattle.format.specs.Line.{Line, atom_line, formula_line, row_line, model_line, claim_line, line_of}
use Rattle.format.specs.Tables.{Lent, too_short, Contents, encode, most_bytes}
use Rattle.format.specs.Tests.{Test, ◌when◌, first, atom_tests, formula_tests, row_tests, model_line_tests, claim_tests}
use Rattle.format.specs.Model.{Shown, claim_model_tests}

-- where a line stands: its number from 1, and the byte of the text at which it starts
pub record Place : Type 0 where
  pub line : ℕ
  pub start : ℕ

-- what a line, or a beginning, comes to: the state after it, or a refusal number with its line
pub data Outcome (S : Type 0) : Type 0 where
  next : S → Outcome S
  refused : ℕ → ℕ → Outcome S

-- this file, where no test applies; else the refusal, with the line that it belongs to
abbrev pub settled : Option ℕ → ℕ → File → Outcome File
settled none line f = next f
settled (some n) line f = refused n line

-- go on where nothing was refused
abbrev pub after : {S : Type 0} → Outcome S → (S → Outcome S) → Outcome S
after (next s) k = k s
after (refused n l) k = refused n l

-- the byte at which the third field of an A line starts
abbrev pub name_start : Place → Bytes → ℕ
name_start p line = p.start + 3 + length (get_or (fields_of line) 1 [])

-- the file with one atom more
abbrev pub with_atom : File → ℕ → Bytes → File
with_atom f start name =
    record {
      names = f.names ++ record { start = start; name = name } ∷ [];
      body = record { atoms = f.body.atoms + 1; nodes = f.body.nodes; rows = f.body.rows };
      stage = in_atoms;
      model = f.model;
      claim = f.claim;
    }

-- the file with one formula more
abbrev pub with_node : File → Node → File
with_node f node = record { names = f.names; body = add_node f.body node; stage = in_formulas; model = f.model; claim = f.claim }

-- the file with one row more
abbrev pub with_row : File → Row → File
with_row f r = record { names = f.names; body = add_row f.body r; stage = in_rows; model = f.model; claim = f.claim }

-- the file with its model
abbrev pub with_model : File → Model → File
with_model f m = record { names = f.names; body = f.body; stage = modelled; model = some m; claim = f.claim }

-- the file with its claim
abbrev pub with_claim : File → Claim → File
with_claim f c = record { names = f.names; body = f.body; stage = claimed; model = f.model; claim = some c }

-- the line that 15, 16 and 17 belong to: the M line, or the claim's own if there is none
abbrev pub reported_on : Option Model → ℕ → ℕ
reported_on none line = line
reported_on (some m) line = m.line

-- a line that is well written; a claim's own tests come first, and only where these pass those of its model
unfoldable pub step_read : File → Place → Bytes → Line → Outcome File
step_read f p line (atom_line n name) = settled (first (atom_tests f n name)) p.line (with_atom f (name_start p line) name)
step_read f p line (formula_line n node) = settled (first (formula_tests f n node)) p.line (with_node f node)
step_read f p line (row_line n r) = settled (first (row_tests f n r)) p.line (with_row f r)
step_read f p line (model_line atoms) = settled (first (model_line_tests f atoms)) p.line (with_model f (record { line = p.line; atoms = atoms }))
step_read f p line (claim_line left right) =
    after (settled (first (claim_tests f left right)) p.line f)
    (λ g.
    settled (first (claim_model_tests g left right)) (reported_on g.model p.line)
    (with_claim g (record { line = p.line; left = left; right = right })))

-- a line that is badly written is refused with 3
abbrev pub or_bad_line : Option Line → Place → (Line → Outcome File) → Outcome File
or_bad_line none p k = refused 3 p.line
or_bad_line (some l) p k = k l

-- one line
unfoldable pub step : File → Place → Bytes → Outcome File
step f p line = or_bad_line (line_of line) p (step_read f p line)

-- the place of the next line
abbrev pub below : Place → Bytes → Place
below p line = record { line = p.line + 1; start = p.start + length line + 1 }

-- complete lines in order, by any step
unfoldable pub run : {S : Type 0} → (S → Place → Bytes → Outcome S) → Place → List Bytes → S → Outcome S
run step p [] s = next s
run step p (l ∷ ls) s = after (step s p l) (run step (below p l) ls)

-- the place of the first line
abbrev pub top : Place
top = record { line = 1; start = 0 }

-- the complete lines of a text
unfoldable pub beginning : Bytes → Outcome File
beginning text = run step top (lines_of text).complete no_file

-- number and line of the papers
pub data Ruling : Type 0 where
  accepted : ℕ → Ruling
  turned_down : ℕ → ℕ → Ruling

-- the number of an answer: 0 if accepted
abbrev pub number_in : Ruling → ℕ
number_in (accepted l) = 0
number_in (turned_down n l) = n

-- the line of an answer
abbrev pub line_in : Ruling → ℕ
line_in (accepted l) = l
line_in (turned_down n l) = l

-- accepted with the claim's line, or 13 where there is none
abbrev pub or_no_claim : Option Claim → ℕ → Ruling
or_no_claim none l = turned_down 13 l
or_no_claim (some c) l = accepted c.line

-- after the last complete line: bytes with no LF are a bad line, and then a claim may be missing
abbrev pub finish : Outcome File → Bytes → ℕ → Ruling
finish (refused n k) rest l = turned_down n k
finish (next f) [] l = or_no_claim f.claim l
finish (next f) (b ∷ bs) l = turned_down 3 l

-- what the lines from a place on come to, and the answer that they give
abbrev pub run_from : Place → Bytes → File → Outcome File
run_from p bs f = run step p (lines_of bs).complete f

-- the answer to the lines from a place on
abbrev pub answer_from : Place → Bytes → File → Ruling
answer_from p bs f = finish (run_from p bs f) (lines_of bs).rest (p.line + length (lines_of bs).complete)

-- what a text can be refused for as a whole, with line 0
abbrev pub whole_tests : Lent → Bytes → List Test
whole_tests t text = (1 when too_short t) ∷ (2 when ltb most_bytes (length text)) ∷ []

-- a text that is refused as a whole has line 0
abbrev pub or_whole : Option ℕ → Ruling → Ruling
or_whole none answer = answer
or_whole (some n) answer = turned_down n 0

-- the answer to a text, with tables of these lengths lent
unfoldable pub judged : Lent → Bytes → Ruling
judged t text = or_whole (first (whole_tests t text)) (answer_from top text no_file)

-- the file of an accepted text; nothing of another
abbrev pub held_by : Ruling → Outcome File → Contents
held_by (accepted l) (next f) = encode f
held_by (accepted l) (refused n k) = encode no_file
held_by (turned_down n l) o = encode no_file

-- what the tables hold in the end; zeros follow in each
unfoldable pub contents : Lent → Bytes → Contents
contents t text = held_by (judged t text) (beginning text)

-- the text's claim, read off its own lines with no regard to the judgement

-- what lines have said so far: the names of atoms and the formulas, each in its order, and the atoms of the last M line
pub record Said : Type 0 where
  pub names : List Bytes
  pub nodes : List Node
  pub model : Option (List ℕ)

-- what one line says more
abbrev pub saying : Said → Option Line → Said
saying s none = s
saying s (some (atom_line n name)) = record { names = s.names ++ name ∷ []; nodes = s.nodes; model = s.model }
saying s (some (formula_line n node)) = record { names = s.names; nodes = s.nodes ++ node ∷ []; model = s.model }
saying s (some (row_line n r)) = s
saying s (some (model_line atoms)) = record { names = s.names; nodes = s.nodes; model = some atoms }
saying s (some (claim_line left right)) = s

-- what lines say after others
abbrev pub said_after : Said → List Bytes → Said
said_after s [] = s
said_after s (l ∷ ls) = said_after (saying s (line_of l)) ls

-- what lines say from the first on
abbrev pub said_by : List Bytes → Said
said_by lines = said_after (record { names = []; nodes = []; model = none }) lines

-- the formulas of a text's F lines
abbrev pub nodes_in : Bytes → List Node
nodes_in text = (said_by (lines_of text).complete).nodes

-- the atoms of its M line, if there is one; of the last, if there are several
abbrev pub model_in : Bytes → Option (List ℕ)
model_in text = (said_by (lines_of text).complete).model

-- some C line of the text claims a sequent that fails
pub record ClaimFails (text : Bytes) : Type 0 where
  pub line : Bytes
  pub left : List ℕ
  pub right : List ℕ
  pub in_text : line ∈ (lines_of text).complete
  pub is_claim : line_of line ≡ some (claim_line left right)
  pub fails : Fails (decoded (nodes_in text) left) (decoded (nodes_in text) right)

-- The text claims one sequent, and the claim is confirmed by the model on the M line, or there is none and a contradiction is
-- shown.
pub record ClaimShown (text : Bytes) : Type 0 where
  pub line : Bytes
  pub left : List ℕ
  pub right : List ℕ
  pub in_text : line ∈ (lines_of text).complete
  pub is_claim : line_of line ≡ some (claim_line left right)
  pub only : (m : Bytes) (l r : List ℕ) → m ∈ (lines_of text).complete → line_of m ≡ some (claim_line l r) → (l ≡ left) × (r ≡ right)
  pub shown : Shown (decoded (nodes_in text) left) (decoded (nodes_in text) right) (model_in text)
