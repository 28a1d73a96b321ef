-- The opening of a beginning, and rows added one after the other (paper 02, M-105).
use Rattle.std.specs.Prelude.{ℕ, ◌+◌, ◌≡◌, true, List, [], ◌∷◌, length, get_or}
use Rattle.std.proofs.Math.Option.{Option, none, some}
use Rattle.equilibrium.specs.Meaning.{◌∈◌}
use Rattle.format.specs.Text.{Bytes, lines_of, fields_of, is}
use Rattle.format.specs.File.{File, no_file}
use Rattle.format.specs.Line.{Line, model_line, claim_line, line_of}
use Rattle.format.specs.Tables.{Lent, join_all, Contents, encode}
use Rattle.format.specs.Tests.{first}
use Rattle.format.specs.Judged.{Outcome, next, refused, beginning, Ruling, accepted, turned_down, whole_tests}
use Rattle.counts.specs.Counts.{counts_of}
use Rattle.counts.specs.declared.Counts.{Counts}
use Rattle.bodies.specs.Open.{Tables, filled}
use Rattle.open.specs.Adding.{Added, added}

-- bytes after the last LF are a bad line
abbrev pub closed : Outcome File → Bytes → ℕ → Outcome File
closed (refused n k) rest l = refused n k
closed (next f) [] l = next f
closed (next f) (b ∷ bs) l = refused 3 l

-- refused as a whole, with line 0, or what the lines come to
abbrev pub or_whole : Option ℕ → Outcome File → Outcome File
or_whole none o = o
or_whole (some n) o = refused n 0

-- a beginning is opened: 1, 2, then its lines as in 01; a claim may be missing
unfoldable pub opened : Lent → Bytes → Outcome File
opened lent text =
    or_whole (first (whole_tests lent text)) (closed (beginning text) (lines_of text).rest (length (lines_of text).complete + 1))

-- number and line of opening: success reports the count of lines
abbrev pub opening_ruling : Outcome File → Bytes → Ruling
opening_ruling (next f) text = accepted (length (lines_of text).complete)
opening_ruling (refused n l) text = turned_down n l

-- the file that is opened; a refusal leaves nothing, that is zeros in the tables and zero counts
abbrev pub file_opened : Outcome File → File
file_opened (next f) = f
file_opened (refused n l) = no_file

-- what the five tables hold after opening; zeros follow in each
abbrev pub opening_contents : Outcome File → Contents
opening_contents o = encode (file_opened o)

-- the counts that opening hands out
abbrev pub opening_counts : Outcome File → Counts
opening_counts o = counts_of (file_opened o).body

-- a beginning of A, F and N lines: no line is an M line or a C line
pub record UpToRows (text : Bytes) : Type 0 where
  pub no_model : (l : Bytes) (atoms : List ℕ) → l ∈ (lines_of text).complete → line_of l ≡ some (model_line atoms) → ⊥
  pub no_claim : (l : Bytes) (left right : List ℕ) → l ∈ (lines_of text).complete → line_of l ≡ some (claim_line left right) → ⊥

-- an M line or a C line
pub data IsLater : Option Line → Type 0 where
  model : (atoms : List ℕ) → IsLater (some (model_line atoms))
  claim : (left right : List ℕ) → IsLater (some (claim_line left right))

-- the text is one line, and its kind is N
pub record IsRowText (text : Bytes) : Type 0 where
  pub line : Bytes
  pub one : lines_of text ≡ record { complete = line ∷ []; rest = [] }
  pub kind : is "N" (get_or (fields_of line) 0 []) ≡ true

-- every text of the list is a row's
abbrev pub RowTexts : List Bytes → Type 0
RowTexts [] = Unit {0}
RowTexts (x ∷ xs) = IsRowText x × RowTexts xs

-- the second, where the first was accepted
abbrev pub after_added : Ruling → Added → Added → Added
after_added (accepted l) a b = b
after_added (turned_down n l) a b = a

-- rows added one after the other, until one is refused
abbrev pub added_rows : List Bytes → Tables → Counts → Added
added_rows [] t c = record { ruling = accepted 1; counts = c; tables = t }
added_rows (x ∷ xs) t c = after_added (added t c x).ruling (added t c x) (added_rows xs (added t c x).tables (added t c x).counts)

-- texts joined
abbrev pub joined : List Bytes → Bytes
joined xs = join_all (λ (x : Bytes). x) xs

-- the number is that of a text opened, with line 1; on acceptance the counts are the text's, and the tables hold it
abbrev pub AsOpened : Outcome File → Tables → Added → Type 0
AsOpened (next f) t a = (a.ruling ≡ accepted 1) × (a.counts ≡ counts_of f.body) × (a.tables ≡ filled t f.body)
AsOpened (refused n l) t a = a.ruling ≡ turned_down n 1

-- 01's answer to a text that ends with a row on this line, by the answer to adding the row: there is no claim
abbrev pub in_text : ℕ → Ruling → Ruling
in_text line (accepted l) = turned_down 13 (line + 1)
in_text line (turned_down n l) = turned_down n line

-- and its number
abbrev pub without_claim : Ruling → ℕ
without_claim (accepted l) = 13
without_claim (turned_down n l) = n
