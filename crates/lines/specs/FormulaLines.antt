-- F lines: what is read of them, the number that a formula earns, and what the line comes to. Only the formulas and what is known
-- of them can change.
use Rattle.std.specs.Prelude.{ℕ, ◌%◌, ◌≡◌, Bool, false, cond, ◌||◌, List, [], ◌∷◌, leb, Option, None, Some, Result}
use Rattle.std.proofs.Math.Option as Math
use Rattle.format.specs.Text.{Bytes, is, number_of}
use Rattle.format.specs.File.{Node, in_formulas}
use Rattle.format.specs.Tables.{absent, most_formulas}
use Rattle.format.specs.Tests.{Test, ◌when◌, rank, first}
use Rattle.counts.specs.declared.Counts.{Counts}
use Rattle.tables.specs.declared.records.NodeRecord.{NodeRecord}
use Rattle.early.specs.Early.{numbered}
use Rattle.state.specs.State.{not_next, Memory}
use Rattle.state.specs.Lined.{Lined}
use Rattle.state.specs.declared.State.{State}
use Rattle.refusals.specs.declared.Refusal.{Refusal}
use Rattle.keywords.specs.Words.{word_code}
use Rattle.keywords.specs.declared.Word.{Word}
use Rattle.text.specs.Numbers.{number_as}
use Rattle.lines.specs.Stepping.{at_line}
use Rattle.lines.specs.declared.formula.Written.{Written}

-- the formula, as it is written
abbrev pub written_of : Node → Written
written_of Node.bot = Written.Bot
written_of (Node.atom p) = Written.Atom p
written_of (Node.not i) = Written.Not i
written_of (Node.and i j) = Written.And i j
written_of (Node.or i j) = Written.Or i j
written_of (Node.imp i j) = Written.Imp i j

abbrev pub written_as : Math.Option Node → Option Written
written_as Math.none = None
written_as (Math.some node) = Some (written_of node)

-- the one operand of two fields
abbrev pub one_operand : Bytes → Bytes → Option ℕ
one_operand first second = cond (is "-" second) (number_as (number_of first)) None

-- the two
abbrev pub both_of : Option ℕ → Option ℕ → Option (ℕ × ℕ)
both_of None second = None
both_of (Some i) None = None
both_of (Some i) (Some j) = Some (i, j)

abbrev pub two_operands : Bytes → Bytes → Option (ℕ × ℕ)
two_operands first second = both_of (number_as (number_of first)) (number_as (number_of second))

-- its record, as numbers of 16 bits
abbrev pub record_by : Word → ℕ → ℕ → NodeRecord
record_by word first second = record { word = word_code word; first = first; second = second }

abbrev pub narrowed : Written → NodeRecord
narrowed Written.Bot = record_by Word.Bot absent absent
narrowed (Written.Atom p) = record_by Word.Atom (p % 65536) absent
narrowed (Written.Not i) = record_by Word.Not (i % 65536) absent
narrowed (Written.And i j) = record_by Word.And (i % 65536) (j % 65536)
narrowed (Written.Or i j) = record_by Word.Or (i % 65536) (j % 65536)
narrowed (Written.Imp i j) = record_by Word.Imp (i % 65536) (j % 65536)

-- an operand is not earlier: none, an atom, a formula, or one of two formulas
abbrev pub ahead_in : Written → Counts → Bool
ahead_in Written.Bot c = false
ahead_in (Written.Atom p) c = leb c.atoms p
ahead_in (Written.Not i) c = leb c.formulas i
ahead_in (Written.And i j) c = leb c.formulas i || leb c.formulas j
ahead_in (Written.Or i j) c = leb c.formulas i || leb c.formulas j
ahead_in (Written.Imp i j) c = leb c.formulas i || leb c.formulas j

-- the numbers 4, 5 and 7, by the formula as it was read and the state
abbrev pub formula_tests_by : State → ℕ → Written → List Test
formula_tests_by s n node =
    (4 when not_next s.stage (rank in_formulas) s.counts.formulas n)
    ∷ (5 when leb most_formulas s.counts.formulas)
    ∷ (7 when ahead_in node s.counts)
    ∷ []

pub record FormulaNumbered (s : State) (n : ℕ) (node : Written) (k : ℕ) : Type 0 where
  pub tests : numbered k ≡ first (formula_tests_by s n node)

-- the contents with other formulas and words
abbrev pub with_formulas : Memory → List ℕ → List ℕ → Memory
with_formulas t formulas notes = record { names = t.names; formulas = formulas; notes = notes; rows = t.rows; left = t.left; right = t.right }

abbrev pub FormulaLined : Bytes → State → Result State Refusal → List ℕ → List ℕ → List ℕ → List ℕ → Type 0
FormulaLined line s r formulas notes formulas' notes' =
    (text : Bytes) (start number : ℕ) (t : Memory)
    → Lined text start line number s (at_line number r) (with_formulas t formulas notes) (with_formulas t formulas' notes')
