-- What the lent tables and the state hold between two lines: the file that the accepted beginning comes to.
use Rattle.std.specs.Prelude
use Rattle.std.specs.Prelude.{ℕ, ◌≤◌, ◌*◌, ◌≡◌, Bool, cond, not, ◌&&◌, ◌||◌, List, [], eqb, ltb, length, Some, None, Result, Err, IsOkAnd, IsErrAnd}
use Rattle.std.specs.Result.{ForErr}
use Rattle.std.proofs.Math.Option.{Option, none, some}
use Rattle.equilibrium.specs.Meaning.{◌∈◌}
use Rattle.format.specs.Text.{Bytes}
use Rattle.format.specs.File.{Name, Model, Claim, in_atoms, modelled, claimed, File}
use Rattle.format.specs.Tables.{padded, join_all, name_record, node_record, row_records, left_pool, right_pool, most_formulas, least}
use Rattle.format.specs.Tests.{rank}
use Rattle.format.specs.Judged.{Outcome, next, refused}
use Rattle.atomset.specs.AtomSet.{members}
use Rattle.counts.specs.Counts.{counts_of, no_counts}
use Rattle.known.specs.Known.{Known}
use Rattle.tables.specs.Names.{StandsIn}
use Rattle.counts.specs.declared.Counts.{Counts}
use Rattle.refusals.specs.Refusals.{number_of}
use Rattle.refusals.specs.declared.Refusal.{Refusal}
use Rattle.state.specs.declared.State.{State}
use Rattle.state.specs.declared.ModelLine.{ModelLine}
use Rattle.state.specs.declared.Refused.{Refused}

-- what a line comes to: the state after it, or a refusal with the line that it belongs to
abbrev pub Stepped : Type 0
Stepped = Result State Refused

abbrev pub start : State
start = record { counts = no_counts; stage = rank in_atoms; model = None; claim = None }

-- a refusal, and the line that it belongs to
abbrev pub refused_by : Refusal → ℕ → Stepped
refused_by refusal line = Err (record { refusal = refusal; line = line })

-- the state after a line of this stage
abbrev pub passed_by : State → Counts → ℕ → State
passed_by s counts stage = record { counts = counts; stage = stage; model = s.model; claim = s.claim }

-- the state after an M line of these atoms
abbrev pub modelled_by : State → ℕ → ℕ → State
modelled_by s atoms line =
    record { counts = s.counts; stage = rank modelled; model = Some (record { atoms = atoms; line = line }); claim = s.claim }

-- the state after a claim
abbrev pub claimed_by : State → ℕ → State
claimed_by s line = record { counts = s.counts; stage = rank claimed; model = s.model; claim = Some line }

-- the line of the M line, 0 if there is none
abbrev pub line_held : Prelude.Option ModelLine → ℕ
line_held None = 0
line_held (Some m) = m.line

-- the line that a refusal of the model belongs to: the M line, if that was the last one, or this one
abbrev pub model_report : State → ℕ → ℕ
model_report s line = cond (eqb s.stage (rank modelled)) (line_held s.model) line

-- a line of the stage `coming` may not follow, by the numbers of the stages
unfoldable pub out_of_turn : ℕ → ℕ → Bool
out_of_turn stage coming = not (ltb stage coming || (eqb stage coming && ltb coming (rank modelled)))

-- the same, or its number is not the next one
unfoldable pub not_next : ℕ → ℕ → ℕ → ℕ → Bool
not_next stage coming held number = out_of_turn stage coming || not (eqb number held)

-- the atoms of the M line as one word, and its line, if there is one
abbrev pub ModelHeld : Option Model → Prelude.Option ModelLine → Type 0
ModelHeld none None = Unit {0}
ModelHeld none (Some m) = ⊥
ModelHeld (some m) None = ⊥
ModelHeld (some m) (Some held) = (members held.atoms ≡ m.atoms) × (held.line ≡ m.line)

-- the line of the claim, if there is one
abbrev pub claim_line : Option Claim → Prelude.Option ℕ
claim_line none = None
claim_line (some c) = Some c.line

-- the contents of the lent tables, and of the notes on the formulas
pub record Memory : Type 0 where
  pub names : List ℕ
  pub formulas : List ℕ
  pub notes : List ℕ
  pub rows : List ℕ
  pub left : List ℕ
  pub right : List ℕ

abbrev pub tables : List ℕ → List ℕ → List ℕ → List ℕ → List ℕ → List ℕ → Memory
tables names formulas notes rows left right = record { names = names; formulas = formulas; notes = notes; rows = rows; left = left; right = right }

-- the tables are of full length
pub record Full (t : Memory) : Type 0 where
  pub names : least.names ≤ length t.names
  pub formulas : least.formulas ≤ length t.formulas
  pub notes : 3 * most_formulas ≤ length t.notes
  pub rows : least.rows ≤ length t.rows
  pub left : least.left ≤ length t.left
  pub right : least.right ≤ length t.right

-- no length has changed
pub record SameLengths (t u : Memory) : Type 0 where
  pub names : length u.names ≡ length t.names
  pub formulas : length u.formulas ≡ length t.formulas
  pub notes : length u.notes ≡ length t.notes
  pub rows : length u.rows ≡ length t.rows
  pub left : length u.left ≡ length t.left
  pub right : length u.right ≡ length t.right

-- the table holds these numbers, and zeros after them
abbrev pub Exactly : List ℕ → List ℕ → Type 0
Exactly held table = table ≡ padded (length table) held

-- the state relation: the tables and the state hold the file, and zeros follow in each table
pub record Stored (text : Bytes) (f : File) (s : State) (t : Memory) : Type 0 where
  pub full : Full t
  pub counts : s.counts ≡ counts_of f.body
  pub stage : s.stage ≡ rank f.stage
  pub model : ModelHeld f.model s.model
  pub claim : s.claim ≡ claim_line f.claim
  pub names_in : (n : Name) → n ∈ f.names → StandsIn text n
  pub names : Exactly (join_all name_record f.names) t.names
  pub formulas : Exactly (join_all node_record f.body.nodes) t.formulas
  pub known : Known f.body t.notes
  pub rows : Exactly (row_records f.body.rows) t.rows
  pub left : Exactly (left_pool f.body.rows) t.left
  pub right : Exactly (right_pool f.body.rows) t.right

-- what one line does: the file with the line is stored, or its number and line are given
abbrev pub Steps : Bytes → Outcome File → Stepped → Memory → Type 0
Steps text (next f) r t = IsOkAnd r (λ s. Stored text f s t)
Steps text (refused n l) r t = IsErrAnd r (λ e. (number_of e.refusal ≡ n) × (e.line ≡ l))

-- what holds of a line in any tables: one that is refused leaves them as they were, and no length changes
pub record Keeps (r : Stepped) (t u : Memory) : Type 0 where
  pub kept : ForErr r (λ e. u ≡ t)
  pub lengths : SameLengths t u
