-- What the judging of handed-in tables comes to, as a whole and on its way along their records.
use Rattle.std.specs.Prelude.{None, Some}
use Rattle.std.specs.Prelude.{Option as Counted}
use Rattle.std.specs.Prelude.{ℕ, ◌+◌, ◌*◌, ◌≤◌, ◌≡◌, Bool, true, false, not, ◌&&◌, ◌||◌, cond, List, [], ◌∷◌, eqb, leb, ltb, length, replicate}
use Rattle.std.proofs.Math.Option.{Option, none, some}
use Rattle.format.specs.File.{Node, Body}
use Rattle.format.specs.Tables.{absent, most_atoms, most_formulas}
use Rattle.format.specs.Tests.{refers_ahead}
use Rattle.text.specs.Numbers.{number_as}
use Rattle.text.specs.Lists.{listed_of}
use Rattle.counts.specs.Counts.{counts_of}
use Rattle.counts.specs.declared.Counts.{Counts}
use Rattle.tables.specs.declared.records.RowRecord.{RowRecord}
use Rattle.known.specs.Known.{Known}
use Rattle.drafts.specs.declared.Draft.{Draft}
use Rattle.rows.specs.Judgement.{Ground}
use Rattle.bodies.specs.Open.{Tables, four, IsOpen}
use Rattle.bodies.specs.Walk.{principal_from, node_step, row_step, walked_nodes, walked_rows}

-- ---- formulas

-- there is such a formula, and what it names is earlier
abbrev pub refers_back : Body → Option Node → Bool
refers_back b none = false
refers_back b (some node) = not (refers_ahead b node)

-- whether a body was found, which the notes then know
abbrev pub FoundKnown : Option Body → Bool → List ℕ → Type 0
FoundKnown none r notes = r ≡ false
FoundKnown (some b) r notes = (r ≡ true) × Known b notes

-- notes for the most formulas
abbrev pub Roomy : List ℕ → Type 0
Roomy notes = 3 * most_formulas ≤ length notes

-- one formula more, over every good body without rows that the table begins with
pub record NodeEntered (formulas notes : List ℕ) (atoms i : ℕ) (notes' : List ℕ) (r : Bool) : Type 0 where
  pub stepped :
      (b : Body) (rows left right : List ℕ) → Ground b (counts_of b) formulas notes rows left right → b.rows ≡ []
      → atoms ≡ b.atoms → i ≡ length b.nodes → Roomy notes → FoundKnown (node_step (four formulas rows left right) b) r notes'
  pub kept : length notes' ≡ length notes

-- all formulas, with fresh notes
pub record NodesRead (formulas notes : List ℕ) (c : Counts) (notes' : List ℕ) (r : Bool) : Type 0 where
  pub walked :
      (rows left right : List ℕ) → c.atoms ≤ most_atoms → Roomy notes → notes ≡ replicate (length notes) 0
      → FoundKnown (walked_nodes (four formulas rows left right) c) r notes'
  pub kept : length notes' ≡ length notes

-- ---- rows

-- the premises of two fields, where there is no second without a first
abbrev pub premises_in : ℕ → ℕ → List ℕ
premises_in one two = cond (eqb one absent) [] (one ∷ cond (eqb two absent) [] (two ∷ []))

-- the draft of a row as its record tells it, with these sides
abbrev pub draft_from : RowRecord → List ℕ → List ℕ → Draft
draft_from record' left right =
    record {
      rule = record'.rule;
      principal = number_as (principal_from record'.principal);
      premises = listed_of (premises_in record'.first record'.second);
      first = record'.first;
      second = record'.second;
      left = listed_of left;
      right = listed_of right;
    }

-- the sides lie in their pools, which are so long, after what is held; the rule is one of the 38, and there is no second premise
-- without a first
unfoldable pub stands_next : RowRecord → ℕ → ℕ → Counts → Bool
stands_next n left right held =
    (eqb n.left_start held.left && leb (n.left_start + n.left_length) left)
    && (eqb n.right_start held.right && leb (n.right_start + n.right_length) right)
    && ltb n.rule 38
    && (not (eqb n.first absent) || eqb n.second absent)

-- the counts of a body, if there is one
abbrev pub counts_in : Option Body → Counted Counts
counts_in none = None
counts_in (some b) = Some (counts_of b)

-- one row more, over every good body that the tables begin with
abbrev pub NextRow : Tables → List ℕ → Counts → Counted Counts → Type 0
NextRow t notes held r = (b : Body) → Ground b held t.formulas notes t.rows t.left t.right → r ≡ counts_in (row_step t b)

-- there is one
abbrev pub is_some : Option Body → Bool
is_some none = false
is_some (some b) = true

-- all rows, over every good body without rows that the tables begin with
abbrev pub RowsRead : Tables → List ℕ → Counts → Bool → Type 0
RowsRead t notes c r =
    (b : Body) → Ground b (counts_of b) t.formulas notes t.rows t.left t.right → b.rows ≡ []
    → c.atoms ≡ b.atoms → c.formulas ≡ length b.nodes → r ≡ is_some (walked_rows t c b)

-- ---- the whole

-- With fresh notes the answer says whether the tables and counts are those of a good body, and if so the notes then know its formulas.
-- Free: the answer with other notes, and what the notes hold then or where the answer is false. Their length stays in any case.
pub record BodyRead (t : Tables) (c : Counts) (notes notes' : List ℕ) (r : Bool) : Type 0 where
  pub found : Roomy notes → notes ≡ replicate (length notes) 0 → r ≡ true → (b : Body) × IsOpen t c b × Known b notes'
  pub missing : Roomy notes → notes ≡ replicate (length notes) 0 → r ≡ false → (b : Body) → IsOpen t c b → ⊥
  pub kept : length notes' ≡ length notes
