-- What is known of each formula besides its record, in notes beside the table, 64 bits each: the atoms that occur in it, and an index by which
-- an equal formula is found.
use Rattle.std.specs.Prelude.{ℕ, ◌<◌, Bool, false, cond, ◌&&◌, ◌||◌, List, ◌↔◌, eqb, ltb, leb, length, get_or}
use Rattle.equilibrium.specs.Formula.{atoms_of}
use Rattle.equilibrium.specs.Meaning.{◌∈◌}
use Rattle.format.specs.File.{Body, decoded_at}
use Rattle.atomset.specs.AtomSet.{has, Member}
use Rattle.tables.specs.declared.records.NodeRecord.{NodeRecord}
use Rattle.known.specs.Index.{Indexed}

-- the note of formula i is the set of the atoms that occur in it
abbrev pub AtomNotes : Body → List ℕ → Type 0
AtomNotes b notes = (i : ℕ) → i < length b.nodes → (k : ℕ) → Member k (get_or notes i 0) ↔ (k ∈ atoms_of (decoded_at b.nodes i))

pub record Known (b : Body) (notes : List ℕ) : Type 0 where
  pub atoms : AtomNotes b notes
  pub index : Indexed b.nodes notes

-- atom p occurs in the formula of a record, by the notes of the formulas before it; none does where the record is no formula's
unfoldable pub occurs_by : List ℕ → NodeRecord → ℕ → Bool
occurs_by notes n p =
    cond (eqb n.word 1) (eqb p n.first && ltb n.first 64) (
    cond (eqb n.word 2) (has (get_or notes n.first 0) p) (
    cond (leb 3 n.word && leb n.word 5) (has (get_or notes n.first 0) p || has (get_or notes n.second 0) p) false))
