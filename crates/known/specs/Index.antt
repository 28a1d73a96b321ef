-- An index of the formulas by their records, in notes beside the table.
use Rattle.std.specs.Prelude.{Some, None}
use Rattle.std.specs.Prelude.{Option as Located}
use Rattle.std.specs.Prelude.{ℕ, suc, ◌+◌, ◌*◌, ◌%◌, ◌≤◌, ◌<◌, false, cond, List, ◌≡◌, leb, length, get_or, set}
use Rattle.std.proofs.Math.Option.{Option, none, some}
use Rattle.format.specs.Text.{any, same_list}
use Rattle.format.specs.File.{Node}
use Rattle.format.specs.Tables.{node_record}
use Rattle.tables.specs.Records.{node_at, record_from, record_numbers}
use Rattle.tables.specs.Holding.{HoldsNodes}

-- the notes of the slots and of the formulas begin here
abbrev pub slot_notes : ℕ
slot_notes = 1024

abbrev pub formula_notes : ℕ
formula_notes = 2048

-- the slot of a record
abbrev pub slot_of : List ℕ → ℕ
slot_of numbers = (get_or numbers 0 0 + 31 * get_or numbers 1 0 + 173 * get_or numbers 2 0) % 1024

-- the slot of formula i
abbrev pub slot_at : List Node → ℕ → ℕ
slot_at nodes i = slot_of (node_record (get_or nodes i Node.bot))

-- `after` is one past the last formula before `end` of this slot; 0 where there is none
pub record Last (nodes : List Node) (slot end after : ℕ) : Type 0 where
  pub none_later : (j : ℕ) → j < end → slot_at nodes j ≡ slot → j < after
  pub within : after ≤ end
  pub of_slot : (i : ℕ) → after ≡ suc i → slot_at nodes i ≡ slot

-- the notes are an index of these formulas
pub record Indexed (nodes : List Node) (notes : List ℕ) : Type 0 where
  pub few : length nodes ≤ 1024
  pub slots : (s : ℕ) → s < 1024 → Last nodes s (length nodes) (get_or notes (slot_notes + s) 0)
  pub formulas : (i : ℕ) → i < length nodes → Last nodes (slot_at nodes i) i (get_or notes (formula_notes + i) 0)

-- the notes with formula i entered, which has this record
abbrev pub entered : List ℕ → ℕ → List ℕ → List ℕ
entered notes i numbers =
    cond (leb 1024 i) notes (set (set notes (formula_notes + i) (get_or notes (slot_notes + slot_of numbers) 0)) (slot_notes + slot_of numbers) (i + 1))

-- the place that an answer gives
abbrev pub place_in : Located ℕ → Option ℕ
place_in (Some i) = some i
place_in None = none

-- What is found by the index, in any tables: a formula that has the record. Where the table holds formulas with their index, it
-- is one of them, and nothing is found only where none has the record; elsewhere it is free whether one is found.
pub record NodeFound (formulas notes numbers : List ℕ) (place : Option ℕ) : Type 0 where
  pub there : (i : ℕ) → place ≡ some i → record_numbers (record_from (node_at formulas i)) ≡ numbers
  pub within : (nodes : List Node) → HoldsNodes nodes formulas → Indexed nodes notes → (i : ℕ) → place ≡ some i → i < length nodes
  pub missing :
      (nodes : List Node) → HoldsNodes nodes formulas → Indexed nodes notes → place ≡ none
      → any (λ m. same_list (node_record m) numbers) nodes ≡ false
