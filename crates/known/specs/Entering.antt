-- What entering a formula comes to, in any tables.
use Rattle.std.specs.Prelude.{ℕ, ◌*◌, ◌≤◌, ◌<◌, List, [], ◌∷◌, ◌≡◌, leb, set, Result, Ok, Err}
use Rattle.std.proofs.Math.Option.{Option, none, some}
use Rattle.format.specs.Text.{any, same_list}
use Rattle.format.specs.File.{Node}
use Rattle.format.specs.Tables.{node_record, node_width, most_formulas}
use Rattle.format.specs.Tests.{◌when◌, first}
use Rattle.atomset.specs.AtomSet.{has}
use Rattle.tables.specs.Records.{written, record_numbers}
use Rattle.tables.specs.Holding.{HoldsNodes}
use Rattle.known.specs.Index.{entered, Indexed, NodeFound}
use Rattle.known.specs.Known.{occurs_by}
use Rattle.known.specs.declared.NoEntry.{NoEntry}
use Rattle.tables.specs.declared.records.NodeRecord.{NodeRecord}

-- what entering a formula answers: the number of the new one, or why there is none
abbrev pub Entry : Type 0
Entry = Result ℕ NoEntry

-- 01's number of each answer: an equal formula exists, or there is no room for it
abbrev pub entry_refusal : Entry → Option ℕ
entry_refusal (Err (NoEntry.Held i)) = some 8
entry_refusal (Ok i) = none
entry_refusal (Err NoEntry.Full) = some 5

-- the formulas table after it: a new formula stands after the others
abbrev pub with_new : List ℕ → ℕ → NodeRecord → Entry → List ℕ
with_new formulas count key (Err (NoEntry.Held i)) = formulas
with_new formulas count key (Ok i) = written formulas (node_width * count) (record_numbers key)
with_new formulas count key (Err NoEntry.Full) = formulas

-- tables with one formula more: its record after the others, its atoms, and its place in the index
pub record Appended (formulas notes : List ℕ) (count : ℕ) (key : NodeRecord) (formulas' notes' : List ℕ) : Type 0 where
  pub atoms : ℕ
  pub atoms_are : (p : ℕ) → has atoms p ≡ occurs_by notes key p
  pub put : formulas' ≡ written formulas (node_width * count) (record_numbers key)
  pub noted : notes' ≡ entered (set notes count atoms) count (record_numbers key)

-- A formula that is held already, or for which there is no room, changes nothing; a new one is appended.
pub data Enters (formulas notes : List ℕ) (count : ℕ) (key : NodeRecord) (formulas' notes' : List ℕ) : Entry → Type 0 where
  full : most_formulas ≤ count → formulas' ≡ formulas → notes' ≡ notes → Enters formulas notes count key formulas' notes' (Err NoEntry.Full)
  held :
      (i : ℕ) → count < most_formulas → NodeFound formulas notes (record_numbers key) (some i) → formulas' ≡ formulas → notes' ≡ notes
      → Enters formulas notes count key formulas' notes' (Err (NoEntry.Held i))
  new :
      count < most_formulas → NodeFound formulas notes (record_numbers key) none → Appended formulas notes count key formulas' notes'
      → Enters formulas notes count key formulas' notes' (Ok count)

-- The tables after it; and where the table holds formulas with their index, the number that the answer stands for: 5 where there
-- is no room, else 8 where an equal formula is held.
pub record FormulaEntered (formulas notes : List ℕ) (count : ℕ) (key : NodeRecord) (formulas' notes' : List ℕ) (r : Entry) : Type 0 where
  pub entry : Enters formulas notes count key formulas' notes' r
  pub refusal :
      (nodes : List Node) → HoldsNodes nodes formulas → Indexed nodes notes
      → entry_refusal r ≡ first ((5 when leb most_formulas count) ∷ (8 when any (λ m. same_list (node_record m) (record_numbers key)) nodes) ∷ [])
