-- A lines: the number that an atom earns, and what the line comes to. Only the names can change.
use Rattle.std.specs.Prelude.{ℕ, ◌<◌, ◌≡◌, true, List, length, Result}
use Rattle.equilibrium.specs.Meaning.{◌∈◌}
use Rattle.format.specs.Text.{Bytes, is_name}
use Rattle.format.specs.File.{Name, File}
use Rattle.format.specs.Tables.{join_all, name_record, most_atoms}
use Rattle.format.specs.Tests.{rank, first, atom_tests}
use Rattle.tables.specs.Holding.{Begins}
use Rattle.tables.specs.Names.{StandsIn}
use Rattle.early.specs.Early.{numbered}
use Rattle.state.specs.State.{Memory}
use Rattle.state.specs.Lined.{Lined}
use Rattle.state.specs.declared.State.{State}
use Rattle.refusals.specs.declared.Refusal.{Refusal}
use Rattle.lines.specs.Stepping.{at_line}

-- the first of 4, 5 and 6 that applies
pub record AtomNumbered (text : Bytes) (names : List ℕ) (s : State) (n : ℕ) (name : Bytes) (k : ℕ) : Type 0 where
  pub passed : k ≡ 0 → (s.counts.atoms < most_atoms) × (is_name name ≡ true)
  pub tests :
      (f : File) → s.counts.atoms ≡ f.body.atoms → length f.names ≡ f.body.atoms → s.stage ≡ rank f.stage
      → ((m : Name) → m ∈ f.names → StandsIn text m) → Begins (join_all name_record f.names) names
      → numbered k ≡ first (atom_tests f n name)

-- the contents with another names table
abbrev pub with_names : Memory → List ℕ → Memory
with_names t names = record { names = names; formulas = t.formulas; notes = t.notes; rows = t.rows; left = t.left; right = t.right }

abbrev pub AtomLined : Bytes → ℕ → Bytes → State → Result State Refusal → List ℕ → List ℕ → Type 0
AtomLined text start line s r names names' =
    (number : ℕ) (t : Memory) → Lined text start line number s (at_line number r) (with_names t names) (with_names t names')
