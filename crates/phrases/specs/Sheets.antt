-- What a sheet tells, by the tables that it has.
use Rattle.std.specs.Prelude.{ℕ, List}
use Rattle.std.proofs.Math.Option.{Option}
use Rattle.elk.specs.Sequent.{Kind}
use Rattle.format.specs.Text.{Bytes}
use Rattle.format.specs.Tables.{Side}
use Rattle.words.specs.Told.{Named}
use Rattle.writer.specs.Names.{spelling}
use Rattle.phrases.specs.Formulas.{table_formula}
use Rattle.phrases.specs.Rows.{table_principal, table_side}
use Rattle.phrases.specs.declared.Sheet.{Sheet}

module _ (s : Sheet) where
  abbrev pub name_in : ℕ → Bytes
  name_in atom = spelling s.text.now s.names.now atom

  abbrev pub formula_in : ℕ → Named
  formula_in i = table_formula s.text.now s.names.now s.formulas.now i

  abbrev pub principal_in : ℕ → Option Named
  principal_in principal = table_principal s.text.now s.names.now s.formulas.now principal

  abbrev pub side_in : Kind → Side → List ℕ → Bytes
  side_in kind side numbers = table_side s.text.now s.names.now s.formulas.now kind side numbers
