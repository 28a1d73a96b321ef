-- The parts of a row as tables tell them, whatever they hold.
use Rattle.std.specs.Prelude.{ℕ, Bool, true, false, cond, List, [], ◌∷◌, map, eqb}
use Rattle.std.proofs.Math.Option.{Option, none, some}
use Rattle.elk.specs.Sequent.{Kind, elk, refutation}
use Rattle.format.specs.Text.{Bytes, ◌<$>◌}
use Rattle.format.specs.Tables.{Side, absent}
use Rattle.words.specs.Told.{Named}
use Rattle.words.specs.Words.{side_words}
use Rattle.phrases.specs.Formulas.{table_formula}

-- the calculus of a row, by whether it is ELK
abbrev pub kind_by : Bool → Kind
kind_by true = elk
kind_by false = refutation

-- a number that may be absent
abbrev pub present : ℕ → Option ℕ
present n = cond (eqb n absent) none (some n)

-- two premises, of which one or both may be absent
unfoldable pub premises_from : ℕ → ℕ → List ℕ
premises_from first second = cond (eqb first absent) [] (cond (eqb second absent) (first ∷ []) (first ∷ second ∷ []))

module _ (text : Bytes) (names formulas : List ℕ) where
  -- the principal formula
  unfoldable pub table_principal : ℕ → Option Named
  table_principal principal = table_formula text names formulas <$> present principal

  -- the words of a side
  unfoldable pub table_side : Kind → Side → List ℕ → Bytes
  table_side kind side numbers = side_words kind side (map (table_formula text names formulas) numbers)
