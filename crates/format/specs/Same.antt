-- When two texts mean the same, and when one is the other with its sides written in another way (paper 02, M-102: "All ways to write
-- one set give equal tables").
use Rattle.std.specs.Prelude.{◌≡◌, true, List, [], ◌∷◌, map, ◌⊎◌, ◌↔◌, ℕ}
use Rattle.std.proofs.Math.Option.{some}
use Rattle.equilibrium.specs.Meaning.{◌≈◌}
use Rattle.format.specs.Text.{Bytes, bytes, lines_of, fields_of, side_of, strictly_rising}
use Rattle.format.specs.Line.{line_of}

-- line for line the same is read: the same kind, number, name, word, principal and premises, the same lists meant, or a line that is
-- badly written in both; and both texts end in LF or neither does
pub record MeanTheSame (one other : Bytes) : Type 0 where
  pub lines : map line_of (lines_of one).complete ≡ map line_of (lines_of other).complete
  pub ended : ((lines_of one).rest ≡ []) ↔ ((lines_of other).rest ≡ [])

-- two fields that write one set, as a strictly rising list each
pub record WriteOneSet (one other : Bytes) : Type 0 where
  pub first : List ℕ
  pub second : List ℕ
  pub reads_first : side_of one ≡ some first
  pub reads_second : side_of other ≡ some second
  pub first_rises : strictly_rising first ≡ true
  pub second_rises : strictly_rising second ≡ true
  pub same_set : first ≈ second

-- a side as it was, or its set written in another way
abbrev pub SideRewritten : Bytes → Bytes → Type 0
SideRewritten one other = (one ≡ other) ⊎ WriteOneSet one other

-- a line as it was, or a row, a model or a claim with its sides rewritten
pub data LineRewritten (one other : Bytes) : Type 0 where
  kept : one ≡ other → LineRewritten one other
  row : (number word principal premises l r l' r' : Bytes) → fields_of one ≡ bytes "N" ∷ number ∷ word ∷ principal ∷ premises ∷ l ∷ r ∷ []
      → fields_of other ≡ bytes "N" ∷ number ∷ word ∷ principal ∷ premises ∷ l' ∷ r' ∷ [] → SideRewritten l l' → SideRewritten r r' → LineRewritten one other
  model : (atoms atoms' : Bytes) → fields_of one ≡ bytes "M" ∷ atoms ∷ [] → fields_of other ≡ bytes "M" ∷ atoms' ∷ [] → SideRewritten atoms atoms'
      → LineRewritten one other
  claim : (l r l' r' : Bytes) → fields_of one ≡ bytes "C" ∷ l ∷ r ∷ [] → fields_of other ≡ bytes "C" ∷ l' ∷ r' ∷ []
      → SideRewritten l l' → SideRewritten r r' → LineRewritten one other

-- lines rewritten one by one
abbrev pub LinesRewritten : List Bytes → List Bytes → Type 0
LinesRewritten [] [] = Unit {0}
LinesRewritten [] (m ∷ ms) = ⊥
LinesRewritten (l ∷ ls) [] = ⊥
LinesRewritten (l ∷ ls) (m ∷ ms) = LineRewritten l m × LinesRewritten ls ms

-- a text with its sides written in another way
pub record Rewritten (one other : Bytes) : Type 0 where
  pub lines : LinesRewritten (lines_of one).complete (lines_of other).complete
  pub rest : (lines_of one).rest ≡ (lines_of other).rest
