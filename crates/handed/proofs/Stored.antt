-- What is known of a row by its record: its premises by two fields, its sides number by number, and its place. Assumes nothing.
use Prim.Native.Nat.{ℕ, ◌+◌, ◌<◌, max}
use native.Mathlib.Omega.{arith}
use mathlib.Core.Path.{◌≡◌, refl, ap, ◌∙◌}
use mathlib.Core.Bool.{Bool, not, ◌&&◌, ◌||◌}
use mathlib.Core.List.{List, [], ◌∷◌, ◌++◌}
use lib.Dec.{eqb, leb, ltb}
use Rattle.format.specs.Tables.{absent}
use Rattle.text.specs.Lists.{most_counted, listed_of}
use Rattle.text.proofs.ListLaws.{spanned_one, entered_with}
use Rattle.counts.specs.declared.Counts.{Counts}
use Rattle.tables.specs.declared.records.RowRecord.{RowRecord}
use Rattle.handed.specs.Handed.{stands_next}

-- what is known of a list with one number more
pub list_more : (xs : List ℕ) (x i past : ℕ) (rising : Bool) → record { count = i; above = past; rising = rising } ≡ listed_of xs → i < most_counted
    → record { count = i + 1; above = max past (x + 1); rising = rising && leb past x } ≡ listed_of (xs ++ x ∷ [])
list_more xs x i past rising e room =
    entered_with x x (omega arith) (record { count = i; above = past; rising = rising }) (i + 1) (omega arith) (max past (x + 1)) refl
    (rising && leb past x) refl xs e
    ∙ ap (λ (l : List ℕ). listed_of (xs ++ l)) (spanned_one x)

-- ---- the place of a row

-- the side starts where the entries before it end, and lies inside its pool
abbrev pub placed : ℕ → ℕ → ℕ → ℕ → Bool
placed start len held pool = eqb start held && leb (start + len) pool

module _ (n : RowRecord) (left right : ℕ) (held : Counts) where
  pub stands_by : (a b d e f : Bool) → placed n.left_start n.left_length held.left left ≡ a
      → placed n.right_start n.right_length held.right right ≡ b → ltb n.rule 38 ≡ d → eqb n.first absent ≡ e
      → eqb n.second absent ≡ f → stands_next n left right held ≡ a && b && d && (not e || f)
  unfolding stands_next
  stands_by a b d e f p q r s t = cc
