-- What a names table spells: outside and inside of it, and where it begins with names that stand in the text. Assumes nothing but
-- the laws of tables.
use Prim.Native.Nat.{ℕ, ◌+◌, ◌*◌, ◌≤◌, ◌<◌, zero-le}
use mathlib.Core.List.{List, []}
use mathlib.Core.Path.{◌≡◌, refl, ap, ap₂, ◌∙◌}
use lib.Dec.{lit<}
use lib.ListN.{length, get_or}
use Rattle.format.specs.Text.{Bytes}
use Rattle.format.specs.File.{Name}
use Rattle.format.specs.Tables.{part, join_all, name_record, name_width}
use Rattle.tables.specs.Holding.{Begins}
use Rattle.tables.specs.Names.{StandsIn}
use Rattle.tables.proofs.Placed.{part_inside, part_outside, part_at, part_first}
use Rattle.tables.proofs.Encoded.{record_at_lem}
use Rattle.writer.specs.Names.{name_at, spelling}

module _ (text : Bytes) (names : List ℕ) (atom : ℕ) where
  spelled_by_lem : List ℕ → Bytes
  spelled_by_lem place = part text (get_or place 0 0) (get_or place 1 0)

  pub spelling_outside : length names < name_width * atom + name_width → spelling text names atom ≡ []
  unfolding spelling spelled_by_lem
  spelling_outside h = ap spelled_by_lem (part_outside names (name_width * atom) name_width h) ∙ part_inside text 0 0 zero-le

  pub spelling_inside : name_width * atom + name_width ≤ length names
      → spelling text names atom ≡ part text (get_or names (name_width * atom) 0) (get_or names (name_width * atom + 1) 0)
  unfolding spelling
  spelling_inside h =
      ap₂ (part text) (part_first names (name_width * atom) name_width 0 0 h (lit< tt)) (part_at names (name_width * atom) name_width 1 0 0 h (lit< tt))

  -- the name that stands where its record says
  pub spelling_held : (ms : List Name) (d : Name) → Begins (join_all name_record ms) names → atom < length ms → StandsIn text (get_or ms atom d)
      → spelling text names atom ≡ (get_or ms atom d).name
  unfolding spelling spelled_by_lem
  spelling_held ms d held h stands =
      ap (λ (table : List ℕ). spelled_by_lem (name_at table atom)) held.whole
      ∙ ap spelled_by_lem (record_at_lem name_record name_width (λ m. refl) ms atom d held.rest h)
      ∙ part_inside text _ _ stands.inside
      ∙ stands.there
