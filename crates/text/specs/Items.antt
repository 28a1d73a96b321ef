-- What the readers of one item of a list answer, as a function of what its bytes write (`Rattle.format.specs.Text`).
use Rattle.std.specs.Prelude.{ℕ, Bool, true, false, Option, None, Some}
use Rattle.std.proofs.Math.Option as Math
use Rattle.format.specs.Text.{Bytes, comma, Item, is_ordered, passing, number_of, item_of, ◌<$>◌}
use Rattle.parts.specs.Parts.{next_at, between}
use Rattle.text.specs.declared.items.Span.{Span}

-- an item of a list that may hold runs, or of one that may not
abbrev pub item_by : Bool → Bytes → Math.Option Item
item_by true part = item_of part
item_by false part = (λ n. Item.one n) <$> number_of part

-- an item and the place after it
abbrev pub span_as : Math.Option Item → ℕ → Option Span
span_as Math.none end = None
span_as (Math.some (Item.one n)) end = Some (record { first = n; last = n; end = end })
span_as (Math.some (Item.run first last)) end = Some (record { first = first; last = last; end = end })

-- what starts at a place, up to the next comma
abbrev pub part_at : Bytes → ℕ → Bytes
part_at field start = between field start (next_at comma field start)

-- an item
unfoldable pub item_at : Bool → Bytes → ℕ → Option Span
item_at runs field start = span_as (item_by runs (part_at field start)) (next_at comma field start)

-- the last number of a run, whose first is given
unfoldable pub run_at : ℕ → Bytes → ℕ → Option Span
run_at first field start = span_as (passing is_ordered ((λ last. Item.run first last) <$> number_of (part_at field start))) (next_at comma field start)
