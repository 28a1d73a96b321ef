-- The tests that a row has to pass before its rule is asked, by the row as it was read and the counts of what is held.
use Rattle.std.specs.Prelude
use Rattle.std.specs.Prelude.{ℕ, zero, suc, Bool, false, not, ◌||◌, List, [], ◌∷◌, ltb, leb, Some, None}
use Rattle.std.proofs.Math.Option.{Option, none, some}
use Rattle.format.specs.Tables.{most_on_side}
use Rattle.format.specs.Tests.{Test, ◌when◌}
use Rattle.text.specs.declared.lists.Listed.{Listed}
use Rattle.counts.specs.Counts.{full_for}
use Rattle.counts.specs.declared.Counts.{Counts}
use Rattle.drafts.specs.declared.Draft.{Draft}

-- some number of the list is not below `held`
abbrev pub past_of : Listed → ℕ → Bool
past_of list held = ltb held list.above

abbrev pub ahead_of : Prelude.Option ℕ → ℕ → Bool
ahead_of None held = false
ahead_of (Some i) held = leb held i

-- not strictly rising, or too many
abbrev pub bad_of : Listed → Bool
bad_of side = not side.rising || ltb most_on_side side.count

-- some number that the row refers to is not earlier
abbrev pub references_of : Draft → Counts → Bool
references_of d c =
    ahead_of d.principal c.formulas || past_of d.premises c.rows || past_of d.left c.formulas || past_of d.right c.formulas

-- the numbers 5, 7 and 9
abbrev pub early_of : Draft → Counts → List Test
early_of d c =
    (5 when full_for c d.left.count d.right.count)
    ∷ (7 when references_of d c)
    ∷ (9 when bad_of d.left || bad_of d.right)
    ∷ []

-- a refusal number, where 0 is none
abbrev pub numbered : ℕ → Option ℕ
numbered zero = none
numbered (suc n) = some (suc n)
