-- The judgement of one row (numbers 5 to 11 of paper 01, and 18 of 02, M-104), by tables that begin with a good body: what stands after it
-- does not matter.
use Rattle.std.specs.Prelude.{ℕ, ◌≡◌, List, [], ◌∷◌, ◌++◌, ◌↔◌}
use Rattle.std.proofs.Math.Option.{none, some}
use Rattle.equilibrium.specs.Meaning.{◌∈◌}
use Rattle.format.specs.File.{Row, Body}
use Rattle.format.specs.Tests.{Test, first, room_tests, reference_tests, side_tests, body_tests}
use Rattle.format.specs.Good.{GoodBody}
use Rattle.format.specs.Passing.{RowInstance}
use Rattle.counts.specs.Counts.{counts_of}
use Rattle.tables.specs.Holding.{HoldsNodes, HoldsRows}
use Rattle.known.specs.Known.{Known}
use Rattle.counts.specs.declared.Counts.{Counts}
use Rattle.drafts.specs.Drafts.{Drafted}
use Rattle.early.specs.Early.{early_of, numbered}
use Rattle.drafts.specs.declared.Draft.{Draft}

-- the tables, and what is known of the formulas, are those of a good body with these counts
pub record Ground (b : Body) (c : Counts) (formulas notes rows left right : List ℕ) : Type 0 where
  pub good : GoodBody b
  pub counts : c ≡ counts_of b
  pub nodes : HoldsNodes b.nodes formulas
  pub known : Known b notes
  pub rows_held : HoldsRows b.rows rows left right

-- the tests before the rule's own
abbrev pub early_tests : Body → Row → List Test
early_tests b r = room_tests b r ++ reference_tests b r ++ side_tests r.left r.right

-- The number of a row. For every good body that the tables begin with it is the first that applies, and the row passes exactly
-- when it passes the tests before its rule and is an instance. In any tables 5, 7 and 9 are given by the draft and the counts;
-- where the tables hold no good body, or the draft is not a row's, which of 0, 10, 18 and 11 comes after these is free.
pub record RowNumbered (d : Draft) (c : Counts) (left right formulas notes rows left_pool right_pool : List ℕ) (number : ℕ) : Type 0 where
  pub given :
      (b : Body) (r : Row) → Ground b c formulas notes rows left_pool right_pool → Drafted r d left right
      → numbered number ≡ first (body_tests b r)
  pub passes :
      (b : Body) (r : Row) → Ground b c formulas notes rows left_pool right_pool → Drafted r d left right
      → (number ≡ 0) ↔ ((first (early_tests b r) ≡ none) × RowInstance b r)
  pub early : (n : ℕ) → first (early_of d c) ≡ some n → number ≡ n
  pub late : first (early_of d c) ≡ none → number ∈ 0 ∷ 10 ∷ 18 ∷ 11 ∷ []
