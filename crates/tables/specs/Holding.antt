-- Tables that hold a body. A table begins with what the body's records or sides are; what stands after does not matter, so that
-- a body is held, too, where later rows stand behind it.
use Rattle.std.specs.Prelude.{ℕ, ◌≡◌, true, false, List, ◌++◌}
use Rattle.format.specs.Text.{strictly_rising}
use Rattle.format.specs.File.{Node, Row, Body}
use Rattle.format.specs.Tables.{join_all, node_record, row_records, left_pool, right_pool}
use Rattle.format.specs.Tests.{unknown_formula}
use Rattle.format.specs.Good.{GoodBody}

-- the table begins with these numbers
pub record Begins (held table : List ℕ) : Type 0 where
  pub rest : List ℕ
  pub whole : table ≡ held ++ rest

-- the formulas table begins with the formulas
pub record HoldsNodes (nodes : List Node) (formulas : List ℕ) : Type 0 where
  pub records : Begins (join_all node_record nodes) formulas

-- the rows table and the pools begin with the rows and their sides
pub record HoldsRows (rows : List Row) (table left right : List ℕ) : Type 0 where
  pub records : Begins (row_records rows) table
  pub left_pool : Begins (left_pool rows) left
  pub right_pool : Begins (right_pool rows) right

-- the formulas table begins with the formulas of a good body
pub record Formulas (b : Body) (formulas : List ℕ) : Type 0 where
  pub good : GoodBody b
  pub table : HoldsNodes b.nodes formulas

-- a side as numbers 7 and 9 leave it: of known formulas, strictly rising
pub record Sided (b : Body) (side : List ℕ) : Type 0 where
  pub known : unknown_formula b side ≡ false
  pub rising : strictly_rising side ≡ true
