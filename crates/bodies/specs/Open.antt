-- An open file (paper 02, M-105): four lent tables and the counts, and when they are those of a good body.
use Rattle.std.specs.Prelude.{◌≡◌, List, [], length, ℕ}
use Rattle.format.specs.File.{Body}
use Rattle.format.specs.Tables.{Lent, least, padded, encode_body}
use Rattle.format.specs.Good.{GoodBody}
use Rattle.counts.specs.Counts.{counts_of}
use Rattle.counts.specs.declared.Counts.{Counts}

-- the lent tables; the names table is not among them
pub record Tables : Type 0 where
  pub formulas : List ℕ
  pub rows : List ℕ
  pub left : List ℕ
  pub right : List ℕ

-- the four tables together
abbrev pub four : List ℕ → List ℕ → List ℕ → List ℕ → Tables
four formulas rows left right = record { formulas = formulas; rows = rows; left = left; right = right }

-- their lengths; for the names, which are not lent, the least that does
abbrev pub lent_of : Tables → Lent
lent_of t =
    record {
      names = least.names;
      formulas = length t.formulas;
      rows = length t.rows;
      left = length t.left;
      right = length t.right;
    }

-- tables of the same lengths with what a body's hold, and zeros after it
abbrev pub filled : Tables → Body → Tables
filled t b =
    record {
      formulas = padded (length t.formulas) (encode_body [] b).formulas;
      rows = padded (length t.rows) (encode_body [] b).rows;
      left = padded (length t.left) (encode_body [] b).left;
      right = padded (length t.right) (encode_body [] b).right;
    }

-- these tables with these counts are those of this good body
pub record IsOpen (t : Tables) (c : Counts) (b : Body) : Type 0 where
  pub good : GoodBody b
  pub counts : c ≡ counts_of b
  pub tables : t ≡ filled t b
