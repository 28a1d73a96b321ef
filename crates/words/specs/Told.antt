-- Rows with formulas in the place of formula numbers and names in the place of atom numbers: what the words of a file tell.
use Rattle.std.specs.Prelude.{ℕ, List, [], map, get_or}
use Rattle.std.proofs.Math.Option.{Option}
use Rattle.equilibrium.specs.Formula.{Formula}
use Rattle.elk.specs.Rules.{Rule}
use Rattle.format.specs.Text.{Bytes, ◌<$>◌}
use Rattle.format.specs.File.{Node, Row, File, decoded_at}
use Rattle.format.specs.Good.{spellings}
use Rattle.format.specs.Judged.{Outcome, next, refused}

-- a formula whose atoms are names
pub data Named : Type 0 where
  falsum : Named
  atom : Bytes → Named
  neg : Named → Named
  conj disj imp : Named → Named → Named

-- a formula with the name of each atom in the place of its number
abbrev pub named : List Bytes → Formula → Named
named names Formula.falsum = falsum
named names (Formula.atom k) = atom (get_or names k [])
named names (Formula.neg A) = neg (named names A)
named names (Formula.conj A B) = conj (named names A) (named names B)
named names (Formula.disj A B) = disj (named names A) (named names B)
named names (Formula.imp A B) = imp (named names A) (named names B)

-- a row, formula for formula
pub record Told : Type 0 where
  pub rule : Rule
  pub principal : Option Named
  pub premises : List ℕ
  pub left : List Named
  pub right : List Named

-- the names of a file's atoms, in their order
abbrev pub names_of : File → List Bytes
names_of f = spellings f.names

-- the formula of a number, in names
abbrev pub named_at : List Bytes → List Node → ℕ → Named
named_at names nodes i = named names (decoded_at nodes i)

-- a row of a file with these names and formulas
abbrev pub told_row : List Bytes → List Node → Row → Told
told_row names nodes r =
    record {
      rule = r.rule;
      principal = named_at names nodes <$> r.principal;
      premises = r.premises;
      left = map (named_at names nodes) r.left;
      right = map (named_at names nodes) r.right;
    }

-- the rows of a file
abbrev pub told_file : File → List Told
told_file f = map (told_row (names_of f) f.body.nodes) f.body.rows

-- the rows that the lines of a text come to
abbrev pub told_in : Outcome File → List Told
told_in (next f) = told_file f
told_in (refused n l) = []
