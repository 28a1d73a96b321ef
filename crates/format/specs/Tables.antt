-- What the lent tables hold (paper 01, "Lent tables hold 16-bit numbers"), and how a side is fetched out of them. Each of
-- the five holds records one after the other, and zeros after the last; the limits of 01 are here.
use Rattle.std.specs.Prelude.{ℕ, ◌+◌, ◌-◌, ◌*◌, Bool, cond, ◌||◌, List, [], ◌∷◌, ◌++◌, leb, ltb, length, get_or, take, drop, replicate}
use Rattle.std.proofs.Math.Option.{Option, none, some}
use Rattle.elk.specs.Rules.{code_of}
use Rattle.format.specs.File.{Node, Row, Name, Body, File}

-- the number of an absent field
abbrev pub absent : ℕ
absent = 65535

-- a number, or that of an absent field
abbrev pub or_absent : Option ℕ → ℕ
or_absent none = absent
or_absent (some n) = n

-- word 0 to 5, first, second
abbrev pub node_record : Node → List ℕ
node_record Node.bot = 0 ∷ absent ∷ absent ∷ []
node_record (Node.atom k) = 1 ∷ k ∷ absent ∷ []
node_record (Node.not i) = 2 ∷ i ∷ absent ∷ []
node_record (Node.and i j) = 3 ∷ i ∷ j ∷ []
node_record (Node.or i j) = 4 ∷ i ∷ j ∷ []
node_record (Node.imp i j) = 5 ∷ i ∷ j ∷ []

-- start in the text, length
abbrev pub name_record : Name → List ℕ
name_record n = n.start ∷ length n.name ∷ []

-- the count of numbers in the record of a name
abbrev pub name_width : ℕ
name_width = 2

-- of a formula
abbrev pub node_width : ℕ
node_width = 3

-- of a row
abbrev pub row_width : ℕ
row_width = 8

-- the numbers of each, one after the other
abbrev pub join_all : {A : Type 0} → (A → List ℕ) → List A → List ℕ
join_all f [] = []
join_all f (x ∷ xs) = f x ++ join_all f xs

-- the left sides of rows, in row order without gaps
abbrev pub left_pool : List Row → List ℕ
left_pool rows = join_all (λ r. r.left) rows

-- the right sides
abbrev pub right_pool : List Row → List ℕ
right_pool rows = join_all (λ r. r.right) rows

-- rule, principal, two premises, left start, left length, right start, right length, after the rows before it
abbrev pub row_record : List Row → Row → List ℕ
row_record earlier r =
    code_of r.rule ∷ or_absent r.principal ∷ get_or r.premises 0 absent ∷ get_or r.premises 1 absent
    ∷ length (left_pool earlier) ∷ length r.left ∷ length (right_pool earlier) ∷ length r.right ∷ []

-- the records of rows that stand after others
abbrev pub records_after : List Row → List Row → List ℕ
records_after earlier [] = []
records_after earlier (r ∷ rs) = row_record earlier r ++ records_after (earlier ++ r ∷ []) rs

-- the records of rows, from the first on
abbrev pub row_records : List Row → List ℕ
row_records rows = records_after [] rows

-- what the five tables hold
pub record Contents : Type 0 where
  pub names : List ℕ
  pub formulas : List ℕ
  pub rows : List ℕ
  pub left : List ℕ
  pub right : List ℕ

-- the tables of a body; an open file has no names
abbrev pub encode_body : List ℕ → Body → Contents
encode_body names b =
    record { names = names; formulas = join_all node_record b.nodes; rows = row_records b.rows; left = left_pool b.rows; right = right_pool b.rows }

-- the tables of a file
abbrev pub encode : File → Contents
encode f = encode_body (join_all name_record f.names) f.body

-- the contents of a table of this length: zeros after what it holds
abbrev pub padded : ℕ → List ℕ → List ℕ
padded len held = held ++ replicate (len - length held) 0

-- the lengths of the lent tables
pub record Lent : Type 0 where
  pub names : ℕ
  pub formulas : ℕ
  pub rows : ℕ
  pub left : ℕ
  pub right : ℕ

-- the most atoms of a file
abbrev pub most_atoms : ℕ
most_atoms = 64

-- the most formulas
abbrev pub most_formulas : ℕ
most_formulas = 1024

-- the most rows
abbrev pub most_rows : ℕ
most_rows = 2048

-- the most entries of all left sides together, and of all right sides
abbrev pub most_entries : ℕ
most_entries = 16384

-- the most formulas on one side
abbrev pub most_on_side : ℕ
most_on_side = 64

-- the most bytes of a text
abbrev pub most_bytes : ℕ
most_bytes = 65536

-- the least lengths of the lent tables: room for the most of each
abbrev pub least : Lent
least =
    record {
      names = name_width * most_atoms;
      formulas = node_width * most_formulas;
      rows = row_width * most_rows;
      left = most_entries;
      right = most_entries;
    }

-- some table is shorter than the least length
unfoldable pub too_short : Lent → Bool
too_short t =
    ltb t.names least.names || ltb t.formulas least.formulas || ltb t.rows least.rows
    || ltb t.left least.left || ltb t.right least.right

-- the part of a table at a place, empty where it does not lie inside
abbrev pub part : List ℕ → ℕ → ℕ → List ℕ
part table start len = cond (leb (start + len) (length table)) (take len (drop start table)) []

-- the record of row i
abbrev pub row_at : List ℕ → ℕ → List ℕ
row_at rows i = part rows (row_width * i) row_width

-- the two sides of a row
pub data Side : Type 0 where
  left right : Side

-- the side of row i, out of any tables
unfoldable pub fetched : List ℕ → List ℕ → List ℕ → Side → ℕ → List ℕ
fetched rows leftEntries rightEntries left i = part leftEntries (get_or (row_at rows i) 4 0) (get_or (row_at rows i) 5 0)
fetched rows leftEntries rightEntries right i = part rightEntries (get_or (row_at rows i) 6 0) (get_or (row_at rows i) 7 0)
