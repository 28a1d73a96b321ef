-- One line, as it is written (paper 01, "The text"; the M line is of 02, M-101): fields parted by tabs, of which the first says the
-- kind of the line.
-- What a line says is read with no regard to the lines before it.
use Rattle.std.specs.Prelude.{ℕ, cond, ◌&&◌, List, [], ◌∷◌, eqb, length, get_or}
use Rattle.std.proofs.Math.Option.{Option, none, some}
use Rattle.elk.specs.Rules.{Rule, rules, word_of}
use Rattle.format.specs.Text.{Bytes, fields_of, number_of, side_of, premise_list_of, principal_of, is, ◌<$>◌, ◌<*>◌, only_if}
use Rattle.format.specs.File.{Node, Row}

-- the five kinds of line: A, F, N, M and C, with what they say
pub data Line : Type 0 where
  atom_line : ℕ → Bytes → Line
  formula_line : ℕ → Node → Line
  row_line : ℕ → Row → Line
  model_line : List ℕ → Line
  claim_line : List ℕ → List ℕ → Line

-- the first of the rules whose word this is
abbrev pub rule_among : List Rule → Bytes → Option Rule
rule_among [] field = none
rule_among (r ∷ rs) field = cond (is (word_of r) field) (some r) (rule_among rs field)

-- the rule of a word
unfoldable pub rule_of : Bytes → Option Rule
rule_of field = rule_among rules field

-- a word with one number, and then `-`
abbrev pub unary : (ℕ → Node) → Bytes → Bytes → Option Node
unary node first second = only_if (is "-" second) (node <$> number_of first)

-- a word with two numbers
abbrev pub binary : (ℕ → ℕ → Node) → Bytes → Bytes → Option Node
binary node first second = node <$> number_of first <*> number_of second

-- `bot - -`, `atom k -`, `not i -`, `and i j`, `or i j`, `imp i j`
unfoldable pub node_of : Bytes → Bytes → Bytes → Option Node
node_of word first second =
    cond (is "bot" word) (only_if (is "-" first && is "-" second) (some Node.bot)) (
    cond (is "atom" word) (unary Node.atom first second) (
    cond (is "not" word) (unary Node.not first second) (
    cond (is "and" word) (binary Node.and first second) (
    cond (is "or" word) (binary Node.or first second) (cond (is "imp" word) (binary Node.imp first second) none)))))

-- the fields after the kind, by their place
abbrev pub field_at : List Bytes → ℕ → Bytes
field_at fields i = get_or fields i []

-- a line that has exactly so many fields after its kind
abbrev pub of_fields : ℕ → List Bytes → Option Line → Option Line
of_fields count fields line = only_if (eqb (length fields) count) line

-- number, name
unfoldable pub atom_fields : List Bytes → Option Line
atom_fields fields = of_fields 2 fields ((λ n. atom_line n (field_at fields 1)) <$> number_of (field_at fields 0))

-- number, word, first, second
unfoldable pub formula_fields : List Bytes → Option Line
formula_fields fields =
    of_fields 4 fields ((λ n node. formula_line n node) <$> number_of (field_at fields 0) <*> node_of (field_at fields 1) (field_at fields 2) (field_at fields 3))

-- a row of its fields
abbrev pub make_row : Rule → Option ℕ → List ℕ → List ℕ → List ℕ → Row
make_row rule principal premises left right = record { rule = rule; principal = principal; premises = premises; left = left; right = right }

-- rule, principal, premises, left, right
abbrev pub row_of : Bytes → Bytes → Bytes → Bytes → Bytes → Option Row
row_of word principal premises left right =
    make_row <$> rule_of word <*> principal_of principal <*> premise_list_of premises <*> side_of left <*> side_of right

-- number, and the row
unfoldable pub row_fields : List Bytes → Option Line
row_fields fields =
    of_fields 6 fields (
    (λ n row. row_line n row) <$> number_of (field_at fields 0)
    <*> row_of (field_at fields 1) (field_at fields 2) (field_at fields 3) (field_at fields 4) (field_at fields 5))

-- atoms
unfoldable pub model_fields : List Bytes → Option Line
model_fields fields = of_fields 1 fields ((λ atoms. model_line atoms) <$> side_of (field_at fields 0))

-- left, right
unfoldable pub claim_fields : List Bytes → Option Line
claim_fields fields = of_fields 2 fields ((λ l r. claim_line l r) <$> side_of (field_at fields 0) <*> side_of (field_at fields 1))

-- the most fields of a line: those of a row
abbrev pub most_fields : ℕ
most_fields = 7

-- the first field says the kind
abbrev pub of_kind : List Bytes → Option Line
of_kind [] = none
of_kind (kind ∷ fields) =
    cond (is "A" kind) (atom_fields fields) (
    cond (is "F" kind) (formula_fields fields) (
    cond (is "N" kind) (row_fields fields) (
    cond (is "M" kind) (model_fields fields) (cond (is "C" kind) (claim_fields fields) none))))

-- the line that these bytes write; none if they are badly written
unfoldable pub line_of : Bytes → Option Line
line_of line = of_kind (fields_of line)
