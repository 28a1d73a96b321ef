-- How the body of an open file is found: record by record, each judged over the body before it. Which body is found, and when there
-- is one, is said by IsOpen; the laws that tie the two stand in proofs/.
use Rattle.std.specs.Prelude.{ℕ, zero, suc, ◌+◌, ◌*◌, Bool, cond, ◌&&◌, List, [], ◌∷◌, eqb, leb, length, get_or, drop}
use Rattle.std.proofs.Math.Option.{Option, none, some}
use Rattle.std.proofs.Math.ListN.{get_elem?}
use Rattle.elk.specs.Rules.{Rule, rules}
use Rattle.format.specs.Text.{◌<$>◌, ◌<*>◌, only_if, all}
use Rattle.format.specs.File.{Node, Row, Body, add_node, add_row}
use Rattle.format.specs.Line.{make_row}
use Rattle.format.specs.Tables.{absent, part, row_at, node_width, row_width, left_pool, right_pool, most_atoms, most_formulas, most_rows, most_entries}
use Rattle.format.specs.Tests.{first, node_tests, body_tests}
use Rattle.format.specs.Good.{bare}
use Rattle.counts.specs.declared.Counts.{Counts}
use Rattle.tables.specs.Records.{node_at}
use Rattle.bodies.specs.Open.{Tables}

-- one after the other, where both go through
abbrev pub and_then : {A B : Type 0} → Option A → (A → Option B) → Option B
and_then none k = none
and_then (some a) k = k a

-- a step so often
abbrev pub repeated : {S : Type 0} → (S → Option S) → ℕ → S → Option S
repeated step zero s = some s
repeated step (suc n) s = and_then (step s) (repeated step n)

-- what comes of it, where no test applied
abbrev pub unless : {A : Type 0} → Option ℕ → A → Option A
unless none a = some a
unless (some n) a = none

-- the formula of a word, first and second; none where a field is absent that should be there, or the other way round
unfoldable pub node_from : ℕ → ℕ → ℕ → Option Node
node_from word one two =
    cond (eqb word 0) (only_if (eqb one absent && eqb two absent) (some Node.bot)) (
    cond (eqb word 1) (only_if (eqb two absent) (some (Node.atom one))) (
    cond (eqb word 2) (only_if (eqb two absent) (some (Node.not one))) (
    cond (eqb word 3) (some (Node.and one two)) (
    cond (eqb word 4) (some (Node.or one two)) (cond (eqb word 5) (some (Node.imp one two)) none)))))

-- the formula of a record's numbers; the word is absent where there are none
abbrev pub node_in : List ℕ → Option Node
node_in numbers = node_from (get_or numbers 0 absent) (get_or numbers 1 absent) (get_or numbers 2 absent)

-- the next formula of the table after those of a body
abbrev pub next_node : Tables → Body → Option Node
next_node t b = node_in (node_at t.formulas (length b.nodes))

-- one formula more, if it passes its tests
abbrev pub node_step : Tables → Body → Option Body
node_step t b = and_then (next_node t b) (λ node. unless (first (node_tests b node)) (add_node b node))

-- the rule of a code
abbrev pub rule_at : ℕ → Option Rule
rule_at code = get_elem? rules code

-- a number, or none where the field is absent
abbrev pub principal_from : ℕ → Option ℕ
principal_from n = cond (eqb n absent) none (some n)

-- the premises of two fields; there is no second without a first
abbrev pub premises_from : ℕ → ℕ → Option (List ℕ)
premises_from one two = cond (eqb one absent) (only_if (eqb two absent) (some [])) (some (one ∷ cond (eqb two absent) [] (two ∷ [])))

-- the side lies in its pool right after the entries before it
abbrev pub in_place : ℕ → ℕ → List ℕ → List ℕ → Bool
in_place start len pool before = eqb start (length before) && leb (start + len) (length pool)

-- the row of a rule and premises, with the principal of a record's numbers and these sides
abbrev pub row_with : List ℕ → List ℕ → List ℕ → Rule → List ℕ → Row
row_with numbers left right rule premises = make_row rule (principal_from (get_or numbers 1 absent)) premises left right

-- the row of a record's numbers, whose sides follow those of a body's rows; the rule is absent where there are no numbers
abbrev pub row_in : Tables → List Row → List ℕ → Option Row
row_in t before numbers =
    only_if (in_place (get_or numbers 4 absent) (get_or numbers 5 absent) t.left (left_pool before)) (
    only_if (in_place (get_or numbers 6 absent) (get_or numbers 7 absent) t.right (right_pool before)) (
    row_with numbers (part t.left (get_or numbers 4 absent) (get_or numbers 5 absent)) (part t.right (get_or numbers 6 absent) (get_or numbers 7 absent))
    <$> rule_at (get_or numbers 0 absent) <*> premises_from (get_or numbers 2 absent) (get_or numbers 3 absent)))

-- the next row of the table after those of a body
abbrev pub next_row : Tables → Body → Option Row
next_row t b = row_in t b.rows (row_at t.rows (length b.rows))

-- one row more, if it passes its tests
abbrev pub row_step : Tables → Body → Option Body
row_step t b = and_then (next_row t b) (λ r. unless (first (body_tests b r)) (add_row b r))

-- no count is over its limit
unfoldable pub within : Counts → Bool
within c =
    leb c.atoms most_atoms && (leb c.formulas most_formulas && (leb c.rows most_rows && (leb c.left most_entries && leb c.right most_entries)))

-- nothing but zero from a place on
unfoldable pub zeros_from : ℕ → List ℕ → Bool
zeros_from n table = all (λ x. eqb x 0) (drop n table)

-- nothing but zero after what the counts say
abbrev pub zeros_after : Tables → Counts → Bool
zeros_after t c =
    zeros_from (node_width * c.formulas) t.formulas && (
    zeros_from (row_width * c.rows) t.rows && (zeros_from c.left t.left && zeros_from c.right t.right))

-- the pool counts agree with the rows
abbrev pub pools_agree : Counts → Body → Bool
pools_agree c b = eqb (length (left_pool b.rows)) c.left && eqb (length (right_pool b.rows)) c.right

-- the formulas
abbrev pub walked_nodes : Tables → Counts → Option Body
walked_nodes t c = repeated (node_step t) c.formulas (bare c.atoms)

-- then the rows, and then the pool counts
abbrev pub walked_rows : Tables → Counts → Body → Option Body
walked_rows t c b = and_then (repeated (row_step t) c.rows b) (λ d. only_if (pools_agree c d) (some d))

-- the body of an open file; none if there is none
unfoldable pub body_in : Tables → Counts → Option Body
body_in t c = only_if (within c && zeros_after t c) (and_then (walked_nodes t c) (walked_rows t c))
