-- What each kind of line can be refused for (paper 01, "How a text is turned down", and 02, M-101 for the M line and M-104 for
-- number 18): a list of tests, each under its number, of which the first that applies is given.
use Rattle.std.specs.Prelude.{ℕ, ◌+◌, Bool, true, false, cond, not, ◌&&◌, ◌||◌, List, [], ◌∷◌, ◌++◌, map, eqb, ltb, leb, length, get_or}
use Rattle.std.proofs.Math.Option.{Option, none, some}
use Rattle.elk.specs.Sequent.{Kind, elk, refutation, Sequent}
use Rattle.elk.specs.Rules.{entry, has_principal, premise_kinds, kind_of}
use Rattle.elk.proofs.Decision.{instance?, too_many_atoms?}
use Rattle.format.specs.Text.{Bytes, ◌<$>◌, any, is_name, same_list, strictly_rising}
use Rattle.format.specs.File.{Node, Row, Body, Stage, in_atoms, in_formulas, in_rows, modelled, claimed, File, decoded_at, sequent_of}
use Rattle.format.specs.Tables.{node_record, left_pool, right_pool, most_atoms, most_formulas, most_rows, most_entries, most_on_side}

-- a refusal number, and whether it applies
pub record Test : Type 0 where
  pub number : ℕ
  pub applies : Bool

infix 4 ◌when◌
-- a test under its number
abbrev pub ◌when◌ : ℕ → Bool → Test
n when b = record { number = n; applies = b }

-- the number of the first test that applies
abbrev pub first : List Test → Option ℕ
first [] = none
first (t ∷ ts) = cond t.applies (some t.number) (first ts)

-- the stages in their order
abbrev pub rank : Stage → ℕ
rank in_atoms = 0
rank in_formulas = 1
rank in_rows = 2
rank modelled = 3
rank claimed = 4

-- lines of this stage may follow one another; M and C come once
abbrev pub goes_on : Stage → Bool
goes_on in_atoms = true
goes_on in_formulas = true
goes_on in_rows = true
goes_on modelled = false
goes_on claimed = false

-- a line of stage t may follow stage s: it begins a later stage, or goes on with the same one
abbrev pub may_follow : Stage → Stage → Bool
may_follow s t = ltb (rank s) (rank t) || (eqb (rank s) (rank t) && goes_on t)

-- the kind is out of order, or the number is not the next one
abbrev pub out_of_order : Stage → Stage → ℕ → ℕ → Bool
out_of_order s t held number = not (may_follow s t) || not (eqb number held)

-- the number is not among the first so many
abbrev pub not_earlier : ℕ → ℕ → Bool
not_earlier held i = leb held i

-- some formula number of the list is not earlier
abbrev pub unknown_formula : Body → List ℕ → Bool
unknown_formula b is = any (not_earlier (length b.nodes)) is

-- the principal formula as a list: one number, or none
abbrev pub listed : Option ℕ → List ℕ
listed none = []
listed (some i) = i ∷ []

-- A

-- order, room, and a name of 01's form that is not used yet
abbrev pub atom_tests : File → ℕ → Bytes → List Test
atom_tests f n name =
    (4 when out_of_order f.stage in_atoms f.body.atoms n)
    ∷ (5 when leb most_atoms f.body.atoms)
    ∷ (6 when not (is_name name) || any (λ m. same_list m.name name) f.names)
    ∷ []

-- F. Its tests but 4 are by the body alone.

-- it names an atom or a formula that is not there yet
abbrev pub refers_ahead : Body → Node → Bool
refers_ahead b Node.bot = false
refers_ahead b (Node.atom k) = not_earlier b.atoms k
refers_ahead b (Node.not i) = unknown_formula b (i ∷ [])
refers_ahead b (Node.and i j) = unknown_formula b (i ∷ j ∷ [])
refers_ahead b (Node.or i j) = unknown_formula b (i ∷ j ∷ [])
refers_ahead b (Node.imp i j) = unknown_formula b (i ∷ j ∷ [])

-- the same word and operands
abbrev pub same_node : Node → Node → Bool
same_node m n = same_list (node_record m) (node_record n)

-- room, references, and a formula that is not there yet
abbrev pub node_tests : Body → Node → List Test
node_tests b node =
    (5 when leb most_formulas (length b.nodes))
    ∷ (7 when refers_ahead b node)
    ∷ (8 when any (λ m. same_node m node) b.nodes)
    ∷ []

-- order, and then these
abbrev pub formula_tests : File → ℕ → Node → List Test
formula_tests f n node = (4 when out_of_order f.stage in_formulas (length f.body.nodes) n) ∷ node_tests f.body node

-- N, in the same way

-- a pool with so many entries has no room for these
abbrev pub passed : List ℕ → List ℕ → Bool
passed pool entries = ltb most_entries (length pool + length entries)

-- room for the row and for its two sides
abbrev pub room_tests : Body → Row → List Test
room_tests b r = (5 when leb most_rows (length b.rows) || passed (left_pool b.rows) r.left || passed (right_pool b.rows) r.right) ∷ []

-- every number names a formula that is there, or an earlier row
abbrev pub reference_tests : Body → Row → List Test
reference_tests b r =
    (7 when unknown_formula b (listed r.principal)
    || any (not_earlier (length b.rows)) r.premises
    || unknown_formula b r.left
    || unknown_formula b r.right)
    ∷ []

-- not strictly rising, or too many
abbrev pub bad_side : List ℕ → Bool
bad_side is = not (strictly_rising is) || ltb most_on_side (length is)

-- both sides are good
abbrev pub side_tests : List ℕ → List ℕ → List Test
side_tests left right = (9 when bad_side left || bad_side right) ∷ []

-- the kinds are equal
abbrev pub same_kind : Kind → Kind → Bool
same_kind elk elk = true
same_kind elk refutation = false
same_kind refutation elk = false
same_kind refutation refutation = true

-- the kinds are equal, one by one
abbrev pub same_kinds : List Kind → List Kind → Bool
same_kinds [] [] = true
same_kinds [] (k ∷ ks) = false
same_kinds (j ∷ js) [] = false
same_kinds (j ∷ js) (k ∷ ks) = same_kind j k && same_kinds js ks

-- there is one
abbrev pub present : Option ℕ → Bool
present none = false
present (some i) = true

-- both or neither
abbrev pub same_truth : Bool → Bool → Bool
same_truth true b = b
same_truth false b = not b

-- the sequents that the premises' numbers name; each is earlier where test 7 passed
abbrev pub premises_of : Body → Row → List Sequent
premises_of b r = map (λ i. sequent_of b.nodes (get_or b.rows i r)) r.premises

-- a principal formula too many or missing, or premises that are not of the rule's kinds
unfoldable pub wrong_premises : Body → Row → Bool
wrong_premises b r =
    not (same_truth (present r.principal) (has_principal (entry r.rule)))
    || not (same_kinds (map (λ s. s.kind) (premises_of b r)) (premise_kinds (entry r.rule)))

-- a decision that came out no
abbrev pub is_no : {X : Type 0} → Dec X → Bool
is_no (yes x) = false
is_no (no n) = true

-- no B with at most 8 atoms makes the row an instance of `swap`, and some B that leaves its sides right has more
unfoldable pub too_many_atoms : Body → Row → Bool
too_many_atoms b r = not (is_no (too_many_atoms? r.rule (decoded_at b.nodes <$> r.principal) (premises_of b r) (sequent_of b.nodes r)))

-- no sets L, R (Q, S) make the row an instance of its rule
unfoldable pub wrong_step : Body → Row → Bool
wrong_step b r = is_no (instance? r.rule (decoded_at b.nodes <$> r.principal) (premises_of b r) (sequent_of b.nodes r))

-- the premises, then the atoms of `swap`, and then the step
abbrev pub rule_tests : Body → Row → List Test
rule_tests b r = (10 when wrong_premises b r) ∷ (18 when too_many_atoms b r) ∷ (11 when wrong_step b r) ∷ []

-- all tests of a row but its order
abbrev pub body_tests : Body → Row → List Test
body_tests b r = room_tests b r ++ reference_tests b r ++ side_tests r.left r.right ++ rule_tests b r

-- order, and then these
abbrev pub row_tests : File → ℕ → Row → List Test
row_tests f n r = (4 when out_of_order f.stage in_rows (length f.body.rows) n) ∷ body_tests f.body r

-- M

-- order, atoms that are there, and a list as a side would be
abbrev pub model_line_tests : File → List ℕ → List Test
model_line_tests f atoms =
    (4 when not (may_follow f.stage modelled))
    ∷ (7 when any (not_earlier f.body.atoms) atoms)
    ∷ (9 when bad_side atoms)
    ∷ []

-- C. The tests of its model, which come after these, are in Model.

-- the last row is an ELK row with exactly these sides
abbrev pub last_is : List Row → List ℕ → List ℕ → Bool
last_is [] left right = false
last_is (r ∷ []) left right = same_kind (kind_of (entry r.rule)) elk && same_list r.left left && same_list r.right right
last_is (r ∷ q ∷ qs) left right = last_is (q ∷ qs) left right

-- order, references, sides, and the last row
abbrev pub claim_tests : File → List ℕ → List ℕ → List Test
claim_tests f left right =
    (4 when not (may_follow f.stage claimed))
    ∷ (7 when unknown_formula f.body left || unknown_formula f.body right)
    ∷ (side_tests left right ++ (12 when not (last_is f.body.rows left right)) ∷ [])
