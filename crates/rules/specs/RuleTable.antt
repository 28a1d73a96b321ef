-- The rule table of crate elk as numbers: eighteen for each rule, in the order of the rules' codes.
use Rattle.std.specs.Prelude.{ℕ, ◌+◌, ◌*◌, Bool, true, false, cond, List, [], ◌∷◌, ◌++◌, map, leb, length, get_or, replicate}
use Rattle.format.specs.Tables.{join_all}
use Rattle.elk.specs.Sequent.{Kind, elk, refutation}
use Rattle.elk.specs.Rules.{
  Rule,
  rules,
  Form,
  any,
  falsity,
  negation,
  conjunction,
  disjunction,
  implication,
  double_negation,
  negated_conjunction,
  negated_disjunction,
  negated_implication,
  Part,
  Added,
  Entry,
  schema,
  default,
  cut,
  unstable,
  initial,
  exchange,
  entry,
  kind_of,
  has_principal,
  premise_kinds,
}

-- A form is numbered like the word of the formula that it asks for, and four more than the word under the negation; `any`
-- has the number of no compound word.
abbrev pub form_number : Form → ℕ
form_number falsity = 0
form_number any = 1
form_number negation = 2
form_number conjunction = 3
form_number disjunction = 4
form_number implication = 5
form_number double_negation = 6
form_number negated_conjunction = 7
form_number negated_disjunction = 8
form_number negated_implication = 9

-- how the rule is judged: by its form in the table, or as one of the five that are written out
abbrev pub step_number : Entry → ℕ
step_number (schema t) = form_number t.form
step_number default = 10
step_number cut = 11
step_number unstable = 12
step_number initial = 13
step_number exchange = 14

-- 0 for ELK, 1 for refutation
abbrev pub kind_number : Kind → ℕ
kind_number elk = 0
kind_number refutation = 1

-- 1 for what is there, 0 for what is not
abbrev pub truth_number : Bool → ℕ
truth_number false = 0
truth_number true = 1

-- the kinds of the first and the second premise, 2 where there is none
abbrev pub kind_numbers : List Kind → List ℕ
kind_numbers [] = 2 ∷ 2 ∷ []
kind_numbers (k ∷ []) = kind_number k ∷ 2 ∷ []
kind_numbers (k ∷ j ∷ js) = kind_number k ∷ kind_number j ∷ []

-- 0 is left for no part
abbrev pub part_number : Part → ℕ
part_number Part.P = 1
part_number Part.A = 2
part_number Part.B = 3
part_number Part.~A = 4
part_number Part.~B = 5

-- what is added to one side: at most two parts, 0 where there is none
abbrev pub part_numbers : List Part → List ℕ
part_numbers [] = 0 ∷ 0 ∷ []
part_numbers (x ∷ []) = part_number x ∷ 0 ∷ []
part_numbers (x ∷ y ∷ ys) = part_number x ∷ part_number y ∷ []

-- a sequent that is L and R alone
abbrev pub nothing : Added
nothing = record { left = []; right = [] }

-- what premise i adds, nothing where there is none
abbrev pub premise_at : List Added → ℕ → Added
premise_at premises i = get_or premises i nothing

-- what a rule adds to the left and the right of its conclusion, its first and its second premise
abbrev pub added_sides : Entry → List (List Part)
added_sides (schema t) =
    t.conclusion.left ∷ t.conclusion.right ∷ (premise_at t.premises 0).left ∷ (premise_at t.premises 0).right
    ∷ (premise_at t.premises 1).left ∷ (premise_at t.premises 1).right ∷ []
added_sides default = replicate 6 []
added_sides cut = replicate 6 []
added_sides unstable = replicate 6 []
added_sides initial = replicate 6 []
added_sides exchange = replicate 6 []

-- the numbers of an entry of the table, and of a rule
abbrev pub entry_numbers : Entry → List ℕ
entry_numbers e =
    step_number e ∷ kind_number (kind_of e) ∷ truth_number (has_principal e) ∷ length (premise_kinds e)
    ∷ (kind_numbers (premise_kinds e) ++ join_all part_numbers (added_sides e))

abbrev pub rule_numbers : Rule → List ℕ
rule_numbers r = entry_numbers (entry r)

-- the octal digits of a list after those of n
abbrev pub packed_from : ℕ → List ℕ → ℕ
packed_from n [] = n
packed_from n (x ∷ xs) = packed_from (n * 8 + x) xs

-- the numbers of each rule as the octal digits of one number, in the order of the rules' codes
abbrev pub packed_rules : List ℕ
packed_rules = map (λ (r : Rule). packed_from 0 (rule_numbers r)) rules

-- the place of the first part
abbrev pub parts_from : ℕ
parts_from = 6

-- the count of a rule's numbers
abbrev pub count_of_numbers : ℕ
count_of_numbers = 18

-- one of the numbers of the rule that has the code: 0 where no rule has it, 255 at a place that no rule has
unfoldable pub rule_number : ℕ → ℕ → ℕ
rule_number code at = cond (leb count_of_numbers at) 255 (get_or (get_or (map rule_numbers rules) code []) at 0)
