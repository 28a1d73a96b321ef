-- A row that passed the numbers before its rule, with the sides that it is judged by.
use Rattle.std.specs.Prelude.{ℕ, ◌<◌, min, ◌≡◌, false, List, [], ◌∷◌, length, get_or, Option, None, Some}
use Rattle.equilibrium.specs.Meaning.{◌∈◌}
use Rattle.elk.specs.Rules.{code_of}
use Rattle.format.specs.File.{Row, Body}
use Rattle.format.specs.Tables.{absent}
use Rattle.format.specs.Tests.{first, unknown_formula, listed, wrong_premises, rule_tests}
use Rattle.text.specs.Numbers.{number_as}
use Rattle.text.specs.Lists.{most_counted}
use Rattle.tables.specs.Holding.{HoldsRows, Formulas, Sided}
use Rattle.known.specs.Known.{AtomNotes}
use Rattle.drafts.specs.declared.Draft.{Draft}
use Rattle.early.specs.Early.{numbered}

pub record Judging (b : Body) (q : Row) (formulas notes rows left_pool right_pool : List ℕ) (d : Draft) (left right : List ℕ) : Type 0 where
  pub formulas_held : Formulas b formulas
  pub atoms_known : AtomNotes b notes
  pub rows_held : HoldsRows b.rows rows left_pool right_pool
  pub rule : code_of q.rule ≡ d.rule
  pub principal : d.principal ≡ number_as q.principal
  pub count : min (length q.premises) most_counted ≡ d.premises.count
  pub first_premise : get_or q.premises 0 absent ≡ d.first
  pub second_premise : get_or q.premises 1 absent ≡ d.second
  pub left_side : q.left ≡ left
  pub right_side : q.right ≡ right
  pub principal_known : unknown_formula b (listed q.principal) ≡ false
  pub premises_earlier : (i : ℕ) → i ∈ q.premises → i < length b.rows
  pub left_sided : Sided b left
  pub right_sided : Sided b right

-- 1 where there is a principal formula, and 0 where there is none
abbrev pub named_of : Option ℕ → ℕ
named_of None = 0
named_of (Some i) = 1

-- The number of a row that passed those before its rule, and 10.
pub record StepNumbered (formulas notes rows left_pool right_pool : List ℕ) (d : Draft) (left right : List ℕ) (number : ℕ) : Type 0 where
  pub given :
      (b : Body) (q : Row) → Judging b q formulas notes rows left_pool right_pool d left right → wrong_premises b q ≡ false
      → numbered number ≡ first (rule_tests b q)
  pub one_of : number ∈ 0 ∷ 18 ∷ 11 ∷ []
