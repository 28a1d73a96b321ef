-- A row as it was read: what is answered to its fields, the row that they are, its draft, and the row of a file that draft and tables
-- are.
use Rattle.std.specs.Prelude.{ℕ, ◌≤◌, ◌%◌, ◌≡◌, true, false, List, [], ◌∷◌, length, get_or, take, Option, None, Some}
use Rattle.std.proofs.Math.Option as Math
use Rattle.equilibrium.specs.Meaning.{◌∈◌}
use Rattle.elk.specs.Rules.{Rule, code_of}
use Rattle.format.specs.Text.{Bytes, number_of, principal_of, premise_list_of, side_of}
use Rattle.format.specs.File.{Row}
use Rattle.format.specs.Line.{rule_of}
use Rattle.format.specs.Tables.{absent, most_on_side}
use Rattle.text.specs.Numbers.{number_as, principal_as}
use Rattle.text.specs.Lists.{listed_of, listed_as, laid_over, ListedInto}
use Rattle.keywords.specs.Words.{rule_code}
use Rattle.text.specs.declared.lists.Listed.{Listed}
use Rattle.drafts.specs.declared.Draft.{Draft}
use Rattle.drafts.specs.declared.RowFields.{RowFields}
use Rattle.drafts.specs.declared.RowRead.{RowRead}

-- what the readers answer to the six fields of a row
abbrev pub read_as :
    Math.Option ℕ → Math.Option Rule → Math.Option (Math.Option ℕ) → Math.Option (List ℕ) → Math.Option (List ℕ) → Math.Option (List ℕ)
    → RowFields
read_as number rule principal premises left right =
    record {
      number = number_as number;
      rule = rule_code rule;
      principal = principal_as principal;
      premises = listed_as premises;
      left = listed_as left;
      right = listed_as right;
    }

-- what is read of the fields of a line, by their places, and what is stored of its lists in the tables that were lent for them
pub record RowInto (field : ℕ → Bytes) (premises left right premises' left' right' : List ℕ) (r : RowFields) : Type 0 where
  pub answer :
      r
      ≡ read_as (number_of (field 1)) (rule_of (field 2)) (principal_of (field 3)) (premise_list_of (field 4))
      (side_of (field 5)) (side_of (field 6))
  pub premises_listed : ListedInto false (field 4) premises premises' r.premises
  pub left_listed : ListedInto true (field 5) left left' r.left
  pub right_listed : ListedInto true (field 6) right right' r.right

-- what is read of a row that is well written
abbrev pub row_read : ℕ → Row → RowRead
row_read n q =
    record {
      number = n;
      rule = code_of q.rule;
      principal = number_as q.principal;
      premises = listed_of q.premises;
      left = listed_of q.left;
      right = listed_of q.right;
    }

-- the row of six answers, if none of them is that a field is badly written
abbrev pub whole_by : Option ℕ → Option ℕ → Option (Option ℕ) → Option Listed → Option Listed → Option Listed → Option RowRead
whole_by None rule principal premises left right = None
whole_by (Some number) None principal premises left right = None
whole_by (Some number) (Some rule) None premises left right = None
whole_by (Some number) (Some rule) (Some principal) None left right = None
whole_by (Some number) (Some rule) (Some principal) (Some premises) None right = None
whole_by (Some number) (Some rule) (Some principal) (Some premises) (Some left) None = None
whole_by (Some number) (Some rule) (Some principal) (Some premises) (Some left) (Some right) =
    Some (record { number = number; rule = rule; principal = principal; premises = premises; left = left; right = right })

abbrev pub whole_of : RowFields → Option RowRead
whole_of f = whole_by f.number f.rule f.principal f.premises f.left f.right

abbrev pub draft_of : RowRead → ℕ → ℕ → Draft
draft_of row first second =
    record {
      rule = row.rule;
      principal = row.principal;
      premises = row.premises;
      first = first;
      second = second;
      left = row.left;
      right = row.right;
    }

-- the number of the principal formula, as a table holds it
abbrev pub principal_number : Option ℕ → ℕ
principal_number None = absent
principal_number (Some i) = i % 65536

-- each number of the list is one of 16 bits
abbrev pub Narrow : List ℕ → Type 0
Narrow xs = (x : ℕ) → x ∈ xs → x ≤ absent

-- a list as it was read: what is known of it, and a table that begins with it, where it is short enough for a side
pub record Laid (xs : List ℕ) (listed : Listed) (table : List ℕ) : Type 0 where
  pub answer : listed ≡ listed_of xs
  pub front : length xs ≤ most_on_side → Narrow xs → take listed.count table ≡ xs

-- the draft and these tables are the row as it was read
pub record Drafted (r : Row) (d : Draft) (left right : List ℕ) : Type 0 where
  pub rule : d.rule ≡ code_of r.rule
  pub principal : d.principal ≡ number_as r.principal
  pub premises : d.premises ≡ listed_of r.premises
  pub first_premise : Narrow r.premises → d.first ≡ get_or r.premises 0 absent
  pub second_premise : Narrow r.premises → d.second ≡ get_or r.premises 1 absent
  pub left_laid : Laid r.left d.left left
  pub right_laid : Laid r.right d.right right

-- a row that is well written, with the tables that its lists were read into
pub record RowLaid (n : ℕ) (q : Row) (row : RowRead) (above l r : List ℕ) : Type 0 where
  pub read : row ≡ row_read n q
  pub premises : above ≡ laid_over q.premises (absent ∷ absent ∷ [])
  pub left_laid : Laid q.left row.left l
  pub right_laid : Laid q.right row.right r
