-- Tables and counts of an open file, and near misses that are those of none, by one computed proof over the table; and texts of
-- a row and of beginnings, with what they are answered. The tables here are short; their lengths are asked before.
use Prim.Native.Nat.{ℕ}
use mathlib.Core.Path.{◌≡◌, refl, sym, ap, ◌∙◌}
use mathlib.Core.Bool.{Bool, true, false, false≢true}
use mathlib.Core.List.{List, [], ◌∷◌, ◌++◌, map}
use mathlib.Core.Option.{Option, none, some}
use mathlib.Core.Logic.{◌↔◌}
use native.Mathlib.Decide.{ℕ_discrete}
use Rattle.equilibrium.proofs.Models.{equilibrium?}
use Rattle.elk.specs.Rules.{same, notl}
use Rattle.elk.proofs.Decision.{instance?, too_many_atoms?}
use Rattle.format.specs.Text.{Bytes, bytes, parts_at, lines_of, fields_of, same_list, number_of, list_of, item_of, items_of, up_from, side_of}
use Rattle.format.specs.Text.{principal_of, is_name, strictly_rising}
use Rattle.format.specs.File.{Node, Body, formulas}
use Rattle.format.specs.Line.{make_row, rule_of, node_of, atom_fields, formula_fields, row_fields, model_fields, claim_fields, line_of}
use Rattle.format.specs.Tables.{absent, too_short}
use Rattle.format.specs.Tests.{wrong_premises, too_many_atoms, wrong_step}
use Rattle.format.specs.Model.{contradiction?}
use Rattle.format.specs.Judged.{Ruling, accepted, turned_down, beginning, run, step, step_read}
use Rattle.format.specs.Written.{Each}
use Rattle.format.proofs.Examples.{full}
use Rattle.counts.specs.declared.Counts.{Counts}
use Rattle.bodies.specs.Open.{Tables, four, IsOpen}
use Rattle.bodies.specs.Walk.{node_from, within, zeros_from, body_in}
use Rattle.bodies.proofs.Walking.{body_exact}
use Rattle.open.specs.Adding.{said_in, with_text, ruling_of}
use Rattle.open.specs.Files.{opened, opening_ruling, file_opened}

pub record Example : Type 0 where
  pub tables : Tables
  pub counts : Counts
  pub found : Bool

-- there is a body
abbrev there : Option Body → Bool
there none = false
there (some b) = true

abbrev counts : ℕ → ℕ → ℕ → ℕ → ℕ → Counts
counts a f r l q = record { atoms = a; formulas = f; rows = r; left = l; right = q }

infix 4 ◌with◌is◌
abbrev ◌with◌is◌ : Tables → Counts → Bool → Example
t with c is b = record { tables = t; counts = c; found = b }

-- p and ~p
abbrev two : List ℕ
two = 1 ∷ 0 ∷ absent ∷ 2 ∷ 0 ∷ absent ∷ 0 ∷ 0 ∷ 0 ∷ []

-- p => p by `same`
abbrev start : List ℕ
start = 1 ∷ 0 ∷ absent ∷ absent ∷ 0 ∷ 1 ∷ 0 ∷ 1 ∷ []

-- then p,~p => by `notl`
abbrev rows : List ℕ
rows = start ++ (8 ∷ 1 ∷ 0 ∷ absent ∷ 1 ∷ 2 ∷ 1 ∷ 0 ∷ 0 ∷ 0 ∷ [])

abbrev left : List ℕ
left = 0 ∷ 0 ∷ 1 ∷ 0 ∷ []

abbrev right : List ℕ
right = 0 ∷ 0 ∷ 0 ∷ []

-- with these numbers for the second row
abbrev second : List ℕ → Tables
second numbers = four two (start ++ numbers) left right

-- p, q, p&q and q&p
abbrev turned : List ℕ
turned = 1 ∷ 0 ∷ absent ∷ 1 ∷ 1 ∷ absent ∷ 3 ∷ 0 ∷ 1 ∷ 3 ∷ 1 ∷ 0 ∷ []

-- q&p => q&p by `same`, and this formula for q&p on the left by `swap`
abbrev swapped : ℕ → Tables
swapped i =
    four turned (1 ∷ 3 ∷ absent ∷ absent ∷ 0 ∷ 1 ∷ 0 ∷ 1 ∷ 37 ∷ i ∷ 0 ∷ absent ∷ 1 ∷ 1 ∷ 1 ∷ 1 ∷ []) (3 ∷ i ∷ []) (3 ∷ 3 ∷ [])

abbrev pub examples : List Example
examples =
    (four two rows left right with counts 1 2 2 3 1 is true)
    -- atoms that no formula needs
    ∷ (four two rows left right with counts 64 2 2 3 1 is true)
    ∷ (four two rows left right with counts 65 2 2 3 1 is false)
    ∷ (four two rows left right with counts 0 2 2 3 1 is false)
    -- nothing, and nothing but atoms
    ∷ (four [] [] [] [] with counts 0 0 0 0 0 is true)
    ∷ (four right right right right with counts 7 0 0 0 0 is true)
    -- a count one off
    ∷ (four two rows left right with counts 1 1 2 3 1 is false)
    ∷ (four two rows left right with counts 1 3 2 3 1 is false)
    ∷ (four two rows left right with counts 1 2 1 3 1 is false)
    ∷ (four two rows left right with counts 1 2 1 1 1 is false)
    ∷ (four two rows left right with counts 1 2 3 3 1 is false)
    ∷ (four two rows left right with counts 1 2 2 2 1 is false)
    ∷ (four two rows left right with counts 1 2 2 4 1 is false)
    ∷ (four two rows left right with counts 1 2 2 3 0 is false)
    ∷ (four two rows left right with counts 1 2 2 3 2 is false)
    -- a count over its limit
    ∷ (four two rows left right with counts 1 1025 2 3 1 is false)
    ∷ (four two rows left right with counts 1 2 2049 3 1 is false)
    ∷ (four two rows left right with counts 1 2 2 16385 1 is false)
    ∷ (four two rows left right with counts 1 2 2 3 16385 is false)
    -- a number after what the counts say
    ∷ (four (two ++ (1 ∷ [])) rows left right with counts 1 2 2 3 1 is false)
    ∷ (four two (rows ++ (1 ∷ [])) left right with counts 1 2 2 3 1 is false)
    ∷ (four two rows (left ++ (1 ∷ [])) right with counts 1 2 2 3 1 is false)
    ∷ (four two rows left (right ++ (1 ∷ [])) with counts 1 2 2 3 1 is false)
    -- a table that ends with what it holds
    ∷ (second (8 ∷ 1 ∷ 0 ∷ absent ∷ 1 ∷ 2 ∷ 1 ∷ 0 ∷ []) with counts 1 2 2 3 1 is true)
    -- one that ends before it
    ∷ (second (8 ∷ 1 ∷ 0 ∷ absent ∷ 1 ∷ 2 ∷ 1 ∷ []) with counts 1 2 2 3 1 is false)
    ∷ (four two rows (0 ∷ 0 ∷ []) right with counts 1 2 2 3 1 is false)
    -- rows that break the rules: by `notr`, which it is not
    ∷ (second (11 ∷ 1 ∷ 0 ∷ absent ∷ 1 ∷ 2 ∷ 1 ∷ 0 ∷ []) with counts 1 2 2 3 1 is false)
    -- no rule
    ∷ (second (38 ∷ 1 ∷ 0 ∷ absent ∷ 1 ∷ 2 ∷ 1 ∷ 0 ∷ []) with counts 1 2 2 3 1 is false)
    -- no principal formula, or one that is not held
    ∷ (second (8 ∷ absent ∷ 0 ∷ absent ∷ 1 ∷ 2 ∷ 1 ∷ 0 ∷ []) with counts 1 2 2 3 1 is false)
    ∷ (second (8 ∷ 2 ∷ 0 ∷ absent ∷ 1 ∷ 2 ∷ 1 ∷ 0 ∷ []) with counts 1 2 2 3 1 is false)
    -- a premise that is not earlier, a second one and no first, one too many
    ∷ (second (8 ∷ 1 ∷ 1 ∷ absent ∷ 1 ∷ 2 ∷ 1 ∷ 0 ∷ []) with counts 1 2 2 3 1 is false)
    ∷ (second (8 ∷ 1 ∷ absent ∷ 0 ∷ 1 ∷ 2 ∷ 1 ∷ 0 ∷ []) with counts 1 2 2 3 1 is false)
    ∷ (second (8 ∷ 1 ∷ 0 ∷ 0 ∷ 1 ∷ 2 ∷ 1 ∷ 0 ∷ []) with counts 1 2 2 3 1 is false)
    -- a start that leaves a gap, one that is too early
    ∷ (second (8 ∷ 1 ∷ 0 ∷ absent ∷ 2 ∷ 2 ∷ 1 ∷ 0 ∷ []) with counts 1 2 2 3 1 is false)
    ∷ (second (8 ∷ 1 ∷ 0 ∷ absent ∷ 1 ∷ 2 ∷ 0 ∷ 0 ∷ []) with counts 1 2 2 3 1 is false)
    -- a side that does not rise, and a formula on it that is not held
    ∷ (four two rows (0 ∷ 1 ∷ 0 ∷ []) right with counts 1 2 2 3 1 is false)
    ∷ (four two rows (0 ∷ 0 ∷ 2 ∷ []) right with counts 1 2 2 3 1 is false)
    -- p&q for q&p, and p for it
    ∷ (swapped 2 with counts 2 4 2 2 2 is true)
    ∷ (swapped 0 with counts 2 4 2 2 2 is false)
    -- formulas that break the rules: a part not earlier, an absent field, an equal formula, a word that is none
    ∷ (four (2 ∷ 0 ∷ absent ∷ []) [] [] [] with counts 0 1 0 0 0 is false)
    ∷ (four (0 ∷ 0 ∷ absent ∷ []) [] [] [] with counts 0 1 0 0 0 is false)
    ∷ (four (1 ∷ 0 ∷ 0 ∷ []) [] [] [] with counts 1 1 0 0 0 is false)
    ∷ (four (0 ∷ absent ∷ absent ∷ 3 ∷ 0 ∷ absent ∷ []) [] [] [] with counts 0 2 0 0 0 is false)
    ∷ (four (0 ∷ absent ∷ absent ∷ 0 ∷ absent ∷ absent ∷ []) [] [] [] with counts 0 2 0 0 0 is false)
    ∷ (four (6 ∷ absent ∷ absent ∷ []) [] [] [] with counts 0 1 0 0 0 is false)
    ∷ []

pub examples_found : map (λ e. there (body_in e.tables e.counts)) examples ≡ map (λ e. e.found) examples
unfolding body_in within zeros_from node_from same_list strictly_rising formulas wrong_premises too_many_atoms too_many_atoms? wrong_step instance? ℕ_discrete
examples_found = refl

-- so the table says which of them are open files
pub examples_open : Each (λ e. (e.found ≡ true) ↔ ((b : Body) × IsOpen e.tables e.counts b)) examples
examples_open = each examples examples_found
  where
    exact : (e : Example) → there (body_in e.tables e.counts) ≡ e.found → (e.found ≡ true) ↔ ((b : Body) × IsOpen e.tables e.counts b)
    exact e k = (λ h. to (body_in e.tables e.counts) refl (k ∙ h), λ p. sym k ∙ ap there ((body_exact e.tables e.counts p.0).1 p.1))
      where
        to : (o : Option Body) → body_in e.tables e.counts ≡ o → there o ≡ true → (b : Body) × IsOpen e.tables e.counts b
        to none q h = absurd (false≢true h)
        to (some b) q h = (b, (body_exact e.tables e.counts b).0 q)

    each : (es : List Example) → map (λ e. there (body_in e.tables e.counts)) es ≡ map (λ e. e.found) es
        → Each (λ e. (e.found ≡ true) ↔ ((b : Body) × IsOpen e.tables e.counts b)) es
    each [] k = tt
    each (e ∷ es) k = (exact e cc, each es cc)

-- texts, each with its answer

pub record Answered : Type 0 where
  pub text : Bytes
  pub answer : Ruling

infix 4 ◌earns◌
abbrev ◌earns◌ : Bytes → Ruling → Answered
text earns answer = record { text = text; answer = answer }

-- the body of the first example
abbrev pub body : Body
body =
    record {
      atoms = 1;
      nodes = Node.atom 0 ∷ Node.not 0 ∷ [];
      rows = make_row same (some 0) [] (0 ∷ []) (0 ∷ []) ∷ make_row notl (some 1) (0 ∷ []) (0 ∷ 1 ∷ []) [] ∷ [];
    }

pub body_found : IsOpen (four two rows left right) (counts 1 2 2 3 1) body
unfolding body_in within zeros_from node_from same_list strictly_rising formulas wrong_premises too_many_atoms too_many_atoms? wrong_step instance? ℕ_discrete
body_found = (body_exact (four two rows left right) (counts 1 2 2 3 1) body).0 refl

-- texts of a row for it
abbrev pub row_texts : List Answered
row_texts =
    (bytes "N\t2\tsame\t0\t-\t0\t0\n" earns accepted 1)
    -- with a run
    ∷ (bytes "N\t2\tsame\t0\t-\t0-1\t0\n" earns accepted 1)
    -- by `swap`, a formula for itself
    ∷ (bytes "N\t2\tswap\t0\t0\t0\t0\n" earns accepted 1)
    -- no line: empty, without LF, bytes after it, a second one
    ∷ (bytes "" earns turned_down 3 1)
    ∷ (bytes "\n" earns turned_down 3 1)
    ∷ (bytes "N\t2\tsame\t0\t-\t0\t0" earns turned_down 3 1)
    ∷ (bytes "N\t2\tsame\t0\t-\t0\t0\nN" earns turned_down 3 1)
    ∷ (bytes "N\t2\tsame\t0\t-\t0\t0\n\n" earns turned_down 3 1)
    ∷ (bytes "N\t2\tsame\t0\t-\t0\t0\nN\t3\tsame\t0\t-\t0\t0\n" earns turned_down 3 1)
    -- another kind of line
    ∷ (bytes "A\t1\tq\n" earns turned_down 3 1)
    ∷ (bytes "F\t2\tbot\t-\t-\n" earns turned_down 3 1)
    ∷ (bytes "M\t0\n" earns turned_down 3 1)
    ∷ (bytes "C\t0,1\t-\n" earns turned_down 3 1)
    -- not the next row
    ∷ (bytes "N\t1\tsame\t0\t-\t0\t0\n" earns turned_down 4 1)
    ∷ (bytes "N\t3\tsame\t0\t-\t0\t0\n" earns turned_down 4 1)
    -- what 01 refuses in a row
    ∷ (bytes "N\t2\tsame\t2\t-\t0\t0\n" earns turned_down 7 1)
    ∷ (bytes "N\t2\tnotl\t1\t2\t0,1\t-\n" earns turned_down 7 1)
    ∷ (bytes "N\t2\tsame\t0\t-\t1,0\t0\n" earns turned_down 9 1)
    ∷ (bytes "N\t2\tsame\t0\t0\t0\t0\n" earns turned_down 10 1)
    ∷ (bytes "N\t2\tsame\t0\t-\t0\t1\n" earns turned_down 11 1)
    ∷ []

-- its lines
abbrev lines : Bytes
lines = bytes "A\t0\tp\nF\t0\tatom\t0\t-\nF\t1\tnot\t0\t-\nN\t0\tsame\t0\t-\t0\t0\nN\t1\tnotl\t1\t0\t0,1\t-\n"

-- beginnings that are opened
abbrev pub beginnings : List Answered
beginnings =
    (lines earns accepted 5)
    -- no line, and nothing but an atom: 13 is not given
    ∷ (bytes "" earns accepted 0)
    ∷ (bytes "A\t0\tp\n" earns accepted 1)
    -- with a claim, with a model, and with both, where the claim shows a contradiction
    ∷ (lines ++ bytes "C\t0,1\t-\n" earns accepted 6)
    ∷ (lines ++ bytes "M\t0\n" earns accepted 6)
    ∷ (lines ++ bytes "M\t0\nC\t0,1\t-\n" earns turned_down 15 6)
    -- bytes after the last LF
    ∷ (lines ++ bytes "N" earns turned_down 3 6)
    ∷ (bytes "N" earns turned_down 3 1)
    -- a bad line, whatever follows it
    ∷ (lines ++ bytes "N\t1\tsame\t0\t-\t0\t0\nN" earns turned_down 4 6)
    ∷ []

pub row_texts_hold : map (λ x. ruling_of (with_text x.text body)) row_texts ≡ map (λ x. x.answer) row_texts
unfolding with_text said_in line_of atom_fields formula_fields row_fields model_fields claim_fields rule_of node_of
    lines_of fields_of parts_at same_list number_of list_of item_of items_of up_from side_of principal_of is_name strictly_rising formulas
    wrong_premises too_many_atoms too_many_atoms? wrong_step instance? ℕ_discrete
row_texts_hold = refl

pub beginnings_hold : map (λ x. opening_ruling (opened full x.text) x.text) beginnings ≡ map (λ x. x.answer) beginnings
unfolding opened beginning run step step_read line_of atom_fields formula_fields row_fields model_fields claim_fields rule_of node_of
    lines_of fields_of parts_at same_list number_of list_of item_of items_of up_from side_of principal_of is_name strictly_rising formulas
    too_short wrong_premises too_many_atoms too_many_atoms? wrong_step instance? contradiction? equilibrium? ℕ_discrete
beginnings_hold = refl

-- the first opens to that body
pub lines_opened : (file_opened (opened full lines)).body ≡ body
unfolding opened beginning run step step_read line_of atom_fields formula_fields row_fields model_fields claim_fields rule_of node_of
    lines_of fields_of parts_at same_list number_of list_of item_of items_of up_from side_of principal_of is_name strictly_rising formulas
    too_short wrong_premises too_many_atoms too_many_atoms? wrong_step instance? contradiction? equilibrium? ℕ_discrete
lines_opened = refl
