-- `lines::formula::read_node` meets its contract: each way out by the word and its operands. Assumes nothing.
use mathlib.Core.Path.{sym, ap, ap₂, ◌∙◌}
use mathlib.Core.Bool.{Bool, ◌&&◌}
use Rattle.std.specs.Prelude.{None, Some}
use Rattle.format.specs.Text.{is}
use Rattle.std.specs.Option.{option_map}
use Rattle.keywords.specs.declared.Word.{Word}
use Rattle.lines.specs.declared.formula.Written.{Written}
use Rattle.lines.proofs.FormulaFields.{with_two, bot_as, by_word}
use Rattle.lines.proofs.formula.read_node.Goals as goal
use Rattle.lines.proofs.formula.read_node.Goals.{else-is_dash-via-then-is_dash+else-is_dash-2, else-is_dash-via-else-is_dash}

pub returns-in_err-formula_word : goal.returns-in_err-formula_word
returns-in_err-formula_word c = c.from_residual.ensures ∙ by_word _ _ _ c.formula_word.ensures.answer None c.in_err-formula_word.was

pub returns-then-is_dash-2 : goal.returns-then-is_dash-2
returns-then-is_dash-2 c =
    ap₂ (λ (a b : Bool). bot_as (a && b)) (sym c.if-is_dash.true ∙ c.is_dash.ensures) (sym c.if-is_dash-2.true ∙ c.is_dash-then-is_dash.ensures)
    ∙ by_word _ _ _ c.formula_word.ensures.answer _ (c.in_ok-formula_word.was ∙ ap (λ (w : Word). Some w) c.in-Bot.is)

pub returns-else-is_dash : goal.returns-else-is_dash
returns-else-is_dash c =
    elim c.else-is_dash.branch [
      | else-is_dash-via-then-is_dash+else-is_dash-2 w ↦
          ap₂ (λ (a b : Bool). bot_as (a && b)) (sym w.if-is_dash.true ∙ c.is_dash.ensures) (sym w.if-is_dash-2.false ∙ w.is_dash-then-is_dash.ensures)
          ∙ by_word _ _ _ c.formula_word.ensures.answer _ (c.in_ok-formula_word.was ∙ ap (λ (w : Word). Some w) c.in-Bot.is)
      | else-is_dash-via-else-is_dash w ↦
          ap (λ (a : Bool). bot_as (a && is "-" c.args.second_field.now)) (sym w.if-is_dash.false ∙ c.is_dash.ensures)
          ∙ by_word _ _ _ c.formula_word.ensures.answer _ (c.in_ok-formula_word.was ∙ ap (λ (w : Word). Some w) c.in-Bot.is)
    ]

pub returns-in_err-read_one-in-Atom : goal.returns-in_err-read_one-in-Atom
returns-in_err-read_one-in-Atom c =
    c.from_residual-in_err-read_one-in-Atom.ensures
    ∙ ap (option_map (λ n. Written.Atom n)) (sym c.in_err-read_one-in-Atom.was ∙ c.read_one.ensures)
    ∙ by_word _ _ _ c.formula_word.ensures.answer _ (c.in_ok-formula_word.was ∙ ap (λ (w : Word). Some w) c.in-Atom.is)

pub returns-in_ok-read_one-in-Atom : goal.returns-in_ok-read_one-in-Atom
returns-in_ok-read_one-in-Atom c =
    ap (option_map (λ n. Written.Atom n)) (sym c.in_ok-read_one-in-Atom.was ∙ c.read_one.ensures)
    ∙ by_word _ _ _ c.formula_word.ensures.answer _ (c.in_ok-formula_word.was ∙ ap (λ (w : Word). Some w) c.in-Atom.is)

pub returns-in_err-read_one-in-Not : goal.returns-in_err-read_one-in-Not
returns-in_err-read_one-in-Not c =
    c.from_residual-in_err-read_one-in-Not.ensures
    ∙ ap (option_map (λ n. Written.Not n)) (sym c.in_err-read_one-in-Not.was ∙ c.read_one-in-Not.ensures)
    ∙ by_word _ _ _ c.formula_word.ensures.answer _ (c.in_ok-formula_word.was ∙ ap (λ (w : Word). Some w) c.in-Not.is)

pub returns-in_ok-read_one-in-Not : goal.returns-in_ok-read_one-in-Not
returns-in_ok-read_one-in-Not c =
    ap (option_map (λ n. Written.Not n)) (sym c.in_ok-read_one-in-Not.was ∙ c.read_one-in-Not.ensures)
    ∙ by_word _ _ _ c.formula_word.ensures.answer _ (c.in_ok-formula_word.was ∙ ap (λ (w : Word). Some w) c.in-Not.is)

pub returns-in_err-i-in-And : goal.returns-in_err-i-in-And
returns-in_err-i-in-And c =
    c.from_residual-in_err-i-in-And.ensures
    ∙ ap (option_map (with_two (λ i j. Written.And i j))) (sym c.in_err-i-in-And.was ∙ c.read_two.ensures)
    ∙ by_word _ _ _ c.formula_word.ensures.answer _ (c.in_ok-formula_word.was ∙ ap (λ (w : Word). Some w) c.in-And.is)

pub returns-in_ok-i-in-And : goal.returns-in_ok-i-in-And
returns-in_ok-i-in-And c =
    ap (option_map (with_two (λ i j. Written.And i j))) (sym c.in_ok-i-in-And.was ∙ c.read_two.ensures)
    ∙ by_word _ _ _ c.formula_word.ensures.answer _ (c.in_ok-formula_word.was ∙ ap (λ (w : Word). Some w) c.in-And.is)

pub returns-in_err-i-in-Or : goal.returns-in_err-i-in-Or
returns-in_err-i-in-Or c =
    c.from_residual-in_err-i-in-Or.ensures
    ∙ ap (option_map (with_two (λ i j. Written.Or i j))) (sym c.in_err-i-in-Or.was ∙ c.read_two-in-Or.ensures)
    ∙ by_word _ _ _ c.formula_word.ensures.answer _ (c.in_ok-formula_word.was ∙ ap (λ (w : Word). Some w) c.in-Or.is)

pub returns-in_ok-i-in-Or : goal.returns-in_ok-i-in-Or
returns-in_ok-i-in-Or c =
    ap (option_map (with_two (λ i j. Written.Or i j))) (sym c.in_ok-i-in-Or.was ∙ c.read_two-in-Or.ensures)
    ∙ by_word _ _ _ c.formula_word.ensures.answer _ (c.in_ok-formula_word.was ∙ ap (λ (w : Word). Some w) c.in-Or.is)

pub returns-in_err-i-in-Imp : goal.returns-in_err-i-in-Imp
returns-in_err-i-in-Imp c =
    c.from_residual-in_err-i-in-Imp.ensures
    ∙ ap (option_map (with_two (λ i j. Written.Imp i j))) (sym c.in_err-i-in-Imp.was ∙ c.read_two-in-Imp.ensures)
    ∙ by_word _ _ _ c.formula_word.ensures.answer _ (c.in_ok-formula_word.was ∙ ap (λ (w : Word). Some w) c.in-Imp.is)

pub returns-in_ok-i-in-Imp : goal.returns-in_ok-i-in-Imp
returns-in_ok-i-in-Imp c =
    ap (option_map (with_two (λ i j. Written.Imp i j))) (sym c.in_ok-i-in-Imp.was ∙ c.read_two-in-Imp.ensures)
    ∙ by_word _ _ _ c.formula_word.ensures.answer _ (c.in_ok-formula_word.was ∙ ap (λ (w : Word). Some w) c.in-Imp.is)
