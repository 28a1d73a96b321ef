-- The three fields of a formula, read together. Assumes nothing.
use Prim.Native.Nat.{ℕ}
use mathlib.Core.Path.{◌≡◌, refl, sym, ap, ◌∙◌}
use mathlib.Core.Bool.{Bool, true, false, cond, ◌&&◌}
use mathlib.Core.Option.{Option, none, some}
use Rattle.std.specs.Prelude.{Option as Answer, None, Some}
use Rattle.std.specs.Option.{option_map}
use Rattle.format.specs.Text.{Bytes, number_of, is, ◌<$>◌, ◌<*>◌, only_if}
use Rattle.format.specs.File.{Node}
use Rattle.format.specs.Line.{node_of, unary, binary}
use Rattle.text.specs.Numbers.{number_as}
use Rattle.keywords.specs.Words.{formula_word}
use Rattle.keywords.specs.declared.Word.{Word}
use Rattle.lines.specs.FormulaLines.{written_of, written_as, one_operand, both_of, two_operands}
use Rattle.lines.specs.declared.formula.Written.{Written}

-- a formula of two operands
abbrev pub with_two : (ℕ → ℕ → Written) → ℕ × ℕ → Written
with_two node p = node p.0 p.1

abbrev pub bot_as : Bool → Answer Written
bot_as t = cond t (Some Written.Bot) None

-- the formula by its word
abbrev pub node_by : Answer Word → Bytes → Bytes → Answer Written
node_by None first second = None
node_by (Some Word.Bot) first second = bot_as (is "-" first && is "-" second)
node_by (Some Word.Atom) first second = option_map (λ p. Written.Atom p) (one_operand first second)
node_by (Some Word.Not) first second = option_map (λ i. Written.Not i) (one_operand first second)
node_by (Some Word.And) first second = option_map (with_two (λ i j. Written.And i j)) (two_operands first second)
node_by (Some Word.Or) first second = option_map (with_two (λ i j. Written.Or i j)) (two_operands first second)
node_by (Some Word.Imp) first second = option_map (with_two (λ i j. Written.Imp i j)) (two_operands first second)

module _ (first second : Bytes) where
  bot : (t : Bool) → written_as (only_if t (some Node.bot)) ≡ cond t (Some Written.Bot) None
  bot true = refl
  bot false = refl

  one : (node : ℕ → Node) → written_as (unary node first second) ≡ option_map (λ n. written_of (node n)) (one_operand first second)
  one node = cases (is "-" second) (number_of first)
    where
      cases : (t : Bool) (o : Option ℕ) → written_as (only_if t (node <$> o)) ≡ option_map (λ n. written_of (node n)) (cond t (number_as o) None)
      cases true none = refl
      cases true (some n) = refl
      cases false o = refl

  two : (node : ℕ → ℕ → Node) → written_as (binary node first second) ≡ option_map (λ p. written_of (node p.0 p.1)) (two_operands first second)
  two node = cases (number_of first) (number_of second)
    where
      cases : (o q : Option ℕ) → written_as (node <$> o <*> q) ≡ option_map (λ p. written_of (node p.0 p.1)) (both_of (number_as o) (number_as q))
      cases none q = refl
      cases (some i) none = refl
      cases (some i) (some j) = refl

pub node_by_word : (field first second : Bytes) → written_as (node_of field first second) ≡ node_by (formula_word field) first second
unfolding formula_word node_of
node_by_word field first second = cases (is "bot" field) (is "atom" field) (is "not" field) (is "and" field) (is "or" field) (is "imp" field)
  where
    cases : (a b c d e f : Bool)
        → written_as (
        cond a (only_if (is "-" first && is "-" second) (some Node.bot)) (
        cond b (unary Node.atom first second) (
        cond c (unary Node.not first second) (
        cond d (binary Node.and first second) (cond e (binary Node.or first second) (cond f (binary Node.imp first second) none))))))
        ≡ node_by (
        cond a (Some Word.Bot) (
        cond b (Some Word.Atom) (cond c (Some Word.Not) (cond d (Some Word.And) (cond e (Some Word.Or) (cond f (Some Word.Imp) None)))))) first second
    cases true b c d e f = bot first second (is "-" first && is "-" second)
    cases false true c d e f = one first second Node.atom
    cases false false true d e f = one first second Node.not
    cases false false false true e f = two first second Node.and
    cases false false false false true f = two first second Node.or
    cases false false false false false true = two first second Node.imp
    cases false false false false false false = refl

-- the word as it was read
module _ (field first second : Bytes) {w : Answer Word} (is_word : w ≡ formula_word field) where
  pub by_word : (v : Answer Word) → w ≡ v → node_by v first second ≡ written_as (node_of field first second)
  by_word v e = sym (node_by_word field first second ∙ ap (λ (x : Answer Word). node_by x first second) (sym is_word ∙ e))
