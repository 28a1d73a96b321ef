-- `keywords::line_kind` meets its contract. Assumes nothing.
use mathlib.Core.Path.{◌≡◌, sym, ◌∙◌}
use native.Mathlib.Omega.{arith}
use borrow.Author.Tests.{eq-eqb, ne_eqb}
use lib.ListN.{get_or}
use Rattle.keywords.proofs.WordLaws.{kind_byte, kind_long, kind_answered}
use Rattle.keywords.proofs.line_kind.Goals as goal

pub returns-in-65 : goal.returns-in-65
returns-in-65 c =
    let b : get_or c.args.field.now 0 0 ≡ 65 = omega arith in
    kind_answered _ (sym (kind_byte _ (omega arith) ∙ simp (eq-eqb _ _ b)))

pub returns-in-70 : goal.returns-in-70
returns-in-70 c =
    let b : get_or c.args.field.now 0 0 ≡ 70 = omega arith in
    kind_answered _ (sym (kind_byte _ (omega arith) ∙ simp b))

pub returns-in-78 : goal.returns-in-78
returns-in-78 c =
    let b : get_or c.args.field.now 0 0 ≡ 78 = omega arith in
    kind_answered _ (sym (kind_byte _ (omega arith) ∙ simp b))

pub returns-in-77 : goal.returns-in-77
returns-in-77 c =
    let b : get_or c.args.field.now 0 0 ≡ 77 = omega arith in
    kind_answered _ (sym (kind_byte _ (omega arith) ∙ simp b))

pub returns-in-67 : goal.returns-in-67
returns-in-67 c =
    let b : get_or c.args.field.now 0 0 ≡ 67 = omega arith in
    kind_answered _ (sym (kind_byte _ (omega arith) ∙ simp b))

-- no byte
pub returns-in_default : goal.returns-in_default
returns-in_default c = kind_answered _ (sym (kind_long _ (omega arith)))

-- another byte
pub returns-in_default-2 : goal.returns-in_default-2
returns-in_default-2 c =
    kind_answered _ (sym (
    kind_byte _ (omega arith)
    ∙ simp (
      ne_eqb _ 65 (λ (h : get_or c.args.field.now 0 0 ≡ 65). omega arith),
      ne_eqb _ 70 (λ (h : get_or c.args.field.now 0 0 ≡ 70). omega arith),
      ne_eqb _ 78 (λ (h : get_or c.args.field.now 0 0 ≡ 78). omega arith),
      ne_eqb _ 77 (λ (h : get_or c.args.field.now 0 0 ≡ 77). omega arith),
      ne_eqb _ 67 (λ (h : get_or c.args.field.now 0 0 ≡ 67). omega arith),
    )))

-- two bytes or more
pub returns-in_default-3 : goal.returns-in_default-3
returns-in_default-3 c = kind_answered _ (sym (kind_long _ (omega arith)))
