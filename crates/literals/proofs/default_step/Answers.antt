-- `literals::default_step` meets its contract: the tests are those of the definition, which decides `def` in a good body.
use Prim.Native.Nat.{ℕ}
use mathlib.Core.Bool.{Bool, true, false, ◌&&◌}
use mathlib.Core.List.{List, []}
use mathlib.Core.Path.{◌≡◌, sym, ap, subst, ◌∙◌}
use Rattle.elk.specs.Sequent.{◌⇒◌}
use Rattle.elk.specs.Instance.{DefaultInstance}
use Rattle.format.specs.File.{decoded_at, decoded}
use Rattle.sides.specs.Members.{member}
use Rattle.sides.specs.Deciding.{Decides}
use Rattle.shapes.specs.Shapes.{shape_in}
use Rattle.shapes.specs.declared.Shape.{Shape}
use Rattle.shapes.specs.declared.Shape.TheVariants.{Negated}
use Rattle.literals.specs.Literals.{atoms_but, default_by, DefaultStep}
use Rattle.literals.proofs.Arms.{not_negated}
use Rattle.literals.proofs.LiteralRules.{default_decides}
use Rattle.literals.proofs.default_step.Goals as goal

module _ (formulas : List ℕ) (principal : ℕ) (left right : List ℕ) where
  -- an answer that is the definition's decides
  step : {r : Bool} → r ≡ default_by formulas (shape_in formulas principal) principal left right → DefaultStep formulas principal left right r
  step {r} e = record {
    answer = e;
    decides = λ b g known sl sr.
        subst (Decides (DefaultInstance (decoded_at b.nodes principal) [] (decoded b.nodes left ⇒ decoded b.nodes right))) (sym e)
        (default_decides g sl sr principal known);
  }

  module _ {s : Shape} (read : s ≡ shape_in formulas principal) where
    by_shape : default_by formulas (shape_in formulas principal) principal left right ≡ default_by formulas s principal left right
    by_shape = ap (λ (t : Shape). default_by formulas t principal left right) (sym read)

    -- the principal formula is ~p
    module _ {p : ℕ} (own : s ≡ Negated p) {atoms : Bool} (a : atoms ≡ atoms_but formulas p left) where
      tests : (atoms && member principal right) ≡ default_by formulas (shape_in formulas principal) principal left right
      tests =
          ap (λ (t : Bool). t && member principal right) a
          ∙ sym (by_shape ∙ ap (λ (t : Shape). default_by formulas t principal left right) own)

      not_atoms : atoms ≡ false → DefaultStep formulas principal left right false
      not_atoms f = step (sym (ap (λ (t : Bool). t && member principal right) f) ∙ tests)

      only_atoms : atoms ≡ true → {on : Bool} → on ≡ member principal right → DefaultStep formulas principal left right on
      only_atoms t e = step (e ∙ sym (ap (λ (t : Bool). t && member principal right) t) ∙ tests)

    other_principal : default_by formulas s principal left right ≡ false → DefaultStep formulas principal left right false
    other_principal n = step (sym (by_shape ∙ n))

pub returns-then-not-atoms_but : goal.returns-then-not-atoms_but
returns-then-not-atoms_but c = not_atoms _ _ _ _ c.shape_of-s.ensures.answer c.in-Negated.is c.atoms_but.ensures c.if-not-atoms_but.true

pub returns : goal.returns
returns c =
    only_atoms _ _ _ _ c.shape_of-s.ensures.answer c.in-Negated.is c.atoms_but.ensures
    c.if-not-atoms_but.false c.contains.ensures

pub returns-in_default : goal.returns-in_default
returns-in_default c =
    other_principal _ _ _ _ c.shape_of-s.ensures.answer
    (not_negated _ _ _ _ c.shape_of-s.result c.in_default.not-Negated)
