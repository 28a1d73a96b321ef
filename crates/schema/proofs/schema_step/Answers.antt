-- `schema::schema_step` meets its contract: the principal formula is of the rule's form, and the left and the right sides fit.
use Prim.Native.Nat.{ℕ, ◌≤◌}
use native.Mathlib.Omega.{arith}
use mathlib.Core.List.{List}
use mathlib.Core.Path.{◌≡◌, refl, ap, ◌∙◌}
use Rattle.std.specs.Prelude.{Some}
use Rattle.rules.specs.RuleTable.{rule_number}
use Rattle.schema.specs.Principal.{apart, parts_in, parts_if}
use Rattle.schema.specs.SchemaRows.{Sides, ◌⊣◌, Handed, parts_handed}
use Rattle.schema.specs.declared.parts.Parts.{Parts}
use Rattle.schema.proofs.Counting.{no_premise, one_premise, two_premises}
use Rattle.schema.proofs.Splitting.{parts_there, no_parts}
use Rattle.schema.proofs.SchemaRule.{misfit_answered, left_answered, right_answered}
use Rattle.schema.proofs.schema_step.Goals as goal

abbrev handed : ℕ → ℕ → ℕ → Sides → Sides → Sides → Handed
handed rule principal count row one two = record { rule = rule; principal = principal; count = count; row = row; one = one; two = two }

module _ (formulas : List ℕ) (h : Handed) {code form : ℕ} (r : code ≡ rule_number h.rule 0) (s : form ≡ code) where
  read : parts_in formulas form h.principal ≡ parts_handed h formulas
  read = ap (λ (f : ℕ). parts_in formulas f h.principal) (s ∙ r)

  -- the parts that were read are those of what is handed over
  parts_same : {p : Parts} → Some p ≡ parts_if (parts_in formulas form h.principal) → apart p ≡ parts_handed h formulas
  parts_same e = parts_there _ e ∙ read

pub returns-in_default : goal.returns-in_default
returns-in_default c =
    let args = c.args in
    let h = handed args.rule args.principal args.premises (args.row.left.now ⊣ args.row.right.now)
    (args.one.left.now ⊣ args.one.right.now) (args.two.left.now ⊣ args.two.right.now) in
    misfit_answered args.formulas.now h (read args.formulas.now h c.rule_number.ensures c.from-form.ensures) (no_parts _ c.in_default.ensures)

pub returns-then-not-fits_alone : goal.returns-then-not-fits_alone
returns-then-not-fits_alone c =
    let args = c.args in
    let h = handed args.rule args.principal args.premises (args.row.left.now ⊣ args.row.right.now)
    (args.one.left.now ⊣ args.one.right.now) (args.two.left.now ⊣ args.two.right.now) in
    let same = parts_same args.formulas.now h c.rule_number.ensures c.from-form.ensures c.in-Some.ensures in
    let left = no_premise args.formulas.now _ args.rule 0 args.row.left.now args.one.left.now args.two.left.now args.premises
    c.in-0.is c.fits_alone.ensures in
    left_answered args.formulas.now h same left c.if-not-fits_alone.true

pub returns-else-not-fits_alone : goal.returns-else-not-fits_alone
returns-else-not-fits_alone c =
    let args = c.args in
    let h = handed args.rule args.principal args.premises (args.row.left.now ⊣ args.row.right.now)
    (args.one.left.now ⊣ args.one.right.now) (args.two.left.now ⊣ args.two.right.now) in
    let same = parts_same args.formulas.now h c.rule_number.ensures c.from-form.ensures c.in-Some.ensures in
    let left = no_premise args.formulas.now _ args.rule 0 args.row.left.now args.one.left.now args.two.left.now args.premises
    c.in-0.is c.fits_alone.ensures in
    let right = no_premise args.formulas.now _ args.rule 1 args.row.right.now args.one.right.now args.two.right.now args.premises
    c.in-0.is c.fits_alone-in-0.ensures in
    right_answered args.formulas.now h same refl left
    c.if-not-fits_alone.false right

pub returns-then-not-fits_one : goal.returns-then-not-fits_one
returns-then-not-fits_one c =
    let args = c.args in
    let h = handed args.rule args.principal args.premises (args.row.left.now ⊣ args.row.right.now)
    (args.one.left.now ⊣ args.one.right.now) (args.two.left.now ⊣ args.two.right.now) in
    let same = parts_same args.formulas.now h c.rule_number.ensures c.from-form.ensures c.in-Some.ensures in
    let left = one_premise args.formulas.now _ args.rule 0 args.row.left.now args.one.left.now args.two.left.now args.premises
    c.in-1.is c.fits_one.ensures in
    left_answered args.formulas.now h same left c.if-not-fits_one.true

pub returns-else-not-fits_one : goal.returns-else-not-fits_one
returns-else-not-fits_one c =
    let args = c.args in
    let h = handed args.rule args.principal args.premises (args.row.left.now ⊣ args.row.right.now)
    (args.one.left.now ⊣ args.one.right.now) (args.two.left.now ⊣ args.two.right.now) in
    let same = parts_same args.formulas.now h c.rule_number.ensures c.from-form.ensures c.in-Some.ensures in
    let left = one_premise args.formulas.now _ args.rule 0 args.row.left.now args.one.left.now args.two.left.now args.premises
    c.in-1.is c.fits_one.ensures in
    let right = one_premise args.formulas.now _ args.rule 1 args.row.right.now args.one.right.now args.two.right.now args.premises
    c.in-1.is c.fits_one-in-1.ensures in
    right_answered args.formulas.now h same refl left
    c.if-not-fits_one.false right

pub returns-then-not-fits_two : goal.returns-then-not-fits_two
returns-then-not-fits_two c =
    let args = c.args in
    let h = handed args.rule args.principal args.premises (args.row.left.now ⊣ args.row.right.now)
    (args.one.left.now ⊣ args.one.right.now) (args.two.left.now ⊣ args.two.right.now) in
    let same = parts_same args.formulas.now h c.rule_number.ensures c.from-form.ensures c.in-Some.ensures in
    let more : 2 ≤ args.premises = omega arith in
    let left = two_premises args.formulas.now _ args.rule 0 args.row.left.now args.one.left.now args.two.left.now args.premises
    more c.fits_two.ensures in
    left_answered args.formulas.now h same left c.if-not-fits_two.true

pub returns-else-not-fits_two : goal.returns-else-not-fits_two
returns-else-not-fits_two c =
    let args = c.args in
    let h = handed args.rule args.principal args.premises (args.row.left.now ⊣ args.row.right.now)
    (args.one.left.now ⊣ args.one.right.now) (args.two.left.now ⊣ args.two.right.now) in
    let same = parts_same args.formulas.now h c.rule_number.ensures c.from-form.ensures c.in-Some.ensures in
    let more : 2 ≤ args.premises = omega arith in
    let left = two_premises args.formulas.now _ args.rule 0 args.row.left.now args.one.left.now args.two.left.now args.premises
    more c.fits_two.ensures in
    let right = two_premises args.formulas.now _ args.rule 1 args.row.right.now args.one.right.now args.two.right.now args.premises
    more c.fits_two-in_default-premises.ensures in
    right_answered args.formulas.now h same refl left
    c.if-not-fits_two.false right
