-- `schema::parts::parts_of` meets its contract, case by case.
use Prim.Native.Nat.{◌-◌}
use mathlib.Core.Path.{◌≡◌, sym, ap, ◌∙◌}
use Rattle.tables.specs.declared.records.NodeRecord.{NodeRecord}
use Rattle.schema.specs.Principal.{record_at, split_in, parts_if}
use Rattle.schema.proofs.Splitting.{any_form, one_word, no_negation, negated_word}
use Rattle.schema.proofs.parts.parts_of.Goals as goal

pub returns-then-form-eq1 : goal.returns-then-form-eq1
returns-then-form-eq1 c =
    let args = c.args in
    sym (ap parts_if (any_form args.formulas.now args.form args.p c.if-form-eq1.true))

pub returns-then-form-lt6 : goal.returns-then-form-lt6
returns-then-form-lt6 c =
    let args = c.args in
    c.split.ensures ∙ ap parts_if (sym (one_word args.formulas.now args.form args.p c.if-form-eq1.false c.if-form-lt6.true))

pub returns-then-n-ne-NOT : goal.returns-then-n-ne-NOT
returns-then-n-ne-NOT c =
    let args = c.args in
    let formulas = args.formulas.now in
    let read = c.node-n.ensures ∙ ap (record_at formulas) c.from.ensures in
    let other : (record_at formulas args.p).word ≡ 2 → ⊥ = λ e. c.if-n-ne-NOT.true (ap (λ (n : NodeRecord). n.word) read ∙ e) in
    ap parts_if (sym (no_negation formulas args.form args.p c.if-form-eq1.false c.if-form-lt6.false other))

pub returns : goal.returns
returns c =
    let args = c.args in
    let formulas = args.formulas.now in
    let read = c.node-n.ensures ∙ ap (record_at formulas) c.from.ensures in
    let negation = sym (ap (λ (n : NodeRecord). n.word) read) ∙ c.if-n-ne-NOT.false in
    c.split-2.ensures ∙ ap (λ (n : NodeRecord). parts_if (split_in formulas args.p n.first (args.form - 4))) read
    ∙ ap parts_if (sym (negated_word formulas args.form args.p c.if-form-eq1.false c.if-form-lt6.false negation))
