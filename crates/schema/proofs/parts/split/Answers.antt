-- `schema::parts::split` meets its contract, case by case.
use native.Mathlib.Omega.{arith}
use mathlib.Core.Path.{◌≡◌, sym, ap, ◌∙◌}
use Rattle.tables.specs.declared.records.NodeRecord.{NodeRecord}
use Rattle.schema.specs.Principal.{record_at, fitting, parts_if}
use Rattle.schema.proofs.Splitting.{other_word, into_itself, into_one, into_two}
use Rattle.schema.proofs.parts.split.Goals as goal

pub returns-then-n-word : goal.returns-then-n-word
returns-then-n-word c =
    let args = c.args in
    let formulas = args.formulas.now in
    let read = c.node-n.ensures ∙ ap (record_at formulas) c.from.ensures in
    let other : (record_at formulas args.at).word ≡ args.word → ⊥ = λ e. c.if-n-word.true (ap (λ (n : NodeRecord). n.word) read ∙ e) in
    ap parts_if (sym (other_word formulas args.whole args.at args.word other))

pub returns-in-0 : goal.returns-in-0
returns-in-0 c =
    let args = c.args in
    let formulas = args.formulas.now in
    let read = c.node-n.ensures ∙ ap (record_at formulas) c.from.ensures in
    let same = sym (ap (λ (n : NodeRecord). n.word) read) ∙ c.if-n-word.false in
    ap parts_if (sym (into_itself formulas args.whole args.at args.word same c.in-0.is))

pub returns-in-2 : goal.returns-in-2
returns-in-2 c =
    let args = c.args in
    let formulas = args.formulas.now in
    let read = c.node-n.ensures ∙ ap (record_at formulas) c.from.ensures in
    let same = sym (ap (λ (n : NodeRecord). n.word) read) ∙ c.if-n-word.false in
    ap (λ (n : NodeRecord). parts_if (fitting args.whole n.first n.first)) read
    ∙ ap parts_if (sym (into_one formulas args.whole args.at args.word same (λ e. omega arith) c.in-2.is))

pub returns-in_default : goal.returns-in_default
returns-in_default c =
    let args = c.args in
    let formulas = args.formulas.now in
    let read = c.node-n.ensures ∙ ap (record_at formulas) c.from.ensures in
    let same = sym (ap (λ (n : NodeRecord). n.word) read) ∙ c.if-n-word.false in
    ap (λ (n : NodeRecord). parts_if (fitting args.whole n.first n.second)) read
    ∙ ap parts_if (sym (into_two formulas args.whole args.at args.word same (λ e. omega arith) (λ e. omega arith)))
