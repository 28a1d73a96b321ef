-- `pairs::with_digit` meets its contract. Assumes nothing.
use mathlib.Core.Bool.{Bool, ◌&&◌, ◌||◌, or-false}
use mathlib.Core.Path.{sym, ap, ◌∙◌}
use borrow.Author.Tests.{eq-eqb, ne_eqb}
use lib.Dec.{eqb, ltb}
use Rattle.atomset.specs.AtomSet.{has}
use Rattle.pairs.proofs.with_digit.Goals as goal

pub returns-then-n-eq1 : goal.returns-then-n-eq1
unfolding has
returns-then-n-eq1 c =
    λ i.
    let args = c.args in
    c.insert.ensures i ∙ ap (λ (d : Bool). has args.set i || (d && (eqb i args.atom && ltb args.atom 64))) (sym (eq-eqb _ 1 c.if-n-eq1.true))

pub returns : goal.returns
unfolding has
returns c =
    λ i.
    let args = c.args in
    sym (
    ap (λ (d : Bool). has args.set i || (d && (eqb i args.atom && ltb args.atom 64))) (ne_eqb _ 1 c.if-n-eq1.false) ∙ or-false (has args.set i))
