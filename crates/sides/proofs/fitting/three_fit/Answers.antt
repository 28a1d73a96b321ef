-- `sides::fitting::three_fit` meets its contract: its tests are those of the law of common sets for three sides, by the first of them.
use native.Mathlib.Omega.{arith}
use Rattle.sides.proofs.Deciding.{no_if, denied, denied_if}
use Rattle.sides.proofs.NumberSides.{small, three_fit_iff}
use Rattle.sides.proofs.fitting.three_fit.Goals as goal

pub returns-then-not-fit : goal.returns-then-not-fit
returns-then-not-fit c =
    let args = c.args in
    let b-small = small args.b.now (λ i. omega (arith, c.type_inv.b i)) in
    let c-small = small args.c.now (λ i. omega (arith, c.type_inv.c i)) in
    let tests = three_fit_iff args.a.now args.at_a args.b.now args.at_b args.c.now args.at_c b-small c-small in
    no_if (λ g h. denied_if c.fit.ensures c.if-not-fit.true (g.0, (g.1.0, tt)) (tests.0 h).0)

pub returns-then-not-fit-2 : goal.returns-then-not-fit-2
returns-then-not-fit-2 c =
    let args = c.args in
    let b-small = small args.b.now (λ i. omega (arith, c.type_inv.b i)) in
    let c-small = small args.c.now (λ i. omega (arith, c.type_inv.c i)) in
    let tests = three_fit_iff args.a.now args.at_a args.b.now args.at_b args.c.now args.at_c b-small c-small in
    no_if (λ g h. denied_if c.fit-2.ensures c.if-not-fit-2.true (g.0, (g.1.1.0, tt)) (tests.0 h).1)

pub returns-then-not-on_both : goal.returns-then-not-on_both
returns-then-not-on_both c =
    let args = c.args in
    let b-small = small args.b.now (λ i. omega (arith, c.type_inv.b i)) in
    let c-small = small args.c.now (λ i. omega (arith, c.type_inv.c i)) in
    let tests = three_fit_iff args.a.now args.at_a args.b.now args.at_b args.c.now args.at_c b-small c-small in
    no_if (λ g h. denied c.on_both.ensures c.if-not-on_both.true (tests.0 h).2)

pub returns : goal.returns
returns c =
    let args = c.args in
    let b-small = small args.b.now (λ i. omega (arith, c.type_inv.b i)) in
    let c-small = small args.c.now (λ i. omega (arith, c.type_inv.c i)) in
    let tests = three_fit_iff args.a.now args.at_a args.b.now args.at_b args.c.now args.at_c b-small c-small in
    let ab = c.fit.ensures.sound c.if-not-fit.false in
    let ac = c.fit-2.ensures.sound c.if-not-fit-2.false in
    let at_x = c.on_both.ensures.sound c.if-not-on_both.false in
    record {
      sound = λ e. tests.1 (ab, ac, at_x, c.on_both-2.ensures.sound e);
      complete = λ g h. c.on_both-2.ensures.complete (tests.0 h).3;
    }
