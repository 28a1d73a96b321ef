-- `sides::fitting::fit` meets its contract: its three tests are those of the law of common sets for two sides.
use native.Mathlib.Omega.{arith}
use Rattle.sides.proofs.Deciding.{no_if, denied}
use Rattle.sides.proofs.NumberSides.{small, fit_iff}
use Rattle.sides.proofs.fitting.fit.Goals as goal

pub returns-then-not-holds : goal.returns-then-not-holds
returns-then-not-holds c =
    let args = c.args in
    let a_small = small args.a.now (λ i. omega (arith, c.type_inv.a i)) in
    let b-small = small args.b.now (λ i. omega (arith, c.type_inv.b i)) in
    let tests = fit_iff args.a.now args.at_a args.b.now args.at_b a_small b-small in
    no_if (λ g h. denied c.holds.ensures c.if-not-holds.true (tests.0 h).0.0)

pub returns-then-not-holds-2 : goal.returns-then-not-holds-2
returns-then-not-holds-2 c =
    let args = c.args in
    let a_small = small args.a.now (λ i. omega (arith, c.type_inv.a i)) in
    let b-small = small args.b.now (λ i. omega (arith, c.type_inv.b i)) in
    let tests = fit_iff args.a.now args.at_a args.b.now args.at_b a_small b-small in
    no_if (λ g h. denied c.holds-2.ensures c.if-not-holds-2.true (tests.0 h).0.1)

pub returns : goal.returns
returns c =
    let args = c.args in
    let a_small = small args.a.now (λ i. omega (arith, c.type_inv.a i)) in
    let b-small = small args.b.now (λ i. omega (arith, c.type_inv.b i)) in
    let tests = fit_iff args.a.now args.at_a args.b.now args.at_b a_small b-small in
    let a-holds = c.holds.ensures.sound c.if-not-holds.false in
    let b-holds = c.holds-2.ensures.sound c.if-not-holds-2.false in
    record {
      sound = λ e. tests.1 ((a-holds, b-holds), c.agree.ensures.sound e);
      complete = λ g h. c.agree.ensures.complete g (tests.0 h).1;
    }
