-- `cut::cut_step` meets its contract: each test that fails is one of the rule's.
use Prim.Native.Nat.{◌<◌}
use native.Mathlib.Omega.{arith}
use mathlib.Core.Bool.{false≢true}
use mathlib.Core.Path.{sym, ◌∙◌}
use borrow.Author.Rules.{rules}
use Rattle.sides.proofs.Deciding.{no_if, denied_if}
use Rattle.sides.proofs.Sets.{member_iff}
use Rattle.cut.proofs.CutTests.{second_fits}
use Rattle.cut.proofs.cut_step.Goals as goal

pub returns-then-not-fit : goal.returns-then-not-fit
returns-then-not-fit c = no_if (λ (l, (r, (l₁, others))) k. denied_if c.fit.ensures c.if-not-fit.true (l, (l₁, tt)) k.first_left)

pub returns-then-not-fit-2 : goal.returns-then-not-fit-2
returns-then-not-fit-2 c =
    let args = c.args in
    let second = second_fits c.from.ensures (search rules) args.row.left.now args.two.left.now in
    no_if (λ (l, (r, (l₁, (r₁, (l₂, others))))) k. denied_if c.fit-2.ensures c.if-not-fit-2.true (l, (l₂, tt)) (second.0 k.second_left))

pub returns-then-not-contains : goal.returns-then-not-contains
returns-then-not-contains c = no_if (λ g k. false≢true (sym c.if-not-contains.true ∙ c.contains.ensures ∙ (member_iff _ _).1 k.principal))

pub returns-then-not-covered_but : goal.returns-then-not-covered_but
returns-then-not-covered_but c =
    no_if (λ (l, (r, (l₁, (r₁, others)))) k. denied_if c.covered_but.ensures c.if-not-covered_but.true (r₁, (r, tt)) k.first_right)

pub returns-then-not-all_covered : goal.returns-then-not-all_covered
returns-then-not-all_covered c =
    no_if (λ (l, (r, (l₁, (r₁, (l₂, (r₂, t)))))) k. denied_if c.all_covered.ensures c.if-not-all_covered.true (r₂, (r, tt)) k.second_right)

pub returns : goal.returns
returns c =
    let args = c.args in
    let fits : args.principal < 65536 = omega (arith, c.ranges.principal) in
    let second = second_fits c.from.ensures fits args.row.left.now args.two.left.now in
    record {
      sound = λ t. record {
        first_left = c.fit.ensures.sound c.if-not-fit.false;
        second_left = second.1 (c.fit-2.ensures.sound c.if-not-fit-2.false);
        principal = (member_iff _ _).0 (sym c.contains.ensures ∙ c.if-not-contains.false);
        first_right = c.covered_but.ensures.sound c.if-not-covered_but.false;
        second_right = c.all_covered.ensures.sound c.if-not-all_covered.false;
        both_right = c.covered_by_either.ensures.sound t;
      };
      complete = λ (l, (r, (l₁, (r₁, (l₂, (r₂, t)))))) k. c.covered_by_either.ensures.complete (r, (r₁, (r₂, tt))) k.both_right;
    }
