use Prim.Native.Nat.{◌<◌}
use native.Mathlib.Omega.{arith}
use mathlib.Core.Path.{◌≡◌}
use borrow.Author.Rules.{rules}
use lib.ListN.{length}
use Rattle.sides.proofs.Either.{next_passed, not_there, found_more, on_side, not_at}
use Rattle.sides.proofs.covering.first_outside.Goals as goal

pub loop-i-init : goal.loop-i-init
loop-i-init c = (search rules, λ k h. absurd (omega arith), λ ra l k h. absurd (omega arith))

pub returns-then-not-stands : goal.returns-then-not-stands
returns-then-not-stands c =
    let args = c.args in
    let at = c.loop-i in
    record {
      within = at.invariant.0;
      found = at.invariant.1;
      lacks = λ (ra, (rb, t)) l. not_there args.a.now args.b.now at.i at.j l (at.invariant.2 ra) c.skipped-j.result c.skipped-j.ensures rb
          (not_at args.b.now _ _ c.stands.ensures c.if-not-stands.true);
    }

pub loop-i-preserved : goal.loop-i-preserved
loop-i-preserved c =
    let args = c.args in
    let at = c.loop-i in
    let inside : at.i < length args.a.now = search rules in (
      search rules,
      found_more args.a.now at.i args.b.now at.invariant.1 (on_side args.b.now _ _ c.stands.ensures c.if-not-stands.false),
      λ ra. next_passed args.a.now args.b.now at.i at.j inside (at.invariant.2 ra) c.skipped-j.result c.skipped-j.ensures ra,
    )

pub returns : goal.returns
returns c =
    let at = c.loop-i in
    let all : at.i ≡ length c.args.a.now = omega arith in
    record { within = omega arith; found = λ k h. at.invariant.1 k (omega arith); lacks = λ rise l. absurd (omega (arith, l)) }
