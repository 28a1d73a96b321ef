-- `cut::covered_but` meets its contract: no number of a side is the one that stands for none.
use Prim.Native.Nat.{◌<◌}
use native.Mathlib.Omega.{arith}
use mathlib.Core.Path.{sym, ◌∙◌}
use Rattle.sides.proofs.NumberSides.{small}
use Rattle.cut.proofs.CutTests.{first_covered}
use Rattle.cut.proofs.covered_but.Goals as goal

pub returns : goal.returns
returns c =
    let e = c.from.ensures in
    let fits : c.args.p < 65536 = omega (arith, c.ranges.p) in
    let s = small c.args.side.now (λ i. omega (arith, c.type_inv.side i)) in
    record {
      sound = λ t. first_covered e fits _ _ s (c.covered.ensures.sound t);
      complete = λ g k. c.covered.ensures.complete g (λ z m u v. k z m (λ i. u (i ∙ sym e)));
    }
