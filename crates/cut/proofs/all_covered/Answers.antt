-- `cut::all_covered` meets its contract: no number of a side is the one that stands for none.
use native.Mathlib.Omega.{arith}
use Rattle.sides.proofs.NumberSides.{small}
use Rattle.cut.proofs.CutTests.{second_covered}
use Rattle.cut.proofs.all_covered.Goals as goal

pub returns : goal.returns
returns c =
    let s = small c.args.side.now (λ i. omega (arith, c.type_inv.side i)) in
    record {
      sound = λ t. second_covered _ _ s (c.covered.ensures.sound t);
      complete = λ g k. c.covered.ensures.complete g (λ z m u v. k z m);
    }
