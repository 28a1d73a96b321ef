-- `sides::fitting::holds` meets its contract: each number that is some was looked for.
use Rattle.sides.proofs.Deciding.{decides_no, denied}
use Rattle.sides.proofs.NumberSides.{numbers_part}
use Rattle.sides.proofs.fitting.holds.Goals as goal

pub returns-then-not-on : goal.returns-then-not-on
returns-then-not-on c = decides_no (λ h. denied c.on.ensures c.if-not-on.true ((numbers_part c.args.added _).0 h).0)

pub returns : goal.returns
returns c =
    let both = numbers_part c.args.added c.args.side.now in
    record {
      sound = λ e. both.1 (c.on.ensures.sound c.if-not-on.false, c.on-2.ensures.sound e);
      complete = λ h. c.on-2.ensures.complete (both.0 h).1;
    }
