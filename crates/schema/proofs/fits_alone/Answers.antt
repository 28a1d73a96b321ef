-- `schema::fits_alone` meets its contract: one side is given by some set exactly if it holds what is added.
use Rattle.schema.specs.Principal.{apart}
use Rattle.schema.proofs.Counting.{alone}
use Rattle.schema.proofs.fits_alone.Goals as goal

pub returns : goal.returns
returns c =
    let args = c.args in
    alone args.formulas.now (apart args.p) args.rule args.place args.side.now c.added-here.ensures c.holds.ensures
