-- `schema::fits_two` meets its contract, by that of `three_fit` with what is added to each side.
use Rattle.schema.specs.Principal.{apart}
use Rattle.schema.proofs.Counting.{with_two}
use Rattle.schema.proofs.fits_two.Goals as goal

pub returns : goal.returns
returns c =
    let args = c.args in
    with_two args.formulas.now (apart args.p) args.rule args.place args.side.now args.one.now args.two.now c.added-here.ensures
    c.added-at_one.ensures c.added-at_two.ensures c.three_fit.ensures
