-- `schema::fits_one` meets its contract, by that of `fit` with what is added to each side.
use mathlib.Core.List.{[]}
use Rattle.schema.specs.Principal.{apart}
use Rattle.schema.proofs.Counting.{with_one}
use Rattle.schema.proofs.fits_one.Goals as goal

pub returns : goal.returns
returns c =
    let args = c.args in
    with_one args.formulas.now (apart args.p) args.rule args.place args.side.now args.one.now [] c.added-here.ensures
    c.added-at_one.ensures c.fit.ensures
