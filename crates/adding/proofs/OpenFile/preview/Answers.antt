-- `adding::OpenFile::preview` meets its contract: the answer of the trial. Assumes nothing.
use mathlib.Core.Path.{sym, subst}
use lib.Dec.{lit≤}
use Rattle.bodies.specs.Open.{four}
use Rattle.adding.specs.Contract.{Previews}
use Rattle.adding.specs.Trials.{Tries}
use Rattle.adding.proofs.Trying.{previews_refused, previews_passes}
use Rattle.adding.proofs.OpenFile.preview.Goals as goal

pub returns-in-Err : goal.returns-in-Err
returns-in-Err c =
    let args = c.args in
    let t = four args.formulas.now args.rows.now args.left.now args.right.now in
    subst (Previews t args.self.counts args.text.now) (sym c.from.ensures)
    (previews_refused t args.self.counts args.text.now _ _ _
    (subst (Tries _ _ _ _ _) c.in-Err.is (c.try_row-tried.ensures (lit≤ tt) (lit≤ tt))))

pub returns-in-Ok : goal.returns-in-Ok
returns-in-Ok c =
    let args = c.args in
    let t = four args.formulas.now args.rows.now args.left.now args.right.now in
    subst (Previews t args.self.counts args.text.now) (sym c.accepted.ensures)
    (previews_passes t args.self.counts args.text.now _ _ _
    (subst (Tries _ _ _ _ _) c.in-Ok.is (c.try_row-tried.ensures (lit≤ tt) (lit≤ tt))))
