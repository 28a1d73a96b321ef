-- `adding::OpenFile::add` meets its contract: the row is stored where it passes, and nothing changes where it is refused.
use mathlib.Core.Path.{ap, subst, ◌∙◌}
use lib.Dec.{lit≤}
use Rattle.bodies.specs.Open.{four}
use Rattle.adding.specs.Contract.{refused_with}
use Rattle.adding.specs.Trials.{Tries}
use Rattle.adding.proofs.Trying.{adds_refused, adds_passes}
use Rattle.adding.proofs.OpenFile.add.Goals as goal

pub returns-in-Err : goal.returns-in-Err
returns-in-Err c =
    let args = c.args in
    adds_refused (four args.formulas.now args.rows.now args.left.now args.right.now) args.self.counts args.text.now _ _ _
    (subst (Tries _ _ _ _ _) c.in-Err.is (c.try_row-tried.ensures (lit≤ tt) (lit≤ tt))) _
    (c.refused.ensures ∙ ap (refused_with args.self) c.from.ensures)

pub returns-in-Ok : goal.returns-in-Ok
returns-in-Ok c =
    let args = c.args in
    adds_passes (four args.formulas.now args.rows.now args.left.now args.right.now) args.self.counts args.text.now _ _ _
    (subst (Tries _ _ _ _ _) c.in-Ok.is (c.try_row-tried.ensures (lit≤ tt) (lit≤ tt))) _ _ _ c.store_row.ensures _
    c.with_row.ensures
