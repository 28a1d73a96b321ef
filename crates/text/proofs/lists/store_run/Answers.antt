use mathlib.Core.Path.{◌≡◌, refl}
use mathlib.Core.Bool.{Bool, true, false}
use mathlib.Core.Logic.{inr}
use native.Mathlib.Omega.{arith}
use lib.Dec.{leb}
use lib.ListN.{length}
use borrow.Author.Tests.{leb-true, leb-false}
use Rattle.text.specs.Lists.{laid_at, spanned}
use Rattle.text.proofs.ListLaws.{stored_past, stored_all, storing_more}
use Rattle.text.proofs.lists.store_run.Goals as goal

pub loop-place-preserved : goal.loop-place-preserved
loop-place-preserved c =
    let inv = c.loop-place.invariant in (
      omega (arith, inv.0),
      storing_more _ _ _ _ _ _ _ _ inv.1 _ _
          (omega (arith, inv.0, c.loop-place-test.true, c.min-end.ensures, c.saturating_add.ensures, c.requires)) (inr (omega (arith, inv.0))),
    )

-- the places end, or the numbers do
pub returns : goal.returns
returns c = by_test (leb (length c.loop-place.out) c.loop-place.place) refl
  where
    by_test : (t : Bool) → leb (length c.loop-place.out) c.loop-place.place ≡ t
        → c.loop-place.out ≡ laid_at c.args.out.now c.args.at (spanned c.args.first c.args.last)
    by_test true e = stored_past _ _ _ _ _ _ _ _ c.loop-place.invariant.1 (leb-true _ _ e)
    by_test false e =
        let inv = c.loop-place.invariant in
        stored_all _ _ _ _ _ _ _ _ inv.1
        (omega (arith, inv.0, inv.1.kept, leb-false _ _ e, c.loop-place-test.false, c.min-end.ensures, c.saturating_add.ensures, c.requires))
