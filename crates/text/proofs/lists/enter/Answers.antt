-- `text::lists::enter` meets its contract. Assumes nothing.
use native.Mathlib.Omega.{arith}
use Rattle.text.proofs.ListLaws.{run_more, number_more}
use Rattle.text.proofs.lists.enter.Goals as goal

pub returns-then-first-last : goal.returns-then-first-last
returns-then-first-last c xs was h = number_more _ _ c.if-first-last.true xs was _ _ _ _ (omega (arith, c.well_formed)) h c.store.ensures (c.entered.ensures xs)

pub returns : goal.returns
returns c xs was h = run_more _ _ xs was _ _ _ _ (omega (arith, c.well_formed)) h c.store_run.ensures (c.entered-2.ensures xs)
