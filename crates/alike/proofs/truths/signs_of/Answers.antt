-- `alike::truths::signs_of` meets its contract. Assumes nothing.
use mathlib.Core.Bool.{◌||◌}
use mathlib.Core.Path.{ap₂, ◌∙◌}
use Rattle.atomset.proofs.Digits.{has_or}
use Rattle.alike.specs.Truths.{alone}
use Rattle.alike.proofs.truths.signs_of.Goals as goal

pub returns : goal.returns
unfolding alone
returns c =
    record {
      first = c.ones_if.ensures;
      second = c.ones_if-2.ensures;
      whole = c.ones_if-3.ensures;
      alone = λ i l. has_or _ _ i ∙ ap₂ ◌||◌ (c.ones_if-4.ensures i l) (c.ones_if-5.ensures i l);
    }
