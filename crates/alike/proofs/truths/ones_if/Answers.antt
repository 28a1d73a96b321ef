-- `alike::truths::ones_if` meets its contract. Assumes nothing.
use Prim.Native.Nat.{ℕ, ◌<◌}
use mathlib.Core.Bool.{true}
use mathlib.Core.Path.{◌≡◌, refl, sym, ◌∙◌}
use Rattle.atomset.specs.AtomSet.{has}
use Rattle.atomset.proofs.Digits.{has_zero}
use Rattle.alike.proofs.TruthBits.{agree, agree_below}
use Rattle.alike.proofs.truths.ones_if.Goals as goal

all_ones : (j : ℕ) → j < 64 → has 18446744073709551615 j ≡ true
unfolding agree has
all_ones = agree_below (has 18446744073709551615) (λ j. true) 64 refl

pub returns-then-yes : goal.returns-then-yes
returns-then-yes c = λ i l. all_ones i l ∙ sym c.if-yes.true

pub returns : goal.returns
returns c = λ i l. has_zero i ∙ sym c.if-yes.false
