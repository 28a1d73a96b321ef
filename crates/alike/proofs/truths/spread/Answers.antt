-- `alike::truths::spread` meets its contract. Assumes nothing.
use Prim.Native.Nat.{◌%◌}
use native.Mathlib.Omega.{arith}
use mathlib.Core.Path.{ap, ◌∙◌}
use Rattle.alike.specs.Blocks.{digit}
use Rattle.alike.specs.declared.blocks.Block.{Block}
use Rattle.alike.proofs.BlockDigits.{digit_all}
use Rattle.alike.proofs.truths.spread.Goals as goal

pub returns : goal.returns
returns c =
    λ n l.
    ap (λ (x : Block). digit x n) c.all_of_one.ensures
    ∙ digit_all _ n
    ∙ c.ones_if.ensures (n % 64) (omega arith)
    ∙ c.contains.ensures
