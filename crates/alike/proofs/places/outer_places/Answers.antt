-- `alike::places::outer_places` meets its contract. Assumes nothing.
use Prim.Native.Nat.{ℕ, ◌-◌}
use native.Mathlib.Omega.{arith}
use mathlib.Core.Bool.{not, ◌&&◌}
use mathlib.Core.Path.{ap, ◌∙◌}
use borrow.Author.Rules.{rules}
use lib.Pow.{pow_pos}
use Rattle.atomset.specs.AtomSet.{has}
use Rattle.atomset.proofs.Digits.{shl_one}
use Rattle.alike.proofs.Outside.{outer_ones}
use Rattle.alike.proofs.places.outer_places.Goals as goal

pub overflow_sub-width : goal.overflow_sub-width
overflow_sub-width c = omega (arith, shl_one 64 c.args.width (omega (arith, c.requires)), pow_pos c.args.width)

pub returns : goal.returns
returns c =
    outer_ones c.args.width _ c.requires (search rules) (λ i.
    c.difference.ensures i
    ∙ ap (λ (w : ℕ). has (w - 1) i && not (has 31 i)) (shl_one 64 c.args.width (omega (arith, c.requires))))
