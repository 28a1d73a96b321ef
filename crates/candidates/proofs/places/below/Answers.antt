-- `candidates::places::below` meets its contract. Assumes nothing.
use Prim.Native.Nat.{ℕ, ◌-◌}
use native.Mathlib.Omega.{arith}
use mathlib.Core.Path.{ap}
use lib.Pow.{pow_pos}
use Rattle.atomset.proofs.Digits.{shl_one}
use Rattle.candidates.proofs.places.below.Goals as goal

pub overflow_sub-result : goal.overflow_sub-result
overflow_sub-result c = omega (arith, shl_one 64 c.args.width (omega (arith, c.requires)), pow_pos c.args.width)

pub returns : goal.returns
returns c = ap (λ (w : ℕ). w - 1) (shl_one 64 c.args.width (omega (arith, c.requires)))
