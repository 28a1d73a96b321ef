-- `alike::end_of` meets its contract. Assumes nothing.
use native.Mathlib.Omega.{arith}
use Rattle.alike.proofs.end_of.Goals as goal

pub returns : goal.returns
returns c =
    let past = c.past_largest.ensures in
    record { few = omega arith; past = λ m l o f. (omega arith, λ x i. omega (arith, past.above x i, f x i), omega (arith, past.least m f)) }
