-- `candidates::all_of` meets its contract. Assumes nothing.
use Prim.Native.Nat.{ℕ, ◌-◌}
use native.Mathlib.Omega.{arith}
use mathlib.Core.Path.{sym, subst}
use lib.ListN.{length}
use lib.Pow.{pow_pos}
use Rattle.atomset.specs.AtomSet.{Member}
use Rattle.atomset.proofs.Digits.{shl_one}
use Rattle.alike.proofs.Outside.{ones_iff}
use Rattle.candidates.proofs.all_of.Goals as goal

pub returns-then-side-ge64 : goal.returns-then-side-ge64
returns-then-side-ge64 c = λ i. let iff = ones_iff 64 i in (λ m. let l = iff.0 m in (l, omega (arith, c.if-side-ge64.true)), λ h. iff.1 h.0)

pub overflow_sub-result : goal.overflow_sub-result
overflow_sub-result c =
    let n = length c.args.side.now in
    omega (arith, shl_one 64 n (omega (arith, c.if-side-ge64.false)), pow_pos n)

pub returns : goal.returns
returns c =
    λ i.
    let n = length c.args.side.now in
    let iff = ones_iff n i in
    let word = shl_one 64 n (omega (arith, c.if-side-ge64.false)) in (
      λ m. let l = iff.0 (subst (λ (w : ℕ). Member i (w - 1)) word m) in (omega (arith, c.if-side-ge64.false), l),
      λ h. subst (λ (w : ℕ). Member i (w - 1)) (sym word) (iff.1 h.1),
    )
