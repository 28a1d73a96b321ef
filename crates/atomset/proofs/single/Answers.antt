-- `atomset::single` meets its contract: the shifted 1 is a power of two, and stays one while the atom is below 64. Assumes nothing.
use mathlib.Core.Path.{ap, ◌∙◌}
use mathlib.Core.Bool.{and-true, and-false}
use Prim.Native.Nat.{ℕ}
use borrow.Author.Rules.{rules}
use borrow.Author.Tests.{lt-ltb, le-ltb}
use Rattle.atomset.proofs.Digits.{has_zero, has_power, shl_one}
use Rattle.atomset.specs.AtomSet.{has}
use Rattle.atomset.proofs.single.Goals as goal

pub returns-then-atom-ge64 : goal.returns-then-atom-ge64
returns-then-atom-ge64 c i =
    let room = le-ltb c.args.atom 64 (search rules) in
    has_zero i ∙ simp (room, and-false)

pub returns : goal.returns
returns c i =
    let atom = c.args.atom in
    let room = lt-ltb atom 64 (search rules) in
    ap (λ (x : ℕ). has x i) (shl_one 64 atom (search rules)) ∙ has_power atom i ∙ simp (room, and-true)
