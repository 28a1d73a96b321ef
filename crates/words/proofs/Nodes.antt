-- What a formula of a good body names comes before it.
use Prim.Native.Nat.{ℕ, ◌<◌}
use mathlib.Core.Path.{◌≡◌, subst}
use mathlib.Core.Bool.{false}
use mathlib.Core.List.{[], ◌∷◌}
use native.Mathlib.Omega.{arith}
use lib.ListN.{length}
use lib.Seq.{length-take-le}
use borrow.Author.Tests.{leb-false}
use Rattle.format.specs.Text.{any}
use Rattle.format.specs.File.{Node, Body}
use Rattle.format.specs.Tests.{not_earlier, refers_ahead}
use Rattle.format.specs.Good.{GoodBody}
use Rattle.format.proofs.Booleans.{or_false}
use Rattle.format.proofs.GoodBodies.{node_at, before_node, good_held}

-- what a node names: an atom of so many, or formulas before number i
abbrev pub Earlier : ℕ → ℕ → Node → Type 0
Earlier atoms i Node.bot = Unit {0}
Earlier atoms i (Node.atom k) = k < atoms
Earlier atoms i (Node.not j) = j < i
Earlier atoms i (Node.and j k) = (j < i) × (k < i)
Earlier atoms i (Node.or j k) = (j < i) × (k < i)
Earlier atoms i (Node.imp j k) = (j < i) × (k < i)

not_ahead : (b : Body) (n : Node) → refers_ahead b n ≡ false → Earlier b.atoms (length b.nodes) n
not_ahead b = elim [
  | Node.bot ↦ λ e. tt
  | Node.atom k ↦ λ e. leb-false b.atoms k e
  | Node.not j ↦ λ e. one j (or_false _ _ e).0
  | Node.and j k ↦ λ e. two j k e
  | Node.or j k ↦ λ e. two j k e
  | Node.imp j k ↦ λ e. two j k e
]
  where
    one : (j : ℕ) → not_earlier (length b.nodes) j ≡ false → j < length b.nodes
    one j e = leb-false (length b.nodes) j e

    two : (j k : ℕ) → any (not_earlier (length b.nodes)) (j ∷ k ∷ []) ≡ false → (j < length b.nodes) × (k < length b.nodes)
    two j k e = let parts = or_false _ _ e in (one j parts.0, one k (or_false _ _ parts.1).0)

module _ {b : Body} (good : GoodBody b) (i : ℕ) (known : i < length b.nodes) where
  -- the operands of number i come before it
  pub node_earlier : Earlier b.atoms i (node_at b i)
  node_earlier =
      let before = not_ahead (before_node b i) (node_at b i) ((good_held good).earlier i known) in
      subst (λ (m : ℕ). Earlier b.atoms m (node_at b i)) (length-take-le i b.nodes (omega arith)) before
