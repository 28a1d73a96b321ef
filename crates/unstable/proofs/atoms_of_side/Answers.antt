use Prim.Native.Nat.{ℕ, ◌+◌, ◌<◌}
use mathlib.Core.Bool.{Bool, ◌||◌}
use mathlib.Core.List.{List}
use mathlib.Core.Path.{◌≡◌, sym, ap, subst, ◌∙◌}
use lib.ListN.{length, get_or}
use Rattle.atomset.specs.AtomSet.{has}
use Rattle.atomset.proofs.Digits.{has_zero}
use Rattle.unstable.specs.Unstable.{occurs_on}
use Rattle.shapes.proofs.Passes.{Passed, pass_starts, pass_goes_on, pass_ends}
use borrow.Author.Rules.{rules}
use Rattle.unstable.proofs.atoms_of_side.Invariants.{occurs}
use Rattle.unstable.proofs.atoms_of_side.Goals as goal

-- one formula more, whose note was read by its number
goes_on_lem :
    (notes side : List ℕ) (set more : ℕ) {w x i : ℕ} → i < length side → ((p : ℕ) → Passed (occurs notes p) side (has set p) i)
    → ((p : ℕ) → has more p ≡ (has set p || has w p)) → w ≡ get_or notes x 0 → x ≡ get_or side i 0
    → (p : ℕ) → Passed (occurs notes p) side (has more p) (i + 1)
goes_on_lem notes side set more {i} h passed u e k p =
    pass_goes_on (occurs notes p) side (has set p) (has more p) i h (passed p)
    (u p ∙ ap (λ (w : ℕ). has set p || has w p) (e ∙ ap (λ (x : ℕ). get_or notes x 0) k))

pub loop-x-init : goal.loop-x-init
loop-x-init c =
    λ p.
    subst (λ (t : Bool). Passed (occurs c.args.notes.now p) c.args.side.now t 0) (sym (has_zero p)) (pass_starts _ _)

pub loop-x-preserved : goal.loop-x-preserved
loop-x-preserved c =
    goes_on_lem c.args.notes.now c.args.side.now _ _ (search rules) c.loop-x.invariant c.union-set.ensures c.note.ensures
    c.from.ensures

pub returns : goal.returns
unfolding occurs_on
returns c =
    λ p.
    pass_ends (occurs c.args.notes.now p) c.args.side.now _ c.loop-x.x-index (search rules) (c.loop-x.invariant p)
