use Prim.Native.Nat.{ℕ, ◌+◌, ◌<◌}
use mathlib.Core.Bool.{Bool, ◌||◌}
use mathlib.Core.List.{List}
use mathlib.Core.Path.{◌≡◌, sym, ap, subst, ◌∙◌}
use lib.Dec.{lit<}
use lib.ListN.{length, get_or}
use Rattle.atomset.specs.AtomSet.{has}
use Rattle.atomset.proofs.Digits.{has_zero}
use Rattle.shapes.proofs.Passes.{Passed, pass_starts, pass_goes_on, pass_ends}
use Rattle.lines.proofs.ModelLines.{entered}
use borrow.Author.Rules.{rules}
use Rattle.lines.proofs.model.atoms_word.Goals as goal

-- one atom more
goes_on_lem : (atoms : List ℕ) (set more : ℕ) {x i : ℕ} → i < length atoms → ((p : ℕ) → Passed (entered p) atoms (has set p) i)
    → ((p : ℕ) → has more p ≡ (has set p || entered p x)) → x ≡ get_or atoms i 0 → (p : ℕ) → Passed (entered p) atoms (has more p) (i + 1)
goes_on_lem atoms set more {i = i} h passed u k p =
    pass_goes_on (entered p) atoms (has set p) (has more p) i h (passed p) (u p ∙ ap (λ (x : ℕ). has set p || entered p x) k)

pub loop-atom-init : goal.loop-atom-init
loop-atom-init c = (lit< tt, λ p. subst (λ (t : Bool). Passed (entered p) c.args.atoms.now t 0) (sym (has_zero p)) (pass_starts _ _))

pub loop-atom-preserved : goal.loop-atom-preserved
loop-atom-preserved c = (search rules, goes_on_lem c.args.atoms.now _ _ (search rules) c.loop-atom.invariant.1 c.insert-set.ensures c.from.ensures)

pub returns : goal.returns
returns c =
    let atoms = c.args.atoms.now in
    record { small = c.loop-atom.invariant.0; its = λ p. pass_ends (entered p) atoms _ c.loop-atom.atom-index (search rules) (c.loop-atom.invariant.1 p) }
