-- `sides::merging::is_added` meets its contract: the number was compared with both.
use mathlib.Core.Logic.{inl, inr, ⊎_elim}
use mathlib.Core.Path.{sym, subst, ◌∙◌}
use borrow.Author.Tests.{eqb-true, eq-eqb}
use Rattle.sides.specs.Deciding.{Decides}
use Rattle.sides.specs.Merging.{IsAdded}
use Rattle.sides.proofs.Deciding.{decides_yes}
use Rattle.sides.proofs.merging.is_added.Goals as goal

pub returns-then-n-added : goal.returns-then-n-added
returns-then-n-added c =
    let e = c.if-n-added.true in
    subst (Decides (IsAdded c.args.added c.args.z)) (sym (eq-eqb _ _ e)) (decides_yes (inl (sym c.from-n.ensures ∙ e)))

pub returns-else-n-added : goal.returns-else-n-added
returns-else-n-added c =
    let n = c.from-n.ensures in
    record {
      sound = λ e. inr (sym n ∙ eqb-true _ _ e);
      complete = ⊎_elim (λ h. absurd (c.if-n-added.false (n ∙ h))) (λ h. eq-eqb _ _ (n ∙ h));
    }
