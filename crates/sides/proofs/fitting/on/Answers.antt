-- `sides::fitting::on` meets its contract: a number past 16 bits is on no side.
use Prim.Native.Nat.{ℕ}
use native.Mathlib.Omega.{arith}
use mathlib.Core.Bool.{Bool, true, false}
use mathlib.Core.Path.{◌≡◌, refl, sym, subst, ◌∙◌}
use borrow.Author.Tests.{eqb-true, eqb-false}
use lib.Dec.{eqb}
use Rattle.equilibrium.specs.Meaning.{◌∈◌}
use Rattle.sides.specs.Numbers.{no_number}
use Rattle.sides.proofs.Sets.{member_iff}
use Rattle.sides.proofs.NumberSides.{small}
use Rattle.sides.proofs.fitting.on.Goals as goal

pub returns-in-Ok : goal.returns-in-Ok
returns-in-Ok c =
    let found = member_iff c.in-Ok.z c.args.side.now in
    let fits = c.in-Ok.ensures in
    record {
      sound = λ e n. subst (λ (x : ℕ). x ∈ c.args.side.now) fits.1 (found.0 (sym c.contains.ensures ∙ e));
      complete = λ h.
          c.contains.ensures
          ∙ found.1 (subst (λ (x : ℕ). x ∈ c.args.side.now) (sym fits.1) (h (λ e. omega (arith, fits.0, e))));
    }

pub returns-in-Err : goal.returns-in-Err
returns-in-Err c =
    let x = c.args.x in
    let only : ((x ≡ no_number → ⊥) → x ∈ c.args.side.now) → (t : Bool) → eqb x no_number ≡ t → eqb x no_number ≡ true =
    λ h t e. elim t as (λ (t : Bool). eqb x no_number ≡ t → eqb x no_number ≡ true) [
      | true ↦ λ e. e
      | false ↦ λ e. absurd (c.in-Err.ensures (small _ (λ i. omega (arith, c.type_inv.side i)) _ (h (eqb-false _ _ e))))
    ] e in
    record {
      sound = λ e n. absurd (n (eqb-true _ _ e));
      complete = λ h. only h _ refl;
    }
