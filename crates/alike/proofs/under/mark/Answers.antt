-- `alike::under::mark` meets its contract.
use Prim.Native.Nat.{ℕ, ◌<◌}
use native.Mathlib.Decide.{ℕ_discrete}
use native.Mathlib.Omega.{arith}
use mathlib.Core.List.{List}
use mathlib.Core.Path.{◌≡◌, refl, ap, ◌∙◌}
use lib.ListN.{length, get_or, set, length-set}
use lib.Seq.{get_or-set_same, get_or-set_other}
use borrow.Author.Rules.{rules}
use Rattle.alike.specs.Under.{Marked}
use Rattle.alike.proofs.under.mark.Goals as goal

-- a mark that is put leaves the others
mark_kept : (marks : List ℕ) (at y : ℕ) → at < length marks → Marked marks y → Marked (set marks at 1) y
mark_kept marks at y l m = go (ℕ_discrete y at)
  where
    go : Dec (y ≡ at) → Marked (set marks at 1) y
    go (yes e) = ap (λ (z : ℕ). get_or (set marks at 1) z 0) e ∙ get_or-set_same marks at 1 0 l
    go (no n) = get_or-set_other marks at y 1 0 n ∙ m

pub returns-then-formula-end : goal.returns-then-formula-end
returns-then-formula-end c = record { long = refl; kept = λ y m. m; marked = λ l k. absurd (omega (arith, c.if-formula-end.true)); others = λ y l. refl }

pub returns-then-formula-marks : goal.returns-then-formula-marks
returns-then-formula-marks c = record { long = refl; kept = λ y m. m; marked = λ l k. absurd (omega (arith, c.if-formula-marks.true)); others = λ y l. refl }

pub returns : goal.returns
returns c =
    let args = c.args in
    record {
      long = length-set args.marks.now _ 1;
      kept = λ y m. mark_kept args.marks.now _ y (search rules) m;
      marked = λ l k. get_or-set_same args.marks.now _ 1 0 (search rules);
      others = λ y l. get_or-set_other args.marks.now _ y 1 0 (λ e. omega (arith, c.if-formula-end.false));
    }
