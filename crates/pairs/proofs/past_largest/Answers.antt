use Prim.Native.Nat.{ℕ}
use native.Mathlib.Omega.{arith}
use mathlib.Core.Logic.{⊎_elim}
use mathlib.Core.Path.{◌≡◌, ap}
use lib.ListN.{get_or}
use Rattle.format.proofs.GoodBodies.{at_end, in_get_d, in_place_lem}
use borrow.Author.Rules.{rules}
use Rattle.pairs.proofs.past_largest.Goals as goal

pub loop-x-init : goal.loop-x-init
loop-x-init c = (λ j l. absurd (omega arith), λ m f. omega arith)

pub overflow_add-from : goal.overflow_add-from
overflow_add-from c = omega (arith, c.type_inv.side c.loop-x.x-index, c.from.ensures)

pub loop-x-preserved : goal.loop-x-preserved
loop-x-preserved c =
    let side = c.args.side.now in (
      λ j l.
          ⊎_elim (λ k. omega (arith, c.loop-x.invariant.0 j k, c.max-past.ensures))
          (λ (e : j ≡ c.loop-x.x-index). omega (arith, ap (λ (k : ℕ). get_or side k 0) e, c.from.ensures, c.max-past.ensures))
          (at_end c.loop-x.x-index j (omega arith)),
      λ m f. omega (
        arith,
        c.loop-x.invariant.1 m f,
        f (get_or side c.loop-x.x-index 0)
            (in_get_d side c.loop-x.x-index 0 (search rules)),
        c.from.ensures,
        c.max-past.ensures,
      ),
    )

pub returns : goal.returns
returns c =
    record {
      above = λ x m. let at = in_place_lem c.args.side.now 0 m in omega (arith, c.loop-x.invariant.0 at.0 (omega (arith, at.1)), at.2);
      least = c.loop-x.invariant.1;
    }
