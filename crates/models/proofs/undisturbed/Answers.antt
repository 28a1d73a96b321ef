use Prim.Native.Nat.{ℕ, ◌-◌, ◌*◌, ◌%◌, ◌^◌, ◌≤◌}
use native.Mathlib.Omega.{arith}
use mathlib.Core.Bool.{not}
use mathlib.Core.List.{List}
use mathlib.Core.Path.{◌≡◌, refl, sym, ap, ◌∙◌}
use lib.ListN.{length}
use lib.Pow.{pow_pos}
use Rattle.format.specs.Model.{most_in_model}
use Rattle.atomset.specs.AtomSet.{members}
use Rattle.atomset.proofs.Digits.{shl_one}
use Rattle.models.specs.Models.{upsets, some_below}
use Rattle.models.proofs.Passing.{fails, all_passed}
use Rattle.models.proofs.Judging.{length_here, all_here, none_next, some_found}
use Rattle.models.proofs.undisturbed.Goals.{else-parts-test, then-parts-test+else-loop-i-test}
use Rattle.models.proofs.undisturbed.Goals as goal

-- `1 << k`, where k is the count of the model's atoms
word_of_parts : {k : ℕ} (atoms : List ℕ) → length atoms ≤ most_in_model → k ≡ length atoms → (1 * 2 ^ k) % 2 ^ 64 ≡ 2 ^ length atoms
word_of_parts {k} atoms few e = shl_one 64 k (omega arith) ∙ ap (λ (n : ℕ). 2 ^ n) e

pub overflow_shl-last : goal.overflow_shl-last
overflow_shl-last c = omega (arith, c.count.ensures, c.requires.few)

pub overflow_sub-last : goal.overflow_sub-last
overflow_sub-last c =
    let atoms = members c.args.model in
    omega (arith, word_of_parts atoms c.requires.few c.count.ensures, pow_pos (length atoms))

pub parts-init : goal.parts-init
unfolding some_below
parts-init c = (refl, c.requires.room, refl)

pub parts-preserved : goal.parts-preserved
parts-preserved c =
    let pre = c.requires in
    let args = c.args in
    let parts = c.parts in
    let fails-here = fails _ _ c.loop-i.i c.loop-i.invariant.1 c.loop-i-test.true c.from.ensures c.holds.ensures c.if-not-holds.true in
    let judged = all_here args.sheet.now args.model pre.below args.there.now parts.n pre.notes parts.invariant.1 c.part_of.ensures c.fill_here.ensures in (
      c.loop-i.invariant.0,
      length_here c.fill_here.ensures ∙ parts.invariant.1,
      none_next (upsets args.formulas.now args.sheet.now args.model) parts.n parts.invariant.2 (sym judged ∙ fails-here),
    )

pub returns : goal.returns
returns c =
    let args = c.args in
    let pre = c.requires in
    let test = upsets args.formulas.now args.sheet.now args.model in
    let all-parts = word_of_parts (members args.model) pre.few c.count.ensures in
    let answer : c.parts-test.upset ≡ some_below test (2 ^ length (members args.model) - 1) =
    elim c.parts-test.branch [
      | else-parts-test w ↦
          let last : c.parts.n ≡ 2 ^ length (members args.model) - 1 = omega (arith, all-parts, w.parts-test.false) in
          w.upset-is ∙ c.parts.invariant.0 ∙ sym (ap (some_below test) (sym last) ∙ c.parts.invariant.2)
      | then-parts-test+else-loop-i-test w ↦
          let judged = all_here args.sheet.now args.model pre.below args.there.now c.parts.n pre.notes c.parts.invariant.1
          w.part_of.ensures w.fill_here.ensures in
          let passed = all_passed _ _ w.loop-i.i w.loop-i.invariant.1 (omega (arith, w.loop-i-test.false)) in
          w.upset-is ∙ sym (some_found test _ c.parts.n (omega (arith, all-parts, w.parts-test.true)) (sym judged ∙ passed))
    ] in
    ap not answer
