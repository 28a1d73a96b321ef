use Prim.Native.Nat.{ℕ, ◌+◌, ◌≤◌, ◌<◌}
use mathlib.Core.Bool.{Bool, false, ◌||◌}
use mathlib.Core.List.{List}
use mathlib.Core.Path.{◌≡◌, sym, ap, subst, ◌∙◌}
use lib.ListN.{length, get_or}
use Rattle.atomset.specs.AtomSet.{has}
use Rattle.atomset.proofs.Digits.{has_zero}
use Rattle.shapes.specs.Shapes.{shape_in}
use Rattle.literals.specs.Literals.{is_atom, is_negated, is_falsum, is_verum, is_other, some_shape, Adds, Collects}
use Rattle.shapes.specs.declared.Shape.{Shape}
use Rattle.literals.specs.declared.Literals.{Literals}
use Rattle.shapes.proofs.Passes.{Passed, pass_starts, pass_goes_on, pass_ends}
use borrow.Author.Rules.{rules}
use Rattle.literals.proofs.literals_of.Goals as goal
use Rattle.literals.proofs.literals_of.Invariants.{shaped, Collecting}

starts : (formulas side : List ℕ) → Collecting formulas side (record { atoms = 0; negated = 0; falsum = false; verum = false; other = false }) 0
starts formulas side = record {
  atoms = λ k. none (is_atom k) k;
  negated = λ k. none (is_negated k) k;
  falsum = pass_starts (shaped is_falsum formulas) side;
  verum = pass_starts (shaped is_verum formulas) side;
  other = pass_starts (shaped is_other formulas) side;
}
  where
    none : (test : Shape → Bool) (k : ℕ) → Passed (shaped test formulas) side (has 0 k) 0
    none test k = subst (λ (t : Bool). Passed (shaped test formulas) side t 0) (sym (has_zero k)) (pass_starts (shaped test formulas) side)

module _ {formulas side : List ℕ} {found : Literals} {i : ℕ} where
  goes_on_lem :
      {more : Literals} {s : Shape} → i < length side → Collecting formulas side found i → s ≡ shape_in formulas (get_or side i 0)
      → Adds s found more → Collecting formulas side more (i + 1)
  goes_on_lem {more} {s} h p e a = record {
    atoms = λ k. step (is_atom k) _ _ (p.atoms k) (a.atoms k);
    negated = λ k. step (is_negated k) _ _ (p.negated k) (a.negated k);
    falsum = step is_falsum _ _ p.falsum a.falsum;
    verum = step is_verum _ _ p.verum a.verum;
    other = step is_other _ _ p.other a.other;
  }
    where
      step : (test : Shape → Bool) (f m : Bool) → Passed (shaped test formulas) side f i → m ≡ (f || test s) → Passed (shaped test formulas) side m (i + 1)
      step test f m q k = pass_goes_on (shaped test formulas) side f m i h q (k ∙ ap (λ (t : Shape). f || test t) e)

  ends : length side ≤ i → Collecting formulas side found i → Collects formulas side found
  unfolding some_shape
  ends h p = record {
    atoms = λ k. pass_ends (shaped (is_atom k) formulas) side _ i h (p.atoms k);
    negated = λ k. pass_ends (shaped (is_negated k) formulas) side _ i h (p.negated k);
    falsum = pass_ends (shaped is_falsum formulas) side _ i h p.falsum;
    verum = pass_ends (shaped is_verum formulas) side _ i h p.verum;
    other = pass_ends (shaped is_other formulas) side _ i h p.other;
  }

pub loop-x-init : goal.loop-x-init
loop-x-init c = starts _ _

pub loop-x-preserved : goal.loop-x-preserved
loop-x-preserved c = goes_on_lem (search rules) c.loop-x.invariant c.shape_of-s.ensures.answer c.with_literal-found.ensures

pub returns : goal.returns
returns c = ends (search rules) c.loop-x.invariant
