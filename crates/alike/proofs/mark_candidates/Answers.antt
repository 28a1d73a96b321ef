use Prim.Native.Nat.{ℕ, ◌≤◌, ◌<◌}
use native.Mathlib.Omega.{arith}
use mathlib.Core.List.{List, ◌∷◌}
use mathlib.Core.Logic.{inl, inr, ⊎_elim}
use mathlib.Core.Path.{◌≡◌, refl, sym, ap, subst, ◌∙◌}
use borrow.Author.Rules.{rules}
use lib.ListN.{length, get_or}
use Rattle.equilibrium.specs.Meaning.{◌∈◌}
use Rattle.format.specs.Tables.{most_formulas}
use Rattle.atomset.specs.Walk.{members_left}
use Rattle.atomset.proofs.Members.{member_members}
use Rattle.alike.specs.Under.{Marked, MarkedBefore}
use Rattle.alike.proofs.Remaining.{in_walk, none_in}
use Rattle.alike.proofs.mark_candidates.Invariants.{MarkedSoFar}
use Rattle.alike.proofs.mark_candidates.Goals as goal

mark_next : {side : List ℕ} {candidates : ℕ} {marks₀ marks rest : List ℕ} → MarkedSoFar side candidates marks₀ marks rest → {p : ℕ} {rest' : List ℕ}
    → rest ≡ p ∷ rest' → {x : ℕ} → x ≡ get_or side p 0 → {marks' : List ℕ} → MarkedBefore x most_formulas marks marks'
    → MarkedSoFar side candidates marks₀ marks' rest'
mark_next {side} {marks = marks} s {p} walk {x} e {marks'} m = record {
  long = m.long ∙ s.long;
  kept = λ y k. m.kept y (s.kept y k);
  passed = λ c k l r. ⊎_elim (λ i. ⊎_elim (λ (f : c ≡ p). inr (own c f l (omega (arith, s.long)))) inl ((in_walk walk c).0 i))
      (λ i. inr (m.kept (get_or side c 0) i)) (s.passed c k l r);
}
  where
    own : (c : ℕ) → c ≡ p → get_or side c 0 < most_formulas → most_formulas ≤ length marks → Marked marks' (get_or side c 0)
    own c f l r = let same : x ≡ get_or side c 0 = e ∙ ap (λ (i : ℕ). get_or side i 0) (sym f) in subst (Marked marks') same (m.marked (omega arith) r)

pub loop-c-init : goal.loop-c-init
loop-c-init c =
    let left = ap members_left c.into_iter-c-iterator.ensures.into_iter_gives ∙ c.members_of-c-items.ensures in
    record {
      long = refl;
      kept = λ x m. m;
      passed = λ d m l r. inl (subst (λ (xs : List ℕ). d ∈ xs) (sym left) ((member_members c.args.candidates (search rules) d).0 m));
    }

pub loop-c-preserved : goal.loop-c-preserved
loop-c-preserved c = mark_next c.loop-c.invariant c.in-Some.ensures.steps c.formula_at.ensures c.mark.ensures

pub shape_of-marks : goal.shape_of-marks
shape_of-marks c = c.loop-c.invariant.long

pub returns : goal.returns
returns c =
    let s = c.loop-c.invariant in
    record {
      long = s.long;
      kept = s.kept;
      marked = λ d m l r. ⊎_elim (λ i. absurd (none_in c.in-None.ensures.steps.0 i)) (λ i. i) (s.passed d m l r);
    }
