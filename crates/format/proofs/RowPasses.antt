-- A row passes the tests of its rule, numbers 10, 18 and 11, exactly when it is an instance of the rule with its premises;
-- number 10 alone is for rows whose principal formula or premises are not of the rule's kinds, and number 18 is given exactly to
-- rows of `swap` with too many atoms.
use Prim.Native.Nat.{ℕ}
use mathlib.Core.Path.{◌≡◌, refl, sym, ap, ap₂, subst}
use mathlib.Core.Bool.{Bool, true, false, not, ◌&&◌, ◌||◌, false≢true}
use mathlib.Core.List.{List, [], ◌∷◌, map}
use mathlib.Core.Option.{Option, none, some, IsSome}
use mathlib.Core.Logic.{◌↔◌}
use native.Mathlib.Omega.{arith}
use lib.Dec.{T}
use Rattle.elk.specs.Sequent.{Kind, elk, refutation, Sequent}
use Rattle.elk.specs.Rules.{entry, has_principal, premise_kinds}
use Rattle.elk.proofs.Decision.{instance?, too_many_atoms?}
use Rattle.elk.proofs.Faithful.{Shaped, instance_shaped, wide_shaped, wide_no_instance}
use Rattle.format.specs.Text.{◌<$>◌}
use Rattle.format.specs.File.{Row, Body, decoded_at, sequent_of}
use Rattle.format.specs.Tests.{◌when◌, first, same_kind, same_kinds, present, same_truth, premises_of, wrong_premises, too_many_atoms, wrong_step, rule_tests}
use Rattle.format.specs.Passing.{RowInstance, PassesExactly, RightPremises, TenExactly, RowTooWide, EighteenExactly}
use Rattle.format.proofs.Booleans.{or_false, and_true, not_false, no_iff, yes_iff, shown_iff}
use Rattle.format.proofs.Tested.{passes}

-- the comparisons of kinds and truths are exact

kind_same : (j k : Kind) → (same_kind j k ≡ true) ↔ (j ≡ k)
kind_same elk elk = (λ e. refl, λ e. refl)
kind_same elk refutation = (λ e. absurd (false≢true e), λ e. ap (λ (k : Kind). same_kind elk k) (sym e))
kind_same refutation elk = (λ e. absurd (false≢true e), λ e. ap (λ (k : Kind). same_kind refutation k) (sym e))
kind_same refutation refutation = (λ e. refl, λ e. refl)

kinds_same : (js ks : List Kind) → same_kinds js ks ≡ true → js ≡ ks
kinds_same [] [] e = refl
kinds_same [] (k ∷ ks) e = absurd (false≢true e)
kinds_same (j ∷ js) [] e = absurd (false≢true e)
kinds_same (j ∷ js) (k ∷ ks) e =
    let both = and_true (same_kind j k) (same_kinds js ks) e in
    ap₂ (λ (x : Kind) (xs : List Kind). x ∷ xs) ((kind_same j k).0 both.0) (kinds_same js ks both.1)

same_kinds_lem : (ks : List Kind) → same_kinds ks ks ≡ true
same_kinds_lem [] = refl
same_kinds_lem (k ∷ ks) = ap₂ ◌&&◌ ((kind_same k k).1 refl) (same_kinds_lem ks)

truth_same : (a b : Bool) → same_truth a b ≡ true → a ≡ b
truth_same true b e = sym e
truth_same false true e = absurd (false≢true e)
truth_same false false e = refl

same_truth_lem : (a : Bool) → same_truth a a ≡ true
same_truth_lem true = refl
same_truth_lem false = refl

-- what number 10 asks

pub ten_exactly : (b : Body) (r : Row) → TenExactly b r
unfolding wrong_premises
ten_exactly b r =
    (λ e. let both = or_false _ _ e in record { principal = truth_same _ _ (not_false _ both.0); premises = kinds_same _ _ (not_false _ both.1) }, right)
  where
    kinds : List Kind
    kinds = map (λ (s : Sequent). s.kind) (premises_of b r)

    right : RightPremises b r
        → not (same_truth (present r.principal) (has_principal (entry r.rule))) || not (same_kinds kinds (premise_kinds (entry r.rule))) ≡ false
    right p =
        ap₂ (λ (t u : Bool). not t || not u)
        (subst (λ (t : Bool). same_truth (present r.principal) t ≡ true) p.principal (same_truth_lem (present r.principal)))
        (subst (λ (ks : List Kind). same_kinds kinds ks ≡ true) p.premises (same_kinds_lem kinds))

-- whether a row is an instance is decided by the test of number 11

pub instance_of : (b : Body) (r : Row) → wrong_step b r ≡ false → RowInstance b r
unfolding wrong_step
instance_of b r = (no_iff (instance? r.rule (decoded_at b.nodes <$> r.principal) (premises_of b r) (sequent_of b.nodes r))).0

step_of_lem : (b : Body) (r : Row) → RowInstance b r → wrong_step b r ≡ false
unfolding wrong_step
step_of_lem b r = (no_iff (instance? r.rule (decoded_at b.nodes <$> r.principal) (premises_of b r) (sequent_of b.nodes r))).1

-- and whether it has too many atoms by that of number 18

wide_of : (b : Body) (r : Row) → (too_many_atoms b r ≡ true) ↔ RowTooWide b r
unfolding too_many_atoms
wide_of b r = shown_iff (too_many_atoms? r.rule (decoded_at b.nodes <$> r.principal) (premises_of b r) (sequent_of b.nodes r))

pub narrow_of : (b : Body) (r : Row) → (too_many_atoms b r ≡ false) ↔ (RowTooWide b r → ⊥)
unfolding too_many_atoms
narrow_of b r = yes_iff (too_many_atoms? r.rule (decoded_at b.nodes <$> r.principal) (premises_of b r) (sequent_of b.nodes r))

-- rows of both kinds have the principal formula and the premises that their rule asks for
shaped_right : (b : Body) (r : Row) → Shaped (entry r.rule) (decoded_at b.nodes <$> r.principal) (premises_of b r) (sequent_of b.nodes r)
    → RightPremises b r
shaped_right b r shape = record { principal = named r.principal (has_principal (entry r.rule)) shape.principal; premises = shape.above }
  where
    named : (p : Option ℕ) (t : Bool) → T t ↔ IsSome (decoded_at b.nodes <$> p) → present p ≡ t
    named none true h = absurd (h.0 tt)
    named none false h = refl
    named (some i) true h = refl
    named (some i) false h = absurd (h.1 tt)

pub row_passes_exactly : (b : Body) (r : Row) → PassesExactly b r
row_passes_exactly b r = (λ e. instance_of b r (passes 11 (rule_tests b r) e), from)
  where
    from : RowInstance b r → first (rule_tests b r) ≡ none
    from i =
        let ten = (ten_exactly b r).1 (shaped_right b r (instance_shaped (entry r.rule) _ i)) in
        let eighteen = (narrow_of b r).1 (λ w. wide_no_instance (entry r.rule) _ _ _ w i) in
        rw (ten, eighteen, step_of_lem b r i)

pub row_eighteen_exactly : (b : Body) (r : Row) → EighteenExactly b r
row_eighteen_exactly b r = (to (too_many_atoms b r) refl, from)
  where
    others : (t v : Bool) → first ((10 when t) ∷ (11 when v) ∷ []) ≡ some 18 → ⊥
    others true v e = let z : ◌≡◌ {A = ℕ} 10 18 = cc in omega arith
    others false true e = let z : ◌≡◌ {A = ℕ} 11 18 = cc in omega arith
    others false false e = let z : ◌≡◌ {A = ℕ} 0 1 = cc in omega arith

    to : (u : Bool) → too_many_atoms b r ≡ u → first (rule_tests b r) ≡ some 18 → RowTooWide b r
    to true k e = (wide_of b r).0 k
    to false k e = absurd (others (wrong_premises b r) (wrong_step b r) (rw k at e))

    from : RowTooWide b r → first (rule_tests b r) ≡ some 18
    from w =
        let ten = (ten_exactly b r).1 (shaped_right b r (wide_shaped (entry r.rule) _ w)) in
        let eighteen = (wide_of b r).1 w in
        rw (ten, eighteen)
