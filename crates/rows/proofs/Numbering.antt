-- The number of a row, out of the tests before its rule and those of its rule.
use Prim.Native.Nat.{ℕ, zero, suc}
use native.Mathlib.Omega.{arith}
use mathlib.Core.Path.{◌≡◌, refl, sym, ap, subst, ◌∙◌}
use mathlib.Core.Bool.{Bool, true, false, cond}
use mathlib.Core.List.Memᴰ
use mathlib.Core.List.{List, [], ◌∷◌, ◌++◌}
use mathlib.Core.Logic.{◌↔◌}
use mathlib.Core.Option.{Option, none, some}
use lib.ListN.{take}
use Rattle.equilibrium.specs.Formula.{Formula}
use Rattle.equilibrium.specs.Meaning.{◌∈◌}
use Rattle.elk.specs.Sequent.{Sequent}
use Rattle.elk.specs.Rules.{Entry, schema, default, cut, unstable, initial, exchange, entry}
use Rattle.elk.specs.Instance.{TooManyAtomsOf}
use Rattle.format.specs.File.{Row, Body}
use Rattle.format.specs.Tests.{Test, ◌when◌, first, wrong_premises, too_many_atoms, wrong_step, rule_tests, body_tests}
use Rattle.format.specs.Passing.{RowInstance, RowTooWide}
use Rattle.format.proofs.RowPasses.{row_passes_exactly, row_eighteen_exactly, narrow_of}
use Rattle.counts.specs.declared.Counts.{Counts}
use Rattle.rules.specs.RuleTable.{step_number}
use Rattle.sides.specs.Deciding.{Decides}
use Rattle.sides.proofs.Deciding.{denied}
use Rattle.early.specs.Early.{early_of, numbered}
use Rattle.rows.specs.Judgement.{Ground, early_tests, RowNumbered}
use Rattle.rows.specs.Judging.{Judging, StepNumbered}
use Rattle.drafts.specs.declared.Draft.{Draft}
use Rattle.rows.proofs.EarlyTests.{early_same, ready}
use Rattle.drafts.specs.Drafts.{Drafted}

-- the first test that applies in one list, or else in another
abbrev or_else : Option ℕ → Option ℕ → Option ℕ
or_else none o = o
or_else (some n) o = some n

pub first_append : (ts us : List Test) → first (ts ++ us) ≡ or_else (first ts) (first us)
first_append [] us = refl
first_append (t ∷ ts) us = cases t.applies (first_append ts us)
  where
    cases : (b : Bool) → first (ts ++ us) ≡ or_else (first ts) (first us)
        → cond b (some t.number) (first (ts ++ us)) ≡ or_else (cond b (some t.number) (first ts)) (first us)
    cases true e = refl
    cases false e = e

pub numbered_some : (n : ℕ) → (n ≡ 0 → ⊥) → numbered n ≡ some n
numbered_some zero h = absurd (h refl)
numbered_some (suc n) h = refl

pub numbered_none : (n : ℕ) → (numbered n ≡ none) ↔ (n ≡ 0)
numbered_none zero = (λ e. refl, λ e. refl)
numbered_none (suc n) = (λ e. let z : ◌≡◌ {A = ℕ} 0 1 = cc in absurd (omega arith), λ e. absurd (omega arith))

-- the number of a row's rule

ten_given : (b : Body) (r : Row) → wrong_premises b r ≡ true → some 10 ≡ first (rule_tests b r)
ten_given b r e = sym (ap (λ (t : Bool). cond t (some 10) (first ((18 when too_many_atoms b r) ∷ (11 when wrong_step b r) ∷ []))) e)

pub none_given : (b : Body) (r : Row) → RowInstance b r → none ≡ first (rule_tests b r)
none_given b r i = sym ((row_passes_exactly b r).1 i)

pub eleven_given : (b : Body) (r : Row) → wrong_premises b r ≡ false → (RowTooWide b r → ⊥) → (RowInstance b r → ⊥) → some 11 ≡ first (rule_tests b r)
eleven_given b r e m n = sym (cases (wrong_step b r) refl)
  where
    by : (u : Bool) → wrong_step b r ≡ u → first (rule_tests b r) ≡ cond u (some 11) none
    by u k = rw (e, (narrow_of b r).1 m, k)

    cases : (u : Bool) → wrong_step b r ≡ u → first (rule_tests b r) ≡ some 11
    cases true k = by true k
    cases false k = absurd (n ((row_passes_exactly b r).0 (by false k)))

-- no rule but `swap` has too many atoms
pub only_swap : (e : Entry) → (step_number e ≡ 14 → ⊥) → (F : Option Formula) (premises : List Sequent) (conclusion : Sequent)
    → TooManyAtomsOf e F premises conclusion → ⊥
only_swap (schema t) h F premises conclusion w = w
only_swap default h F premises conclusion w = w
only_swap cut h F premises conclusion w = w
only_swap unstable h F premises conclusion w = w
only_swap initial h F premises conclusion w = w
only_swap exchange h F premises conclusion w = h refl

-- a row of any other rule passes or earns 11
pub instance_numbered : (b : Body) (r : Row) → wrong_premises b r ≡ false → (step_number (entry r.rule) ≡ 14 → ⊥) → {holds : Bool}
    → Decides (RowInstance b r) holds → {n : ℕ} → n ≡ cond holds 0 11 → numbered n ≡ first (rule_tests b r)
instance_numbered b r right-premises other {holds} d e = ap numbered e ∙ by holds d
  where
    by : (t : Bool) → Decides (RowInstance b r) t → numbered (cond t 0 11) ≡ first (rule_tests b r)
    by true d = none_given b r (d.sound refl)
    by false d = eleven_given b r right-premises (only_swap (entry r.rule) other _ _ _) (denied d refl)

pub instance_among : (holds : Bool) {n : ℕ} → n ≡ cond holds 0 11 → n ∈ 0 ∷ 18 ∷ 11 ∷ []
instance_among true e = Memᴰ.head e
instance_among false e = Memᴰ.tail (Memᴰ.tail (Memᴰ.head e))

-- a row of `swap` passes, has too many atoms, or earns 11
pub swap_given : (b : Body) (r : Row) → wrong_premises b r ≡ false → (n : ℕ) → n ∈ 0 ∷ 18 ∷ 11 ∷ []
    → (n ≡ 0) ↔ RowInstance b r → (n ≡ 18) ↔ RowTooWide b r → numbered n ≡ first (rule_tests b r)
swap_given b r e n (Memᴰ.head z) passes wide = ap numbered z ∙ none_given b r (passes.0 z)
swap_given b r e n (Memᴰ.tail (Memᴰ.head z)) passes wide = ap numbered z ∙ sym ((row_eighteen_exactly b r).1 (wide.0 z))
swap_given b r e n (Memᴰ.tail (Memᴰ.tail (Memᴰ.head z))) passes wide =
    ap numbered z ∙ eleven_given b r e (λ w. omega (arith, z, wide.1 w)) (λ i. omega (arith, z, passes.1 i))
swap_given b r e n (Memᴰ.tail (Memᴰ.tail (Memᴰ.tail x14))) passes wide = elim x14 [ ]

-- a row passes the tests before its rule and those of its rule exactly when it passes the first and is an instance
passes_iff : (b : Body) (r : Row) (n : ℕ) → numbered n ≡ first (body_tests b r) → (n ≡ 0) ↔ ((first (early_tests b r) ≡ none) × RowInstance b r)
passes_iff b r n e = (to, from)
  where
    split : (o p : Option ℕ) → or_else o p ≡ none → (o ≡ none) × (p ≡ none)
    split none p k = (refl, k)
    split (some m) p k = let z : ◌≡◌ {A = ℕ} 0 1 = cc in absurd (omega arith)

    joined : first (body_tests b r) ≡ or_else (first (early_tests b r)) (first (rule_tests b r))
    joined = first_append (early_tests b r) (rule_tests b r)

    to : n ≡ 0 → (first (early_tests b r) ≡ none) × RowInstance b r
    to z =
        let both = split _ _ (sym joined ∙ sym e ∙ (numbered_none n).1 z) in
        (both.0, (row_passes_exactly b r).0 both.1)

    from : (first (early_tests b r) ≡ none) × RowInstance b r → n ≡ 0
    from p =
        (numbered_none n).0 (
        e ∙ joined ∙ ap (λ (o : Option ℕ). or_else o (first (rule_tests b r))) p.0 ∙ (row_passes_exactly b r).1 p.1)

module _ (d : Draft) (c : Counts) (left right formulas notes rows left_pool right_pool : List ℕ)
    (early : ℕ) (is-early : numbered early ≡ first (early_of d c)) where
  -- one of the tests before the rule applies
  pub early_numbered : (early ≡ 0 → ⊥) → RowNumbered d c left right formulas notes rows left_pool right_pool early
  early_numbered h =
      record {
        given = given;
        passes = λ b r g drafted. passes_iff b r early (given b r g drafted);
        early = λ n e. let same : ◌≡◌ {A = Option ℕ} (some early) (some n) = sym (numbered_some early h) ∙ is-early ∙ e in cc;
        late = λ e. absurd (h ((numbered_none early).0 (is-early ∙ e)));
      }
    where
      given : (b : Body) (r : Row) → Ground b c formulas notes rows left_pool right_pool → Drafted r d left right → numbered early ≡ first (body_tests b r)
      given b r g drafted =
          numbered_some early h
          ∙ sym (
          first_append (early_tests b r) (rule_tests b r)
          ∙ ap (λ (o : Option ℕ). or_else o (first (rule_tests b r)))
          (sym (ap first (early_same b g.counts drafted)) ∙ sym is-early ∙ numbered_some early h))

  -- none does, and 10 applies, or the step decides
  late_numbered : early ≡ 0 → (n : ℕ) → n ∈ 0 ∷ 10 ∷ 18 ∷ 11 ∷ []
      → ((b : Body) (r : Row) → Judging b r formulas notes rows left_pool right_pool d (take d.left.count left) (take d.right.count right)
      → numbered n ≡ first (rule_tests b r))
      → RowNumbered d c left right formulas notes rows left_pool right_pool n
  late_numbered h n among judged =
      record {
        given = given;
        passes = λ b r g drafted. passes_iff b r n (given b r g drafted);
        early = λ m e. let same : ◌≡◌ {A = Option ℕ} none (some m) = sym none_early ∙ e in let z : ◌≡◌ {A = ℕ} 0 1 = cc in absurd (omega arith);
        late = λ e. among;
      }
    where
      none_early : first (early_of d c) ≡ none
      none_early = sym is-early ∙ (numbered_none early).1 h

      given : (b : Body) (r : Row) → Ground b c formulas notes rows left_pool right_pool → Drafted r d left right → numbered n ≡ first (body_tests b r)
      given b r g drafted =
          let none_here = sym (ap first (early_same b g.counts drafted)) ∙ none_early in
          judged b r (ready g drafted none_here)
          ∙ sym (first_append (early_tests b r) (rule_tests b r) ∙ ap (λ (o : Option ℕ). or_else o (first (rule_tests b r))) none_here)

  pub ten_numbered : early ≡ 0 → ((b : Body) (r : Row) (x y : List ℕ) → Judging b r formulas notes rows left_pool right_pool d x y → true ≡ wrong_premises b r)
      → RowNumbered d c left right formulas notes rows left_pool right_pool 10
  ten_numbered h wrong = late_numbered h 10 (Memᴰ.tail (Memᴰ.head refl)) (λ b r j. ten_given b r (sym (wrong b r _ _ j)))

  -- with the sides named as they were taken
  pub step_numbered : early ≡ 0
      → ((b : Body) (r : Row) (x y : List ℕ) → Judging b r formulas notes rows left_pool right_pool d x y → false ≡ wrong_premises b r)
      → {x y : List ℕ} → x ≡ take d.left.count left → y ≡ take d.right.count right → (n : ℕ)
      → StepNumbered formulas notes rows left_pool right_pool d x y n → RowNumbered d c left right formulas notes rows left_pool right_pool n
  step_numbered h right-premises {x} {y} e f n step =
      late_numbered h n (among step.one_of) (λ b r j. step.given b r (
      subst (λ (l : List ℕ). Judging b r formulas notes rows left_pool right_pool d l y) (sym e) (
      subst (λ (m : List ℕ). Judging b r formulas notes rows left_pool right_pool d (take d.left.count left) m) (sym f) j))
      (sym (right-premises b r _ _ j)))
    where
      among : n ∈ 0 ∷ 18 ∷ 11 ∷ [] → n ∈ 0 ∷ 10 ∷ 18 ∷ 11 ∷ []
      among (Memᴰ.head z) = Memᴰ.head z
      among (Memᴰ.tail later) = Memᴰ.tail (Memᴰ.tail later)
