-- The tests by the tables decide what they are for: where the formulas table begins with those of a good body, the numbers 15, 16 and 17
-- are those of the claim's formulas. Assumes nothing.
use Prim.Native.Nat.{ℕ, zero, suc, ◌^◌, ◌≤◌, ◌<◌}
use native.Mathlib.Omega.{arith}
use mathlib.Core.Bool.{Bool, true, false, not, false≢true, not-not}
use mathlib.Core.List.Memᴰ
use mathlib.Core.List.{List, [], ◌∷◌, map}
use mathlib.Core.Logic.{inl, inr, ⊎_elim}
use mathlib.Core.Option.{Option, none, some}
use mathlib.Core.Path.{◌≡◌, refl, sym, ap, ap₂, subst, ◌∙◌}
use borrow.Author.Tests.{eqb-true, eq-eqb}
use lib.Dec.{eqb, ltb}
use lib.ListN.{length}
use Rattle.equilibrium.specs.Formula.{Formula, falsum}
use Rattle.equilibrium.specs.Meaning.{◌∈◌, Holds, AllHold, Equilibrium}
use Rattle.equilibrium.proofs.Models.{equilibrium?}
use Rattle.format.specs.Text.{all}
use Rattle.format.specs.File.{Body, decoded_at, decoded}
use Rattle.format.specs.Tables.{most_formulas}
use Rattle.format.specs.Tests.{Test, ◌when◌, first, is_no}
use Rattle.format.specs.Model.{Contradiction, contradiction?, most_in_model, model_tests}
use Rattle.format.proofs.GoodBodies.{at_end, good_held}
use Rattle.format.proofs.Formulas.{known_earlier}
use Rattle.atomset.specs.AtomSet.{members, set_of}
use Rattle.atomset.proofs.Members.{member_members, members_rising}
use Rattle.atomset.proofs.SetOf.{member_set_of}
use Rattle.tables.specs.Records.{node_at, record_from}
use Rattle.tables.specs.Holding.{Formulas, Sided}
use Rattle.tables.proofs.Reading.{told, by_word, by_formula}
use Rattle.pairs.specs.Parts.{part}
use Rattle.pairs.specs.Truths.{truth_of}
use Rattle.pairs.proofs.Pairs.{Says, says_not, says_and, says_or, Names, holds_in_iff}
use Rattle.pairs.proofs.Truths.{there_right, here_right}
use Rattle.models.specs.Models.{only_falsum, there_in, here_in, upsets, some_below, some_upsets, in_equilibrium, tests_in, Given}
use Rattle.models.proofs.Tested.{Upsets, Tested, tested_iff}

-- ---- tests of several

-- of the formulas of a list of numbers
each_says : {P : Formula → Type 0} (formula : ℕ → Formula) (test : ℕ → Bool) (is : List ℕ)
    → ((i : ℕ) → i ∈ is → Says (test i) (P (formula i))) → Says (all test is) ((A : Formula) → A ∈ map formula is → P A)
each_says formula test [] s = (λ e A m. absurd (Memᴰ.not-nil m), λ h. refl)
each_says {P} formula test (i ∷ is) s =
    let both = says_and (test i) (all test is) (s i (Memᴰ.head refl)) (each_says formula test is (λ j m. s j (Memᴰ.tail m))) in (
      λ e A m. ⊎_elim (λ (k : A ≡ formula i). subst P (sym k) (both.0 e).0) ((both.0 e).1 A) (Memᴰ.cases_cons m),
      λ h. both.1 (h (formula i) (Memᴰ.head refl), λ A m. h A (Memᴰ.tail m)),
    )

-- of the numbers below k
some_says : {P : ℕ → Type 0} (test : ℕ → Bool) → ((n : ℕ) → Says (test n) (P n)) → (k : ℕ) → Says (some_below test k) ((n : ℕ) × (n < k) × P n)
unfolding some_below
some_says test s zero = (λ e. absurd (false≢true e), λ h. absurd (omega (arith, h.1)))
some_says {P} test s (suc k) =
    let either = says_or (some_below test k) (test k) (some_says test s k) (s k) in (
      λ e. ⊎_elim (λ h. (h.0, omega (arith, h.1), h.2)) (λ p. (k, omega arith, p)) (either.0 e),
      λ h. either.1 (⊎_elim (λ l. inl (h.0, l, h.2)) (λ (e : h.0 ≡ k). inr (subst P e h.2)) (at_end k h.0 h.1)),
    )

-- ---- the tests by the tables

module _ {b : Body} {formulas : List ℕ} (g : Formulas b formulas) where
  -- the truths of all its formulas are listed
  few : length b.nodes ≤ most_formulas
  few = (good_held g.good).few_nodes

  module _ (side : List ℕ) (sided : Sided b side) where
    -- the side is of its formulas
    held : (i : ℕ) → i ∈ side → i < length b.nodes
    held = known_earlier b side sided.known

    -- 15: whether the side holds only falsum
    falsum_says : Says (only_falsum formulas side) (Contradiction (decoded b.nodes side))
    falsum_says = each_says (decoded_at b.nodes) (λ i. eqb (record_from (node_at formulas i)).word 0) side own
      where
        own : (i : ℕ) → i ∈ side → Says (eqb (record_from (node_at formulas i)).word 0) (decoded_at b.nodes i ≡ falsum)
        own i m =
            let t = told g i (held i m) in
            (λ e. by_word t (eqb-true (record_from (node_at formulas i)).word 0 e), λ e. eq-eqb (record_from (node_at formulas i)).word 0 (by_formula t e))

    module _ (t : ℕ) {T : List ℕ} (names : Names t T) where
      -- 17: whether (t,t) satisfies the side
      there_says : Says (all (truth_of (there_in formulas t)) side) (AllHold T T (decoded b.nodes side))
      unfolding there_in
      there_says = each_says (decoded_at b.nodes) (truth_of (there_in formulas t)) side own
        where
          own : (i : ℕ) → i ∈ side → Says (truth_of (there_in formulas t) i) (Holds T T (decoded_at b.nodes i))
          own i m =
              subst (λ (x : Bool). Says x (Holds T T (decoded_at b.nodes i))) (sym (there_right g t most_formulas i (omega (arith, few, held i m)) (held i m)))
              (holds_in_iff (decoded_at b.nodes i) t t names names)

      -- and a pair (h,t)
      here_says : (h : ℕ) {H : List ℕ} → Names h H → Says (all (truth_of (here_in formulas h t)) side) (AllHold H T (decoded b.nodes side))
      unfolding there_in here_in
      here_says h {H} part-names = each_says (decoded_at b.nodes) (truth_of (here_in formulas h t)) side own
        where
          own : (i : ℕ) → i ∈ side → Says (truth_of (here_in formulas h t) i) (Holds H T (decoded_at b.nodes i))
          own i m =
              subst (λ (x : Bool). Says x (Holds H T (decoded_at b.nodes i)))
              (sym (here_right g h t (truth_of (there_in formulas t)) most_formulas (there_right g t most_formulas) i (omega (arith, few, held i m)) (held i m)))
              (holds_in_iff (decoded_at b.nodes i) h t part-names names)

    module _ (model : ℕ) (small : model < 2 ^ 64) where
      -- whether part n upsets the model
      upsets_says : (n : ℕ) → Says (upsets formulas side model n) (Upsets (decoded b.nodes side) (members model) n)
      unfolding upsets
      upsets_says n = here_says model (member_members model small) (set_of (part n (members model))) (member_set_of (part n (members model)))

      -- whether it passes the test against its parts
      tested_says : Says (in_equilibrium formulas side model) (Tested (decoded b.nodes side) (members model))
      unfolding in_equilibrium
      tested_says =
          let some = says_not (some_upsets formulas side model) (some_says (upsets formulas side model) upsets_says _) in
          let both = says_and (all (truth_of (there_in formulas model)) side) (not (some_upsets formulas side model))
          (there_says model (member_members model small)) some in (
            λ e. record { model = (both.0 e).0; undisturbed = λ n l u. (both.0 e).1 (n, omega arith, u) },
            λ t. both.1 (t.model, λ s. t.undisturbed s.0 (omega (arith, s.1)) s.2),
          )

      -- whether it is in equilibrium
      equilibrium_says : Says (in_equilibrium formulas side model) (Equilibrium (decoded b.nodes side) (members model))
      equilibrium_says =
          let exact = tested_iff (members_rising model) in
          (λ e. exact.0 (tested_says.0 e), λ q. tested_says.1 (exact.1 q))

-- ---- the first test that applies

-- a test that says whether a statement is so, beside its decision
decided : {X : Type 0} (b : Bool) (d : Dec X) → Says b X → is_no d ≡ not b
decided true (yes x) s = refl
decided true (no n) s = absurd (n (s.0 refl))
decided false (yes x) s = absurd (false≢true (s.1 x))
decided false (no n) s = refl

-- the tests by the tables are those of the claim's formulas
pub tests_agree : {b : Body} {formulas left right : List ℕ} (given : Bool) (model : ℕ) (T : Option (List ℕ))
    → Formulas b formulas → Sided b left → Sided b right → Given T given model → model < 2 ^ 64
    → first (tests_in formulas left right given model) ≡ first (model_tests (decoded b.nodes left) (decoded b.nodes right) T)
tests_agree {b} {formulas} {left} {right} given model none g l r absent small =
    ap (λ (given : Bool). first (tests_in formulas left right given model)) absent
    ∙ ap (λ (x : Bool). first ((15 when x) ∷ [])) (sym (decided (only_falsum formulas right) (contradiction? _) (falsum_says g right r)))
tests_agree {b} {formulas} {left} {right} given model (some T) g l r is small =
    ap (λ (given : Bool). first (tests_in formulas left right given model)) is.0
    ∙ ap (λ (x : Bool). first (after x (ltb most_in_model (length (members model))) (not (in_equilibrium formulas left model)))) falsum_same
    ∙ ap₂ (λ (y z : Bool). first (after (not (is_no (contradiction? R))) y z)) (ap (λ (T : List ℕ). ltb most_in_model (length T)) is.1) equilibrium_same
  where
    after : Bool → Bool → Bool → List Test
    after x y z = (15 when x) ∷ (16 when y) ∷ (17 when z) ∷ []

    R : List Formula
    R = decoded b.nodes right

    falsum_same : only_falsum formulas right ≡ not (is_no (contradiction? R))
    falsum_same = sym (ap not (decided (only_falsum formulas right) (contradiction? R) (falsum_says g right r)) ∙ not-not _)

    equilibrium_same : not (in_equilibrium formulas left model) ≡ is_no (equilibrium? (decoded b.nodes left) T)
    equilibrium_same =
        sym (decided (in_equilibrium formulas left model) (equilibrium? (decoded b.nodes left) T)
        (subst (λ (T : List ℕ). Says (in_equilibrium formulas left model) (Equilibrium (decoded b.nodes left) T)) is.1
        (equilibrium_says g left l model small)))
