-- In a good body, sides of known numbers pass the test of `rcut` exactly if the sequents of their formulas are an instance of the
-- rule.
use Prim.Native.Nat.{ℕ}
use mathlib.Core.Bool.{false}
use mathlib.Core.List.Memᴰ
use mathlib.Core.List.{List, [], ◌∷◌}
use mathlib.Core.Logic.{◌↔◌}
use mathlib.Core.Path.{◌≡◌, refl}
use Rattle.equilibrium.specs.Formula.{Formula}
use Rattle.elk.specs.Sequent.{Sequent, ◌⇒◌}
use Rattle.elk.specs.Instance.{CutInstance}
use Rattle.elk.specs.CommonSets.{Side, Shared}
use Rattle.elk.proofs.Entries.{CutTest, cut_iff}
use Rattle.format.specs.File.{Body, decoded_at, decoded}
use Rattle.format.specs.Good.{GoodBody}
use Rattle.format.specs.Tests.{unknown_formula}
use Rattle.format.proofs.Formulas.{known_earlier}
use Rattle.format.proofs.GoodBodies.{Held, good_held}
use Rattle.format.proofs.Decoded.{number_on}
use Rattle.sides.proofs.DecodedSides.{part_decoded, passes_decoded, either_decoded, shared_decoded}
use Rattle.sides.proofs.SharedSides.{shared_by_bare}
use Rattle.cut.specs.Cut.{CutSides}

module _ {b : Body} (good : GoodBody b) (p : ℕ) (left right left₁ right₁ left₂ right₂ : List ℕ)
    (p-known : unknown_formula b (p ∷ []) ≡ false) (l-known : unknown_formula b left ≡ false) (r-known : unknown_formula b right ≡ false)
    (l₁-known : unknown_formula b left₁ ≡ false) (r₁-known : unknown_formula b right₁ ≡ false)
    (l₂-known : unknown_formula b left₂ ≡ false) (r₂-known : unknown_formula b right₂ ≡ false) where
  abbrev formulas_of : List ℕ → List Formula
  formulas_of side = decoded b.nodes side

  abbrev F : Formula
  F = decoded_at b.nodes p

  abbrev conclusion : Sequent
  conclusion = formulas_of left ⇒ formulas_of right

  abbrev first_premise : Sequent
  first_premise = formulas_of left₁ ⇒ formulas_of right₁

  abbrev second_premise : Sequent
  second_premise = formulas_of left₂ ⇒ formulas_of right₂

  abbrev sides : List ℕ → List Formula → Side Formula
  sides side added = record { whole = formulas_of side; added = added }

  held : Held b
  held = good_held good

  lefts :
      Shared (sides left [] ∷ sides left₁ [] ∷ sides left₂ (F ∷ []) ∷ [])
      ↔ (Shared (sides left [] ∷ sides left₁ [] ∷ []) × Shared (sides left [] ∷ sides left₂ (F ∷ []) ∷ []))
  lefts = shared_by_bare (sides left []) (sides left₁ []) (sides left₂ (F ∷ [])) (λ x m. Memᴰ.not-nil m)

  test : CutSides p left right left₁ right₁ left₂ right₂ ↔ CutTest F first_premise second_premise conclusion
  test =
      let first = shared_decoded b held left [] left₁ [] l-known refl l₁-known refl in
      let second = shared_decoded b held left [] left₂ (p ∷ []) l-known refl l₂-known p-known in
      let there = number_on b held right₁ r₁-known p (known_earlier b (p ∷ []) p-known p (Memᴰ.head refl)) in
      let rights = passes_decoded b held right₁ right r₁-known r-known (p ∷ []) p-known in
      let others = part_decoded b held right₂ right r₂-known r-known in
      let all = either_decoded b held right₁ right₂ r₁-known r₂-known right r-known in (
        λ t. record {
          kinds = (refl, (refl, refl));
          left = lefts.1 (first.0 t.first_left, second.0 t.second_left);
          principal = there.0 t.principal;
          first_right = λ G m n. rights.0 (λ z i j. t.first_right z i (λ e. j (Memᴰ.head e))) G m (λ i. n (Memᴰ.eq_of_singleton i));
          second_right = others.0 t.second_right;
          both_right = all.0 t.both_right;
        },
        λ t. let l = lefts.0 t.left in record {
          first_left = first.1 l.0;
          second_left = second.1 l.1;
          principal = there.1 t.principal;
          first_right = λ z m n. rights.1 (λ G i j. t.first_right G i (λ e. j (Memᴰ.head e))) z m (λ i. n (Memᴰ.eq_of_singleton i));
          second_right = others.1 t.second_right;
          both_right = all.1 t.both_right;
        },
      )

  -- the test on numbers is the rule on their formulas
  pub cut_rule : CutSides p left right left₁ right₁ left₂ right₂ ↔ CutInstance F (first_premise ∷ second_premise ∷ []) conclusion
  cut_rule = (λ k. cut_iff.1 (test.0 k), λ i. test.1 (cut_iff.0 i))
