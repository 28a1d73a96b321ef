-- The rules that have premises, with the sides named as they came out of the tables.
use Prim.Native.Nat.{ℕ}
use mathlib.Core.Bool.{Bool, false}
use mathlib.Core.List.{List, [], ◌∷◌}
use mathlib.Core.Path.{◌≡◌, refl, subst}
use Rattle.elk.specs.Rules.{Schema, schema, cut, unstable, exchange, entry}
use Rattle.format.specs.File.{Row, Body}
use Rattle.format.specs.Tables.{Side, fetched}
use Rattle.format.specs.Tests.{first, wrong_premises, rule_tests}
use Rattle.format.specs.Passing.{RowInstance}
use Rattle.sides.specs.Deciding.{Decides, DecidesIf}
use Rattle.sides.specs.Members.{AllRise}
use Rattle.cut.specs.Cut.{CutSides}
use Rattle.schema.specs.SchemaRows.{◌⊣◌, SchemaAnswer}
use Rattle.unstable.specs.Unstable.{UnstableStep}
use Rattle.swap.specs.Swap.{SwapNumbered}
use Rattle.rows.specs.Judging.{Judging}
use Rattle.drafts.specs.declared.Draft.{Draft}
use Rattle.early.specs.Early.{numbered}
use Rattle.rows.proofs.Steps.{cut_decided, unstable_decided, schema_decided, swap_numbered}
use Rattle.drafts.specs.Drafts.{principal_number}

-- what holds of four lists holds of four that are equal to them
of_equal : (P : List ℕ → List ℕ → List ℕ → List ℕ → Type 0) {w x y z w' x' y' z' : List ℕ} → w ≡ w' → x ≡ x' → y ≡ y' → z ≡ z' → P w x y z → P w' x' y' z'
of_equal P {w} {x} {y} {z} {w'} {x'} {y'} {z'} e f g h p =
    subst (λ (v : List ℕ). P w' x' y' v) h
    (subst (λ (v : List ℕ). P w' x' v z) g (subst (λ (v : List ℕ). P w' v y z) f (subst (λ (v : List ℕ). P v x y z) e p)))

module _ {b : Body} {q : Row} {formulas notes rows left_pool right_pool left right : List ℕ} {d : Draft}
    (j : Judging b q formulas notes rows left_pool right_pool d left right) (right-premises : wrong_premises b q ≡ false) where
  pub swap_refetched : (i : ℕ) → i ≡ d.first → {l₁ r₁ : List ℕ}
      → l₁ ≡ fetched rows left_pool right_pool Side.left i → r₁ ≡ fetched rows left_pool right_pool Side.right i
      → entry q.rule ≡ exchange → (p : ℕ) → p ≡ principal_number d.principal → (n : ℕ)
      → SwapNumbered formulas notes p left right l₁ r₁ n → numbered n ≡ first (rule_tests b q)
  swap_refetched i is-first {l₁} {r₁} first_left first_right he p hp n answer =
      swap_numbered j right-premises i is-first he p hp n
      (subst (λ (l : List ℕ). SwapNumbered formulas notes p left right l (fetched rows left_pool right_pool Side.right i) n) first_left
      (subst (λ (r : List ℕ). SwapNumbered formulas notes p left right l₁ r n) first_right answer))

module _ {b : Body} {q : Row} {formulas notes rows left_pool right_pool left right : List ℕ} {d : Draft}
    (j : Judging b q formulas notes rows left_pool right_pool d left right) (right-premises : wrong_premises b q ≡ false)
    (i k : ℕ) (is-first : i ≡ d.first) (is-second : k ≡ d.second) {l₁ r₁ l₂ r₂ : List ℕ}
    (first_left : l₁ ≡ fetched rows left_pool right_pool Side.left i) (first_right : r₁ ≡ fetched rows left_pool right_pool Side.right i)
    (second_left : l₂ ≡ fetched rows left_pool right_pool Side.left k) (second_right : r₂ ≡ fetched rows left_pool right_pool Side.right k) where
  pub cut_refetched : entry q.rule ≡ cut → (p : ℕ) → p ≡ principal_number d.principal → (r : Bool)
      → DecidesIf (AllRise (left ∷ right ∷ l₁ ∷ r₁ ∷ l₂ ∷ r₂ ∷ [])) (CutSides p left right l₁ r₁ l₂ r₂) r → Decides (RowInstance b q) r
  cut_refetched he p hp r answer =
      cut_decided j right-premises i is-first k is-second he p hp r (
      of_equal (λ w x y z. DecidesIf (AllRise (left ∷ right ∷ w ∷ x ∷ y ∷ z ∷ []))
      (CutSides p left right w x y z) r) first_left first_right second_left second_right answer)

  pub unstable_refetched : entry q.rule ≡ unstable → (r : Bool) → UnstableStep formulas notes left l₁ r₁ l₂ r₂ r → Decides (RowInstance b q) r
  unstable_refetched he r answer =
      unstable_decided j right-premises i is-first k is-second he r (
      of_equal (λ w x y z. UnstableStep formulas notes left w x y z r) first_left first_right second_left second_right answer)

  pub schema_refetched : (t : Schema) → entry q.rule ≡ schema t → (p : ℕ) → p ≡ principal_number d.principal → (r : Bool)
      → SchemaAnswer formulas (record { rule = d.rule; principal = p; count = d.premises.count; row = left ⊣ right; one = l₁ ⊣ r₁; two = l₂ ⊣ r₂ }) r
      → Decides (RowInstance b q) r
  schema_refetched t he p hp r answer =
      schema_decided j right-premises i is-first k is-second t he p d.premises.count hp refl r (
      of_equal (λ w x y z. SchemaAnswer formulas
      (record { rule = d.rule; principal = p; count = d.premises.count; row = left ⊣ right; one = w ⊣ x; two = y ⊣ z }) r)
      first_left first_right second_left second_right answer)
