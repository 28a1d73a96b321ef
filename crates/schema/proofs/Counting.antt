-- One side of a row and of as many premises as there are: what a test of the sides that there are says.
use Prim.Native.Nat.{ℕ, zero, suc, ◌+◌, ◌≤◌}
use native.Mathlib.Omega.{arith}
use mathlib.Core.Bool.{Bool}
use mathlib.Core.List.{List, [], ◌∷◌}
use mathlib.Core.Path.{◌≡◌, subst}
use lib.ListN.{take}
use Rattle.equilibrium.specs.Meaning.{◌⊆◌}
use Rattle.elk.specs.CommonSets.{Shared}
use Rattle.sides.specs.Deciding.{Decides, DecidesIf}
use Rattle.sides.specs.Members.{AllRise}
use Rattle.sides.specs.Numbers.{numbers_of, number_side}
use Rattle.sides.specs.declared.numbers.Numbers.{Numbers}
use Rattle.sides.proofs.SharedSides.{shared_one}
use Rattle.schema.specs.Principal.{Apart}
use Rattle.schema.specs.Additions.{added_in, side_in, sides_in}

module _ (formulas : List ℕ) (p : Apart) (rule place : ℕ) (side : List ℕ) where
  abbrev Here : Numbers → Type 0
  Here here = here ≡ added_in formulas side p rule place

  pub alone :
      {here : Numbers} {r : Bool} → Here here → Decides (numbers_of here ⊆ side) r
      → DecidesIf (AllRise (side ∷ [])) (Shared (side_in formulas p rule place side ∷ [])) r
  alone {r = r} h d =
      let shared = shared_one (side_in formulas p rule place side) in
      let decided = subst (λ (k : Numbers). Decides (numbers_of k ⊆ side) r) h d in
      record { sound = λ t. shared.0 (decided.sound t); complete = λ g k. decided.complete (shared.1 k) }

  module _ (one two : List ℕ) where
    -- the answer to whether the sides, each with what is added to it, share a set
    abbrev Answers : ℕ → Bool → Type 0
    Answers n r = DecidesIf (AllRise (side ∷ take n (one ∷ two ∷ []))) (Shared (sides_in formulas p rule n place side one two)) r

    abbrev AtOne : Numbers → Type 0
    AtOne at_one = at_one ≡ added_in formulas one p rule (place + 2)

    abbrev AtTwo : Numbers → Type 0
    AtTwo at-two = at-two ≡ added_in formulas two p rule (place + 4)

    pub with_one :
        {here at_one : Numbers} {r : Bool} → Here here → AtOne at_one
        → DecidesIf (AllRise (side ∷ one ∷ [])) (Shared (number_side side here ∷ number_side one at_one ∷ [])) r → Answers 1 r
    with_one {r = r} h k d =
        subst (λ (X : Type 0). X) (λ i. DecidesIf (AllRise (side ∷ one ∷ [])) (Shared (number_side side (h i) ∷ number_side one (k i) ∷ [])) r) d

    pub with_two :
        {here at_one at-two : Numbers} {r : Bool} → Here here → AtOne at_one → AtTwo at-two
        → DecidesIf (AllRise (side ∷ one ∷ two ∷ [])) (Shared (number_side side here ∷ number_side one at_one ∷ number_side two at-two ∷ [])) r
        → Answers 2 r
    with_two {r = r} h k m d =
        subst (λ (X : Type 0). X) (λ i.
        DecidesIf (AllRise (side ∷ one ∷ two ∷ [])) (Shared (number_side side (h i) ∷ number_side one (k i) ∷ number_side two (m i) ∷ [])) r) d

    -- the answer for the count of premises that there is
    pub no_premise : (n : ℕ) → n ≡ 0 → {r : Bool} → Answers 0 r → Answers n r
    no_premise zero e d = d
    no_premise (suc n) e d = absurd (omega arith)

    pub one_premise : (n : ℕ) → n ≡ 1 → {r : Bool} → Answers 1 r → Answers n r
    one_premise zero e d = absurd (omega arith)
    one_premise (suc zero) e d = d
    one_premise (suc (suc n)) e d = absurd (omega arith)

    pub two_premises : (n : ℕ) → 2 ≤ n → {r : Bool} → Answers 2 r → Answers n r
    two_premises zero l d = absurd (omega arith)
    two_premises (suc zero) l d = absurd (omega arith)
    two_premises (suc (suc zero)) l d = d
    two_premises (suc (suc (suc n))) l d = d
