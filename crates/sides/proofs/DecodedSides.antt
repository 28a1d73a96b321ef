-- Sides of known numbers and their formulas: a held body gives each formula one number, so what holds of the one as sets holds
-- of the other.
use Prim.Native.Nat.{ℕ}
use mathlib.Core.Bool.{false}
use mathlib.Core.List.Memᴰ
use mathlib.Core.List.{List, [], ◌∷◌, ◌++◌}
use mathlib.Core.Logic.{◌⊎◌, ⊎_elim, ◌↔◌}
use mathlib.Core.Path.{◌≡◌, sym, subst}
use Rattle.equilibrium.specs.Formula.{Formula}
use Rattle.equilibrium.specs.Meaning.{◌∈◌, ◌⊆◌}
use Rattle.elk.specs.CommonSets.{Side, Shared}
use Rattle.format.specs.File.{Body, decoded_at, decoded}
use Rattle.format.specs.Tests.{unknown_formula}
use Rattle.format.proofs.GoodBodies.{Held}
use Rattle.format.proofs.Formulas.{known_earlier}
use Rattle.format.proofs.Decoded.{in_decoded, decoded_in, number_on}
use Rattle.sides.proofs.SharedSides.{shared_two}

module _ (b : Body) (held : Held b) where
  abbrev formulas_of : List ℕ → List Formula
  formulas_of side = decoded b.nodes side

  abbrev Known : List ℕ → Type 0
  Known side = unknown_formula b side ≡ false

  -- a formula of a decoded side is decoded where its number is on the other side
  from_number : (a c : List ℕ) {F : Formula} → F ∈ formulas_of a → ((i : ℕ) → i ∈ a → F ≡ decoded_at b.nodes i → i ∈ c) → F ∈ formulas_of c
  from_number a c {F} m h =
      let i = in_decoded b a F m in
      subst (λ (G : Formula). G ∈ formulas_of c) (sym i.2) (decoded_in b c i.0 (h i.0 i.1 i.2))

  module _ (a c : List ℕ) (ka : Known a) (kc : Known c) where
    -- a number of a is on c where its formula is
    to_number : {i : ℕ} → i ∈ a → decoded_at b.nodes i ∈ formulas_of c → i ∈ c
    to_number {i} m = (number_on b held c kc i (known_earlier b a ka i m)).1

    pub part_decoded : (a ⊆ c) ↔ (formulas_of a ⊆ formulas_of c)
    part_decoded = (λ h F m. from_number a c m (λ i k e. h i k), λ h i m. to_number m (h _ (decoded_in b a i m)))

    -- with some numbers left out
    pub passes_decoded :
        (added : List ℕ) → Known added
        → ((z : ℕ) → z ∈ a → (z ∈ added → ⊥) → z ∈ c) ↔ ((F : Formula) → F ∈ formulas_of a → (F ∈ formulas_of added → ⊥) → F ∈ formulas_of c)
    passes_decoded added kd = (
      λ h F m n. from_number a c m (λ i k e. h i k (λ d. n (subst (λ (G : Formula). G ∈ formulas_of added) (sym e) (decoded_in b added i d)))),
      λ h i m n. to_number m (h _ (decoded_in b a i m) (λ d. n ((number_on b held added kd i (known_earlier b a ka i m)).1 d))),
    )

    pub either_decoded : (s : List ℕ) → Known s → (s ⊆ a ++ c) ↔ (formulas_of s ⊆ formulas_of a ++ formulas_of c)
    either_decoded s ks = (to, from)
      where
        to : s ⊆ a ++ c → formulas_of s ⊆ formulas_of a ++ formulas_of c
        to h F m =
            let i = in_decoded b s F m in
            let there : (i.0 ∈ a) ⊎ (i.0 ∈ c) = Memᴰ.append_cases a (h i.0 i.1) in
            subst (λ (G : Formula). G ∈ formulas_of a ++ formulas_of c) (sym i.2) (
            ⊎_elim (λ k. Memᴰ.append_left (formulas_of c) (decoded_in b a i.0 k)) (λ k. Memᴰ.append_right (formulas_of a) (decoded_in b c i.0 k)) there)

        from : formulas_of s ⊆ formulas_of a ++ formulas_of c → s ⊆ a ++ c
        from h i m =
            let k = known_earlier b s ks i m in
            ⊎_elim (λ d. Memᴰ.append_left c ((number_on b held a ka i k).1 d)) (λ d. Memᴰ.append_right a ((number_on b held c kc i k).1 d))
            (Memᴰ.append_cases (formulas_of a) (h _ (decoded_in b s i m)))

  -- two sides of numbers share a set exactly if their formulas do
  module _ (a p c q : List ℕ) (ka : Known a) (kp : Known p) (kc : Known c) (kq : Known q) where
    abbrev side_of : List ℕ → List ℕ → Side ℕ
    side_of w d = record { whole = w; added = d }

    abbrev formula_side : List ℕ → List ℕ → Side Formula
    formula_side w d = record { whole = formulas_of w; added = formulas_of d }

    pub shared_decoded : Shared (side_of a p ∷ side_of c q ∷ []) ↔ Shared (formula_side a p ∷ formula_side c q ∷ [])
    shared_decoded =
        let holds-a = part_decoded p a kp ka in
        let holds-c = part_decoded q c kq kc in
        let a-in-c = passes_decoded a c ka kc p kp in
        let c-in-a = passes_decoded c a kc ka q kq in
        let numbers = shared_two (side_of a p) (side_of c q) in
        let formulas = shared_two (formula_side a p) (formula_side c q) in (
          λ h. let k = numbers.0 h in formulas.1 ((holds-a.0 k.0.0, holds-c.0 k.0.1), (a-in-c.0 k.1.0, c-in-a.0 k.1.1)),
          λ h. let k = formulas.0 h in numbers.1 ((holds-a.1 k.0.0, holds-c.1 k.0.1), (a-in-c.1 k.1.0, c-in-a.1 k.1.1)),
        )
