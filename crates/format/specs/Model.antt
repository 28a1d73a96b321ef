-- A model beside the claim (paper 02, M-101): when one is wanted, the tests 15, 16 and 17, which follow 12, and what it means
-- of a claim that none of them applies.
use Rattle.std.specs.Prelude.{ℕ, ◌≤◌, ◌≡◌, not, List, [], ◌∷◌, ltb, length}
use Rattle.std.proofs.Math.Option.{Option, none, some}
use Rattle.equilibrium.specs.Formula.{Formula, falsum}
use Rattle.equilibrium.specs.Meaning.{◌∈◌, Equilibrium}
use Rattle.equilibrium.proofs.Sets.{dec_all}
use Rattle.equilibrium.proofs.Models.{equilibrium?}
use Rattle.elk.proofs.Equality.{formula_discrete}
use Rattle.format.specs.File.{File, atoms_given, decoded}
use Rattle.format.specs.Tests.{Test, ◌when◌, is_no}

-- the claim reports a contradiction: its right side is empty or holds only falsum
abbrev pub Contradiction : List Formula → Type 0
Contradiction R = (A : Formula) → A ∈ R → A ≡ falsum

-- this is decided
unfoldable pub contradiction? : (R : List Formula) → Dec (Contradiction R)
unfolding dec_all formula_discrete
contradiction? R = dec_all (λ A. formula_discrete A falsum) R

-- the most atoms of a model
abbrev pub most_in_model : ℕ
most_in_model = 16

-- The tests of a claim L => R beside the list of the M line, if there is one. 15: a model is missing, or unwanted since the claim
-- reports a contradiction; 16: it has too many atoms; 17: it is not in equilibrium.
abbrev pub model_tests : List Formula → List Formula → Option (List ℕ) → List Test
model_tests L R none = (15 when is_no (contradiction? R)) ∷ []
model_tests L R (some T) = (15 when not (is_no (contradiction? R))) ∷ (16 when ltb most_in_model (length T)) ∷ (17 when is_no (equilibrium? L T)) ∷ []

-- the same for a claim of these two lists of formula numbers
abbrev pub claim_model_tests : File → List ℕ → List ℕ → List Test
claim_model_tests f left right = model_tests (decoded f.body.nodes left) (decoded f.body.nodes right) (atoms_given f.model)

-- what passing them is: a model is there exactly if the claim reports no contradiction, and then it has few atoms and is an
-- equilibrium model of L
pub data ModelFits (L R : List Formula) : Option (List ℕ) → Type 0 where
  model_fits : {T : List ℕ} → (Contradiction R → ⊥) → length T ≤ most_in_model → Equilibrium L T → ModelFits L R (some T)
  none_wanted : Contradiction R → ModelFits L R none

-- What acceptance says of a claim besides that it does not fail: confirmed, since the sheet L has an equilibrium model, the one
-- on the M line; or a contradiction shown, since R holds nothing but falsum and L has no equilibrium model.
pub data Shown (L R : List Formula) : Option (List ℕ) → Type 0 where
  model_shown : {T : List ℕ} → Equilibrium L T → Shown L R (some T)
  contradiction_shown : Contradiction R → ((T : List ℕ) → Equilibrium L T → ⊥) → Shown L R none
