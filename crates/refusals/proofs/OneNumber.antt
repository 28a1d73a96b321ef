-- Each refusal has one number, never 0, and no two share theirs.
use Prim.Native.Nat.{ℕ, ◌<◌}
use Rattle.std.specs.Prelude.{List, [], ◌∷◌, get_or}
use native.Mathlib.Omega.{arith}
use mathlib.Core.Path.{◌≡◌, refl, sym, ap, ◌∙◌}
use Rattle.refusals.specs.Refusals.{number_of}
use Rattle.refusals.specs.declared.Refusal.{Refusal}
use Rattle.refusals.specs.declared.Refusal.TheVariants.{
  ShortTable,
  TooLong,
  BadLine,
  OutOfOrder,
  Full,
  BadName,
  NoSuchItem,
  FormulaAgain,
  BadSide,
  WrongPremises,
  WrongStep,
  ClaimDiffers,
  NoClaim,
  NoRoom,
  ModelMissingOrUnwanted,
  ModelTooLarge,
  NotInEquilibrium,
  TooManyAtoms,
}

-- the refusals by their numbers; at 0, and past the last, the first
by_number : List Refusal
by_number =
    ShortTable
    ∷ ShortTable
    ∷ TooLong
    ∷ BadLine
    ∷ OutOfOrder
    ∷ Full
    ∷ BadName
    ∷ NoSuchItem
    ∷ FormulaAgain
    ∷ BadSide
    ∷ WrongPremises
    ∷ WrongStep
    ∷ ClaimDiffers
    ∷ NoClaim
    ∷ NoRoom
    ∷ ModelMissingOrUnwanted
    ∷ ModelTooLarge
    ∷ NotInEquilibrium
    ∷ TooManyAtoms
    ∷ []

-- the refusal of a number
refusal_of : ℕ → Refusal
refusal_of n = get_or by_number n ShortTable

-- the number tells which refusal it is
refusal_of-number_of : (r : Refusal) → refusal_of (number_of r) ≡ r
unfolding refusal_of by_number
refusal_of-number_of r = elim r as (λ r. refusal_of (number_of r) ≡ r) [
  | ShortTable ↦ refl
  | TooLong ↦ refl
  | BadLine ↦ refl
  | OutOfOrder ↦ refl
  | Full ↦ refl
  | BadName ↦ refl
  | NoSuchItem ↦ refl
  | FormulaAgain ↦ refl
  | BadSide ↦ refl
  | WrongPremises ↦ refl
  | WrongStep ↦ refl
  | ClaimDiffers ↦ refl
  | NoClaim ↦ refl
  | NoRoom ↦ refl
  | ModelMissingOrUnwanted ↦ refl
  | ModelTooLarge ↦ refl
  | NotInEquilibrium ↦ refl
  | TooManyAtoms ↦ refl
]

-- no two refusals have the same number
pub number_of-injective : (r s : Refusal) → number_of r ≡ number_of s → r ≡ s
number_of-injective r s e = sym (refusal_of-number_of r) ∙ ap refusal_of e ∙ refusal_of-number_of s

-- the number of a refusal is not that of none
pub number_of-above : (r : Refusal) → 0 < number_of r
number_of-above r = elim r as (λ r. 0 < number_of r) [
  | ShortTable ↦ omega arith
  | TooLong ↦ omega arith
  | BadLine ↦ omega arith
  | OutOfOrder ↦ omega arith
  | Full ↦ omega arith
  | BadName ↦ omega arith
  | NoSuchItem ↦ omega arith
  | FormulaAgain ↦ omega arith
  | BadSide ↦ omega arith
  | WrongPremises ↦ omega arith
  | WrongStep ↦ omega arith
  | ClaimDiffers ↦ omega arith
  | NoClaim ↦ omega arith
  | NoRoom ↦ omega arith
  | ModelMissingOrUnwanted ↦ omega arith
  | ModelTooLarge ↦ omega arith
  | NotInEquilibrium ↦ omega arith
  | TooManyAtoms ↦ omega arith
]

-- 0 stands for no refusal alone
pub number_of-some : (r : Refusal) → number_of r ≡ 0 → ⊥
number_of-some r e = let above = number_of-above r in omega arith
