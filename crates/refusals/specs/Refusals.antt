-- The number of each refusal, and of what a test comes to.
use Rattle.std.specs.Prelude.{ℕ, Result, Ok, Err}
use Rattle.refusals.specs.declared.Refusal.{Refusal}
use Rattle.refusals.specs.declared.Refusal.TheVariants.{
  ShortTable,
  TooLong,
  BadLine,
  OutOfOrder,
  Full,
  BadName,
  NoSuchItem,
  FormulaAgain,
  BadSide,
  WrongPremises,
  WrongStep,
  ClaimDiffers,
  NoClaim,
  NoRoom,
  ModelMissingOrUnwanted,
  ModelTooLarge,
  NotInEquilibrium,
  TooManyAtoms,
}

-- in the order of the table of refusals
abbrev pub number_of : Refusal → ℕ
number_of ShortTable = 1
number_of TooLong = 2
number_of BadLine = 3
number_of OutOfOrder = 4
number_of Full = 5
number_of BadName = 6
number_of NoSuchItem = 7
number_of FormulaAgain = 8
number_of BadSide = 9
number_of WrongPremises = 10
number_of WrongStep = 11
number_of ClaimDiffers = 12
number_of NoClaim = 13
number_of NoRoom = 14
number_of ModelMissingOrUnwanted = 15
number_of ModelTooLarge = 16
number_of NotInEquilibrium = 17
number_of TooManyAtoms = 18

-- the number that an answer gives: 0 is no refusal
abbrev pub outcome : {A : Type 0} → Result A Refusal → ℕ
outcome (Ok a) = 0
outcome (Err e) = number_of e
