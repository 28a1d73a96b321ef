-- The number that each way through the tests 15, 16 and 17 gives. Assumes nothing.
use Prim.Native.Nat.{ℕ, ◌^◌, ◌≤◌, ◌<◌}
use mathlib.Core.Bool.{Bool, true, false}
use mathlib.Core.List.{List}
use mathlib.Core.Path.{◌≡◌, ◌∙◌}
use borrow.Author.Tests.{lt-ltb, le-ltb}
use lib.ListN.{length}
use Rattle.format.specs.Tests.{first}
use Rattle.format.specs.Model.{most_in_model}
use Rattle.atomset.specs.AtomSet.{members}
use Rattle.early.specs.Early.{numbered}
use Rattle.models.specs.Models.{only_falsum, in_equilibrium, tests_in, ModelNumbered}
use Rattle.models.proofs.Deciding.{tests_agree}

module _ (formulas left right : List ℕ) (given : Bool) (model : ℕ) (small : model < 2 ^ 64) where
  -- the answer in the tables is the answer of the claim
  numbers : (number : ℕ) → numbered number ≡ first (tests_in formulas left right given model) → ModelNumbered formulas left right given model number
  numbers number e = record { answer = e; judges = λ b T g l r is. e ∙ tests_agree given model T g l r is small }

  -- no model
  module _ (absent : given ≡ false) where
    pub none_wanted : only_falsum formulas right ≡ true → ModelNumbered formulas left right given model 0
    none_wanted c = numbers 0 (simp (absent, c))

    pub missing : only_falsum formulas right ≡ false → ModelNumbered formulas left right given model 15
    missing c = numbers 15 (simp (absent, c))

  -- a model
  module _ (present : given ≡ true) where
    pub unwanted : only_falsum formulas right ≡ true → ModelNumbered formulas left right given model 15
    unwanted c = numbers 15 (simp (present, c))

    module _ (wanted : only_falsum formulas right ≡ false) where
      pub too_many : most_in_model < length (members model) → ModelNumbered formulas left right given model 16
      too_many l = numbers 16 (simp (present, wanted, lt-ltb most_in_model (length (members model)) l))

      module _ (few : length (members model) ≤ most_in_model) where
        pub passed : in_equilibrium formulas left model ≡ true → ModelNumbered formulas left right given model 0
        passed e = numbers 0 (simp (present, wanted, le-ltb most_in_model (length (members model)) few, e))

        pub upset : in_equilibrium formulas left model ≡ false → ModelNumbered formulas left right given model 17
        upset e = numbers 17 (simp (present, wanted, le-ltb most_in_model (length (members model)) few, e))
