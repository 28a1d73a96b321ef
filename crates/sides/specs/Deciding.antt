-- Answers that decide a statement, for any input or for input of one kind.
use Rattle.std.specs.Prelude.{◌≡◌, Bool, true}

-- an answer that is true exactly where X holds
pub record Decides (X : Type 0) (answer : Bool) : Type 0 where
  pub sound : answer ≡ true → X
  pub complete : X → answer ≡ true

-- the same, where `given` holds; elsewhere the answer is free, but it is true only where X holds
pub record DecidesIf (given X : Type 0) (answer : Bool) : Type 0 where
  pub sound : answer ≡ true → X
  pub complete : given → X → answer ≡ true
