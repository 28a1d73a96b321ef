-- Answers that decide a statement.
use mathlib.Core.Bool.{Bool, true, false, false≢true}
use mathlib.Core.Logic.{◌↔◌}
use mathlib.Core.Path.{◌≡◌, refl, sym, ◌∙◌}
use Rattle.sides.specs.Deciding.{Decides, DecidesIf}

module _ {X : Type 0} where
  pub decides_yes : X → Decides X true
  decides_yes x = record { sound = λ e. x; complete = λ y. refl }

  pub decides_no : (X → ⊥) → Decides X false
  decides_no n = record { sound = λ e. absurd (false≢true e); complete = λ x. absurd (n x) }

  -- what was answered with false does not hold
  pub denied : {r : Bool} → Decides X r → r ≡ false → X → ⊥
  denied d e x = false≢true (sym e ∙ d.complete x)

  pub decides_iff : {Y : Type 0} {r : Bool} → X ↔ Y → Decides X r → Decides Y r
  decides_iff i d = record { sound = λ e. i.0 (d.sound e); complete = λ y. d.complete (i.1 y) }

-- the same of answers that are free where `given` fails
module _ {given X : Type 0} where
  pub yes_if : X → DecidesIf given X true
  yes_if x = record { sound = λ e. x; complete = λ g y. refl }

  pub no_if : (given → X → ⊥) → DecidesIf given X false
  no_if n = record { sound = λ e. absurd (false≢true e); complete = λ g x. absurd (n g x) }

  pub denied_if : {r : Bool} → DecidesIf given X r → r ≡ false → given → X → ⊥
  denied_if d e g x = false≢true (sym e ∙ d.complete g x)

  pub decided : {r : Bool} → DecidesIf given X r → given → Decides X r
  decided d g = record { sound = d.sound; complete = d.complete g }

  pub iff_if : {Y : Type 0} {r : Bool} → X ↔ Y → DecidesIf given X r → DecidesIf given Y r
  iff_if i d = record { sound = λ e. i.0 (d.sound e); complete = λ g y. d.complete g (i.1 y) }
