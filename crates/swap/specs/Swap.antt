-- The rule `swap` on sides of numbers, and the number that a row of it earns (paper 02, M-104).
use Rattle.std.specs.Prelude.{ℕ, ◌≤◌, ◌<◌, List, [], ◌∷◌, ◌↔◌, ◌≡◌, length}
use Rattle.equilibrium.specs.Meaning.{◌∈◌}
use Rattle.elk.specs.Sequent.{◌⇒◌}
use Rattle.elk.specs.Instance.{SwapInstance, TooWide}
use Rattle.format.specs.File.{Body, decoded_at, decoded}
use Rattle.format.specs.Tables.{most_on_side}
use Rattle.tables.specs.Holding.{Formulas, Sided}
use Rattle.known.specs.Known.{AtomNotes}

-- what 0 and 18 ask of the sides, whatever B is: the right sides are equal, A stands left in the row, and all else there stands left in
-- the premise
pub record SidesMeet (p : ℕ) (left right left₁ right₁ : List ℕ) : Type 0 where
  pub rights : right ≡ right₁
  pub principal : p ∈ left
  pub others : (z : ℕ) → z ∈ left → (z ≡ p → ⊥) → z ∈ left₁

-- the tables begin with the formulas of a good body and note their atoms, and the sides are such as its rows have
pub record OfBody (b : Body) (formulas notes : List ℕ) (p : ℕ) (left right left₁ right₁ : List ℕ) : Type 0 where
  pub held : Formulas b formulas
  pub atoms : AtomNotes b notes
  pub principal : p < length b.nodes
  pub row_left : Sided b left
  pub row_right : Sided b right
  pub premise_left : Sided b left₁
  pub premise_right : Sided b right₁
  pub few : length left₁ ≤ most_on_side

-- The number of a row L,A => R by `swap` from L,B => R. For every good body that the tables begin with, 0 exactly if the row is an
-- instance, and 18 exactly if no B with few atoms fits and some B that leaves the sides right has more. In any tables it is one of
-- 0, 18 and 11, and 11 unless the sides meet; which of the three it is then is free where there is no such body (`OfBody`).
pub record SwapNumbered (formulas notes : List ℕ) (p : ℕ) (left right left₁ right₁ : List ℕ) (number : ℕ) : Type 0 where
  pub passes :
      (b : Body) → OfBody b formulas notes p left right left₁ right₁
      → (number ≡ 0)
      ↔ SwapInstance (decoded_at b.nodes p) ((decoded b.nodes left₁ ⇒ decoded b.nodes right₁) ∷ [])
      (decoded b.nodes left ⇒ decoded b.nodes right)
  pub wide :
      (b : Body) → OfBody b formulas notes p left right left₁ right₁
      → (number ≡ 18)
      ↔ TooWide (decoded_at b.nodes p) ((decoded b.nodes left₁ ⇒ decoded b.nodes right₁) ∷ []) (decoded b.nodes left ⇒ decoded b.nodes right)
  pub one_of : number ∈ 0 ∷ 18 ∷ 11 ∷ []
  pub sides : (number ≡ 11 → ⊥) → SidesMeet p left right left₁ right₁
