-- The formulas that join others in `unst`, by the shapes of formulas in any table: the choice that K makes, and whether E joins
-- the excluded middles of S.
use Rattle.std.specs.Prelude.{ℕ, Bool, false, cond, ◌&&◌, List, [], ◌∷◌, ◌≡◌, ◌↔◌, eqb}
use Rattle.std.specs.Prelude.{Option as Given, None, Some}
use Rattle.std.proofs.Math.Option.{Option, none, some}
use Rattle.equilibrium.specs.Meaning.{◌∈◌}
use Rattle.elk.specs.Instance.{chosen}
use Rattle.elk.specs.Instance.{Choice as Chosen}
use Rattle.format.specs.Text.{◌<$>◌}
use Rattle.atomset.specs.AtomSet.{Member}
use Rattle.shapes.specs.Shapes.{shape_in}
use Rattle.shapes.specs.declared.Shape.{Shape}
use Rattle.shapes.specs.declared.Shape.TheVariants.{Falsum, Atom, Verum, Negated, Doubled, Conjunction, Disjunction, Other}
use Rattle.unstable.specs.declared.joins.Sign.{Sign}
use Rattle.unstable.specs.declared.joins.Sign.TheVariants.{Plain, Negated as Denied}

-- how a formula of this shape has atom p: 1 for p itself, 2 for ~p, 0 for neither
abbrev pub sign_of : Shape → ℕ → ℕ
sign_of Falsum p = 0
sign_of (Atom q) p = cond (eqb q p) 1 0
sign_of Verum p = 0
sign_of (Negated q) p = cond (eqb q p) 2 0
sign_of (Doubled q) p = 0
sign_of (Conjunction i j) p = 0
sign_of (Disjunction i j) p = 0
sign_of Other p = 0

-- the number of a sign that was found, or of none
abbrev pub sign_number : Given Sign → ℕ
sign_number None = 0
sign_number (Some Plain) = 1
sign_number (Some Denied) = 2

-- one atom more, by its sign
abbrev pub with_sign : ℕ → ℕ → Option Chosen → Option Chosen
with_sign sign p rest = cond (eqb sign 0) none ((λ c. (p, eqb sign 1) ∷ c) <$> rest)

-- the operands of a conjunction, if it is one
abbrev pub conjuncts : Shape → Option (ℕ × ℕ)
conjuncts Falsum = none
conjuncts (Atom p) = none
conjuncts Verum = none
conjuncts (Negated p) = none
conjuncts (Doubled p) = none
conjuncts (Conjunction i j) = some (i, j)
conjuncts (Disjunction i j) = none
conjuncts Other = none

abbrev pub disjuncts : Shape → Option (ℕ × ℕ)
disjuncts Falsum = none
disjuncts (Atom p) = none
disjuncts Verum = none
disjuncts (Negated p) = none
disjuncts (Doubled p) = none
disjuncts (Conjunction i j) = none
disjuncts (Disjunction i j) = some (i, j)
disjuncts Other = none

abbrev pub with : {X Y : Type 0} → Option X → Y → (X → Y) → Y
with none other f = other
with (some x) other f = f x

-- the choice that formula k makes of the atoms p and ps in their order, if it joins literals of these
unfoldable pub choice_in : List ℕ → ℕ → ℕ → List ℕ → Option Chosen
choice_in formulas k p [] = with_sign (sign_of (shape_in formulas k) p) p (some [])
choice_in formulas k p (q ∷ qs) =
    with (conjuncts (shape_in formulas k)) none (λ o. with_sign (sign_of (shape_in formulas o.0) p) p (choice_in formulas o.1 q qs))

-- the answer is the set of that choice, or none where there is none
abbrev pub Chooses : Option Chosen → Given ℕ → Type 0
Chooses read None = read ≡ none
Chooses read (Some set) = (c : Chosen) × (read ≡ some c) × ((i : ℕ) → Member i set ↔ (i ∈ chosen c))

-- formula x is p|~p
unfoldable pub middle_in : List ℕ → ℕ → ℕ → Bool
middle_in formulas x p =
    with (disjuncts (shape_in formulas x)) false (λ o. eqb (sign_of (shape_in formulas o.0) p) 1 && eqb (sign_of (shape_in formulas o.1) p) 2)

-- formula e joins p|~p for the atoms p and ps in their order
unfoldable pub middles_in : List ℕ → ℕ → ℕ → List ℕ → Bool
middles_in formulas e p [] = middle_in formulas e p
middles_in formulas e p (q ∷ qs) =
    with (conjuncts (shape_in formulas e)) false (λ o. middle_in formulas o.0 p && middles_in formulas o.1 q qs)
