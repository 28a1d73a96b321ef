-- A constraint joins the sheet of what is derived (paper 02, M-106): the rows by which a derivation of L => R goes on to
-- L,~A => R, or to L,A-># => R.
use Rattle.std.specs.Prelude.{List, [], ◌∷◌, ◌++◌}
use Rattle.equilibrium.specs.Formula.{Formula, falsum, neg}
use Rattle.equilibrium.specs.Meaning.{◌∈◌}
use Rattle.equilibrium.specs.Constraints.{Constraint, negated, falsum_follows}
use Rattle.elk.specs.Sequent.{Sequent, ◌⇒◌}
use Rattle.elk.specs.Rules.{rules}
use Rattle.elk.specs.Derivation.{Derivation, EndsIn}

-- The rows on the way, the last one first. To L,~A => R: `wr` adds A on the right, and `notl` goes on from there. To L,A-># => R: `wr`
-- likewise; then `same` and `bot`, as with # on the left anything may stand right; and `impl` goes on from the rows of `bot` and `wr`.
abbrev pub between : {A C : Formula} → Constraint A C → List Formula → List Formula → List Sequent
between {A} negated L R = (L ⇒ A ∷ R) ∷ []
between {A} falsum_follows L R = (falsum ∷ L ⇒ neg A ∷ R) ∷ (falsum ∷ L ⇒ falsum ∷ neg A ∷ R) ∷ (L ⇒ A ∷ R) ∷ []

-- a derivation with L => R among its rows goes on with these, and then with the constraint on the left
abbrev pub ConstraintRows : Type 0
ConstraintRows =
    (A C : Formula) (k : Constraint A C) (L R : List Formula) (rows : List Sequent)
    → (L ⇒ R) ∈ rows → Derivation rules rows → Derivation rules ((C ∷ L ⇒ R) ∷ between k L R ++ rows)

-- so where L => R has a derivation, the sequent with the constraint on the left has one
abbrev pub ConstraintsDerived : Type 0
ConstraintsDerived = (A C : Formula) → Constraint A C → (L R : List Formula) → EndsIn L R → EndsIn (C ∷ L) R
