-- The sheets of paper 01, condition 3, each with all its equilibrium models.
-- The atoms a, b, c, d are 0, 1, 2, 3; p is 0 too.
use Rattle.std.specs.Prelude.{ℕ, List, [], ◌∷◌}
use Rattle.equilibrium.specs.Formula.{Formula, falsum, atom, neg, conj, disj, imp}
use Rattle.equilibrium.specs.Meaning.{◌∈◌, ◌≈◌}

pub record Sheet : Type 0 where
  pub formulas : List Formula
  pub models : List (List ℕ)

-- T is, as a set, one of the models listed
abbrev pub Listed : List (List ℕ) → List ℕ → Type 0
Listed models T = (M : List ℕ) × (M ∈ models) × (T ≈ M)

abbrev pub a : Formula
a = atom 0

abbrev pub b : Formula
b = atom 1

abbrev pub c : Formula
c = atom 2

abbrev pub d : Formula
d = atom 3

abbrev pub p : Formula
p = atom 0

abbrev pub sheet : List Formula → List (List ℕ) → Sheet
sheet L models = record { formulas = L; models = models }

abbrev pub sheets : List Sheet
sheets =
    sheet [] ([] ∷ [])
    ∷ sheet (falsum ∷ []) []
    ∷ sheet (neg (neg p) ∷ []) []
    ∷ sheet (imp (neg p) p ∷ []) []
    ∷ sheet (disj a b ∷ []) ((0 ∷ []) ∷ (1 ∷ []) ∷ [])
    ∷ sheet (disj a (neg a) ∷ []) ([] ∷ (0 ∷ []) ∷ [])
    ∷ sheet (conj (disj a b) (imp b a) ∷ []) ((0 ∷ []) ∷ [])
    ∷ sheet (imp a b ∷ imp b a ∷ []) ([] ∷ [])
    ∷ sheet (disj a b ∷ imp a b ∷ imp b a ∷ []) ((0 ∷ 1 ∷ []) ∷ [])
    ∷ sheet (imp (neg a) b ∷ imp (neg b) a ∷ imp a c ∷ []) ((0 ∷ 2 ∷ []) ∷ (1 ∷ []) ∷ [])
    ∷ sheet (imp (neg c) (disj a b) ∷ neg (conj a d) ∷ neg b ∷ d ∷ []) []
    ∷ []
