-- Formulas, and the atoms that occur in them. An atom is a natural number of any size.
use Rattle.std.specs.Prelude.{ℕ, List, [], ◌∷◌, ◌++◌}

-- `#`, an atom, `~A`, `A&B`, `A|B`, `A->B`
pub data Formula : Type 0 where
  falsum : Formula
  atom : ℕ → Formula
  neg : Formula → Formula
  conj disj imp : Formula → Formula → Formula

-- the atoms that occur in a formula, at any depth
abbrev pub atoms_of : Formula → List ℕ
atoms_of falsum = []
atoms_of (atom p) = p ∷ []
atoms_of (neg A) = atoms_of A
atoms_of (conj A B) = atoms_of A ++ atoms_of B
atoms_of (disj A B) = atoms_of A ++ atoms_of B
atoms_of (imp A B) = atoms_of A ++ atoms_of B

-- the atoms that occur in some formula of a list
abbrev pub atoms_in : List Formula → List ℕ
atoms_in [] = []
atoms_in (A ∷ L) = atoms_of A ++ atoms_in L
