-- Sequents of the two calculi. A side is a finite set of formulas, so two sequents are the same if their sides are
-- equal as sets.
use Rattle.std.specs.Prelude.{◌≡◌, List, [], ◌∷◌}
use Rattle.equilibrium.specs.Formula.{Formula}
use Rattle.equilibrium.specs.Meaning.{◌≈◌}

-- ELK derives L => R; the anti-sequent calculus of here-and-there refutes L;R
pub data Kind : Type 0 where
  elk refutation : Kind

-- antecedent (left) and succedent (right)
pub record Sequent : Type 0 where
  pub kind : Kind
  pub left : List Formula
  pub right : List Formula

infix 4 ◌⇒◌ ◌⨾◌
-- L => R
abbrev pub ◌⇒◌ : List Formula → List Formula → Sequent
L ⇒ R = record { kind = elk; left = L; right = R }

-- L;R
abbrev pub ◌⨾◌ : List Formula → List Formula → Sequent
L ⨾ R = record { kind = refutation; left = L; right = R }

pub record Same (s t : Sequent) : Type 0 where
  pub kind : s.kind ≡ t.kind
  pub left : s.left ≈ t.left
  pub right : s.right ≈ t.right

-- as many, each the same as the other at its place
abbrev pub AllSame : List Sequent → List Sequent → Type 0
AllSame [] [] = Unit {0}
AllSame [] (t ∷ ts) = ⊥
AllSame (s ∷ ss) [] = ⊥
AllSame (s ∷ ss) (t ∷ ts) = Same s t × AllSame ss ts
