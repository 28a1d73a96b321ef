-- What a row of either calculus claims: an ELK row that its left side entails its right side, a refutation that some
-- pair satisfies all of its left side and none of its right side. A claim sees the sides as sets.
use Prim.Native.Nat.{ℕ}
use mathlib.Core.Path.{subst}
use mathlib.Core.List.{List}
use Rattle.equilibrium.specs.Formula.{Formula}
use Rattle.equilibrium.specs.Meaning.{◌⊆◌, ◌≈◌, AllHold, NoneHolds, Entails}
use Rattle.equilibrium.proofs.Models.{entails_same}
use Rattle.elk.specs.Sequent.{Kind, elk, refutation, Sequent, Same}

-- some pair (H,T), H inside T, satisfies all of L and none of R
pub record Refutable (L R : List Formula) : Type 0 where
  pub H : List ℕ
  pub T : List ℕ
  pub inside : H ⊆ T
  pub left : AllHold H T L
  pub right : NoneHolds H T R

-- what a row with these sides claims, in its calculus
abbrev pub Claims : Kind → List Formula → List Formula → Type 0
Claims elk L R = Entails L R
Claims refutation L R = Refutable L R

abbrev pub Valid : Sequent → Type 0
Valid s = Claims s.kind s.left s.right

claims_same : (k : Kind) {L M R S : List Formula} → L ≈ M → R ≈ S → Claims k L R → Claims k M S
claims_same elk l r v = entails_same l r v
claims_same refutation l r v = record { H = v.H; T = v.T; inside = v.inside; left = λ A m. v.left A (l.1 A m); right = λ A m. v.right A (r.1 A m) }

pub valid_same : {s t : Sequent} → Same s t → Valid s → Valid t
valid_same {s} {t} e v = subst (λ (k : Kind). Claims k t.left t.right) e.kind (claims_same s.kind e.left e.right v)
