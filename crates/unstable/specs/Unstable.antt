-- What `unst` asks of sides: in any tables by the shapes of formulas and what is noted of their atoms, and in tables that begin with
-- the formulas of a good body by the rule of the calculus.
use Rattle.std.specs.Prelude.{ℕ, ◌^◌, ◌<◌, Bool, true, List, [], ◌∷◌, ◌↔◌, ◌≡◌, get_or}
use Rattle.std.proofs.Math.Option.{some}
use Rattle.equilibrium.specs.Formula.{Formula}
use Rattle.equilibrium.specs.Meaning.{◌∈◌}
use Rattle.elk.specs.Sequent.{◌⇒◌, ◌⨾◌}
use Rattle.elk.specs.Instance.{chosen, UnstableInstance}
use Rattle.elk.specs.Instance.{Choice as Chosen}
use Rattle.format.specs.Text.{any}
use Rattle.format.specs.File.{Body, decoded}
use Rattle.atomset.specs.AtomSet.{has, Member, members}
use Rattle.tables.specs.Holding.{Formulas, Sided}
use Rattle.known.specs.Known.{AtomNotes}
use Rattle.sides.specs.Members.{AllRise}
use Rattle.sides.specs.Deciding.{Decides, DecidesIf}
use Rattle.unstable.specs.Joins.{choice_in, middles_in}
use Rattle.unstable.specs.Fixing.{Fixes}

-- p is an atom of a formula of the side
unfoldable pub occurs_on : List ℕ → List ℕ → ℕ → Bool
occurs_on notes side p = any (λ x. has (get_or notes x 0) p) side

-- the word of the atoms that have the property
pub record WordOf (P : ℕ → Type 0) (w : ℕ) : Type 0 where
  pub small : w < 2 ^ 64
  pub its : (p : ℕ) → Member p w ↔ P p

-- V, K and E as the sides of any tables have them, and the choice of S that K makes of V
pub record Reads (formulas notes left leftOne rightOne rightTwo : List ℕ) (v k e : ℕ) (c : Chosen) : Type 0 where
  pub same_left : left ≡ leftOne
  pub first_right : rightOne ≡ k ∷ []
  pub second_right : rightTwo ≡ e ∷ []
  pub atoms : WordOf (λ p. occurs_on notes left p ≡ true) v
  pub p : ℕ
  pub ps : List ℕ
  pub all : members v ≡ p ∷ ps
  pub read : choice_in formulas k p ps ≡ some c

-- What `unst` asks in any tables, whatever the row's right side: besides what is read, S is not empty, E joins its excluded
-- middles, and the second premise's left side is L with ~~S and ~S'.
pub record UnstableIn (formulas notes left leftOne rightOne leftTwo rightTwo : List ℕ) : Type 0 where
  pub v : ℕ
  pub k : ℕ
  pub e : ℕ
  pub c : Chosen
  pub reads : Reads formulas notes left leftOne rightOne rightTwo v k e c
  pub set : ℕ
  pub in_set : WordOf (λ p. p ∈ chosen c) set
  pub others : ℕ
  pub in_others : WordOf (λ p. Member p v × (Member p set → ⊥)) others
  pub q : ℕ
  pub qs : List ℕ
  pub not_empty : members set ≡ q ∷ qs
  pub joins : middles_in formulas e q qs ≡ true
  pub fixes : Fixes formulas leftTwo left set others

-- `unst` with these sides of the row, its first and its second premise; R is any set
abbrev pub UnstableSides : Body → List Formula → List ℕ → List ℕ → List ℕ → List ℕ → List ℕ → Type 0
UnstableSides b R left leftOne rightOne leftTwo rightTwo =
    UnstableInstance
    ((decoded b.nodes leftOne ⇒ decoded b.nodes rightOne) ∷ (decoded b.nodes leftTwo ⨾ decoded b.nodes rightTwo) ∷ [])
    (decoded b.nodes left ⇒ R)

-- The answer for `unst`. Where the left sides of the row and of its second premise do not both rise strictly it is free, but true
-- only where all is as asked; in a good body it decides whether the row is an instance.
pub record UnstableStep (formulas notes left leftOne rightOne leftTwo rightTwo : List ℕ) (r : Bool) : Type 0 where
  pub answer : DecidesIf (AllRise (leftTwo ∷ left ∷ [])) (UnstableIn formulas notes left leftOne rightOne leftTwo rightTwo) r
  pub decides :
      (b : Body) (R : List Formula) → Formulas b formulas → AtomNotes b notes → Sided b left → Sided b leftOne → Sided b rightOne
      → Sided b leftTwo → Sided b rightTwo → Decides (UnstableSides b R left leftOne rightOne leftTwo rightTwo) r
