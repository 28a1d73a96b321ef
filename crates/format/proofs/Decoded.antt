-- Numbers and the formulas they stand for: in a held body a side of known numbers and its formulas are the same set.
use Prim.Native.Nat.{ℕ, ◌<◌}
use mathlib.Core.Path.{◌≡◌, refl, sym, subst}
use mathlib.Core.Bool.{false}
use mathlib.Core.List.Memᴰ
use mathlib.Core.List.{List, [], ◌∷◌}
use mathlib.Core.Logic.{⊎_elim, ◌↔◌}
use lib.ListN.{length}
use Rattle.equilibrium.specs.Formula.{Formula}
use Rattle.equilibrium.specs.Meaning.{◌∈◌}
use Rattle.format.specs.File.{Body, decoded_at, decoded}
use Rattle.format.specs.Tests.{unknown_formula}
use Rattle.format.proofs.GoodBodies.{Held}
use Rattle.format.proofs.Formulas.{known_earlier, equal_numbers}

-- a formula of a decoded side is that of a number of the side
pub in_decoded : (b : Body) (side : List ℕ) (F : Formula) → F ∈ decoded b.nodes side → (i : ℕ) × (i ∈ side) × (F ≡ decoded_at b.nodes i)
in_decoded b [] F m = absurd (Memᴰ.not-nil m)
in_decoded b (i ∷ is) F m =
    ⊎_elim (λ e. (i, Memᴰ.head refl, e)) (λ k. let r = in_decoded b is F k in (r.0, Memᴰ.tail r.1, r.2)) (Memᴰ.cases_cons m)

pub decoded_in : (b : Body) (side : List ℕ) (i : ℕ) → i ∈ side → decoded_at b.nodes i ∈ decoded b.nodes side
decoded_in b side i m = Memᴰ.map (decoded_at b.nodes) m

module _ (b : Body) (held : Held b) (side : List ℕ) (known : unknown_formula b side ≡ false) where
  pub side_known : (i : ℕ) → i ∈ side → i < length b.nodes
  side_known i m = known_earlier b side known i m

  -- a known number is on the side exactly if its formula is on the decoded side
  pub number_on : (i : ℕ) → i < length b.nodes → (i ∈ side) ↔ (decoded_at b.nodes i ∈ decoded b.nodes side)
  number_on i h = (decoded_in b side i, λ m. back (in_decoded b side (decoded_at b.nodes i) m))
    where
      back : (j : ℕ) × (j ∈ side) × (decoded_at b.nodes i ≡ decoded_at b.nodes j) → i ∈ side
      back r = subst (λ (k : ℕ). k ∈ side) (sym (equal_numbers b held i r.0 h (side_known r.0 r.1) r.2)) r.1
