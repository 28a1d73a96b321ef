-- A constraint joins the sheet of an accepted text (paper 02, M-106): what is claimed is still entailed, and the M line is
-- judged afresh.
use Rattle.std.specs.Prelude.{ℕ, ◌≡◌, List, ◌∷◌, ◌↔◌}
use Rattle.std.proofs.Math.Option.{Option, none, some}
use Rattle.equilibrium.specs.Formula.{Formula}
use Rattle.equilibrium.specs.Meaning.{◌∈◌, Holds, Entails}
use Rattle.equilibrium.specs.Constraints.{Constraint}
use Rattle.format.specs.Text.{Bytes, lines_of}
use Rattle.format.specs.File.{decoded}
use Rattle.format.specs.Line.{claim_line, line_of}
use Rattle.format.specs.Tables.{Lent}
use Rattle.format.specs.Tests.{first}
use Rattle.format.specs.Model.{model_tests, Shown}
use Rattle.format.specs.Judged.{accepted, judged, nodes_in, model_in}

-- the model on the M line, if there is one, does not satisfy A
abbrev pub Unsatisfied : Formula → Option (List ℕ) → Type 0
Unsatisfied A none = Unit {0}
Unsatisfied A (some T) = Holds T T A → ⊥

-- The claim L => R, with this M line or none, when a constraint C joins that shuts A out: it is still entailed; and it is still
-- shown, confirmed or a contradiction, exactly if the model does not satisfy A.
pub record Sharpened (L R : List Formula) (m : Option (List ℕ)) (A C : Formula) : Type 0 where
  pub entailed : Entails (C ∷ L) R
  pub shown : Shown (C ∷ L) R m ↔ Unsatisfied A m

-- that is so of what an accepted text claims in its C line, with the M line that it has
abbrev pub AcceptedSharpened : Type 0
AcceptedSharpened =
    (t : Lent) (text : Bytes) (n : ℕ) → judged t text ≡ accepted n
    → (line : Bytes) (left right : List ℕ) → line ∈ (lines_of text).complete → line_of line ≡ some (claim_line left right)
    → (A C : Formula) → Constraint A C → Sharpened (decoded (nodes_in text) left) (decoded (nodes_in text) right) (model_in text) A C

-- an M line that passed beside L => R, or none, beside the claim with the constraint: it passes if the model does not satisfy A,
-- and else earns 17
pub record JudgedAfresh (L R : List Formula) (m : Option (List ℕ)) (A C : Formula) : Type 0 where
  pub passes : Unsatisfied A m → first (model_tests (C ∷ L) R m) ≡ none
  pub earns_17 : (Unsatisfied A m → ⊥) → first (model_tests (C ∷ L) R m) ≡ some 17

abbrev pub ModelAfresh : Type 0
ModelAfresh =
    (A C : Formula) → Constraint A C → (L R : List Formula) (m : Option (List ℕ)) → first (model_tests L R m) ≡ none → JudgedAfresh L R m A C
