-- The order of lines, by the numbers of the stages. Assumes nothing.
use Prim.Native.Nat.{ℕ}
use mathlib.Core.Path.{◌≡◌, refl, ap, ap₂, ◌∙◌}
use mathlib.Core.Bool.{Bool, not, ◌&&◌, ◌||◌}
use lib.Dec.{eqb, ltb}
use Rattle.format.specs.File.{Stage, in_atoms, in_formulas, in_rows, modelled, claimed}
use Rattle.format.specs.Tests.{rank, goes_on, may_follow, out_of_order}
use Rattle.state.specs.State.{out_of_turn, not_next}

-- which stages go on, by their numbers
goes_on_lem : (t : Stage) → ltb (rank t) (rank modelled) ≡ goes_on t
goes_on_lem in_atoms = refl
goes_on_lem in_formulas = refl
goes_on_lem in_rows = refl
goes_on_lem modelled = refl
goes_on_lem claimed = refl

pub turn_same : {stage : ℕ} (s t : Stage) → stage ≡ rank s → out_of_turn stage (rank t) ≡ not (may_follow s t)
unfolding out_of_turn
turn_same s t e =
    ap (λ (k : ℕ). out_of_turn k (rank t)) e ∙ ap (λ (b : Bool). not (ltb (rank s) (rank t) || (eqb (rank s) (rank t) && b))) (goes_on_lem t)

pub order_same : {stage held : ℕ} (s t : Stage) (have n : ℕ) → stage ≡ rank s → held ≡ have → not_next stage (rank t) held n ≡ out_of_order s t have n
unfolding out_of_turn not_next
order_same s t have n e k =
    ap₂ (λ (b : Bool) (j : ℕ). b || not (eqb n j)) (turn_same s t e) k
