-- C lines: the numbers that a claim earns before the last row is asked, and what the line comes to. No table changes.
use Rattle.std.specs.Prelude
use Rattle.std.specs.Prelude.{ℕ, ◌≡◌, ◌||◌, cond, List, [], ◌∷◌, eqb, None}
use Rattle.std.specs.Option.{option_map}
use Rattle.std.proofs.Math.Option.{some}
use Rattle.format.specs.Text.{Bytes}
use Rattle.format.specs.Line.{claim_line, line_of}
use Rattle.format.specs.File.{modelled, claimed}
use Rattle.format.specs.Tests.{Test, ◌when◌, rank}
use Rattle.text.specs.declared.lists.Listed.{Listed}
use Rattle.early.specs.Early.{past_of, bad_of}
use Rattle.state.specs.State.{Stepped, out_of_turn, Memory, Keeps}
use Rattle.state.specs.Lined.{Lined}
use Rattle.state.specs.declared.State.{State}
use Rattle.state.specs.declared.ModelLine.{ModelLine}
use Rattle.drafts.specs.Drafts.{Laid}

-- the numbers 4, 7 and 9
abbrev pub claim_of : Listed → Listed → State → List Test
claim_of left right s =
    (4 when out_of_turn s.stage (rank claimed))
    ∷ (7 when past_of left s.counts.formulas || past_of right s.counts.formulas)
    ∷ (9 when bad_of left || bad_of right)
    ∷ []

-- the atoms of the M line, if it was the last line
abbrev pub model_before : State → Prelude.Option ℕ
model_before s = cond (eqb s.stage (rank modelled)) (option_map (λ (m : ModelLine). m.atoms) s.model) None

-- the contents with these formulas, rows and pools
abbrev pub with_tables : Memory → List ℕ → List ℕ → List ℕ → List ℕ → Memory
with_tables t formulas rows left right = record { names = t.names; formulas = formulas; notes = t.notes; rows = rows; left = left; right = right }

pub record ClaimSettled (antecedent succedent : Listed) (number : ℕ) (l r formulas rows left right : List ℕ) (s : State) (stepped : Stepped) : Type 0 where
  pub lined :
      (text line : Bytes) (start : ℕ) (xs ys : List ℕ) (t : Memory) → line_of line ≡ some (claim_line xs ys) → Laid xs antecedent l → Laid ys succedent r
      → Lined text start line number s stepped (with_tables t formulas rows left right) (with_tables t formulas rows left right)
  pub keeps : (t : Memory) → Keeps stepped t t

abbrev pub ClaimLined : Bytes → ℕ → List ℕ → List ℕ → List ℕ → List ℕ → State → Stepped → Type 0
ClaimLined line number formulas rows left right s stepped =
    (text : Bytes) (start : ℕ) (t : Memory)
    → Lined text start line number s stepped (with_tables t formulas rows left right) (with_tables t formulas rows left right)
