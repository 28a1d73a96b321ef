-- M lines: the numbers that the atoms of a model earn, the word that holds them, and what the line comes to. No table changes.
use Rattle.std.specs.Prelude.{ℕ, ◌^◌, ◌<◌, ◌≡◌, ◌&&◌, List, [], ◌∷◌, eqb, ltb, Result}
use Rattle.std.proofs.Math.Option.{some}
use Rattle.format.specs.Text.{Bytes, any}
use Rattle.format.specs.Line.{model_line, line_of}
use Rattle.format.specs.File.{modelled}
use Rattle.format.specs.Tests.{Test, ◌when◌, rank}
use Rattle.atomset.specs.AtomSet.{has}
use Rattle.text.specs.declared.lists.Listed.{Listed}
use Rattle.early.specs.Early.{past_of, bad_of}
use Rattle.state.specs.State.{out_of_turn, Memory, Keeps}
use Rattle.state.specs.Lined.{Lined}
use Rattle.state.specs.declared.State.{State}
use Rattle.refusals.specs.declared.Refusal.{Refusal}
use Rattle.lines.specs.Stepping.{at_line}
use Rattle.drafts.specs.Drafts.{Laid}

-- the numbers 4, 7 and 9
abbrev pub model_of : Listed → State → List Test
model_of atoms s = (4 when out_of_turn s.stage (rank modelled)) ∷ (7 when past_of atoms s.counts.atoms) ∷ (9 when bad_of atoms) ∷ []

-- the word of those atoms of a list for which a word has room
pub record WordRead (atoms : List ℕ) (word : ℕ) : Type 0 where
  pub small : word < 2 ^ 64
  pub its : (p : ℕ) → has word p ≡ any (λ x. eqb p x && ltb x 64) atoms

pub record ModelSettled (atoms : Listed) (number : ℕ) (list : List ℕ) (s : State) (r : Result State Refusal) : Type 0 where
  pub lined :
      (text line : Bytes) (start : ℕ) (xs : List ℕ) (t : Memory) → line_of line ≡ some (model_line xs) → Laid xs atoms list
      → Lined text start line number s (at_line number r) t t
  pub keeps : (t : Memory) → Keeps (at_line number r) t t

abbrev pub ModelLined : Bytes → ℕ → State → Result State Refusal → Type 0
ModelLined line number s r = (text : Bytes) (start : ℕ) (t : Memory) → Lined text start line number s (at_line number r) t t
