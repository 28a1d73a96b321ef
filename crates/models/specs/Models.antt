-- The tests 15, 16 and 17 of a claim (paper 02, M-101) by the formulas table, the sides as numbers and the model as one word. A table is
-- any list of numbers, and so are the sides.
use Rattle.std.specs.Prelude.{ℕ, zero, suc, ◌-◌, ◌^◌, ◌≤◌, ◌<◌, Bool, true, false, not, ◌&&◌, ◌||◌, List, [], ◌∷◌, ◌≡◌, eqb, ltb, length}
use Rattle.std.proofs.Math.Option.{Option, none, some}
use Rattle.equilibrium.specs.Meaning.{◌∈◌}
use Rattle.format.specs.Text.{all}
use Rattle.format.specs.File.{Body, decoded}
use Rattle.format.specs.Tables.{most_formulas}
use Rattle.format.specs.Tests.{Test, ◌when◌, first, same_truth}
use Rattle.format.specs.Model.{most_in_model, model_tests}
use Rattle.atomset.specs.AtomSet.{members, set_of}
use Rattle.tables.specs.Records.{node_at, record_from}
use Rattle.tables.specs.Holding.{Formulas, Sided}
use Rattle.early.specs.Early.{numbered}
use Rattle.pairs.specs.Parts.{part}
use Rattle.pairs.specs.Truths.{truth_of, truths_there, truths_here, noted_at}

-- the claim reports a contradiction: its right side is empty or holds only falsum
abbrev pub only_falsum : List ℕ → List ℕ → Bool
only_falsum formulas right = all (λ i. eqb (record_from (node_at formulas i)).word 0) right

-- the truths of a table's formulas in the pair (t,t), of as many as a file may have
unfoldable pub there_in : List ℕ → ℕ → List Bool
there_in formulas t = truths_there formulas t most_formulas

-- and in the pair (h,t)
unfoldable pub here_in : List ℕ → ℕ → ℕ → List Bool
here_in formulas h t = truths_here formulas h (truth_of (there_in formulas t)) most_formulas

-- part n upsets the model: with the model it satisfies the side
unfoldable pub upsets : List ℕ → List ℕ → ℕ → ℕ → Bool
upsets formulas left model n = all (truth_of (here_in formulas (set_of (part n (members model))) model)) left

-- some number below k passes the test
unfoldable pub some_below : (ℕ → Bool) → ℕ → Bool
some_below test zero = false
some_below test (suc k) = some_below test k || test k

-- some proper part of the model, from the empty one to the last but one, upsets it
abbrev pub some_upsets : List ℕ → List ℕ → ℕ → Bool
some_upsets formulas left model = some_below (upsets formulas left model) (2 ^ length (members model) - 1)

-- the model satisfies the side, and no proper part upsets it
unfoldable pub in_equilibrium : List ℕ → List ℕ → ℕ → Bool
in_equilibrium formulas left model = all (truth_of (there_in formulas model)) left && not (some_upsets formulas left model)

-- a table notes the truths in (t,t) of the formulas below a number
abbrev pub NotesThere : List ℕ → ℕ → ℕ → List ℕ → Type 0
NotesThere formulas t end there = (i : ℕ) → i < end → noted_at there i ≡ truth_of (there_in formulas t) i

-- what the test of the parts rests on: few atoms, a number past the sheet's formulas, room for notes, and the notes on the model itself
pub record Prepared (formulas sheet : List ℕ) (model end : ℕ) (there here : List ℕ) : Type 0 where
  pub few : length (members model) ≤ most_in_model
  pub below : (x : ℕ) → x ∈ sheet → x < end
  pub room : length here ≡ most_formulas
  pub notes : NotesThere formulas model end there

-- 15: a model is missing, or unwanted since the claim reports a contradiction; 16: it has too many atoms; 17: it is not in equilibrium
abbrev pub tests_in : List ℕ → List ℕ → List ℕ → Bool → ℕ → List Test
tests_in formulas left right given model =
    (15 when same_truth given (only_falsum formulas right))
    ∷ (16 when given && ltb most_in_model (length (members model)))
    ∷ (17 when given && not (in_equilibrium formulas left model))
    ∷ []

-- the list of the M line, if there is one, as a flag and a word
abbrev pub Given : Option (List ℕ) → Bool → ℕ → Type 0
Given none given model = given ≡ false
Given (some T) given model = (given ≡ true) × (members model ≡ T)

-- The number of the first test that applies, 0 where none does; where the table begins with the formulas of a good body, of which the
-- sides are, it is that of the claim's formulas.
pub record ModelNumbered (formulas left right : List ℕ) (given : Bool) (model number : ℕ) : Type 0 where
  pub answer : numbered number ≡ first (tests_in formulas left right given model)
  pub judges :
      (b : Body) (T : Option (List ℕ)) → Formulas b formulas → Sided b left → Sided b right → Given T given model
      → numbered number ≡ first (model_tests (decoded b.nodes left) (decoded b.nodes right) T)
