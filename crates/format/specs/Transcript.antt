-- The transcript of a derivation: a body whose rows are those of a derivation of `elk`, one for one, with numbers for its
-- formulas and premises; and its text. Transcribing proves that every derivation has one, good if within the most counts.
use Rattle.std.specs.Prelude.{ℕ, zero, suc, max, ◌≤◌, ◌<◌, ◌≡◌, true, false, List, [], ◌∷◌, ◌++◌, length}
use Rattle.std.proofs.Math.Option.{Option, none, some}
use Rattle.equilibrium.specs.Formula.{Formula, falsum, atom, neg, conj, disj, imp}
use Rattle.equilibrium.specs.Meaning.{◌∈◌, ◌≈◌}
use Rattle.elk.specs.Sequent.{Sequent, Same, AllSame}
use Rattle.elk.specs.Rules.{Rule, rules}
use Rattle.elk.specs.Derivation.{Derivation, start, row, EndsIn}
use Rattle.format.specs.Text.{Bytes, bytes, strictly_rising, ◌<$>◌}
use Rattle.format.specs.File.{Node, Row, Body, formulas, decoded_at, decoded, sequent_of}
use Rattle.format.specs.Tables.{Lent, too_short, left_pool, right_pool, encode, most_atoms, most_formulas, most_rows, most_entries, most_on_side, most_bytes}
use Rattle.format.specs.Tests.{premises_of}
use Rattle.format.specs.Model.{ModelFits}
use Rattle.format.specs.Judged.{accepted, judged, contents}
use Rattle.format.specs.Good.{GoodBody}
use Rattle.format.specs.Written.{decimal}
use Rattle.format.specs.Document.{Document, lines_in, written, body_of, file_of}

-- a formula and all its parts
abbrev pub subformulas : Formula → List Formula
subformulas falsum = falsum ∷ []
subformulas (atom p) = atom p ∷ []
subformulas (neg A) = neg A ∷ subformulas A
subformulas (conj A B) = conj A B ∷ subformulas A ++ subformulas B
subformulas (disj A B) = disj A B ∷ subformulas A ++ subformulas B
subformulas (imp A B) = imp A B ∷ subformulas A ++ subformulas B

-- those of some formulas
abbrev pub subformulas_in : List Formula → List Formula
subformulas_in [] = []
subformulas_in (A ∷ As) = subformulas A ++ subformulas_in As

-- a principal formula, where there is one
abbrev pub principals : Option Formula → List Formula
principals none = []
principals (some A) = A ∷ []

-- the formulas that a derivation names: the principal formulas and the sides of its rows
abbrev pub formulas_in : {ss : List Sequent} → Derivation rules ss → List Formula
formulas_in start = []
formulas_in (row d r u F premises {s = s} inside i) = principals F ++ (s.left ++ (s.right ++ formulas_in d))

-- a row, with the body before it, is the step of a derivation from these premises to s by the rule r
pub record IsStep (b : Body) (q : Row) (r : Rule) (F : Option Formula) (premises : List Sequent) (s : Sequent) : Type 0 where
  pub rule : q.rule ≡ r
  pub principal : (decoded_at b.nodes <$> q.principal) ≡ F
  pub premises_same : AllSame (premises_of b q) premises
  pub sequent : Same (sequent_of b.nodes q) s

-- the rows are the steps of the derivation, in its order
abbrev pub AreSteps : ℕ → List Node → {ss : List Sequent} → List Row → Derivation rules ss → Type 0
AreSteps atoms nodes rows start = rows ≡ []
AreSteps atoms nodes rows (row d r u F premises {s = s} inside i) =
    (before : List Row) × (q : Row) × (rows ≡ before ++ q ∷ []) × AreSteps atoms nodes before d
    × IsStep (record { atoms = atoms; nodes = nodes; rows = before }) q r F premises s

-- the body is within the most counts of 01
pub record Within (b : Body) : Type 0 where
  pub atoms : b.atoms ≤ most_atoms
  pub nodes : length b.nodes ≤ most_formulas
  pub rows : length b.rows ≤ most_rows
  pub left_pool : length (left_pool b.rows) ≤ most_entries
  pub right_pool : length (right_pool b.rows) ≤ most_entries
  pub left : (r : Row) → r ∈ b.rows → length r.left ≤ most_on_side
  pub right : (r : Row) → r ∈ b.rows → length r.right ≤ most_on_side

-- the sides are written as 01 asks: in strictly rising order, so each formula once
abbrev pub SidesRise : Row → Type 0
SidesRise r = (strictly_rising r.left ≡ true) × (strictly_rising r.right ≡ true)

-- Formulas and rows for a derivation over so many atoms, as few as can be: one row for each step, each formula that it
-- needs once, and each formula of a side once.
pub record Transcript (atoms : ℕ) {ss : List Sequent} (d : Derivation rules ss) : Type 0 where
  pub nodes : List Node
  pub rows : List Row
  pub steps : AreSteps atoms nodes rows d
  pub needed : formulas nodes ≈ subformulas_in (formulas_in d)
  pub once : (i j : ℕ) → i < length nodes → j < length nodes → decoded_at nodes i ≡ decoded_at nodes j → i ≡ j
  pub rising : (r : Row) → r ∈ rows → SidesRise r
  pub good : Within (record { atoms = atoms; nodes = nodes; rows = rows }) → GoodBody (record { atoms = atoms; nodes = nodes; rows = rows })

-- the transcript as a whole file, with names, perhaps an M line, and a claim
abbrev pub document_of : List Bytes → {atoms : ℕ} {ss : List Sequent} {d : Derivation rules ss} → Transcript atoms d
    → Option (List ℕ) → List ℕ → List ℕ → Document
document_of names t model left right = record { names = names; nodes = t.nodes; rows = t.rows; model = model; left = left; right = right }

-- the atoms of an M line are written in strictly rising order
abbrev pub ModelRises : Option (List ℕ) → Type 0
ModelRises none = Unit {0}
ModelRises (some atoms) = strictly_rising atoms ≡ true

-- A text whose rows are a derivation of L => R and whose claim is L => R. With an M line that confirms the claim, or with none
-- where the claim reports a contradiction, it is accepted if it is within the limits.
pub record TextFor (names : List Bytes) {L R : List Formula} (e : EndsIn L R) : Type 0 where
  pub transcript : Transcript (length names) e.derivation
  pub left : List ℕ
  pub right : List ℕ
  pub claims_left : decoded transcript.nodes left ≈ L
  pub claims_right : decoded transcript.nodes right ≈ R
  pub accepted_if :
      (model : Option (List ℕ)) → ModelRises model → ModelFits L R model → Within (body_of (document_of names transcript model left right))
      → length (written (document_of names transcript model left right)) ≤ most_bytes
      → (t : Lent) → too_short t ≡ false
      → (judged t (written (document_of names transcript model left right)) ≡ accepted (length (lines_in (document_of names transcript model left right))))
      × (contents t (written (document_of names transcript model left right)) ≡ encode (file_of (document_of names transcript model left right)))

-- names for so many atoms: a0, a1, a2, ..
abbrev pub plain_names : ℕ → List Bytes
plain_names zero = []
plain_names (suc n) = plain_names n ++ (bytes "a" ++ decimal n) ∷ []

-- one more than the greatest, or 0 if there is none
abbrev pub count_to : List ℕ → ℕ
count_to [] = 0
count_to (p ∷ ps) = max (suc p) (count_to ps)
