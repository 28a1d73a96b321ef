-- One line, and the lines from one on: what each comes to, by what is written there.
use Prim.Native.Nat.{ℕ, ◌+◌, ◌≤◌}
use native.Mathlib.Omega.{arith}
use mathlib.Core.Path.{◌≡◌, refl, sym, ap, ◌∙◌}
use mathlib.Core.Bool.{Bool, true, false, cond}
use mathlib.Core.List.{List, [], ◌∷◌}
use mathlib.Core.Option.{Option, none, some}
use lib.Dec.{eqb}
use lib.ListN.{length}
use Rattle.equilibrium.specs.Formula.{Formula}
use Rattle.format.specs.Text.{Bytes, onto, parts_at, line_feed, lines_of, all_but_last, Lines}
use Rattle.format.specs.File.{Node, Row, File, atoms_given}
use Rattle.format.specs.Line.{Line, atom_line, formula_line, row_line, model_line, claim_line, line_of}
use Rattle.format.specs.Tests.{Test, first, atom_tests, formula_tests, row_tests, model_line_tests, claim_tests}
use Rattle.format.specs.Model.{model_tests, claim_model_tests}
use Rattle.format.specs.Judged.{Place, Outcome, next, refused, settled, or_bad_line, step_read, step, after, below}
use Rattle.format.specs.Judged.{with_atom, with_node, with_row, with_model, with_claim, reported_on, name_start}
use Rattle.format.specs.Judged.{run, Ruling, turned_down, or_no_claim, finish, run_from, answer_from}

-- the first test that applies gives its number

pub first_applies : (t : Test) (ts : List Test) → t.applies ≡ true → first (t ∷ ts) ≡ some t.number
first_applies t ts e = ap (λ (b : Bool). cond b (some t.number) (first ts)) e

pub first_passes : (t : Test) (ts : List Test) → t.applies ≡ false → first (t ∷ ts) ≡ first ts
first_passes t ts e = ap (λ (b : Bool). cond b (some t.number) (first ts)) e

module _ (f : File) (p : Place) (line : Bytes) where
  -- a line that is badly written
  pub step_bad : line_of line ≡ none → step f p line ≡ refused 3 p.line
  unfolding step
  step_bad e = ap (λ (o : Option Line). or_bad_line o p (step_read f p line)) e

  pub step_well : (l : Line) → line_of line ≡ some l → step f p line ≡ step_read f p line l
  unfolding step
  step_well l e = ap (λ (o : Option Line). or_bad_line o p (step_read f p line)) e

  -- a line that is well written: by its tests
  pub step_atom : (n : ℕ) (name : Bytes) → line_of line ≡ some (atom_line n name)
      → step f p line ≡ settled (first (atom_tests f n name)) p.line (with_atom f (name_start p line) name)
  unfolding step_read
  step_atom n name e = step_well (atom_line n name) e

  pub step_formula : (n : ℕ) (node : Node) → line_of line ≡ some (formula_line n node)
      → step f p line ≡ settled (first (formula_tests f n node)) p.line (with_node f node)
  unfolding step_read
  step_formula n node e = step_well (formula_line n node) e

  pub step_row : (n : ℕ) (r : Row) → line_of line ≡ some (row_line n r) → step f p line ≡ settled (first (row_tests f n r)) p.line (with_row f r)
  unfolding step_read
  step_row n r e = step_well (row_line n r) e

  pub step_model : (atoms : List ℕ) → line_of line ≡ some (model_line atoms)
      → step f p line ≡ settled (first (model_line_tests f atoms)) p.line (with_model f (record { line = p.line; atoms = atoms }))
  unfolding step_read
  step_model atoms e = step_well (model_line atoms) e

  -- a claim: by its own tests, and then by those of its model, which belong to another line
  module _ (l r : List ℕ) (e : line_of line ≡ some (claim_line l r)) where
    abbrev claiming : Outcome File → Outcome File
    claiming o =
        after o (λ g. settled (first (claim_model_tests g l r)) (reported_on g.model p.line) (with_claim g (record { line = p.line; left = l; right = r })))

    pub step_claim_refused : (n : ℕ) → first (claim_tests f l r) ≡ some n → step f p line ≡ refused n p.line
    unfolding step_read
    step_claim_refused n k = step_well (claim_line l r) e ∙ ap (λ (o : Option ℕ). claiming (settled o p.line f)) k

    pub step_claim : first (claim_tests f l r) ≡ none
        → step f p line
        ≡ settled (first (claim_model_tests f l r)) (reported_on f.model p.line) (with_claim f (record { line = p.line; left = l; right = r }))
    unfolding step_read
    step_claim k = step_well (claim_line l r) e ∙ ap (λ (o : Option ℕ). claiming (settled o p.line f)) k

-- a refusal has a number from 3 on

abbrev pub Numbered : List Test → Type 0
Numbered [] = Unit {0}
Numbered (t ∷ ts) = (3 ≤ t.number) × Numbered ts

pub numbered : (ts : List Test) (n : ℕ) → Numbered ts → first ts ≡ some n → 3 ≤ n
numbered [] n h e = let z : ◌≡◌ {A = ℕ} 0 1 = cc in absurd (omega arith)
numbered (t ∷ ts) n h e = cases t.applies e (numbered ts n h.1)
  where
    cases : (b : Bool) → cond b (some t.number) (first ts) ≡ some n → (first ts ≡ some n → 3 ≤ n) → 3 ≤ n
    cases true k rest = let same : t.number ≡ n = cc in omega (arith, h.0)
    cases false k rest = rest k

model_numbered : (L R : List Formula) (m : Option (List ℕ)) → Numbered (model_tests L R m)
model_numbered L R none = (omega arith, tt)
model_numbered L R (some T) = (omega arith, (omega arith, (omega arith, tt)))

pub step_refused : (f : File) (p : Place) (line : Bytes) (n l : ℕ) → step f p line ≡ refused n l → 3 ≤ n
unfolding step step_read
step_refused f p line n l e = read (line_of line) e
  where
    settle : (ts : List Test) (at : ℕ) (t : File) → Numbered ts → settled (first ts) at t ≡ refused n l → 3 ≤ n
    settle ts at t h k = cases (first ts) refl k
      where
        cases : (o : Option ℕ) → first ts ≡ o → settled o at t ≡ refused n l → 3 ≤ n
        cases none q k = let z : ◌≡◌ {A = ℕ} 0 1 = cc in absurd (omega arith)
        cases (some m) q k = let same : m ≡ n = cc in omega (arith, numbered ts m h q)

    claim : (a b : List ℕ) (o : Option ℕ) → first (claim_tests f a b) ≡ o
        → after (settled o p.line f) (λ g. settled (first (claim_model_tests g a b)) (reported_on g.model p.line)
        (with_claim g (record { line = p.line; left = a; right = b }))) ≡ refused n l → 3 ≤ n
    claim a b none q k = settle (claim_model_tests f a b) _ _ (model_numbered _ _ (atoms_given f.model)) k
    claim a b (some m) q k = let same : m ≡ n = cc in omega (arith, numbered (claim_tests f a b) m (omega arith) q)

    read : (o : Option Line) → or_bad_line o p (step_read f p line) ≡ refused n l → 3 ≤ n
    read none k = let same : 3 ≡ n = cc in omega arith
    read (some (atom_line m name)) k = settle (atom_tests f m name) _ _ (omega arith) k
    read (some (formula_line m node)) k = settle (formula_tests f m node) _ _ (omega arith) k
    read (some (row_line m r)) k = settle (row_tests f m r) _ _ (omega arith) k
    read (some (model_line atoms)) k = settle (model_line_tests f atoms) _ _ (omega arith) k
    read (some (claim_line a b)) k = claim a b (first (claim_tests f a b)) refl k

-- the lines of what is left of a text

pub parts_some : (separator : ℕ) (bs : Bytes) → (part : Bytes) × (parts : List Bytes) × (parts_at separator bs ≡ part ∷ parts)
unfolding parts_at
parts_some separator [] = ([], [], refl)
parts_some separator (b ∷ bs) = cases (eqb b separator) (parts_some separator bs)
  where
    cases : (t : Bool) → (part : Bytes) × (parts : List Bytes) × (parts_at separator bs ≡ part ∷ parts)
        → (part : Bytes) × (parts : List Bytes) × (cond t ([] ∷ parts_at separator bs) (onto b (parts_at separator bs)) ≡ part ∷ parts)
    cases true r = ([], parts_at separator bs, refl)
    cases false r = (b ∷ r.0, r.1, ap (onto b) r.2)

-- a line that ends in LF, and what follows it
pub lines_cons : (bs line rest : Bytes) → parts_at line_feed bs ≡ line ∷ parts_at line_feed rest
    → lines_of bs ≡ record { complete = line ∷ (lines_of rest).complete; rest = (lines_of rest).rest }
unfolding lines_of
lines_cons bs line rest e = ap all_but_last e ∙ cut (parts_at line_feed rest) (parts_some line_feed rest)
  where
    cut : (parts : List Bytes) → (q : Bytes) × (qs : List Bytes) × (parts ≡ q ∷ qs)
        → all_but_last (line ∷ parts) ≡ record { complete = line ∷ (all_but_last parts).complete; rest = (all_but_last parts).rest }
    cut parts r =
        ap (λ (ps : List Bytes). all_but_last (line ∷ ps)) r.2
        ∙ ap (λ (ps : List Bytes). record { complete = line ∷ (all_but_last ps).complete; rest = (all_but_last ps).rest }) (sym r.2)

-- no line that ends in LF
pub lines_last : (bs : Bytes) → parts_at line_feed bs ≡ bs ∷ [] → lines_of bs ≡ record { complete = []; rest = bs }
unfolding lines_of
lines_last bs e = ap all_but_last e

-- the answer by what the line at a place comes to, and the lines after it
abbrev answer_by : Place → Bytes → Bytes → Outcome File → Ruling
answer_by p line rest o =
    finish (after o (run step (below p line) (lines_of rest).complete)) (lines_of rest).rest (p.line + 1 + length (lines_of rest).complete)

module _ (p : Place) (f : File) where
  pub run_line : (bs line rest : Bytes) → parts_at line_feed bs ≡ line ∷ parts_at line_feed rest
      → run_from p bs f ≡ after (step f p line) (run step (below p line) (lines_of rest).complete)
  unfolding run
  run_line bs line rest e = ap (λ (ls : Lines). run step p ls.complete f) (lines_cons bs line rest e)

  answer_line : (bs line rest : Bytes) → parts_at line_feed bs ≡ line ∷ parts_at line_feed rest
      → answer_from p bs f ≡ answer_by p line rest (step f p line)
  unfolding run
  answer_line bs line rest e =
      ap (λ (ls : Lines). finish (run step p ls.complete f) ls.rest (p.line + length ls.complete)) (lines_cons bs line rest e)
      ∙ ap (finish (after (step f p line) (run step (below p line) (lines_of rest).complete)) (lines_of rest).rest) (omega arith)

  -- a line that passes
  pub run_next : (bs line rest : Bytes) (t : File) → parts_at line_feed bs ≡ line ∷ parts_at line_feed rest → step f p line ≡ next t
      → run_from p bs f ≡ run_from (below p line) rest t
  run_next bs line rest t e k = run_line bs line rest e ∙ ap (λ (o : Outcome File). after o (run step (below p line) (lines_of rest).complete)) k

  pub answer_next : (bs line rest : Bytes) (t : File) → parts_at line_feed bs ≡ line ∷ parts_at line_feed rest → step f p line ≡ next t
      → answer_from p bs f ≡ answer_from (below p line) rest t
  answer_next bs line rest t e k = answer_line bs line rest e ∙ ap (answer_by p line rest) k

  -- a line that is refused
  pub answer_refused : (bs line rest : Bytes) (n l : ℕ) → parts_at line_feed bs ≡ line ∷ parts_at line_feed rest → step f p line ≡ refused n l
      → answer_from p bs f ≡ turned_down n l
  answer_refused bs line rest n l e k = answer_line bs line rest e ∙ ap (answer_by p line rest) k

  -- bytes with no LF
  pub answer_stub : (b : ℕ) (bs : Bytes) → parts_at line_feed (b ∷ bs) ≡ (b ∷ bs) ∷ [] → answer_from p (b ∷ bs) f ≡ turned_down 3 p.line
  unfolding run
  answer_stub b bs e =
      ap (λ (ls : Lines). finish (run step p ls.complete f) ls.rest (p.line + length ls.complete)) (lines_last (b ∷ bs) e)
      ∙ ap (turned_down 3) (omega arith)

  -- nothing left
  pub run_end : run_from p [] f ≡ next f
  unfolding run lines_of parts_at
  run_end = refl

  pub answer_end : answer_from p [] f ≡ or_no_claim f.claim p.line
  unfolding run lines_of parts_at
  answer_end = ap (or_no_claim f.claim) (omega arith)
