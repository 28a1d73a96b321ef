-- What opening a beginning comes to: 01's answer but for a missing claim, an open file, and with one line more what that line
-- comes to after the others.
use Prim.Native.Nat.{ℕ, ◌+◌, ◌≤◌}
use native.Mathlib.Omega.{arith}
use mathlib.Core.Path.{◌≡◌, refl, sym, ap, ap₂, ◌∙◌}
use mathlib.Core.Bool.{Bool, true, false}
use mathlib.Core.List.Memᴰ
use mathlib.Core.List.{List, [], ◌∷◌, ◌++◌}
use mathlib.Core.Option.{Option, none, some}
use lib.Dec.{ltb}
use lib.ListN.{length}
use borrow.Author.Tests.{ltb-false, le-ltb}
use Rattle.equilibrium.specs.Meaning.{◌∈◌}
use Rattle.format.specs.Text.{Bytes, Lines, lines_of}
use Rattle.format.specs.File.{Name, Model, Claim, Body, Stage, in_atoms, in_formulas, in_rows, modelled, claimed, File, no_file, atoms_given}
use Rattle.format.specs.Line.{Line, atom_line, formula_line, row_line, model_line, claim_line, line_of}
use Rattle.format.specs.Tables.{Lent, too_short, join_all, name_record, encode_body, most_bytes}
use Rattle.format.specs.Tests.{◌when◌, first, rank, model_line_tests, claim_tests}
use Rattle.format.specs.Model.{claim_model_tests}
use Rattle.format.specs.Judged.{Place, Outcome, next, refused, settled, step, after, below, run, top, beginning, number_in, turned_down, or_no_claim, finish}
use Rattle.format.specs.Judged.{whole_tests, judged, Said, saying, said_after}
use Rattle.format.specs.Judged.{or_whole as wholeOr}
use Rattle.format.specs.Good.{Good}
use Rattle.format.proofs.Tested.{passes}
use Rattle.format.proofs.Beginnings.{run_good, good_start}
use Rattle.format.proofs.Stepping.{step_model, step_claim, step_claim_refused, step_refused}
use Rattle.format.proofs.Fold.{place_after, run_append, refused_stays}
use Rattle.counts.specs.Counts.{counts_of, no_counts}
use Rattle.bodies.specs.Open.{Tables, lent_of, filled, IsOpen}
use Rattle.open.specs.Files.{closed, or_whole, opened, opening_ruling, opening_contents, opening_counts, UpToRows, IsLater, model, claim}
use Rattle.open.proofs.Adding.{filled_open}
use Rattle.open.proofs.JoinedLines.{lines_append}

-- what is known of the file of a beginning that is not refused
pub beginning_good : (text : Bytes) (f : File) → beginning text ≡ next f → Good (lines_of text).complete f
unfolding beginning
beginning_good text f e = run_good top (lines_of text).complete good_start e

-- without an M line and a C line it has come no further than its rows
pub no_later_line : (text : Bytes) (f : File) → beginning text ≡ next f → f.model ≡ none → f.claim ≡ none → rank f.stage ≤ rank in_rows
no_later_line text f e unmodelled unclaimed = by_stage f.stage refl
  where
    g : Good (lines_of text).complete f
    g = beginning_good text f e

    absent : {X : Type 0} {o : Option X} → o ≡ none → (x : X) × (o ≡ some x) → ⊥
    absent a s = let k = s.1 in let z : ◌≡◌ {A = ℕ} 0 1 = cc in omega arith

    by_stage : (s : Stage) → f.stage ≡ s → rank s ≤ rank in_rows
    by_stage in_atoms k = omega arith
    by_stage in_formulas k = omega arith
    by_stage in_rows k = omega arith
    by_stage modelled k = absurd (absent unmodelled (g.model_made (ap rank k)))
    by_stage claimed k = absurd (absent unclaimed (g.claim_made (ap rank k)))

-- lines of which none is an M line say no model
unmodelled : (ls : List Bytes) (s : Said) → ((l : Bytes) (atoms : List ℕ) → l ∈ ls → line_of l ≡ some (model_line atoms) → ⊥)
    → (said_after s ls).model ≡ s.model
unmodelled [] s h = refl
unmodelled (l ∷ ls) s h = unmodelled ls (saying s (line_of l)) (λ k atoms m e. h k atoms (Memᴰ.tail m) e) ∙ by_line (line_of l) refl
  where
    by_line : (o : Option Line) → line_of l ≡ o → (saying s o).model ≡ s.model
    by_line none e = refl
    by_line (some (atom_line n name)) e = refl
    by_line (some (formula_line n node)) e = refl
    by_line (some (row_line n r)) e = refl
    by_line (some (model_line atoms)) e = absurd (h l atoms (Memᴰ.head refl) e)
    by_line (some (claim_line left right)) e = refl

-- so a beginning of A, F and N lines has come no further than its rows
pub up_to_rows : (text : Bytes) (f : File) → beginning text ≡ next f → UpToRows text → rank f.stage ≤ rank in_rows
up_to_rows text f e u = no_later_line text f e (no_model f.model refl) (no_claim f.claim refl)
  where
    g : Good (lines_of text).complete f
    g = beginning_good text f e

    said : atoms_given f.model ≡ none
    said = sym (ap (λ (s : Said). s.model) g.said) ∙ unmodelled (lines_of text).complete _ u.no_model

    no_model : (m : Option Model) → f.model ≡ m → m ≡ none
    no_model none k = refl
    no_model (some m) k = let given : some m.atoms ≡ none = ap atoms_given (sym k) ∙ said in let z : ◌≡◌ {A = ℕ} 0 1 = cc in absurd (omega arith)

    no_claim : (c : Option Claim) → f.claim ≡ c → c ≡ none
    no_claim none k = refl
    no_claim (some c) k = let line = g.claim_said c k in absurd (u.no_claim line.0 c.left c.right line.1 line.2)

-- what opening a text came to

pub record IsOpened (lent : Lent) (text : Bytes) (f : File) : Type 0 where
  pub long : too_short lent ≡ false
  pub short : length text ≤ most_bytes
  pub lines : beginning text ≡ next f
  pub rest : (lines_of text).rest ≡ []

pub opened_next : (lent : Lent) (text : Bytes) (f : File) → opened lent text ≡ next f → IsOpened lent text f
unfolding opened
opened_next lent text f e = whole (first (whole_tests lent text)) refl e
  where
    last : (o : Outcome File) (rest : Bytes) (l : ℕ) → closed o rest l ≡ next f → (o ≡ next f) × (rest ≡ [])
    last (refused n k) rest l h = let z : ◌≡◌ {A = ℕ} 0 1 = cc in absurd (omega arith)
    last (next g) [] l h = (h, refl)
    last (next g) (b ∷ bs) l h = let z : ◌≡◌ {A = ℕ} 0 1 = cc in absurd (omega arith)

    whole : (o : Option ℕ) → first (whole_tests lent text) ≡ o
        → or_whole o (closed (beginning text) (lines_of text).rest (length (lines_of text).complete + 1)) ≡ next f → IsOpened lent text f
    whole none k h =
        let both = last (beginning text) (lines_of text).rest (length (lines_of text).complete + 1) h in
        record {
          long = passes 1 (whole_tests lent text) k;
          short = ltb-false most_bytes (length text) (passes 2 (whole_tests lent text) k);
          lines = both.0;
          rest = both.1;
        }
    whole (some n) k h = let z : ◌≡◌ {A = ℕ} 0 1 = cc in absurd (omega arith)

-- lines are refused with 3 or more
run_refused : (p : Place) (ls : List Bytes) (f : File) (n l : ℕ) → run step p ls f ≡ refused n l → 3 ≤ n
unfolding run
run_refused p [] f n l e = let z : ◌≡◌ {A = ℕ} 0 1 = cc in absurd (omega arith)
run_refused p (x ∷ xs) f n l e = by_step (step f p x) refl e (run_refused (below p x) xs)
  where
    by_step : (o : Outcome File) → step f p x ≡ o → after o (run step (below p x) xs) ≡ refused n l
        → ((g : File) (m k : ℕ) → run step (below p x) xs g ≡ refused m k → 3 ≤ m) → 3 ≤ n
    by_step (next g) s h rest = rest g n l h
    by_step (refused m k) s h rest = let same : m ≡ n = cc in omega (arith, step_refused f p x m k s)

-- The number of opening is 0 only where a file is opened.
pub opened_zero : (lent : Lent) (text : Bytes) → number_in (opening_ruling (opened lent text) text) ≡ 0 → (f : File) × (opened lent text ≡ next f)
unfolding opened beginning
opened_zero lent text e = whole (too_short lent) (ltb most_bytes (length text)) e
  where
    lines : Outcome File
    lines = closed (beginning text) (lines_of text).rest (length (lines_of text).complete + 1)

    last : (o : Outcome File) → beginning text ≡ o → (rest : Bytes) (l : ℕ) → number_in (opening_ruling (closed o rest l) text) ≡ 0
        → (f : File) × (closed o rest l ≡ next f)
    last (next f) k [] l h = (f, refl)
    last (next f) k (b ∷ bs) l h = absurd (omega (arith, h))
    last (refused n j) k rest l h = absurd (omega (arith, h, run_refused top (lines_of text).complete no_file n j k))

    whole : (short long : Bool) → number_in (opening_ruling (or_whole (first ((1 when short) ∷ (2 when long) ∷ [])) lines) text) ≡ 0
        → (f : File) × (or_whole (first ((1 when short) ∷ (2 when long) ∷ [])) lines ≡ next f)
    whole true long h = absurd (omega (arith, h))
    whole false true h = absurd (omega (arith, h))
    whole false false h = last (beginning text) refl (lines_of text).rest _ h

-- no text is refused as a whole in tables that are long enough, if it is not too long
whole_passes : (lent : Lent) (text : Bytes) → too_short lent ≡ false → length text ≤ most_bytes → first (whole_tests lent text) ≡ none
whole_passes lent text long short =
    ap₂ (λ (i j : Bool). first ((1 when i) ∷ (2 when j) ∷ [])) long (le-ltb most_bytes (length text) short)

-- it opens to what its lines come to
pub opened_lines : (lent : Lent) (text : Bytes) → too_short lent ≡ false → length text ≤ most_bytes
    → opened lent text ≡ closed (beginning text) (lines_of text).rest (length (lines_of text).complete + 1)
unfolding opened
opened_lines lent text long short =
    ap (λ (o : Option ℕ). or_whole o (closed (beginning text) (lines_of text).rest (length (lines_of text).complete + 1))) (whole_passes lent text long short)

-- Tables filled with the body of an opened text, with its counts, are an open file.
pub opened_open : (lent : Lent) (t : Tables) (text : Bytes) (f : File) → too_short (lent_of t) ≡ false → opened lent text ≡ next f
    → IsOpen (filled t f.body) (counts_of f.body) f.body
opened_open lent t text f long e = filled_open t f.body long (beginning_good text f (opened_next lent text f e).lines).body

-- A text that is refused leaves nothing: no contents, so zeros in all five tables, and zero counts.
pub refused_nothing : (lent : Lent) (text : Bytes) (n l : ℕ) → opened lent text ≡ refused n l
    → (opening_contents (opened lent text) ≡ record { names = []; formulas = []; rows = []; left = []; right = [] })
    × (opening_counts (opened lent text) ≡ no_counts)
refused_nothing lent text n l e = (ap opening_contents e, ap opening_counts e)

-- What 01 answers to a text: the same refusal, if opening refuses it, and else acceptance if there is a claim and 13 if there is none.

pub opened_as_judged : (lent : Lent) (text : Bytes) (n l : ℕ) → opened lent text ≡ refused n l → judged lent text ≡ turned_down n l
unfolding opened judged beginning
opened_as_judged lent text n l e = whole (first (whole_tests lent text)) e
  where
    last : (o : Outcome File) (rest : Bytes) (j k : ℕ) → j ≡ k → closed o rest j ≡ refused n l → finish o rest k ≡ turned_down n l
    last (refused m i) rest j k s h = cc
    last (next f) [] j k s h = let z : ◌≡◌ {A = ℕ} 0 1 = cc in absurd (omega arith)
    last (next f) (b ∷ bs) j k s h = cc

    whole : (o : Option ℕ) → or_whole o (closed (beginning text) (lines_of text).rest (length (lines_of text).complete + 1)) ≡ refused n l
        → wholeOr o (finish (beginning text) (lines_of text).rest (1 + length (lines_of text).complete)) ≡ turned_down n l
    whole none h = last (beginning text) (lines_of text).rest _ _ (omega arith) h
    whole (some m) h = cc

pub opened_judged : (lent : Lent) (text : Bytes) (f : File) → opened lent text ≡ next f
    → judged lent text ≡ or_no_claim f.claim (length (lines_of text).complete + 1)
unfolding judged beginning
opened_judged lent text f e =
    let o = opened_next lent text f e in
    ap (λ (q : Option ℕ). wholeOr q (finish (beginning text) (lines_of text).rest (1 + length (lines_of text).complete)))
    (whole_passes lent text o.long o.short)
    ∙ ap₂ (λ (q : Outcome File) (rest : Bytes). finish q rest (1 + length (lines_of text).complete)) o.lines o.rest
    ∙ ap (or_no_claim f.claim) (omega arith)

-- the text with one line more

closed_empty : (o : Outcome File) (l : ℕ) → closed o [] l ≡ o
closed_empty (next f) l = refl
closed_empty (refused n k) l = refl

-- the place after the lines of a text
abbrev pub place_in : Bytes → Place
place_in text = place_after top (lines_of text).complete

module _ (text x l : Bytes) (none_left : (lines_of text).rest ≡ []) (one : lines_of x ≡ record { complete = l ∷ []; rest = [] }) where
  pub lines_more : lines_of (text ++ x) ≡ record { complete = (lines_of text).complete ++ l ∷ []; rest = [] }
  lines_more = lines_append text x none_left ∙ ap (λ (ls : Lines). record { complete = (lines_of text).complete ++ ls.complete; rest = ls.rest }) one

  pub beginning_more : (f : File) → beginning text ≡ next f → beginning (text ++ x) ≡ step f (place_in text) l
  unfolding beginning run
  beginning_more f e =
      ap (λ (ls : Lines). run step top ls.complete no_file) lines_more
      ∙ run_append step top (lines_of text).complete (l ∷ []) no_file
      ∙ ap (λ (q : Outcome File). after q (run step (place_in text) (l ∷ []))) e
      ∙ alone (step f (place_in text) l)
    where
      alone : (q : Outcome File) → after q (λ g. next g) ≡ q
      alone (next g) = refl
      alone (refused n k) = refl

-- it opens to what the line comes to
pub opened_more : (lent : Lent) (text x l : Bytes) (f : File) → IsOpened lent text f → lines_of x ≡ record { complete = l ∷ []; rest = [] }
    → length (text ++ x) ≤ most_bytes → opened lent (text ++ x) ≡ step f (place_in text) l
opened_more lent text x l f o one short =
    opened_lines lent (text ++ x) o.long short
    ∙ ap (λ (b : Bytes). closed (beginning (text ++ x)) b (length (lines_of (text ++ x)).complete + 1))
    (ap (λ (ls : Lines). ls.rest) (lines_more text x l o.rest one))
    ∙ closed_empty (beginning (text ++ x)) (length (lines_of (text ++ x)).complete + 1)
    ∙ beginning_more text x l o.rest one f o.lines

-- An M line or a C line leaves what was opened: the same contents and the same counts.
pub later_line : (lent : Lent) (text x l : Bytes) (f g : File) → opened lent text ≡ next f → lines_of x ≡ record { complete = l ∷ []; rest = [] }
    → IsLater (line_of l) → opened lent (text ++ x) ≡ next g
    → (opening_contents (opened lent (text ++ x)) ≡ opening_contents (opened lent text))
    × (opening_counts (opened lent (text ++ x)) ≡ opening_counts (opened lent text))
later_line lent text x l f g e one later e' = (
  ap opening_contents e' ∙ ap₂ (λ (ns : List Name) (b : Body). encode_body (join_all name_record ns) b) same.0 same.1 ∙ sym (ap opening_contents e),
  ap opening_counts e' ∙ ap counts_of same.1 ∙ sym (ap opening_counts e),
)
  where
    Same : Type 0
    Same = (g.names ≡ f.names) × (g.body ≡ f.body)

    stepped : step f (place_in text) l ≡ next g
    stepped = sym (opened_more lent text x l f (opened_next lent text f e) one (opened_next lent (text ++ x) g e').short) ∙ e'

    -- the file with a stage, a model and a claim of its own
    settles : (o : Option ℕ) (k : ℕ) (h : File) → h.names ≡ f.names → h.body ≡ f.body → settled o k h ≡ next g → Same
    settles none k h n b s = (sym (ap names_in s) ∙ n, sym (ap body_in s) ∙ b)
      where
        names_in : Outcome File → List Name
        names_in (next v) = v.names
        names_in (refused m j) = []

        body_in : Outcome File → Body
        body_in (next v) = v.body
        body_in (refused m j) = f.body
    settles (some m) k h n b s = let z : ◌≡◌ {A = ℕ} 0 1 = cc in absurd (omega arith)

    by_line : (o : Option Line) → line_of l ≡ o → IsLater o → Same
    by_line o k (model atoms) =
        settles (first (model_line_tests f atoms)) _ _ refl refl (sym (step_model f (place_in text) l atoms k) ∙ stepped)
    by_line o k (claim left right) = by_claim (first (claim_tests f left right)) refl
      where
        by_claim : (q : Option ℕ) → first (claim_tests f left right) ≡ q → Same
        by_claim none t =
            settles (first (claim_model_tests f left right)) _ _ refl refl (sym (step_claim f (place_in text) l left right k t) ∙ stepped)
        by_claim (some m) t =
            let no : refused m (place_in text).line ≡ next g = sym (step_claim_refused f (place_in text) l left right k m t) ∙ stepped in
            let z : ◌≡◌ {A = ℕ} 0 1 = cc in
            absurd (omega arith)

    same : Same
    same = by_line (line_of l) refl later

-- lines that are refused stay refused, whatever follows
pub opened_stays : (lent : Lent) (text ys : Bytes) (n k : ℕ) → too_short lent ≡ false → (lines_of text).rest ≡ [] → length (text ++ ys) ≤ most_bytes
    → beginning text ≡ refused n k → opened lent (text ++ ys) ≡ refused n k
unfolding beginning
opened_stays lent text ys n k long none_left short e =
    opened_lines lent (text ++ ys) long short
    ∙ ap (λ (o : Outcome File). closed o (lines_of (text ++ ys)).rest (length (lines_of (text ++ ys)).complete + 1))
    (ap (λ (ls : Lines). run step top ls.complete no_file) (lines_append text ys none_left)
    ∙ refused_stays step top (lines_of text).complete (lines_of ys).complete no_file n k e)
