-- Two texts that mean the same get the same answer and the same tables (paper 02, M-102). Places in the text differ where a run is
-- shorter than its list, but only after the A lines, whose names' starts are all that the tables keep of places.
use Prim.Native.Nat.{ℕ, ◌+◌, ◌≤◌}
use native.Mathlib.Omega.{arith}
use mathlib.Core.Path.{◌≡◌, refl, sym, ap, ap₂, subst, ◌∙◌}
use mathlib.Core.Bool.{Bool, true, false, cond}
use mathlib.Core.List.{List, [], ◌∷◌, map}
use mathlib.Core.Logic.{◌↔◌}
use mathlib.Core.Option.{Option, none, some}
use lib.Dec.{eqb}
use lib.ListN.{length, length-map}
use borrow.Author.Tests.{eqb-true, le-ltb}
use Rattle.format.specs.Text.{Bytes, bytes, tab, fields_of, lines_of, is, number_of, side_of, ◌<$>◌, ◌<*>◌}
use Rattle.format.specs.File.{in_atoms, File, no_file}
use Rattle.format.specs.Line.{Line, atom_line, formula_line, row_line, model_line, claim_line, field_at, node_of, row_of, line_of}
use Rattle.format.specs.Line.{atom_fields, formula_fields, row_fields, model_fields, claim_fields, of_kind}
use Rattle.format.specs.Tables.{Lent, too_short, most_bytes}
use Rattle.format.specs.Tests.{first, rank, atom_tests, formula_tests, row_tests, model_line_tests, claim_tests}
use Rattle.format.specs.Model.{claim_model_tests}
use Rattle.format.specs.Judged.{Place, Outcome, next, refused, settled, after, name_start, reported_on, step_read, step, below, run, top, beginning}
use Rattle.format.specs.Judged.{with_atom, with_node, with_row, with_model, with_claim, finish, whole_tests, or_whole, judged, held_by, contents}
use Rattle.format.specs.Written.{parted}
use Rattle.format.specs.Same.{MeanTheSame}
use Rattle.format.proofs.Booleans.{same_list_lem}
use Rattle.format.proofs.Tested.{passes, in_order}
use Rattle.format.proofs.Stepping.{step_bad, step_well}
use Rattle.format.proofs.Beginnings.{settled_next}
use Rattle.format.proofs.Joined.{parted_back}
use Rattle.format.proofs.Sides.{only_some}
use Rattle.format.proofs.NumberWritten.{number_injective}

-- ---- A lines that are read the same are the same

-- the fields of an A line
record AtomFields (n : ℕ) (name : Bytes) (fields : List Bytes) : Type 0 where
  number : Bytes
  are : fields ≡ bytes "A" ∷ number ∷ name ∷ []
  reads : number_of number ≡ some n

module _ (n : ℕ) (name : Bytes) where
  -- what is made otherwise is no A line
  not_made : {X : Type 0} (f : X → Line) → ((x : X) → f x ≡ atom_line n name → ⊥) → (o : Option X) → (λ x. f x) <$> o ≡ some (atom_line n name) → ⊥
  not_made f other none e = let z : ◌≡◌ {A = ℕ} 0 1 = cc in omega arith
  not_made f other (some x) e = other x cc

  not_made₂ : {X Y : Type 0} (f : X → Y → Line) → ((x : X) (y : Y) → f x y ≡ atom_line n name → ⊥) → (o : Option X) (w : Option Y)
      → (λ x y. f x y) <$> o <*> w ≡ some (atom_line n name) → ⊥
  not_made₂ f other none w e = let z : ◌≡◌ {A = ℕ} 0 1 = cc in omega arith
  not_made₂ f other (some x) w e = not_made (f x) (other x) w e

  formula_none : (fields : List Bytes) → formula_fields fields ≡ some (atom_line n name) → ⊥
  unfolding formula_fields
  formula_none fields e =
      not_made₂ (λ i node. formula_line i node) (λ i node h. let z : ◌≡◌ {A = ℕ} 0 1 = cc in omega arith)
      (number_of (field_at fields 0)) (node_of (field_at fields 1) (field_at fields 2) (field_at fields 3)) (only_some (eqb (length fields) 4) _ _ e).1

  row_none : (fields : List Bytes) → row_fields fields ≡ some (atom_line n name) → ⊥
  unfolding row_fields
  row_none fields e =
      not_made₂ (λ i r. row_line i r) (λ i r h. let z : ◌≡◌ {A = ℕ} 0 1 = cc in omega arith) (number_of (field_at fields 0))
      (row_of (field_at fields 1) (field_at fields 2) (field_at fields 3) (field_at fields 4) (field_at fields 5)) (only_some (eqb (length fields) 6) _ _ e).1

  model_none : (fields : List Bytes) → model_fields fields ≡ some (atom_line n name) → ⊥
  unfolding model_fields
  model_none fields e =
      not_made (λ atoms. model_line atoms) (λ atoms h. let z : ◌≡◌ {A = ℕ} 0 1 = cc in omega arith) (side_of (field_at fields 0))
      (only_some (eqb (length fields) 1) _ _ e).1

  claim_none : (fields : List Bytes) → claim_fields fields ≡ some (atom_line n name) → ⊥
  unfolding claim_fields
  claim_none fields e =
      not_made₂ (λ l r. claim_line l r) (λ l r h. let z : ◌≡◌ {A = ℕ} 0 1 = cc in omega arith)
      (side_of (field_at fields 0)) (side_of (field_at fields 1)) (only_some (eqb (length fields) 2) _ _ e).1

  atom_fields_lem : (kind : Bytes) (fields : List Bytes) → kind ≡ bytes "A" → atom_fields fields ≡ some (atom_line n name) → AtomFields n name (kind ∷ fields)
  unfolding atom_fields
  atom_fields_lem kind fields h e =
      let counted = only_some (eqb (length fields) 2) _ _ e in
      made fields (eqb-true (length fields) 2 counted.0) counted.1
    where
      read : (number written : Bytes) (o : Option ℕ) → number_of number ≡ o → (λ m. atom_line m written) <$> o ≡ some (atom_line n name)
          → AtomFields n name (kind ∷ number ∷ written ∷ [])
      read number written none q k = let z : ◌≡◌ {A = ℕ} 0 1 = cc in absurd (omega arith)
      read number written (some m) q k =
          let same_name : written ≡ name = cc in
          let same_number : ◌≡◌ {A = Option ℕ} (some m) (some n) = cc in
          record { number = number; are = ap₂ (λ (w v : Bytes). w ∷ number ∷ v ∷ []) h same_name; reads = q ∙ same_number }

      made : (fields : List Bytes) → length fields ≡ 2 → (λ m. atom_line m (field_at fields 1)) <$> number_of (field_at fields 0) ≡ some (atom_line n name)
          → AtomFields n name (kind ∷ fields)
      made [] l k = absurd (omega arith)
      made (number ∷ []) l k = absurd (omega arith)
      made (number ∷ written ∷ []) l k = read number written (number_of number) refl k
      made (number ∷ written ∷ f ∷ fs) l k = absurd (omega arith)

  atom_kind : (fields : List Bytes) → of_kind fields ≡ some (atom_line n name) → AtomFields n name fields
  atom_kind [] e = let z : ◌≡◌ {A = ℕ} 0 1 = cc in absurd (omega arith)
  atom_kind (kind ∷ fields) e = by_test (is "A" kind) refl (is "F" kind) (is "N" kind) (is "M" kind) (is "C" kind) e
    where
      by_test : (a : Bool) → is "A" kind ≡ a → (f r m c : Bool)
          → cond a (atom_fields fields) (
          cond f (formula_fields fields) (cond r (row_fields fields) (cond m (model_fields fields) (cond c (claim_fields fields) none)))) ≡ some (atom_line n name)
          → AtomFields n name (kind ∷ fields)
      by_test true h f r m c k = atom_fields_lem kind fields (same_list_lem kind (bytes "A") h) k
      by_test false h true r m c k = absurd (formula_none fields k)
      by_test false h false true m c k = absurd (row_none fields k)
      by_test false h false false true c k = absurd (model_none fields k)
      by_test false h false false false true k = absurd (claim_none fields k)
      by_test false h false false false false k = let z : ◌≡◌ {A = ℕ} 0 1 = cc in absurd (omega arith)

  atom_lines_same : (one other : Bytes) → line_of one ≡ some (atom_line n name) → line_of other ≡ some (atom_line n name) → one ≡ other
  unfolding line_of fields_of
  atom_lines_same one other e k =
      let a = atom_kind (fields_of one) e in
      let b = atom_kind (fields_of other) k in
      let number = number_injective a.number b.number n a.reads b.reads in
      let fields : fields_of one ≡ fields_of other = a.are ∙ ap (λ (m : Bytes). bytes "A" ∷ m ∷ name ∷ []) number ∙ sym b.are in
      sym (parted_back tab one) ∙ ap (parted tab) fields ∙ parted_back tab other

-- ---- one line, and the lines from one on

-- two places of the same line; as long as A lines may follow, of the same byte
record SamePlace (f : File) (p q : Place) : Type 0 where
  line : p.line ≡ q.line
  start : rank f.stage ≤ 0 → p.start ≡ q.start

-- both come to the same, and the places below are the same again
record SameStep (f : File) (p q : Place) (one other : Bytes) : Type 0 where
  outcome : step f p one ≡ step f q other
  places : (t : File) → step f p one ≡ next t → SamePlace t (below p one) (below q other)

-- after a line of a later stage no A line may follow
settled_later : (o : Option ℕ) (at : ℕ) (u : File) → 1 ≤ rank u.stage → (t : File) → settled o at u ≡ next t → 1 ≤ rank t.stage
settled_later o at u h t e = subst (λ (v : File). 1 ≤ rank v.stage) (settled_next o at u t e).1 h

module _ (f : File) (p q : Place) (one other : Bytes) (same : SamePlace f p q) where
  -- a line of a later stage: what it comes to depends on its number alone
  by_number : (l : Line) → line_of one ≡ some l → line_of other ≡ some l → (made : ℕ → Outcome File) → step_read f p one l ≡ made p.line
      → step_read f q other l ≡ made q.line → ((t : File) → made p.line ≡ next t → 1 ≤ rank t.stage) → SameStep f p q one other
  by_number l e k made was now later =
      let here : step f p one ≡ made p.line = step_well f p one l e ∙ was in
      record {
        outcome = here ∙ ap made same.line ∙ sym (step_well f q other l k ∙ now);
        places = λ t m. record { line = ap (λ (n : ℕ). n + 1) same.line; start = λ h. absurd (omega (arith, h, later t (sym here ∙ m))) };
      }

  step_atom_same : (n : ℕ) (name : Bytes) → line_of one ≡ some (atom_line n name) → line_of other ≡ some (atom_line n name) → SameStep f p q one other
  unfolding step_read
  step_atom_same n name e k =
      record {
        outcome = was ∙ agree (first (atom_tests f n name)) (λ z. ap₂ name_from (starts z) bytes_same) ∙ sym now;
        places = λ t m.
            let start = starts (settled_next (first (atom_tests f n name)) p.line _ t (sym was ∙ m)).0 in
            record {
              line = ap (λ (l : ℕ). l + 1) same.line;
              start = λ h. ap₂ (λ (s : ℕ) (l : Bytes). s + length l + 1) start bytes_same;
            };
      }
    where
      bytes_same : one ≡ other
      bytes_same = atom_lines_same n name one other e k

      -- as `name_start`, by the start alone
      name_from : ℕ → Bytes → ℕ
      name_from s line = name_start (record { line = 0; start = s }) line

      was : step f p one ≡ settled (first (atom_tests f n name)) p.line (with_atom f (name_from p.start one) name)
      was = step_well f p one (atom_line n name) e

      now : step f q other ≡ settled (first (atom_tests f n name)) q.line (with_atom f (name_from q.start other) name)
      now = step_well f q other (atom_line n name) k

      starts : first (atom_tests f n name) ≡ none → p.start ≡ q.start
      starts z = same.start (in_order f.stage in_atoms f.body.atoms n (passes 4 (atom_tests f n name) z))

      agree : (o : Option ℕ) → (o ≡ none → name_from p.start one ≡ name_from q.start other)
          → settled o p.line (with_atom f (name_from p.start one) name) ≡ settled o q.line (with_atom f (name_from q.start other) name)
      agree none h = ap (λ (s : ℕ). next (with_atom f s name)) (h refl)
      agree (some m) h = ap (refused m) same.line

  step_same : (o : Option Line) → line_of one ≡ o → line_of other ≡ o → SameStep f p q one other
  unfolding step_read
  step_same none e k =
      let was = step_bad f p one e in
      record {
        outcome = was ∙ ap (refused 3) same.line ∙ sym (step_bad f q other k);
        places = λ t m. let z : refused 3 p.line ≡ next t = sym was ∙ m in let w : ◌≡◌ {A = ℕ} 0 1 = cc in absurd (omega arith);
      }
  step_same (some (atom_line n name)) e k = step_atom_same n name e k
  step_same (some (formula_line n node)) e k =
      by_number (formula_line n node) e k (λ at. settled (first (formula_tests f n node)) at (with_node f node)) refl refl
      (settled_later (first (formula_tests f n node)) p.line (with_node f node) (omega arith))
  step_same (some (row_line n r)) e k =
      by_number (row_line n r) e k (λ at. settled (first (row_tests f n r)) at (with_row f r)) refl refl
      (settled_later (first (row_tests f n r)) p.line (with_row f r) (omega arith))
  step_same (some (model_line atoms)) e k =
      by_number (model_line atoms) e k (λ at. settled (first (model_line_tests f atoms)) at (with_model f (record { line = at; atoms = atoms }))) refl refl
      (settled_later (first (model_line_tests f atoms)) p.line _ (omega arith))
  step_same (some (claim_line l r)) e k =
      by_number (claim_line l r) e k (λ at. after (settled (first (claim_tests f l r)) at f) (judging at)) refl refl
      (λ t m. claimed_later (first (claim_tests f l r)) t m)
    where
      judging : ℕ → File → Outcome File
      judging at g = settled (first (claim_model_tests g l r)) (reported_on g.model at) (with_claim g (record { line = at; left = l; right = r }))

      claimed_later : (o : Option ℕ) (t : File) → after (settled o p.line f) (judging p.line) ≡ next t → 1 ≤ rank t.stage
      claimed_later none t m = settled_later (first (claim_model_tests f l r)) (reported_on f.model p.line) _ (omega arith) t m
      claimed_later (some n) t m = let z : ◌≡◌ {A = ℕ} 0 1 = cc in absurd (omega arith)

run_same : (ls ms : List Bytes) (f : File) (p q : Place) → SamePlace f p q → map line_of ls ≡ map line_of ms → run step p ls f ≡ run step q ms f
unfolding run
run_same [] [] f p q s e = refl
run_same [] (m ∷ ms) f p q s e = let z : ◌≡◌ {A = ℕ} 0 1 = cc in absurd (omega arith)
run_same (l ∷ ls) [] f p q s e = let z : ◌≡◌ {A = ℕ} 0 1 = cc in absurd (omega arith)
run_same (l ∷ ls) (m ∷ ms) f p q s e =
    let head : line_of l ≡ line_of m = cc in
    let tail : map line_of ls ≡ map line_of ms = cc in
    let here = step_same f p q l m s (line_of l) refl (sym head) in
    further (step f p l) here.places (λ t r. run_same ls ms t (below p l) (below q m) r tail)
    ∙ ap (λ (o : Outcome File). after o (run step (below q m) ms)) here.outcome
  where
    further : (o : Outcome File) → ((t : File) → o ≡ next t → SamePlace t (below p l) (below q m))
        → ((t : File) → SamePlace t (below p l) (below q m) → run step (below p l) ls t ≡ run step (below q m) ms t)
        → after o (run step (below p l) ls) ≡ after o (run step (below q m) ms)
    further (next t) places rest = rest t (places t refl)
    further (refused n i) places rest = refl

-- ---- texts

finish_same : (o : Outcome File) (one other : Bytes) (n : ℕ) → (one ≡ []) ↔ (other ≡ []) → finish o one n ≡ finish o other n
finish_same (refused m k) one other n h = refl
finish_same (next f) [] [] n h = refl
finish_same (next f) [] (b ∷ bs) n h = let k : ◌≡◌ {A = Bytes} (b ∷ bs) [] = h.0 refl in let z : ◌≡◌ {A = ℕ} 0 1 = cc in absurd (omega arith)
finish_same (next f) (a ∷ cs) [] n h = let k : ◌≡◌ {A = Bytes} (a ∷ cs) [] = h.1 refl in let z : ◌≡◌ {A = ℕ} 0 1 = cc in absurd (omega arith)
finish_same (next f) (a ∷ cs) (b ∷ bs) n h = refl

pub beginning_same : (one other : Bytes) → MeanTheSame one other → beginning one ≡ beginning other
unfolding beginning
beginning_same one other s = run_same (lines_of one).complete (lines_of other).complete no_file top top (record { line = refl; start = λ h. refl }) s.lines

-- two texts that are not too long and mean the same get the same answer, number and line, and the same tables
pub same_meaning_same_answer : (t : Lent) (one other : Bytes) → length one ≤ most_bytes → length other ≤ most_bytes → MeanTheSame one other
    → (judged t one ≡ judged t other) × (contents t one ≡ contents t other)
unfolding judged contents beginning
same_meaning_same_answer t one other h k s = (answer, ap₂ held_by answer held)
  where
    held : beginning one ≡ beginning other
    held = beginning_same one other s

    count : length (lines_of one).complete ≡ length (lines_of other).complete
    count = sym (length-map (lines_of one).complete line_of) ∙ ap length s.lines ∙ length-map (lines_of other).complete line_of

    whole : first (whole_tests t one) ≡ first (whole_tests t other)
    whole =
        ap (λ (long : Bool). cond (too_short t) (some 1) (cond long (some 2) none))
        (le-ltb most_bytes (length one) h ∙ sym (le-ltb most_bytes (length other) k))

    answer : judged t one ≡ judged t other
    answer =
        ap₂ or_whole whole (finish_same (beginning one) (lines_of one).rest (lines_of other).rest _ s.ended
        ∙ ap₂ (λ (o : Outcome File) (n : ℕ). finish o (lines_of other).rest (1 + n)) held count)
