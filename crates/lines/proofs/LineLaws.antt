-- Lines of any kind: what is read of one by its kind and the count of its fields, the number that it earns, what a line
-- that is refused comes to and one that passes, and what the tables hold.
use Prim.Native.Nat.{ℕ, zero, suc, ◌+◌, ◌%◌, ◌≤◌}
use native.Mathlib.Omega.{arith}
use mathlib.Core.Path.{◌≡◌, refl, sym, ap, ap₂, ◌∙◌}
use mathlib.Core.Bool.{Bool, true, false, cond}
use mathlib.Core.List.Memᴰ
use mathlib.Core.List.{List, [], ◌∷◌, ◌++◌}
use mathlib.Core.Option.{Option, none, some}
use lib.Dec.{leb}
use lib.ListN.{length, get_or, take, drop, length-append, length-take, length-drop}
use borrow.Author.Tests.{eq-eqb, ne_eqb, leb-true}
use Rattle.elk.specs.Rules.{Rule}
use Rattle.format.specs.Text.{Bytes, bytes, ◌<$>◌, ◌<*>◌, only_if, fields_of, same_list, number_of, principal_of, premise_list_of, side_of}
use Rattle.format.specs.File.{File}
use Rattle.format.specs.Line.{
  Line,
  atom_line,
  formula_line,
  row_line,
  model_line,
  claim_line,
  node_of,
  rule_of,
  make_row,
  of_fields,
  atom_fields,
  formula_fields,
  row_fields,
  model_fields,
  claim_fields,
  of_kind,
  line_of,
}
use Rattle.format.specs.Tables.{padded, join_all, most_on_side}
use Rattle.format.specs.Judged.{Place, Outcome, next, refused, settled, step}
use Rattle.format.specs.Good.{Good}
use Rattle.format.proofs.Stepping.{step_bad}
use Rattle.text.specs.Lists.{laid_over, listed_of, listed_as}
use Rattle.text.specs.declared.lists.Listed.{Listed}
use Rattle.tables.specs.Records.{written}
use Rattle.tables.specs.Holding.{HoldsNodes, HoldsRows}
use Rattle.tables.proofs.Encoded.{begins_padded, put_encoded}
use Rattle.early.specs.Early.{numbered}
use Rattle.rows.specs.Judgement.{Ground}
use Rattle.std.specs.Prelude.{Option as Answer, None, Some, Ok, Err}
use Rattle.std.proofs.lemmas.Option.{none-some, same_Some}
use Rattle.refusals.specs.Refusals.{number_of as refusal_number}
use Rattle.refusals.specs.declared.Refusal.{Refusal}
use Rattle.refusals.specs.declared.Refusal.TheVariants.{BadLine}
use Rattle.refusals.proofs.OneNumber.{number_of-some}
use Rattle.state.specs.State.{Stepped, refused_by, Memory, SameLengths, Exactly, Stored, Steps, Keeps}
use Rattle.state.specs.Lined.{OfKind, Lined}
use Rattle.state.specs.declared.State.{State}
use Rattle.state.specs.declared.Refused.{Refused}
use Rattle.drafts.specs.Drafts.{Narrow, Laid}

-- ---- the fields of a line

not_empty : {x : ℕ} {xs : Bytes} → ◌≡◌ {A = Bytes} [] (x ∷ xs) → ⊥
not_empty e = let z : ◌≡◌ {A = ℕ} 0 1 = cc in omega arith

counted : (count : ℕ) (kind : Bytes) (fields : List Bytes) (o : Option Line) → length (kind ∷ fields) ≡ suc count → of_fields count fields o ≡ o
counted count kind fields o h = ap (λ (b : Bool). only_if b o) (eq-eqb (length fields) count (omega arith))

miscounted : (count : ℕ) (kind : Bytes) (fields : List Bytes) (o : Option Line) → (length (kind ∷ fields) ≡ suc count → ⊥) → of_fields count fields o ≡ none
miscounted count kind fields o h = ap (λ (b : Bool). only_if b o) (ne_eqb (length fields) count (λ e. h (omega arith)))

-- what the fields after the kind write, each read or badly written
abbrev pub atom_written : Bytes → Option ℕ → Option Line
atom_written name number = (λ n. atom_line n name) <$> number

abbrev pub model_written : Option (List ℕ) → Option Line
model_written atoms = (λ ps. model_line ps) <$> atoms

abbrev pub claim_written : Option (List ℕ) → Option (List ℕ) → Option Line
claim_written left right = (λ l r. claim_line l r) <$> left <*> right

abbrev pub row_written : Option ℕ → Option Rule → Option (Option ℕ) → Option (List ℕ) → Option (List ℕ) → Option (List ℕ) → Option Line
row_written number rule principal premises left right =
    (λ n row. row_line n row) <$> number <*> (make_row <$> rule <*> principal <*> premises <*> left <*> right)

atom_fields_lem : (fs : List Bytes) → get_or fs 0 [] ≡ bytes "A" → length fs ≡ 3 → of_kind fs ≡ atom_written (get_or fs 2 []) (number_of (get_or fs 1 []))
unfolding same_list atom_fields
atom_fields_lem [] e h = absurd (not_empty e)
atom_fields_lem (kind ∷ fs) e h = ap (λ (k : Bytes). of_kind (k ∷ fs)) e ∙ counted 2 kind fs _ h

atom_count : (fs : List Bytes) → get_or fs 0 [] ≡ bytes "A" → (length fs ≡ 3 → ⊥) → of_kind fs ≡ none
unfolding same_list atom_fields
atom_count [] e h = absurd (not_empty e)
atom_count (kind ∷ fs) e h = ap (λ (k : Bytes). of_kind (k ∷ fs)) e ∙ miscounted 2 kind fs _ h

formula_fields_lem : (fs : List Bytes) → get_or fs 0 [] ≡ bytes "F" → length fs ≡ 5
    → of_kind fs ≡ (λ n node. formula_line n node) <$> number_of (get_or fs 1 []) <*> node_of (get_or fs 2 []) (get_or fs 3 []) (get_or fs 4 [])
unfolding same_list formula_fields
formula_fields_lem [] e h = absurd (not_empty e)
formula_fields_lem (kind ∷ fs) e h = ap (λ (k : Bytes). of_kind (k ∷ fs)) e ∙ counted 4 kind fs _ h

formula_count : (fs : List Bytes) → get_or fs 0 [] ≡ bytes "F" → (length fs ≡ 5 → ⊥) → of_kind fs ≡ none
unfolding same_list formula_fields
formula_count [] e h = absurd (not_empty e)
formula_count (kind ∷ fs) e h = ap (λ (k : Bytes). of_kind (k ∷ fs)) e ∙ miscounted 4 kind fs _ h

row_fields_lem : (fs : List Bytes) → get_or fs 0 [] ≡ bytes "N" → length fs ≡ 7
    → of_kind fs
    ≡ row_written (number_of (get_or fs 1 [])) (rule_of (get_or fs 2 [])) (principal_of (get_or fs 3 [])) (premise_list_of (get_or fs 4 []))
    (side_of (get_or fs 5 [])) (side_of (get_or fs 6 []))
unfolding same_list row_fields
row_fields_lem [] e h = absurd (not_empty e)
row_fields_lem (kind ∷ fs) e h = ap (λ (k : Bytes). of_kind (k ∷ fs)) e ∙ counted 6 kind fs _ h

row_count : (fs : List Bytes) → get_or fs 0 [] ≡ bytes "N" → (length fs ≡ 7 → ⊥) → of_kind fs ≡ none
unfolding same_list row_fields
row_count [] e h = absurd (not_empty e)
row_count (kind ∷ fs) e h = ap (λ (k : Bytes). of_kind (k ∷ fs)) e ∙ miscounted 6 kind fs _ h

model_fields_lem : (fs : List Bytes) → get_or fs 0 [] ≡ bytes "M" → length fs ≡ 2 → of_kind fs ≡ model_written (side_of (get_or fs 1 []))
unfolding same_list model_fields
model_fields_lem [] e h = absurd (not_empty e)
model_fields_lem (kind ∷ fs) e h = ap (λ (k : Bytes). of_kind (k ∷ fs)) e ∙ counted 1 kind fs _ h

model_count : (fs : List Bytes) → get_or fs 0 [] ≡ bytes "M" → (length fs ≡ 2 → ⊥) → of_kind fs ≡ none
unfolding same_list model_fields
model_count [] e h = absurd (not_empty e)
model_count (kind ∷ fs) e h = ap (λ (k : Bytes). of_kind (k ∷ fs)) e ∙ miscounted 1 kind fs _ h

claim_fields_lem : (fs : List Bytes) → get_or fs 0 [] ≡ bytes "C" → length fs ≡ 3 → of_kind fs ≡ claim_written (side_of (get_or fs 1 [])) (side_of (get_or fs 2 []))
unfolding same_list claim_fields
claim_fields_lem [] e h = absurd (not_empty e)
claim_fields_lem (kind ∷ fs) e h = ap (λ (k : Bytes). of_kind (k ∷ fs)) e ∙ counted 2 kind fs _ h

claim_count : (fs : List Bytes) → get_or fs 0 [] ≡ bytes "C" → (length fs ≡ 3 → ⊥) → of_kind fs ≡ none
unfolding same_list claim_fields
claim_count [] e h = absurd (not_empty e)
claim_count (kind ∷ fs) e h = ap (λ (k : Bytes). of_kind (k ∷ fs)) e ∙ miscounted 2 kind fs _ h

-- a line by its kind: with as many fields as the kind has, or with another count of them
module _ (line : Bytes) where
  pub line_atom : OfKind "A" line → length (fields_of line) ≡ 3
      → line_of line ≡ atom_written (get_or (fields_of line) 2 []) (number_of (get_or (fields_of line) 1 []))
  unfolding line_of
  line_atom = atom_fields_lem (fields_of line)

  pub line_no_atom : OfKind "A" line → (length (fields_of line) ≡ 3 → ⊥) → line_of line ≡ none
  unfolding line_of
  line_no_atom = atom_count (fields_of line)

  pub line_formula : OfKind "F" line → length (fields_of line) ≡ 5
      → line_of line
      ≡ (λ n node. formula_line n node) <$> number_of (get_or (fields_of line) 1 [])
      <*> node_of (get_or (fields_of line) 2 []) (get_or (fields_of line) 3 []) (get_or (fields_of line) 4 [])
  unfolding line_of
  line_formula = formula_fields_lem (fields_of line)

  pub line_no_formula : OfKind "F" line → (length (fields_of line) ≡ 5 → ⊥) → line_of line ≡ none
  unfolding line_of
  line_no_formula = formula_count (fields_of line)

  pub line_row : OfKind "N" line → length (fields_of line) ≡ 7
      → line_of line
      ≡ row_written (number_of (get_or (fields_of line) 1 [])) (rule_of (get_or (fields_of line) 2 [])) (principal_of (get_or (fields_of line) 3 []))
      (premise_list_of (get_or (fields_of line) 4 [])) (side_of (get_or (fields_of line) 5 [])) (side_of (get_or (fields_of line) 6 []))
  unfolding line_of
  line_row = row_fields_lem (fields_of line)

  pub line_no_row : OfKind "N" line → (length (fields_of line) ≡ 7 → ⊥) → line_of line ≡ none
  unfolding line_of
  line_no_row = row_count (fields_of line)

  pub line_model : OfKind "M" line → length (fields_of line) ≡ 2 → line_of line ≡ model_written (side_of (get_or (fields_of line) 1 []))
  unfolding line_of
  line_model = model_fields_lem (fields_of line)

  pub line_no_model : OfKind "M" line → (length (fields_of line) ≡ 2 → ⊥) → line_of line ≡ none
  unfolding line_of
  line_no_model = model_count (fields_of line)

  pub line_claim : OfKind "C" line → length (fields_of line) ≡ 3
      → line_of line ≡ claim_written (side_of (get_or (fields_of line) 1 [])) (side_of (get_or (fields_of line) 2 []))
  unfolding line_of
  line_claim = claim_fields_lem (fields_of line)

  pub line_no_claim : OfKind "C" line → (length (fields_of line) ≡ 3 → ⊥) → line_of line ≡ none
  unfolding line_of
  line_no_claim = claim_count (fields_of line)

-- ---- what the readers' answers tell

pub not_listed : (o : Option (List ℕ)) {r : Answer Listed} → r ≡ listed_as o → r ≡ None → o ≡ none
not_listed none e h = refl
not_listed (some xs) e h = absurd (none-some (listed_of xs) (sym h ∙ e))

pub is_listed : (o : Option (List ℕ)) {r : Answer Listed} {listed : Listed} → r ≡ listed_as o → r ≡ Some listed
    → (xs : List ℕ) × (o ≡ some xs) × (listed ≡ listed_of xs)
is_listed none {listed = listed} e h = absurd (none-some listed (sym e ∙ h))
is_listed (some xs) e h = (xs, refl, same_Some _ _ (sym h ∙ e))

-- a list laid over a table long enough is its first part, where its numbers fit
laid_part : (xs was : List ℕ) → Narrow xs → length xs ≤ length was → take (length xs) (laid_over xs was) ≡ xs
unfolding laid_over
laid_part [] was narrow room = refl
laid_part (x ∷ xs) [] narrow room = absurd (omega arith)
laid_part (x ∷ xs) (o ∷ was) narrow room =
    let small : x % 65536 ≡ x = omega (arith, narrow x (Memᴰ.head refl)) in
    ap₂ (λ (y : ℕ) (ys : List ℕ). y ∷ ys) small (laid_part xs was (λ y m. narrow y (Memᴰ.tail m)) (omega arith))

pub list_laid : {xs table : List ℕ} {listed : Listed} (was : List ℕ) → listed ≡ listed_of xs → table ≡ laid_over xs was → most_on_side ≤ length was
    → Laid xs listed table
list_laid {xs} {listed = listed} was answer stored room =
    record { answer = answer; front = λ short narrow. ap₂ take (exact short) stored ∙ laid_part xs was narrow (omega arith) }
  where
    exact : length xs ≤ most_on_side → listed.count ≡ length xs
    exact short = omega (arith, ap (λ (l : Listed). l.count) answer)

-- ---- the number that a line earns

pub number_given : (refusal : Refusal) (k : ℕ) (o : Option ℕ) (line : ℕ) (f : File) → numbered k ≡ o → k ≡ refusal_number refusal
    → settled o line f ≡ refused (refusal_number refusal) line
number_given refusal k o line f e is =
    ap (λ (x : Option ℕ). settled x line f) (sym e ∙ ap numbered is) ∙ told (refusal_number refusal) (number_of-some refusal)
  where
    told : (n : ℕ) → (n ≡ 0 → ⊥) → settled (numbered n) line f ≡ refused n line
    told zero h = absurd (h refl)
    told (suc n) h = refl

pub none_given : (k : ℕ) (o : Option ℕ) → numbered k ≡ o → k ≡ 0 → o ≡ none
none_given zero o e z = sym e
none_given (suc k) o e z = absurd (omega arith)

-- ---- what holds in any tables

pub same_lengths : (t : Memory) → SameLengths t t
same_lengths t = record { names = refl; formulas = refl; notes = refl; rows = refl; left = refl; right = refl }

module _ {r : Stepped} where
  pub keeps_refused : {refusal : Refusal} {line : ℕ} (t : Memory) → r ≡ refused_by refusal line → Keeps r t t
  keeps_refused t e = record { kept = λ x h. refl; lengths = same_lengths t }

  pub keeps_passed : {s : State} {t u : Memory} → r ≡ Ok s → SameLengths t u → Keeps r t u
  keeps_passed {s} e same = record { kept = λ x h. absurd (ok_err s x (sym e ∙ h)); lengths = same }
    where
      ok_err : (s : State) (x : Refused) → ◌≡◌ {A = Stepped} (Ok s) (Err x) → ⊥
      ok_err s x k = let z : ◌≡◌ {A = ℕ} 0 1 = cc in omega arith

-- ---- what a line comes to

pub steps_refused : (text : Bytes) {o : Outcome File} {r : Stepped} (t : Memory) (refusal : Refusal) (line : ℕ) {l : ℕ}
    → o ≡ refused (refusal_number refusal) l → l ≡ line → r ≡ refused_by refusal line → Steps text o r t
steps_refused text t refusal line e at given = rw (given, e) (refl, sym at)

pub steps_next : {text : Bytes} {o : Outcome File} (r : Stepped) {s : State} {t : Memory} (f : File) → o ≡ next f → r ≡ Ok s → Stored text f s t
    → Steps text o r t
steps_next {text} r {s} {t} f e passed stored = rw (passed, e) stored

module _ {text : Bytes} {start : ℕ} {line : Bytes} {number : ℕ} {s : State} {r : Stepped} where
  -- a line that every accepted beginning refuses
  pub line_refused : (refusal : Refusal) (t : Memory) → r ≡ refused_by refusal number
      → ((f : File) (p : Place) (done : List Bytes) → Good done f → Stored text f s t → step f p line ≡ refused (refusal_number refusal) p.line)
      → Lined text start line number s r t t
  line_refused refusal t given by =
      record {
        steps = λ f p done good stored size placed at. steps_refused text t refusal number (by f p done good stored) at given;
        keeps = keeps_refused t given;
      }

  -- a line that is badly written
  pub line_bad : (t : Memory) → line_of line ≡ none → r ≡ refused_by BadLine number → Lined text start line number s r t t
  line_bad t e given = line_refused BadLine t given (λ f p done good stored. step_bad f p line e)

-- ---- numbers written into a table

-- no write changes the length
pub written_length : (table : List ℕ) (at : ℕ) (numbers : List ℕ) → length (written table at numbers) ≡ length table
unfolding written
written_length table at numbers = by_test (leb (at + length numbers) (length table)) refl
  where
    by_test : (b : Bool) → leb (at + length numbers) (length table) ≡ b
        → length (cond b (take at table ++ numbers ++ drop (at + length numbers) table) table) ≡ length table
    by_test true e =
        let room = leb-true (at + length numbers) (length table) e in
        simp (length-append, length-take, length-drop) (omega arith)
    by_test false e = refl

-- a record put after those that a table holds
module _ {A : Type 0} (f : A → List ℕ) (table : List ℕ) (xs : List A) (x : A) (at : ℕ) where
  pub put_exactly : Exactly (join_all f xs) table → length (join_all f xs) ≡ at → at + length (f x) ≤ length table
      → Exactly (join_all f (xs ++ x ∷ [])) (written table at (f x))
  put_exactly holds end room =
      ap (λ (l : List ℕ). written l at (f x)) holds
      ∙ put_encoded f (length table) xs x at end room
      ∙ ap (λ (n : ℕ). padded n (join_all f (xs ++ x ∷ []))) (sym (written_length table at (f x)))

-- ---- what the tables hold

module _ {text : Bytes} {f : File} {s : State} {t : Memory} (stored : Stored text f s t) where
  pub nodes_held : HoldsNodes f.body.nodes t.formulas
  nodes_held = record { records = begins_padded stored.formulas }

  pub rows_held : HoldsRows f.body.rows t.rows t.left t.right
  rows_held = record { records = begins_padded stored.rows; left_pool = begins_padded stored.left; right_pool = begins_padded stored.right }

  pub ground : {done : List Bytes} → Good done f → Ground f.body s.counts t.formulas t.notes t.rows t.left t.right
  ground good =
      record {
        good = good.body;
        counts = stored.counts;
        nodes = record { records = begins_padded stored.formulas };
        known = stored.known;
        rows_held =
            record { records = begins_padded stored.rows; left_pool = begins_padded stored.left; right_pool = begins_padded stored.right };
      }
