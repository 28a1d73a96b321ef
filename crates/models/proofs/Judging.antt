-- What the notes on the formulas say: all formulas of the sheet are noted to hold exactly if the pair that was judged satisfies it.
-- Assumes nothing.
use Prim.Native.Nat.{ℕ, zero, suc, ◌+◌, ◌≤◌, ◌<◌, min}
use native.Mathlib.Decide.{dec_lt}
use native.Mathlib.Numerals.{add-one}
use native.Mathlib.Omega.{arith}
use mathlib.Core.Bool.{Bool, true, false, not, ◌&&◌, ◌||◌, or-true}
use mathlib.Core.List.Memᴰ
use mathlib.Core.List.{List, [], ◌∷◌}
use mathlib.Core.Logic.{⊎_elim}
use mathlib.Core.Path.{◌≡◌, refl, sym, ap, ap₂, ◌∙◌}
use lib.Dec.{eqb}
use lib.ListN.{length, length-append, length-map, length-drop, get_or-eq_default}
use Rattle.std.specs.List.{list_all}
use Rattle.equilibrium.specs.Meaning.{◌∈◌}
use Rattle.format.specs.Text.{all}
use Rattle.format.specs.Tables.{most_formulas}
use Rattle.format.proofs.GoodBodies.{at_end}
use Rattle.atomset.specs.AtomSet.{members, set_of}
use Rattle.tables.specs.declared.records.NodeRecord.{NodeRecord}
use Rattle.pairs.specs.Parts.{part}
use Rattle.pairs.specs.Truths.{truth_of, there_by, here_by, truths, truths_here, noted, noted_at, NotedThere, NotedHere}
use Rattle.pairs.proofs.Truths.{length_truths, truth_kept, truths_agree, noted_read}
use Rattle.models.specs.Models.{there_in, here_in, upsets, NotesThere, some_below, some_upsets, in_equilibrium}

-- truths noted in front keep the table's length
length_noted : (ts : List Bool) (table : List ℕ) → length ts ≤ length table → length (noted ts table) ≡ length table
length_noted ts table h = simp (length-append, length-map, length-drop) (omega arith)

module _ (rule : ℕ → List Bool → NodeRecord → Bool) (formulas : List ℕ) (end : ℕ) (before : List ℕ) (room : length before ≡ most_formulas) where
  -- the table notes every formula below `end`, of as many as a file may have; no other holds
  noted_below : {after : List ℕ} → after ≡ noted (truths rule formulas (min end (length before))) before → (i : ℕ) → i < end
      → noted_at after i ≡ truth_of (truths rule formulas most_formulas) i
  noted_below {after} e i h = by (dec_lt i most_formulas)
    where
      count : ℕ
      count = min end (length before)

      kept : length after ≡ length before
      kept = ap length e ∙ length_noted (truths rule formulas count) before (rw length_truths (omega arith))

      by : Dec (i < most_formulas) → noted_at after i ≡ truth_of (truths rule formulas most_formulas) i
      by (yes l) =
          let within : i < count = omega arith in
          ap (λ (notes : List ℕ). noted_at notes i) e
          ∙ noted_read (truths rule formulas count) before i (rw length_truths within)
          ∙ truth_kept rule formulas count i within
          ∙ sym (truth_kept rule formulas most_formulas i l)
      by (no n) =
          let many = length_truths rule formulas most_formulas in
          ap (λ (d : ℕ). eqb d 1) (get_or-eq_default after 0 (omega (arith, kept)))
          ∙ sym (get_or-eq_default (truths rule formulas most_formulas) false (omega arith))

-- the notes on the model itself
pub there_noted : {formulas : List ℕ} {end model : ℕ} {before after : List ℕ} → length before ≡ most_formulas → NotedThere formulas end model before after
    → NotesThere formulas model end after
unfolding there_in
there_noted {formulas} {end} {model} {before} room noted i h = noted_below (λ i. there_by model) formulas end before room noted.answer i h

-- the table of notes keeps its length
pub length_here : {formulas there before after : List ℕ} {end h : ℕ} → NotedHere formulas end h there before after → length after ≡ length before
length_here {formulas} {there} {before} {end = end} {h = h} Noted-here =
    ap length Noted-here.answer ∙ length_noted (truths_here formulas h (noted_at there) (min end (length before))) before (rw length_truths (omega arith))

-- all of a list pass, as `Iterator::all` asks it
pub all_listed : {A : Type 0} (f : A → Bool) (xs : List A) → all f xs ≡ list_all f xs
all_listed f [] = refl
all_listed f (x ∷ xs) = ap (λ (rest : Bool). f x && rest) (all_listed f xs)

-- tests that agree on a list
all_same : (f g : ℕ → Bool) (xs : List ℕ) → ((x : ℕ) → x ∈ xs → f x ≡ g x) → all f xs ≡ all g xs
all_same f g [] h = refl
all_same f g (x ∷ xs) h = ap₂ ◌&&◌ (h x (Memᴰ.head refl)) (all_same f g xs (λ y m. h y (Memᴰ.tail m)))

module _ (sheet : List ℕ) (model : ℕ) {formulas : List ℕ} {end : ℕ} (below : (x : ℕ) → x ∈ sheet → x < end) where
  -- the model satisfies the sheet
  pub all_there : {before after : List ℕ} → length before ≡ most_formulas → NotedThere formulas end model before after
      → all (noted_at after) sheet ≡ all (truth_of (there_in formulas model)) sheet
  all_there {after = after} room noted =
      all_same (noted_at after) (truth_of (there_in formulas model)) sheet (λ x m. there_noted room noted x (below x m))

  -- part n upsets the model
  pub all_here : (there : List ℕ) {before after : List ℕ} {h : ℕ} (n : ℕ) → NotesThere formulas model end there → length before ≡ most_formulas
      → h ≡ set_of (part n (members model)) → NotedHere formulas end h there before after → all (noted_at after) sheet ≡ upsets formulas sheet model n
  unfolding upsets here_in
  all_here there {before} {after} {h} n notes room part-n Noted-here =
      all_same (noted_at after) (truth_of (here_in formulas h model)) sheet
      (λ x m. noted_below (λ i. here_by h (truth_of (there_in formulas model) i)) formulas end before room right x (below x m))
      ∙ ap (λ (h : ℕ). all (truth_of (here_in formulas h model)) sheet) part-n
    where
      right : after ≡ noted (truths (λ i. here_by h (truth_of (there_in formulas model) i)) formulas (min end (length before))) before
      right =
          Noted-here.answer
          ∙ ap (λ (ts : List Bool). noted ts before)
          (truths_agree (λ i. here_by h (noted_at there i)) (λ i. here_by h (truth_of (there_in formulas model) i)) formulas (min end (length before))
          (λ i l ts r. ap (λ (t : Bool). here_by h t ts r) (notes i (omega arith))))

-- ---- the answers

module _ (formulas sheet : List ℕ) (model : ℕ) where
  -- a model that does not satisfy the sheet
  pub fails_itself : all (truth_of (there_in formulas model)) sheet ≡ false → in_equilibrium formulas sheet model ≡ false
  unfolding in_equilibrium
  fails_itself e = ap (λ (x : Bool). x && not (some_upsets formulas sheet model)) e

  -- one that does: as its parts say
  pub by_parts : all (truth_of (there_in formulas model)) sheet ≡ true → {answer : Bool} → answer ≡ not (some_upsets formulas sheet model)
      → answer ≡ in_equilibrium formulas sheet model
  unfolding in_equilibrium
  by_parts e a = a ∙ sym (ap (λ (x : Bool). x && not (some_upsets formulas sheet model)) e)

-- ---- some number below a bound

module _ (test : ℕ → Bool) where
  -- one more that fails
  pub none_next : (n : ℕ) → some_below test n ≡ false → test n ≡ false → some_below test (n + 1) ≡ false
  unfolding some_below
  none_next n e f = ap (some_below test) (add-one n) ∙ ap₂ ◌||◌ e f

  -- one that passes
  pub some_found : (k n : ℕ) → n < k → test n ≡ true → some_below test k ≡ true
  unfolding some_below
  some_found zero n l e = absurd (omega arith)
  some_found (suc k) n l e =
      ⊎_elim (λ m. ap (λ (x : Bool). x || test k) (some_found k n m e))
      (λ (m : n ≡ k). ap (λ (x : Bool). some_below test k || x) (ap test (sym m) ∙ e) ∙ or-true (some_below test k)) (at_end k n l)
