-- The words of a list and of rows, one at a time: what a writer has still to write, from any place on.
use Prim.Native.Nat.{ℕ, suc, ◌+◌, ◌≤◌, ◌<◌}
use Prim.Native.String.{String}
use mathlib.Core.Path.{◌≡◌, refl, ap, ◌∙◌}
use mathlib.Core.List.{List, [], ◌∷◌, ◌++◌, map}
use native.Mathlib.Omega.{arith}
use lib.ListN.{length, get_or, drop, drop_of_length-le, get_or-map, length-map}
use lib.Seq.{drop-cons}
use Rattle.format.specs.Text.{Bytes, bytes}
use Rattle.format.specs.File.{Row, File}
use Rattle.format.specs.Judged.{Outcome, next, beginning}
use Rattle.words.specs.Told.{Told, names_of, told_row, told_file, told_in}
use Rattle.words.specs.Words.{items, listing, sentence, sentences, words_in}

-- what is left from place k on
drop_first : {X : Type 0} (xs : List X) (k : ℕ) (d : X) → k < length xs → drop k xs ≡ get_or xs k d ∷ drop (k + 1) xs
drop_first xs k d h = let same : suc k ≡ k + 1 = omega arith in drop-cons xs k d h ∙ ap (λ (m : ℕ). get_or xs k d ∷ drop m xs) same

module _ {X : Type 0} (between : String) (word : X → Bytes) where
  pub items_first : (xs : List X) (k : ℕ) (d : X) → k < length xs
      → items between word (drop k xs) ≡ bytes between ++ (word (get_or xs k d) ++ items between word (drop (k + 1) xs))
  unfolding items
  items_first xs k d h = ap (items between word) (drop_first xs k d h)

  pub items_end : (xs : List X) (k : ℕ) → length xs ≤ k → items between word (drop k xs) ≡ []
  unfolding items
  items_end xs k h = ap (items between word) (drop_of_length-le xs h)

  pub items_map : {Y : Type 0} (f : Y → X) (ys : List Y) → items between word (map f ys) ≡ items between (λ y. word (f y)) ys
  unfolding items
  items_map f [] = refl
  items_map f (y ∷ ys) = ap (λ (rest : Bytes). bytes between ++ (word (f y) ++ rest)) (items_map f ys)

module _ {X : Type 0} (empty opening between : String) (word : X → Bytes) where
  pub listing_none : (xs : List X) → length xs ≡ 0 → listing empty opening between word xs ≡ bytes empty
  unfolding listing
  listing_none [] h = refl
  listing_none (x ∷ xs) h = absurd (omega arith)

  pub listing_map : {Y : Type 0} (f : Y → X) (ys : List Y)
      → listing empty opening between word (map f ys) ≡ listing empty opening between (λ y. word (f y)) ys
  unfolding listing
  listing_map f [] = refl
  listing_map f (y ∷ ys) = ap (λ (rest : Bytes). bytes opening ++ (word (f y) ++ rest)) (items_map between word f ys)

pub row_first : (ts : List Told) (k n : ℕ) (d : Told) → k < length ts
    → sentences n (drop k ts) ≡ sentence n (get_or ts k d) ++ sentences (n + 1) (drop (k + 1) ts)
unfolding sentences
row_first ts k n d h = ap (sentences n) (drop_first ts k d h)

pub rows_end : (ts : List Told) (k n : ℕ) → length ts ≤ k → sentences n (drop k ts) ≡ []
unfolding sentences
rows_end ts k n h = ap (sentences n) (drop_of_length-le ts h)

-- ---- the rows of a file

module _ (f : File) (k : ℕ) where
  pub file_row_first : (d : Row) → k < length f.body.rows
      → sentences k (drop k (told_file f))
      ≡ sentence k (told_row (names_of f) f.body.nodes (get_or f.body.rows k d)) ++ sentences (k + 1) (drop (k + 1) (told_file f))
  file_row_first d h =
      row_first (told_file f) k k (told d) (rw (length-map f.body.rows told) h)
      ∙ ap (λ (t : Told). sentence k t ++ sentences (k + 1) (drop (k + 1) (told_file f))) (get_or-map told f.body.rows k d)
    where
      told : Row → Told
      told = told_row (names_of f) f.body.nodes

  pub file_rows_end : length f.body.rows ≤ k → sentences k (drop k (told_file f)) ≡ []
  file_rows_end h = rows_end (told_file f) k k (rw (length-map f.body.rows (told_row (names_of f) f.body.nodes)) h)

-- the words of a text are those of the file that it comes to
pub words_of_file : (text : Bytes) (f : File) → beginning text ≡ next f → words_in text ≡ sentences 0 (told_file f)
words_of_file text f e = ap (λ (o : Outcome File). sentences 0 (told_in o)) e
