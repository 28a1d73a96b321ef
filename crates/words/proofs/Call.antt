-- What the call answers and leaves, by what is said of the file and by the length of its words.
use Prim.Native.Nat.{ℕ, ◌≤◌, ◌<◌}
use mathlib.Core.Path.{◌≡◌, ap, ap₂}
use mathlib.Core.List.{[]}
use lib.ListN.{length}
use borrow.Author.Tests.{le-leb, lt-leb}
use Rattle.format.specs.Text.{Bytes}
use Rattle.format.specs.File.{File, no_file}
use Rattle.format.specs.Tables.{Lent, padded, encode}
use Rattle.format.specs.Judged.{Ruling, accepted, turned_down, next, judged, beginning, held_by}
use Rattle.words.specs.Words.{words_in}
use Rattle.writer.specs.Writing.{no_room}
use Rattle.words.specs.Call.{fitted, kept, words_judged, words_left, words_contents}

-- what a call answers and leaves
pub record Leaves (lent : Lent) (space : ℕ) (text : Bytes) (ruling : Ruling) (words : Bytes) (tables : File) : Type 0 where
  pub ruled : words_judged lent space text ≡ ruling
  pub left : words_left lent space text ≡ padded space words
  pub contents : words_contents lent space text ≡ encode tables

module _ (lent : Lent) (space : ℕ) (text : Bytes) where
  -- a refusal leaves zeros alone
  refused_leaves : (n l : ℕ) → words_judged lent space text ≡ turned_down n l → Leaves lent space text (turned_down n l) [] no_file
  unfolding words_left words_contents
  refused_leaves n l e =
      record {
        ruled = e;
        left = ap (λ (r : Ruling). padded space (kept r (words_in text))) e;
        contents = ap (λ (r : Ruling). held_by r (beginning text)) e;
      }

  -- the file's own refusal
  pub file_refused : (n l : ℕ) → judged lent text ≡ turned_down n l → Leaves lent space text (turned_down n l) [] no_file
  unfolding words_judged
  file_refused n l e = refused_leaves n l (ap (fitted space (words_in text)) e)

  -- words that fit
  pub words_fit : (l : ℕ) (f : File) → judged lent text ≡ accepted l → beginning text ≡ next f → length (words_in text) ≤ space
      → Leaves lent space text (accepted l) (words_in text) f
  unfolding words_judged words_left words_contents
  words_fit l f e file fits =
      record {
        ruled = ruled;
        left = ap (λ (r : Ruling). padded space (kept r (words_in text))) ruled;
        contents = ap₂ held_by ruled file;
      }
    where
      ruled : fitted space (words_in text) (judged lent text) ≡ accepted l
      ruled = rw (e, le-leb (length (words_in text)) space fits)

  -- words that do not
  pub words_too_long : (l : ℕ) → judged lent text ≡ accepted l → space < length (words_in text)
      → Leaves lent space text (turned_down no_room 0) [] no_file
  unfolding words_judged
  words_too_long l e long = refused_leaves no_room 0 (rw (e, lt-leb (length (words_in text)) space long))
