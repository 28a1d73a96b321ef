-- Texts that mean the same are told in the same words: with runs in their sides or without (paper 02, M-102).
use Prim.Native.Nat.{ℕ, ◌≤◌}
use mathlib.Core.Path.{◌≡◌, ap, ap₂}
use lib.ListN.{length}
use Rattle.format.specs.Text.{Bytes}
use Rattle.format.specs.Tables.{Lent, most_bytes, padded}
use Rattle.format.specs.Judged.{judged, beginning, held_by}
use Rattle.format.specs.Same.{MeanTheSame}
use Rattle.format.proofs.Same.{beginning_same, same_meaning_same_answer}
use Rattle.words.specs.Told.{told_in}
use Rattle.words.specs.Words.{sentences, words_in}
use Rattle.words.specs.Call.{fitted, kept, words_judged, words_left, words_contents}

pub same_meaning_same_words : (lent : Lent) (space : ℕ) (one other : Bytes) → length one ≤ most_bytes → length other ≤ most_bytes → MeanTheSame one other
    → (words_judged lent space one ≡ words_judged lent space other) × (words_left lent space one ≡ words_left lent space other)
    × (words_contents lent space one ≡ words_contents lent space other)
unfolding words_judged words_left words_contents
same_meaning_same_words lent space one other h k s = (ruling, ap₂ (λ r words. padded space (kept r words)) ruling words, ap₂ held_by ruling held)
  where
    held : beginning one ≡ beginning other
    held = beginning_same one other s

    words : words_in one ≡ words_in other
    words = ap (λ o. sentences 0 (told_in o)) held

    ruling : fitted space (words_in one) (judged lent one) ≡ fitted space (words_in other) (judged lent other)
    ruling = ap₂ (fitted space) words (same_meaning_same_answer lent one other h k s).0
