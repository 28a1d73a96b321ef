-- What a successful call leaves in the lent text tells its words, and so its rows.
use Prim.Native.Nat.{ℕ, zero, suc, ◌-◌}
use mathlib.Core.Path.{◌≡◌, refl, sym, ap, ◌∙◌}
use mathlib.Core.Bool.{Bool, true, false, cond}
use mathlib.Core.List.{[], ◌∷◌, ◌++◌}
use native.Mathlib.Omega.{arith}
use lib.Dec.{eqb, leb}
use lib.ListN.{length, replicate}
use Rattle.format.specs.Text.{Bytes, any}
use Rattle.format.specs.Tables.{Lent, padded}
use Rattle.format.specs.Judged.{Ruling, accepted, turned_down, beginning, judged}
use Rattle.format.proofs.Booleans.{or_false}
use Rattle.words.specs.Told.{told_in}
use Rattle.words.specs.Words.{words_in}
use Rattle.writer.specs.Writing.{no_room}
use Rattle.words.specs.Call.{fitted, kept, words_judged, words_left, until_zero}
use Rattle.words.proofs.NoZero.{NoZero}
use Rattle.words.proofs.Accepted.{words_tell_rows, words_without_zero}

until_zeros : (bs : Bytes) (n : ℕ) → NoZero bs → until_zero (bs ++ replicate n 0) ≡ bs
until_zeros [] zero h = refl
until_zeros [] (suc n) h = refl
until_zeros (b ∷ bs) n h = let parts = or_false (eqb b 0) (any (λ c. eqb c 0) bs) h in rw (parts.0, until_zeros bs n parts.1)

fitted_accepted : (space : ℕ) (words : Bytes) (r : Ruling) (l : ℕ) → fitted space words r ≡ accepted l → r ≡ accepted l
fitted_accepted space words (accepted k) l e = by_test (leb (length words) space) e
  where
    by_test : (t : Bool) → cond t (accepted k) (turned_down no_room 0) ≡ accepted l → accepted k ≡ accepted l
    by_test true q = q
    by_test false q = let z : ◌≡◌ {A = ℕ} 0 1 = cc in absurd (omega arith)
fitted_accepted space words (turned_down n k) l e = e

module _ (lent : Lent) (space : ℕ) (text : Bytes) (line : ℕ) (e : words_judged lent space text ≡ accepted line) where
  -- a call that succeeds is about an accepted file, and reports the line of its claim
  pub words_accepted : judged lent text ≡ accepted line
  unfolding words_judged
  words_accepted = fitted_accepted space (words_in text) (judged lent text) line e

  -- the words stand in the lent text up to its first zero
  pub left_shows_words : until_zero (words_left lent space text) ≡ words_in text
  unfolding words_left
  left_shows_words =
      ap (λ (r : Ruling). until_zero (padded space (kept r (words_in text)))) e
      ∙ until_zeros (words_in text) (space - length (words_in text)) (words_without_zero lent text line words_accepted)

-- two successful calls that leave the same before the first zero were about the same rows
pub left_tells_rows : (lent : Lent) (space : ℕ) (text : Bytes) (line : ℕ) → words_judged lent space text ≡ accepted line
    → (lent' : Lent) (space' : ℕ) (text' : Bytes) (line' : ℕ) → words_judged lent' space' text' ≡ accepted line'
    → until_zero (words_left lent space text) ≡ until_zero (words_left lent' space' text') → told_in (beginning text) ≡ told_in (beginning text')
left_tells_rows lent space text line e lent' space' text' line' e' same =
    words_tell_rows lent text line (words_accepted lent space text line e) lent' text' line' (words_accepted lent' space' text' line' e')
    (sym (left_shows_words lent space text line e) ∙ same ∙ left_shows_words lent' space' text' line' e')
