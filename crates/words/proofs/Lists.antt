-- The words of a list, with what ends it behind them, determine the list and what follows.
use Prim.Native.Nat.{ℕ}
use Prim.Native.String.{String}
use mathlib.Core.Path.{◌≡◌, refl, sym, ap, ap₂, ◌∙◌}
use mathlib.Core.Bool.{true, false, not}
use mathlib.Core.List.{List, [], ◌∷◌, ◌++◌, append_assoc, append_cancel_left}
use mathlib.Core.Option.{Option, some}
use lib.ListN.{get_or}
use Rattle.format.specs.Text.{Bytes, bytes, any, is_digit, number_of}
use Rattle.format.specs.Written.{Each, decimal, Small}
use Rattle.format.proofs.WrittenNumbers.{decimal_digits, all_true, number_back}
use Rattle.words.specs.Words.{formula_words, items, listing}
use Rattle.words.proofs.Reading.{all_pass, span, apart, differ}
use Rattle.words.proofs.Formulas.{Spelled, told_formula}

-- no digit stands first
abbrev pub NoDigit : Bytes → Type 0
NoDigit bs = is_digit (get_or bs 0 0) ≡ false

-- each is told by its words where no digit follows
abbrev pub Tells : {X : Type 0} → (X → Bytes) → (X → Type 0) → Type 0
Tells {X} word Good = (x y : X) → Good x → Good y → (r s : Bytes) → NoDigit r → NoDigit s → word x ++ r ≡ word y ++ s → (x ≡ y) × (r ≡ s)

-- the words between two entries and those that end the list
pub record Marks (between ending : String) : Type 0 where
  pub between_first : (r : Bytes) → NoDigit (bytes between ++ r)
  pub ending_first : (r : Bytes) → NoDigit (bytes ending ++ r)
  pub differ_so : apart (bytes between) (bytes ending) ≡ true

module _ {X : Type 0} (word : X → Bytes) (Good : X → Type 0) (tells : Tells word Good) (between ending : String) (marks : Marks between ending) where
  -- the words of the further ones and of the end
  abbrev rest : List X → Bytes → Bytes
  rest xs r = items between word xs ++ (bytes ending ++ r)

  item_then : (x : X) (xs : List X) (r : Bytes) → items between word (x ∷ xs) ++ r ≡ bytes between ++ (word x ++ (items between word xs ++ r))
  unfolding items
  item_then x xs r = append_assoc (bytes between) (word x ++ items between word xs) r ∙ ap (λ (bs : Bytes). bytes between ++ bs) (append_assoc (word x) _ r)

  no_digit : (xs : List X) (r : Bytes) → NoDigit (rest xs r)
  unfolding items
  no_digit [] r = marks.ending_first r
  no_digit (x ∷ xs) r = rw (item_then x xs (bytes ending ++ r)) (marks.between_first _)

  told_entry : (x y : X) (xs ys : List X) → Good x → Good y → (r s : Bytes) → word x ++ rest xs r ≡ word y ++ rest ys s → (x ≡ y) × (rest xs r ≡ rest ys s)
  told_entry x y xs ys h k r s e = tells x y h k (rest xs r) (rest ys s) (no_digit xs r) (no_digit ys s) e

  told_items : (xs ys : List X) → Each Good xs → Each Good ys → (r s : Bytes) → rest xs r ≡ rest ys s → (xs ≡ ys) × (r ≡ s)
  unfolding items
  told_items [] [] h k r s e = (refl, append_cancel_left (bytes ending) r s e)
  told_items [] (y ∷ ys) h k r s e = absurd (differ (bytes between) (bytes ending) marks.differ_so _ _ (sym (item_then y ys (bytes ending ++ s)) ∙ sym e))
  told_items (x ∷ xs) [] h k r s e = absurd (differ (bytes between) (bytes ending) marks.differ_so _ _ (sym (item_then x xs (bytes ending ++ r)) ∙ e))
  told_items (x ∷ xs) (y ∷ ys) h k r s e =
      let first = append_cancel_left (bytes between) _ _ (sym (item_then x xs (bytes ending ++ r)) ∙ e ∙ item_then y ys (bytes ending ++ s)) in
      let t = told_entry x y xs ys h.0 k.0 r s first in
      let more = told_items xs ys h.1 k.1 r s t.1 in
      (ap₂ (λ z zs. z ∷ zs) t.0 more.0, more.1)

  module _ (empty opening : String) (apart-so : apart (bytes empty) (bytes opening) ≡ true) where
    listing_then : (x : X) (xs : List X) (r : Bytes)
        → listing empty opening between word (x ∷ xs) ++ r ≡ bytes opening ++ (word x ++ (items between word xs ++ r))
    unfolding listing
    listing_then x xs r =
        append_assoc (bytes opening) (word x ++ items between word xs) r ∙ ap (λ (bs : Bytes). bytes opening ++ bs) (append_assoc (word x) _ r)

    pub told_listing : (xs ys : List X) → Each Good xs → Each Good ys → (r s : Bytes)
        → listing empty opening between word xs ++ (bytes ending ++ r) ≡ listing empty opening between word ys ++ (bytes ending ++ s) → (xs ≡ ys) × (r ≡ s)
    unfolding listing
    told_listing [] [] h k r s e = (refl, append_cancel_left (bytes ending) r s (append_cancel_left (bytes empty) _ _ e))
    told_listing [] (y ∷ ys) h k r s e = absurd (differ (bytes empty) (bytes opening) apart-so _ _ (e ∙ listing_then y ys (bytes ending ++ s)))
    told_listing (x ∷ xs) [] h k r s e = absurd (differ (bytes empty) (bytes opening) apart-so _ _ (sym e ∙ listing_then x xs (bytes ending ++ r)))
    told_listing (x ∷ xs) (y ∷ ys) h k r s e =
        let first = append_cancel_left (bytes opening) _ _ (sym (listing_then x xs (bytes ending ++ r)) ∙ e ∙ listing_then y ys (bytes ending ++ s)) in
        let t = told_entry x y xs ys h.0 k.0 r s first in
        let more = told_items xs ys h.1 k.1 r s t.1 in
        (ap₂ (λ z zs. z ∷ zs) t.0 more.0, more.1)

-- ---- numbers and formulas

pub numbers_tell : Tells decimal Small
numbers_tell m n h k r s nr ns e =
    let t = span (λ b. not (is_digit b)) (decimal m) (decimal n) r s (digits m) (digits n) (ap not nr) (ap not ns) e in
    let same : ◌≡◌ {A = Option ℕ} (some m) (some n) = sym (number_back m h) ∙ ap number_of t.0 ∙ number_back n k in
    (cc, t.1)
  where
    digits : (i : ℕ) → any (λ b. not (is_digit b)) (decimal i) ≡ false
    digits i = all_pass is_digit (decimal i) (all_true is_digit (decimal i) (decimal_digits i))

pub formulas_tell : Tells formula_words Spelled
formulas_tell A B h k r s nr ns e = told_formula A B h k r s e
