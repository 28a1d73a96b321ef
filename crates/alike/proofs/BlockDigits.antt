-- Blocks by their digits, and the truth that is put at a slot of a table.
use Prim.Native.Nat.{ℕ, zero, suc, ◌+◌, ◌*◌, ◌/◌, ◌%◌, ◌^◌, ◌≤◌, ◌<◌}
use native.Mathlib.Decide.{dec_lt}
use native.Mathlib.Nat.{add-zero}
use native.Mathlib.Omega.{arith}
use mathlib.Core.Bool.{Bool, false, ◌&&◌, ◌||◌, xor}
use mathlib.Core.List.{List, [], ◌∷◌, ◌++◌}
use mathlib.Core.Logic.{◌⊎◌, inl, inr, ⊎_elim, ◌↔◌}
use mathlib.Core.Path.{◌≡◌, refl, sym, ap, ap₂, subst, ◌∙◌}
use lib.Bits.{bit_and, bit_or, bit_xor}
use lib.ListN.{length, get_or, set, length-set}
use lib.Seq.{get_or-set_same, get_or-set_other, sets, length-sets}
use Rattle.atomset.specs.AtomSet.{has}
use Rattle.atomset.proofs.Digits.{has_zero, has_and, has_or, has_xor, same_members}
use Rattle.alike.specs.Blocks.{pairs_at_once, word_of, words_of, digit, SameWords, all_of, both_of, joined_word, joined_of}
use Rattle.alike.specs.Blocks.{raised_of, truth_words, here_in, also_in, there_in, Roomy, TruthPut}
use Rattle.alike.specs.declared.blocks.Block.{Block}
use Rattle.alike.specs.declared.blocks.Signs.{Signs}
use Rattle.alike.specs.declared.blocks.Truth.{Truth}

-- ---- digits

-- each word of a block is one of 64 digits
abbrev pub Small : Block → Type 0
Small x = (k : ℕ) → word_of x k < 2 ^ 64

pub digit_all : (w n : ℕ) → digit (all_of w) n ≡ has w (n % 64)
unfolding digit word_of
digit_all w n = ap (λ (x : ℕ). has x (n % 64)) (words (n / 64))
  where
    words : (k : ℕ) → word_of (all_of w) k ≡ w
    words zero = refl
    words (suc zero) = refl
    words (suc (suc zero)) = refl
    words (suc (suc (suc k))) = refl

pub digit_none : (n : ℕ) → digit (all_of 0) n ≡ false
digit_none n = digit_all 0 n ∙ has_zero (n % 64)

pub digit_both : (x y : Block) (n : ℕ) → digit (both_of x y) n ≡ (digit x n && digit y n)
unfolding digit word_of
digit_both x y n = ap (λ (w : ℕ). has w (n % 64)) (words (n / 64)) ∙ has_and (word_of x (n / 64)) (word_of y (n / 64)) (n % 64)
  where
    words : (k : ℕ) → word_of (both_of x y) k ≡ bit_and (word_of x k) (word_of y k)
    words zero = refl
    words (suc zero) = refl
    words (suc (suc zero)) = refl
    words (suc (suc (suc k))) = refl

pub digit_raised : (w : ℕ) (x : Block) (n : ℕ) → digit (raised_of w x) n ≡ (has w (n % 64) || digit x n)
unfolding digit word_of
digit_raised w x n = ap (λ (w : ℕ). has w (n % 64)) (words (n / 64)) ∙ has_or w (word_of x (n / 64)) (n % 64)
  where
    words : (k : ℕ) → word_of (raised_of w x) k ≡ bit_or w (word_of x k)
    words zero = refl
    words (suc zero) = refl
    words (suc (suc zero)) = refl
    words (suc (suc (suc k))) = refl

-- two digits as the parts of a conjunction, with the parts and the whole turned at digit i of the signs
abbrev pub joined_digit : Signs → ℕ → Bool → Bool → Bool
joined_digit s i A B = xor (xor A (has s.first i) && xor B (has s.second i)) (has s.whole i)

pub digit_joined : (s : Signs) (x y : Block) (n : ℕ) → digit (joined_of s x y) n ≡ joined_digit s (n % 64) (digit x n) (digit y n)
unfolding digit word_of
digit_joined s x y n = ap (λ (w : ℕ). has w (n % 64)) (words (n / 64)) ∙ word (word_of x (n / 64)) (word_of y (n / 64)) (n % 64)
  where
    words : (k : ℕ) → word_of (joined_of s x y) k ≡ joined_word s (word_of x k) (word_of y k)
    words zero = refl
    words (suc zero) = refl
    words (suc (suc zero)) = refl
    words (suc (suc (suc k))) = refl

    word : (a b i : ℕ) → has (joined_word s a b) i ≡ joined_digit s i (has a i) (has b i)
    word a b i =
        has_xor (bit_and (bit_xor a s.first) (bit_xor b s.second)) s.whole i
        ∙ ap (λ (d : Bool). xor d (has s.whole i)) (has_and (bit_xor a s.first) (bit_xor b s.second) i
        ∙ ap₂ ◌&&◌ (has_xor a s.first i) (has_xor b s.second i))

-- digit j of word k
digit_at : (x : Block) (k j : ℕ) → j < 64 → digit x (64 * k + j) ≡ has (word_of x k) j
unfolding digit
digit_at x k j l =
    let word : (64 * k + j) / 64 ≡ k = omega arith in
    let rest : (64 * k + j) % 64 ≡ j = omega arith in
    ap₂ (λ (a b : ℕ). has (word_of x a) b) word rest

-- two blocks have the same words exactly if they have the same digits
module _ (x y : Block) (x-small : Small x) (y-small : Small y) where
  word_same : ((n : ℕ) → n < pairs_at_once → digit x n ≡ digit y n) → (k : ℕ) → k < 4 → word_of x k ≡ word_of y k
  word_same f k l =
      same_members 64 (word_of x k) (word_of y k) (x-small k) (y-small k)
      (λ j m. sym (digit_at x k j m) ∙ f (64 * k + j) (omega arith) ∙ digit_at y k j m)

  pub same_digits : SameWords x y ↔ ((n : ℕ) → n < pairs_at_once → digit x n ≡ digit y n)
  unfolding digit word_of
  same_digits = (
    λ s n l. ap (λ (w : ℕ). has w (n % 64)) (words s (n / 64)),
    λ f. record {
      w0 = word_same f 0 (omega arith);
      w1 = word_same f 1 (omega arith);
      w2 = word_same f 2 (omega arith);
      w3 = word_same f 3 (omega arith);
    },
  )
    where
      words : SameWords x y → (k : ℕ) → word_of x k ≡ word_of y k
      words s zero = s.w0
      words s (suc zero) = s.w1
      words s (suc (suc zero)) = s.w2
      words s (suc (suc (suc k))) = s.w3

-- ---- a truth at a slot

-- the blocks of a table of words are small
module _ (table : List ℕ) (small : (i : ℕ) → get_or table i 0 < 2 ^ 64) (k : ℕ) where
  pub here_small : Small (here_in table k)
  unfolding here_in word_of
  here_small zero = small (truth_words * k)
  here_small (suc zero) = small (truth_words * k + 1)
  here_small (suc (suc zero)) = small (truth_words * k + 2)
  here_small (suc (suc (suc i))) = small (truth_words * k + 3)

  pub also_small : Small (also_in table k)
  unfolding also_in word_of
  also_small zero = small (truth_words * k + 4)
  also_small (suc zero) = small (truth_words * k + 5)
  also_small (suc (suc zero)) = small (truth_words * k + 6)
  also_small (suc (suc (suc i))) = small (truth_words * k + 7)

-- a block by its words
block_is : {x y : Block} → x.w0 ≡ y.w0 → x.w1 ≡ y.w1 → x.w2 ≡ y.w2 → x.w3 ≡ y.w3 → x ≡ y
block_is {x} {y} a b c d =
    ap₂ (λ (p q : ℕ). record { w0 = p; w1 = q; w2 = x.w2; w3 = x.w3 }) a b ∙ ap₂ (λ (p q : ℕ). record { w0 = y.w0; w1 = y.w1; w2 = p; w3 = q }) c d

-- where a run of stores does not reach
sets_outside : (ns table : List ℕ) (at i : ℕ) → (i < at) ⊎ (at + length ns ≤ i) → get_or (sets table at ns) i 0 ≡ get_or table i 0
sets_outside [] table at i l = refl
sets_outside (a ∷ ns) table at i l =
    sets_outside ns (set table at a) (suc at) i (⊎_elim (λ m. inl (omega arith)) (λ m. inr (omega arith)) l)
    ∙ get_or-set_other table at i a 0 (⊎_elim (λ m e. omega arith) (λ m e. omega arith) l)

-- and where it does
sets_inside : (ns table : List ℕ) (at w : ℕ) → at + length ns ≤ length table → w < length ns → get_or (sets table at ns) (at + w) 0 ≡ get_or ns w 0
sets_inside [] table at w room l = absurd (omega arith)
sets_inside (a ∷ ns) table at zero room l =
    sets_outside ns (set table at a) (suc at) (at + 0) (inl (omega arith))
    ∙ ap (λ (i : ℕ). get_or (set table at a) i 0) (add-zero at)
    ∙ get_or-set_same table at a 0 (omega arith)
sets_inside (a ∷ ns) table at (suc w) room l =
    let next : at + suc w ≡ suc at + w = omega arith in
    ap (λ (i : ℕ). get_or (sets (set table at a) (suc at) ns) i 0) next
    ∙ sets_inside ns (set table at a) (suc at) w (omega (arith, length-set table at a)) (omega arith)

-- a truth by its blocks
pub truth_is : {x y : Truth} → x.here ≡ y.here → x.also ≡ y.also → x.there ≡ y.there → x ≡ y
truth_is {x} {y} a b c =
    ap₂ (λ (p q : Block). record { here = p; also = q; there = x.there }) a b ∙ ap (λ (p : Block). record { here = y.here; also = y.also; there = p }) c

-- a run of stores after another
sets_after : (xs ys table : List ℕ) (at next : ℕ) → next ≡ at + length xs → sets (sets table at xs) next ys ≡ sets table at (xs ++ ys)
sets_after [] ys table at next e = ap (λ (i : ℕ). sets table i ys) (e ∙ add-zero at)
sets_after (x ∷ xs) ys table at next e = sets_after xs ys (set table at x) (suc at) next (omega arith)

-- the words of a truth
all_words : Truth → List ℕ
all_words v =
    v.here.w0 ∷ v.here.w1 ∷ v.here.w2 ∷ v.here.w3
    ∷ v.also.w0 ∷ v.also.w1 ∷ v.also.w2 ∷ v.also.w3
    ∷ v.there.w0 ∷ v.there.w1 ∷ v.there.w2 ∷ v.there.w3 ∷ []

module _ (table : List ℕ) (k : ℕ) (v : Truth) (room : Roomy table k) where
  after : List ℕ
  after = sets table (truth_words * k) (all_words v)

  put : (w : ℕ) → w < truth_words → get_or after (truth_words * k + w) 0 ≡ get_or (all_words v) w 0
  unfolding after all_words
  put w l = sets_inside (all_words v) table (truth_words * k) w (omega arith) (omega arith)

  first : get_or after (truth_words * k) 0 ≡ v.here.w0
  unfolding all_words
  first = ap (λ (i : ℕ). get_or after i 0) (sym (add-zero (truth_words * k))) ∙ put 0 (omega arith)

  apart : (i w : ℕ) → (i ≡ k → ⊥) → w < truth_words → get_or after (truth_words * i + w) 0 ≡ get_or table (truth_words * i + w) 0
  unfolding after all_words
  apart i w n l = sets_outside (all_words v) table (truth_words * k) (truth_words * i + w) (by (dec_lt i k))
    where
      by : Dec (i < k) → (truth_words * i + w < truth_words * k) ⊎ (truth_words * k + truth_words ≤ truth_words * i + w)
      by (yes m) = inl (omega arith)
      by (no m) = inr (above (dec_lt k i))
        where
          above : Dec (k < i) → truth_words * k + truth_words ≤ truth_words * i + w
          above (yes g) = omega arith
          above (no g) = let same : i ≡ k = omega arith in absurd (n same)

  apart_first : (i : ℕ) → (i ≡ k → ⊥) → get_or after (truth_words * i) 0 ≡ get_or table (truth_words * i) 0
  apart_first i n =
      ap (λ (j : ℕ). get_or after j 0) (sym (add-zero (truth_words * i)))
      ∙ apart i 0 n (omega arith)
      ∙ ap (λ (j : ℕ). get_or table j 0) (add-zero (truth_words * i))

  at_once : TruthPut table k v after
  unfolding after all_words here_in also_in there_in
  at_once = record {
    long = length-sets table (truth_words * k) (all_words v);
    own = truth_is (block_is first (put 1 (omega arith)) (put 2 (omega arith)) (put 3 (omega arith)))
        (block_is (put 4 (omega arith)) (put 5 (omega arith)) (put 6 (omega arith)) (put 7 (omega arith)))
        (block_is (put 8 (omega arith)) (put 9 (omega arith)) (put 10 (omega arith)) (put 11 (omega arith)));
    others = λ i n. truth_is
        (block_is (apart_first i n) (apart i 1 n (omega arith)) (apart i 2 n (omega arith)) (apart i 3 n (omega arith)))
        (block_is (apart i 4 n (omega arith)) (apart i 5 n (omega arith)) (apart i 6 n (omega arith)) (apart i 7 n (omega arith)))
        (block_is (apart i 8 n (omega arith)) (apart i 9 n (omega arith)) (apart i 10 n (omega arith)) (apart i 11 n (omega arith)));
  }

  -- one block after the other
  pub truth_put : {one two three : List ℕ} → one ≡ sets table (truth_words * k) (words_of v.here)
      → two ≡ sets one (truth_words * k + 4) (words_of v.also) → three ≡ sets two (truth_words * k + 8) (words_of v.there) → TruthPut table k v three
  unfolding after all_words
  truth_put {one} {two} {three} e f g = subst (TruthPut table k v) (sym joined) at_once
    where
      joined : three ≡ after
      joined =
          let at = truth_words * k in
          g
          ∙ ap (λ (l : List ℕ). sets l (at + 8) (words_of v.there)) (f ∙ ap (λ (l : List ℕ). sets l (at + 4) (words_of v.also)) e
          ∙ sets_after (words_of v.here) (words_of v.also) table at (at + 4) refl)
          ∙ sets_after (words_of v.here ++ words_of v.also) (words_of v.there) table at (at + 8) refl
