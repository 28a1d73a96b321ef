-- A digit for each of 256 pairs, in the four words of a block; truths as three blocks, and a table of them.
use Rattle.std.specs.Prelude.{ℕ, zero, suc, ◌+◌, ◌*◌, ◌/◌, ◌%◌, ◌≤◌, Bool, List, [], ◌∷◌, ◌≡◌, length, get_or}
use Rattle.std.specs.Int.Bits.{bit_and, bit_or, bit_xor}
use Rattle.atomset.specs.AtomSet.{has}
use Rattle.alike.specs.declared.blocks.Block.{Block}
use Rattle.alike.specs.declared.blocks.Signs.{Signs}
use Rattle.alike.specs.declared.blocks.Truth.{Truth}

-- how many pairs have a digit in a block
abbrev pub pairs_at_once : ℕ
pairs_at_once = 256

-- word k of a block
unfoldable pub word_of : Block → ℕ → ℕ
word_of x zero = x.w0
word_of x (suc zero) = x.w1
word_of x (suc (suc zero)) = x.w2
word_of x (suc (suc (suc k))) = x.w3

-- its words
abbrev pub words_of : Block → List ℕ
words_of x = x.w0 ∷ x.w1 ∷ x.w2 ∷ x.w3 ∷ []

-- digit n of a block: of word n / 64, digit n % 64
unfoldable pub digit : Block → ℕ → Bool
digit x n = has (word_of x (n / 64)) (n % 64)

pub record SameWords (x y : Block) : Type 0 where
  pub w0 : x.w0 ≡ y.w0
  pub w1 : x.w1 ≡ y.w1
  pub w2 : x.w2 ≡ y.w2
  pub w3 : x.w3 ≡ y.w3

-- ---- words of blocks

abbrev pub all_of : ℕ → Block
all_of w = record { w0 = w; w1 = w; w2 = w; w3 = w }

abbrev pub both_of : Block → Block → Block
both_of x y = record { w0 = bit_and x.w0 y.w0; w1 = bit_and x.w1 y.w1; w2 = bit_and x.w2 y.w2; w3 = bit_and x.w3 y.w3 }

-- a conjunction of two words, with its parts and the whole turned at the digits of the signs
abbrev pub joined_word : Signs → ℕ → ℕ → ℕ
joined_word s x y = bit_xor (bit_and (bit_xor x s.first) (bit_xor y s.second)) s.whole

abbrev pub joined_of : Signs → Block → Block → Block
joined_of s x y = record {
  w0 = joined_word s x.w0 y.w0;
  w1 = joined_word s x.w1 y.w1;
  w2 = joined_word s x.w2 y.w2;
  w3 = joined_word s x.w3 y.w3;
}

-- a block with the ones of a word in each of its words
abbrev pub raised_of : ℕ → Block → Block
raised_of w x = record { w0 = bit_or w x.w0; w1 = bit_or w x.w1; w2 = bit_or w x.w2; w3 = bit_or w x.w3 }

-- so joined in each pair, and with a smaller set only where it is so with the greater one too, or the pair is looked at alone
abbrev pub joined_truth : Signs → Truth → Truth → Truth
joined_truth s x y = record {
  here = both_of (raised_of s.alone (joined_of s x.there y.there)) (joined_of s x.here y.here);
  also = both_of (raised_of s.alone (joined_of s x.there y.there)) (joined_of s x.also y.also);
  there = joined_of s x.there y.there;
}

-- ---- a table of truths

-- the words of a truth
abbrev pub truth_words : ℕ
truth_words = 12

-- the truth at slot k: the words from 12k on
unfoldable pub here_in : List ℕ → ℕ → Block
here_in table k =
    let at = truth_words * k in
    record { w0 = get_or table at 0; w1 = get_or table (at + 1) 0; w2 = get_or table (at + 2) 0; w3 = get_or table (at + 3) 0 }

unfoldable pub also_in : List ℕ → ℕ → Block
also_in table k =
    let at = truth_words * k in
    record { w0 = get_or table (at + 4) 0; w1 = get_or table (at + 5) 0; w2 = get_or table (at + 6) 0; w3 = get_or table (at + 7) 0 }

unfoldable pub there_in : List ℕ → ℕ → Block
there_in table k =
    let at = truth_words * k in
    record { w0 = get_or table (at + 8) 0; w1 = get_or table (at + 9) 0; w2 = get_or table (at + 10) 0; w3 = get_or table (at + 11) 0 }

abbrev pub truth_in : List ℕ → ℕ → Truth
truth_in table k = record { here = here_in table k; also = also_in table k; there = there_in table k }

-- the table has slot k
abbrev pub Roomy : List ℕ → ℕ → Type 0
Roomy table k = truth_words * k + truth_words ≤ length table

-- slot k has this truth now, and the other slots have what they had
pub record TruthPut (table : List ℕ) (k : ℕ) (v : Truth) (table' : List ℕ) : Type 0 where
  pub long : length table' ≡ length table
  pub own : truth_in table' k ≡ v
  pub others : (i : ℕ) → (i ≡ k → ⊥) → truth_in table' i ≡ truth_in table i
