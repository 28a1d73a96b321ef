-- A word of an F line is told by its key, and a kind of line by its one byte.
-- Assumes nothing.
use Prim.Native.Nat.{ℕ, zero, suc, ◌+◌, ◌*◌, ◌^◌, ◌≤◌, ◌<◌}
use mathlib.Core.Path.{◌≡◌, refl, sym, ap, ◌∙◌}
use mathlib.Core.Bool.{Bool, true, false, cond, true≢false, ◌||◌}
use mathlib.Core.List.{[], ◌∷◌, ◌++◌, append_assoc}
use Rattle.std.proofs.lemmas.List.{get_or-append-add}
use native.Mathlib.Nat.{pow-suc, pow-le-pow_right}
use native.Mathlib.Omega.{arith}
use lib.Dec.{eqb, leb, ltb, lit<}
use lib.ListN.{length, get_or, length-append}
use borrow.Author.Tests.{eq-eqb, ne_eqb, leb-true, ltb-true}
use Rattle.format.specs.Text.{Bytes, same_list, all, bytes, is}
use Rattle.format.proofs.Booleans.{and_true as both, same_list_lem}
use Rattle.parts.specs.Refusals.{bad_unless, refusal_of}
use Rattle.parts.proofs.OneByte.{one_byte, not_one_byte}
use Rattle.keywords.specs.Words.{kind_named, formula_word, key_of, IsKey, KindRead, WordRead}
use Rattle.keywords.specs.declared.Kind.TheVariants.{Atom, Formula, Row, Model, Claim}
use Rattle.keywords.specs.declared.Kind.{Kind}
use Rattle.keywords.specs.declared.Word.{Word}
use Rattle.std.specs.Prelude.{Option, None, Some}

-- ---- kinds of line

pub kind_long : (field : Bytes) → (length field ≡ 1 → ⊥) → kind_named field ≡ None
unfolding kind_named
kind_long field h =
    simp (not_one_byte field 65 h, not_one_byte field 70 h, not_one_byte field 78 h, not_one_byte field 77 h, not_one_byte field 67 h)

pub kind_byte : (field : Bytes) → length field ≡ 1
    → kind_named field
    ≡ cond (eqb (get_or field 0 0) 65) (Some Atom) (
    cond (eqb (get_or field 0 0) 70) (Some Formula) (
    cond (eqb (get_or field 0 0) 78) (Some Row) (
    cond (eqb (get_or field 0 0) 77) (Some Model) (cond (eqb (get_or field 0 0) 67) (Some Claim) None))))
unfolding kind_named
kind_byte field h = simp (one_byte field 65 h, one_byte field 70 h, one_byte field 78 h, one_byte field 77 h, one_byte field 67 h)

kind_refusal : (a f n m c : Bool)
    → refusal_of (cond a (Some Atom) (cond f (Some Formula) (cond n (Some Row) (cond m (Some Model) (cond c (Some Claim) None))))) ≡ bad_unless (a || f || n || m || c)
kind_refusal true f n m c = refl
kind_refusal false true n m c = refl
kind_refusal false false true m c = refl
kind_refusal false false false true c = refl
kind_refusal false false false false true = refl
kind_refusal false false false false false = refl

pub kind_answered : (field : Bytes) {r : Option Kind} → r ≡ kind_named field → KindRead field r
unfolding kind_named
kind_answered field e =
    record { answer = e; refusal = ap refusal_of e ∙ kind_refusal (is "A" field) (is "F" field) (is "N" field) (is "M" field) (is "C" field) }

-- ---- words of an F line

word_refusal : (b a n c o i : Bool)
    → refusal_of (
    cond b (Some Word.Bot) (
    cond a (Some Word.Atom) (
    cond n (Some Word.Not) (cond c (Some Word.And) (cond o (Some Word.Or) (cond i (Some Word.Imp) None))))))
    ≡ bad_unless (b || a || n || c || o || i)
word_refusal true a n c o i = refl
word_refusal false true n c o i = refl
word_refusal false false true c o i = refl
word_refusal false false false true o i = refl
word_refusal false false false false true i = refl
word_refusal false false false false false true = refl
word_refusal false false false false false false = refl

pub word_answered : (field : Bytes) {r : Option Word} → r ≡ formula_word field → WordRead field r
unfolding formula_word
word_answered field e =
    record {
      answer = e;
      refusal =
          ap refusal_of e
          ∙ word_refusal (is "bot" field) (is "atom" field) (is "not" field) (is "and" field) (is "or" field) (is "imp" field);
    }

-- ---- keys

pub formula_key : (field : Bytes) (key : ℕ) → IsKey field key
    → formula_word field
    ≡ cond (eqb key 0x1746f62) (Some Word.Bot) (
    cond (eqb key 0x16d6f7461) (Some Word.Atom) (
    cond (eqb key 0x1746f6e) (Some Word.Not) (
    cond (eqb key 0x1646e61) (Some Word.And) (cond (eqb key 0x1726f) (Some Word.Or) (cond (eqb key 0x1706d69) (Some Word.Imp) None)))))
unfolding formula_word key_of
formula_key field key k =
    simp (
      sym (k (bytes "bot") refl),
      sym (k (bytes "atom") refl),
      sym (k (bytes "not") refl),
      sym (k (bytes "and") refl),
      sym (k (bytes "or") refl),
      sym (k (bytes "imp") refl),
    )

-- each is a byte
abbrev pub Small : Bytes → Type 0
Small bs = (i : ℕ) → get_or bs i 0 < 256

-- numbers that are all below one, each by its place
pub all_below : (n : ℕ) → 0 < n → (bs : Bytes) → all (λ b. ltb b n) bs ≡ true → (i : ℕ) → get_or bs i 0 < n
all_below n h [] e i = h
all_below n h (b ∷ bs) e zero = ltb-true b n (both (ltb b n) (all (λ b. ltb b n) bs) e).0
all_below n h (b ∷ bs) e (suc i) = all_below n h bs (both (ltb b n) (all (λ b. ltb b n) bs) e).1 i

key_pos : (bs : Bytes) → 1 ≤ key_of bs
unfolding key_of
key_pos [] = omega arith
key_pos (b ∷ bs) = omega (arith, key_pos bs)

key_injective : (a b : Bytes) → Small a → Small b → key_of a ≡ key_of b → same_list a b ≡ true
unfolding key_of same_list
key_injective [] [] s t e = refl
key_injective [] (y ∷ b) s t e = absurd (omega (arith, key_pos b))
key_injective (x ∷ a) [] s t e = absurd (omega (arith, key_pos a))
key_injective (x ∷ a) (y ∷ b) s t e =
    let first : x ≡ y = omega (arith, s 0, t 0) in
    let rest : key_of a ≡ key_of b = omega arith in
    rw (eq-eqb x y first) (key_injective a b (λ i. s (suc i)) (λ i. t (suc i)) rest)

key_bound : (bs : Bytes) (n : ℕ) → Small bs → length bs ≤ n → key_of bs < 2 * 256 ^ n
unfolding key_of
key_bound [] n s h = omega (arith, pow-le-pow_right {n = 256} (lit< tt) {i = 0} {j = n} (omega arith))
key_bound (b ∷ bs) zero s h = absurd (omega arith)
key_bound (b ∷ bs) (suc n) s h = rw (pow-suc) (omega (arith, s 0, key_bound bs n (λ i. s (suc i)) (omega arith)))

-- a turn of `pack`: the bytes of a field but the last ones, and the last of those
module _ (field rest rest' ys : Bytes) (b : ℕ) (left : rest ≡ rest' ++ b ∷ []) (h : rest ++ ys ≡ field) where
  pub key_more : rest' ++ b ∷ ys ≡ field
  key_more = sym (append_assoc rest' (b ∷ []) ys) ∙ ap (λ r. r ++ ys) (sym left) ∙ h

  small_end : Small field → Small ys
  small_end s i = rw (← get_or-append-add rest ys i 0) (rw h (s (length rest + i)))

  pub key_room : Small field → length field ≤ 7 → key_of ys < 2 * 256 ^ 6
  key_room s short =
      key_bound ys 6 (small_end s) (omega (arith, ap length h, length-append rest ys, ap length left, length-append rest' (b ∷ [])))

key_tells : (field : Bytes) → Small field → IsKey field (key_of field)
key_tells field s word short =
    by_test (same_list field word) refl (all_below 256 (lit< tt) word (both (leb (length word) 7) (all (λ b. ltb b 256) word) short).1)
  where
    by_test : (t : Bool) → same_list field word ≡ t → Small word → eqb (key_of field) (key_of word) ≡ t
    by_test true e w = eq-eqb _ _ (ap key_of (same_list_lem field word e))
    by_test false e w = ne_eqb _ _ (λ k. true≢false (sym (key_injective field word s w k) ∙ e))

pub key_done : (field rest ys : Bytes) (key : ℕ) → Small field → length rest ≡ 0 → rest ++ ys ≡ field → key ≡ key_of ys → IsKey field key
key_done field [] ys key s l h e = rw (e ∙ ap key_of h) (key_tells field s)
key_done field (b ∷ rest) ys key s l h e = absurd (omega arith)

pub no_key : (field : Bytes) → 7 < length field → IsKey field 0
no_key field h word short = by_test (same_list field word) refl
  where
    by_test : (t : Bool) → same_list field word ≡ t → eqb 0 (key_of word) ≡ t
    by_test true e =
        absurd (omega (arith, ap length (same_list_lem field word e), leb-true (length word) 7 (both (leb (length word) 7) (all (λ b. ltb b 256) word) short).0))
    by_test false e = ne_eqb 0 (key_of word) (λ (k : 0 ≡ key_of word). omega (arith, key_pos word))
