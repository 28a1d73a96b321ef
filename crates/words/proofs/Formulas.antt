-- Unique readability: a formula is read back from its words, whatever follows them.
use Prim.Native.Nat.{ℕ, zero, suc, max, ◌≤◌}
use mathlib.Core.Path.{◌≡◌, refl, sym, ap, ◌∙◌}
use mathlib.Core.Bool.{Bool, true, cond, ◌||◌}
use mathlib.Core.List.{[], ◌∷◌, ◌++◌, append-nil, append_assoc}
use mathlib.Core.Option.{Option, none, some}
use native.Mathlib.Omega.{arith}
use lib.Dec.{eqb}
use Rattle.format.specs.Text.{Bytes, bytes, all, is_letter, is_digit}
use Rattle.words.specs.Told.{Named, falsum, atom, neg, conj, disj, imp}
use Rattle.words.specs.Words.{formula_words}
use Rattle.words.proofs.Reading.{all_lack, before, before_is}

-- ---- the reader

-- something read, and the bytes after it
abbrev Read : Type 0
Read = Option (Named × Bytes)

-- the bytes after these, where they stand first
abbrev past : Bytes → Bytes → Option Bytes
past [] bs = some bs
past (w ∷ ws) [] = none
past (w ∷ ws) (b ∷ bs) = cond (eqb w b) (past ws bs) none

-- go on with the rest, or else
abbrev onwards : {X : Type 0} → Option Bytes → (Bytes → X) → X → X
onwards none go else = else
onwards (some rest) go else = go rest

-- go on with a formula and the rest
abbrev then : Read → (Named → Bytes → Read) → Read
then none go = none
then (some x) go = go x.0 x.1

-- the second part and the closing bracket
abbrev closed : (Bytes → Read) → (Named → Named → Named) → Named → Bytes → Read
closed formula pair A rest = then (formula rest) (λ B more. onwards (past (bytes ")") more) (λ after. some (pair A B, after)) none)

-- a formula, where so many levels are enough
abbrev read_formula : ℕ → Bytes → Read
read_formula zero bs = none
read_formula (suc n) bs =
    onwards (past (bytes "contradiction") bs) (λ rest. some (falsum, rest)) (
    onwards (past (bytes "\"") bs)
    (λ rest. onwards (past (bytes "\"") (before (λ b. eqb b 34) rest).1) (λ after. some (atom (before (λ b. eqb b 34) rest).0, after)) none) (
    onwards (past (bytes "not ") bs) (λ rest. then (read_formula n rest) (λ A after. some (neg A, after))) (
    onwards (past (bytes "(if ") bs)
    (λ rest. then (read_formula n rest) (λ A more. onwards (past (bytes " then ") more) (closed (read_formula n) imp A) none)) (
    onwards (past (bytes "(") bs)
    (λ rest. then (read_formula n rest) (λ A more.
    onwards (past (bytes " and ") more) (closed (read_formula n) conj A) (onwards (past (bytes " or ") more) (closed (read_formula n) disj A) none))) none))))

-- ---- what it reads back

-- how deep a formula is nested
abbrev depth : Named → ℕ
depth falsum = 1
depth (atom name) = 1
depth (neg A) = suc (depth A)
depth (conj A B) = suc (max (depth A) (depth B))
depth (disj A B) = suc (max (depth A) (depth B))
depth (imp A B) = suc (max (depth A) (depth B))

-- a byte of a name: a-z, 0-9 or `_`
abbrev pub name_byte : ℕ → Bool
name_byte b = is_letter b || is_digit b || eqb b 95

-- every name in the formula has only bytes of names, so neither a quote nor a zero
abbrev pub Spelled : Named → Type 0
Spelled falsum = Unit {0}
Spelled (atom name) = all name_byte name ≡ true
Spelled (neg A) = Spelled A
Spelled (conj A B) = Spelled A × Spelled B
Spelled (disj A B) = Spelled A × Spelled B
Spelled (imp A B) = Spelled A × Spelled B

-- no formula begins like the inside of `(if`
no_if : (A : Named) (r : Bytes) → past (bytes "if ") (formula_words A ++ r) ≡ none
unfolding formula_words
no_if = elim [
  | falsum ↦ λ r. refl
  | atom name ↦ λ r. refl
  | neg A ↦ λ r. refl
  | conj A B ↦ λ r. refl
  | disj A B ↦ λ r. refl
  | imp A B ↦ λ r. refl
]

-- the words of a formula in five pieces, then others
pieces_then : (p q s : Bytes) (a b r : Bytes) → (p ++ (a ++ (q ++ (b ++ (s ++ []))))) ++ r ≡ p ++ (a ++ (q ++ (b ++ (s ++ r))))
pieces_then p q s a b r = simp (append-nil, append_assoc)

read_back : (A : Named) → Spelled A → (n : ℕ) → depth A ≤ n → (r : Bytes) → read_formula n (formula_words A ++ r) ≡ some (A, r)
unfolding formula_words
read_back A h zero l r = absurd (shallow A l)
  where
    shallow : (B : Named) → depth B ≤ 0 → ⊥
    shallow = elim [
      | falsum ↦ λ k. omega arith
      | atom name ↦ λ k. omega arith
      | neg B ↦ λ k. omega arith
      | conj B C ↦ λ k. omega arith
      | disj B C ↦ λ k. omega arith
      | imp B C ↦ λ k. omega arith
    ]
read_back falsum h (suc n) l r = refl
read_back (atom name) h (suc n) l r =
    let whole : (name ++ (34 ∷ [])) ++ r ≡ name ++ 34 ∷ r = append_assoc name (34 ∷ []) r in
    rw (whole, before_is (λ b. eqb b 34) name (34 ∷ r) (all_lack name_byte 34 refl name h) refl)
read_back (neg A) h (suc n) l r = rw (append-nil (formula_words A), read_back A h n (omega arith) r)
read_back (conj A B) h (suc n) l r =
    ap (read_formula (suc n)) (pieces_then (bytes "(") (bytes " and ") (bytes ")") (formula_words A) (formula_words B) r)
    ∙ rw (no_if A, read_back A h.0 n (omega arith), read_back B h.1 n (omega arith))
read_back (disj A B) h (suc n) l r =
    ap (read_formula (suc n)) (pieces_then (bytes "(") (bytes " or ") (bytes ")") (formula_words A) (formula_words B) r)
    ∙ rw (no_if A, read_back A h.0 n (omega arith), read_back B h.1 n (omega arith))
read_back (imp A B) h (suc n) l r =
    ap (read_formula (suc n)) (pieces_then (bytes "(if ") (bytes " then ") (bytes ")") (formula_words A) (formula_words B) r)
    ∙ rw (read_back A h.0 n (omega arith), read_back B h.1 n (omega arith))

-- a formula is told by its words, and so is what follows them
pub told_formula : (A B : Named) → Spelled A → Spelled B → (r s : Bytes) → formula_words A ++ r ≡ formula_words B ++ s → (A ≡ B) × (r ≡ s)
told_formula A B h k r s e =
    let n = max (depth A) (depth B) in
    let read : ◌≡◌ {A = Read} (some (A, r)) (some (B, s)) =
    sym (read_back A h n (omega arith) r) ∙ ap (read_formula n) e ∙ read_back B k n (omega arith) s in
    let same : ◌≡◌ {A = Named × Bytes} (A, r) (B, s) = cc in
    (ap (λ (x : Named × Bytes). x.0) same, ap (λ (x : Named × Bytes). x.1) same)
