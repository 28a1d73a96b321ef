-- Words by their digits: one with any given digits exists, so each of the 256 pairs is a pair of sets of atoms, the smaller inside the
-- greater; and the words of two truths are the same exactly if the formulas hold alike in all 256. Numbers by their digits in base three.
use Prim.Native.Nat.{ℕ, zero, suc, ◌+◌, ◌*◌, ◌/◌, ◌%◌, ◌^◌, ◌<◌}
use native.Mathlib.Nat.{pow-suc}
use native.Mathlib.Omega.{arith}
use mathlib.Core.Bool.{Bool, true, false, cond, ◌&&◌}
use mathlib.Core.List.{List}
use mathlib.Core.Logic.{◌↔◌}
use mathlib.Core.Path.{◌≡◌, refl, sym, ap, subst, ◌∙◌}
use borrow.Author.Tests.{lt-ltb, eqb-true, eq-eqb}
use lib.Dec.{eqb, ltb}
use lib.ListN.{get_or}
use Rattle.equilibrium.specs.Formula.{Formula}
use Rattle.equilibrium.specs.Meaning.{◌⊆◌}
use Rattle.equilibrium.proofs.Satisfaction.{persists}
use Rattle.format.specs.File.{Body}
use Rattle.format.proofs.Booleans.{and_true}
use Rattle.std.proofs.lemmas.Bool.{and_from}
use Rattle.atomset.specs.AtomSet.{has, Included, members}
use Rattle.atomset.proofs.Membership.{member_lt}
use Rattle.atomset.proofs.Members.{member_members}
use Rattle.pairs.specs.Pairs.{holds_in}
use Rattle.pairs.proofs.Pairs.{holds_in_iff}
use Rattle.alike.specs.Blocks.{SameWords, here_in, also_in, truth_in}
use Rattle.alike.specs.declared.blocks.Block.{Block}
use Rattle.alike.specs.Under.{slot_of}
use Rattle.alike.specs.Truths.{inner_places, third, here_at, there_at, place_of, View, Pair, Seen, Right}
use Rattle.alike.specs.Survivors.{SameHere, AlikeAt}
use Rattle.alike.proofs.BlockDigits.{Small, same_digits, here_small, also_small}

-- two tests that say the same are one
pub same_truth_lem : (a b : Bool) → (a ≡ true) ↔ (b ≡ true) → a ≡ b
same_truth_lem true b e = sym (e.0 refl)
same_truth_lem false true e = e.1 refl
same_truth_lem false false e = refl

-- two blocks are equal, by their words
abbrev pub equal_words : Block → Block → Bool
equal_words x y = eqb x.w0 y.w0 && (eqb x.w1 y.w1 && (eqb x.w2 y.w2 && eqb x.w3 y.w3))

equal_iff : (x y : Block) → (equal_words x y ≡ true) ↔ SameWords x y
equal_iff x y = (
  λ e.
      let p = and_true (eqb x.w0 y.w0) (eqb x.w1 y.w1 && (eqb x.w2 y.w2 && eqb x.w3 y.w3)) e in
      let q = and_true (eqb x.w1 y.w1) (eqb x.w2 y.w2 && eqb x.w3 y.w3) p.1 in
      let r = and_true (eqb x.w2 y.w2) (eqb x.w3 y.w3) q.1 in
      record { w0 = eqb-true _ _ p.0; w1 = eqb-true _ _ q.0; w2 = eqb-true _ _ r.0; w3 = eqb-true _ _ r.1 },
  λ s. and_from _ _ (eq-eqb _ _ s.w0) (and_from _ _ (eq-eqb _ _ s.w1) (and_from _ _ (eq-eqb _ _ s.w2) (eq-eqb _ _ s.w3))),
)

-- and two more
pub both_equal : (x y z w : Block) {r : Bool} → r ≡ (equal_words x y && equal_words z w) → (r ≡ true) ↔ (SameWords x y × SameWords z w)
both_equal x y z w e = (
  λ t. let p = and_true (equal_words x y) (equal_words z w) (sym e ∙ t) in ((equal_iff x y).0 p.0, (equal_iff z w).0 p.1),
  λ (p, q). e ∙ and_from _ _ ((equal_iff x y).1 p) ((equal_iff z w).1 q),
)

-- a word of k digits with those given
pub record WordOf (k : ℕ) (f : ℕ → Bool) : Type 0 where
  pub word : ℕ
  pub small : word < 2 ^ k
  pub digits : (i : ℕ) → i < k → has word i ≡ f i

-- one digit more, below the others
odd : {k : ℕ} (f : ℕ → Bool) (w : WordOf k (λ i. f (suc i))) → f 0 ≡ true → (i : ℕ) → i < suc k → has (1 + 2 * w.word) i ≡ f i
unfolding has
odd f w e zero l = let low : (1 + 2 * w.word) % 2 ≡ 1 = omega arith in ap (λ (d : ℕ). eqb d 1) low ∙ sym e
odd f w e (suc i) l = let half : (1 + 2 * w.word) / 2 ≡ w.word = omega arith in ap (λ (x : ℕ). has x i) half ∙ w.digits i (omega arith)

even : {k : ℕ} (f : ℕ → Bool) (w : WordOf k (λ i. f (suc i))) → f 0 ≡ false → (i : ℕ) → i < suc k → has (2 * w.word) i ≡ f i
unfolding has
even f w e zero l = let low : (2 * w.word) % 2 ≡ 0 = omega arith in ap (λ (d : ℕ). eqb d 1) low ∙ sym e
even f w e (suc i) l = let half : (2 * w.word) / 2 ≡ w.word = omega arith in ap (λ (x : ℕ). has x i) half ∙ w.digits i (omega arith)

pub word_of : (k : ℕ) (f : ℕ → Bool) → WordOf k f
word_of zero f = record { word = 0; small = omega arith; digits = λ i l. absurd (omega arith) }
word_of (suc k) f = by (f 0) refl (word_of k (λ i. f (suc i)))
  where
    by : (b : Bool) → f 0 ≡ b → WordOf k (λ i. f (suc i)) → WordOf (suc k) f
    by true e w = record { word = 1 + 2 * w.word; small = omega (arith, pow-suc 2 k, w.small); digits = odd f w e }
    by false e w = record { word = 2 * w.word; small = omega (arith, pow-suc 2 k, w.small); digits = even f w e }

-- a number of k digits in base three with those given
pub record NumberOf (k : ℕ) (f : ℕ → ℕ) : Type 0 where
  pub number : ℕ
  pub small : number < 3 ^ k
  pub digits : (s : ℕ) → s < k → third number s ≡ f s

-- one digit more, below the others
more_digits : {k : ℕ} (f : ℕ → ℕ) (m : NumberOf k (λ s. f (suc s))) → f 0 < 3 → (s : ℕ) → s < suc k → third (f 0 + 3 * m.number) s ≡ f s
unfolding third
more_digits f m low zero l = omega arith
more_digits f m low (suc s) l =
    let rest : (f 0 + 3 * m.number) / 3 ≡ m.number = omega arith in
    ap (λ (x : ℕ). third x s) rest ∙ m.digits s (omega arith)

pub number_of : (k : ℕ) (f : ℕ → ℕ) → ((s : ℕ) → f s < 3) → NumberOf k f
number_of zero f low = record { number = 0; small = omega arith; digits = λ s l. absurd (omega arith) }
number_of (suc k) f low =
    let m = number_of k (λ s. f (suc s)) (λ s. low (suc s)) in
    record { number = f 0 + 3 * m.number; small = omega (arith, pow-suc 3 k, m.small, low 0); digits = more_digits f m (low 0) }

module _ (places : List ℕ) (h t n : ℕ) where
  abbrev pub heres : ℕ → Bool
  heres p = here_at h (place_of places p) n

  abbrev pub theres : ℕ → Bool
  theres p = there_at t (place_of places p) n

  -- pair n as two sets of atoms
  pub pair_of : Pair places h t n (word_of 64 heres).word (word_of 64 theres).word
  pair_of = record {
    here_small = (word_of 64 heres).small;
    there_small = (word_of 64 theres).small;
    here = (word_of 64 heres).digits;
    there = (word_of 64 theres).digits;
  }

-- a place of the smaller set of pair n is one of the greater set
here_there : (h t : ℕ) → Included h t → (s n : ℕ) → here_at h s n ≡ true → there_at t s n ≡ true
unfolding here_at there_at
here_there h t inside s n = by (ltb s inner_places)
  where
    by : (b : Bool) → cond b (eqb (third n s) 2) (has h s) ≡ true → cond b (ltb 0 (third n s)) (has t s) ≡ true
    by true e = lt-ltb 0 (third n s) (omega (arith, eqb-true (third n s) 2 e))
    by false e = inside s e

-- and so of its sets of atoms
pub pair_inside : {places : List ℕ} {h t n h' t' : ℕ} → Pair places h t n h' t' → Included h t → members h' ⊆ members t'
pair_inside {places} {h} {t} {n} {h'} {t'} pair inside p m =
    let here = (member_members h' pair.here_small p).1 m in
    let low = member_lt 64 h' p pair.here_small here in
    (member_members t' pair.there_small p).0
    (pair.there p low ∙ here_there h t inside (place_of places p) n (sym (pair.here p low) ∙ here))

-- what holds in such a pair holds in its greater set
pub pair_persists : {places : List ℕ} {h t n h' t' : ℕ} → Pair places h t n h' t' → Included h t → (A : Formula) → holds_in h' t' A ≡ true
    → holds_in t' t' A ≡ true
pair_persists {h' = h'} {t'} pair inside A e =
    let there = member_members t' pair.there_small in
    (holds_in_iff A t' t' there there).1
    (persists (pair_inside pair inside) A ((holds_in_iff A h' t' (member_members h' pair.here_small) there).0 e))

-- the same words for both exactly if they hold alike, with one smaller set
seen_iff : (b : Body) (places : List ℕ) (h t a x : ℕ) (u v : View) → Seen b places h t a u → Seen b places h t x v → Small u.here → Small v.here
    → SameWords v.here u.here ↔ AlikeAt b places h t a x
seen_iff b places h t a x u v own other own-small other-small =
    let same = same_digits v.here u.here other-small own-small in (
      λ s n l h' t' pair. sym (other n l h' t' pair).0 ∙ same.0 s n l ∙ (own n l h' t' pair).0,
      λ alike. same.1 (λ n l.
          let pair = pair_of places h t n in
          (other n l _ _ pair).0 ∙ alike n l _ _ pair ∙ sym (own n l _ _ pair).0),
    )

-- and with both
pub same_here_iff : (b : Body) (places : List ℕ) (h g t : ℕ) (table slots : List ℕ) (a x : ℕ) → Right b places h g t a (truth_in table (slot_of slots a))
    → Right b places h g t x (truth_in table (slot_of slots x))
    → ((i : ℕ) → get_or table i 0 < 2 ^ 64) → SameHere table slots a x ↔ (AlikeAt b places h t a x × AlikeAt b places g t a x)
same_here_iff b places h g t table slots a x own other small =
    let first = seen_iff b places h t a x _ _ own.first other.first (here_small table small _) (here_small table small _) in
    let second = seen_iff b places g t a x _ _ own.second other.second (also_small table small _) (also_small table small _) in
    (λ (p, q). (first.0 p, second.0 q), λ (p, q). (first.1 p, second.1 q))

-- equal blocks have the same words as each other's
same_as : {x x' y y' : Block} → x ≡ x' → y ≡ y' → SameWords x y → SameWords x' y'
same_as {x} {x'} {y} {y'} e f s = subst (SameWords x') f (subst (λ (z : Block). SameWords z y) e s)

-- two formulas compared, by what was read of each
pub same_at : (table slots side : List ℕ) (own c : ℕ) {here also here' also' : Block} {i j k x : ℕ}
    → here ≡ here_in table i → i ≡ slot_of slots own → also ≡ also_in table j → j ≡ slot_of slots own
    → here' ≡ here_in table k → also' ≡ also_in table k → k ≡ slot_of slots x → x ≡ get_or side c 0
    → {r : Bool} → (r ≡ true) ↔ (SameWords here' here × SameWords also' also) → (r ≡ true) ↔ SameHere table slots own (get_or side c 0)
same_at table slots side own c {here} {also} {here'} {also'} a i b j d e k x {r} says =
    let slot = k ∙ ap (slot_of slots) x in
    let first = d ∙ ap (here_in table) slot in
    let second = e ∙ ap (also_in table) slot in
    let one = a ∙ ap (here_in table) i in
    let two = b ∙ ap (also_in table) j in (
      λ t. let s = says.0 t in (same_as first one s.0, same_as second two s.1),
      λ (p, q). says.1 (same_as (sym first) (sym one) p, same_as (sym second) (sym two) q),
    )
