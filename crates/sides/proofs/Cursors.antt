-- Two cursors on two sides: what they have passed decides whether each side has what the other has, but for what is added to it.
use Prim.Native.Nat.{ℕ, ◌+◌, ◌-◌, ◌≤◌, ◌<◌}
use native.Mathlib.Decide.{dec_lt, ℕ_discrete}
use native.Mathlib.Omega.{arith}
use mathlib.Core.Bool.{Bool, true, false}
use mathlib.Core.List.{List, [], ◌∷◌}
use mathlib.Core.Logic.{◌⊎◌, inl, inr, ⊎_elim}
use mathlib.Core.Path.{◌≡◌, sym, ap, subst, ◌∙◌}
use lib.ListN.{length, get_or}
use Rattle.equilibrium.specs.Meaning.{◌∈◌}
use Rattle.format.specs.Text.{strictly_rising}
use Rattle.format.proofs.GoodBodies.{in_get_d}
use Rattle.sides.specs.declared.numbers.Numbers.{Numbers}
use Rattle.sides.specs.Members.{AllRise}
use Rattle.sides.specs.Covering.{Covered}
use Rattle.sides.specs.Merging.{IsAdded, RestAdded, SameFrom, Agree}
use Rattle.sides.specs.Deciding.{Decides, DecidesIf}
use Rattle.sides.proofs.Deciding.{no_if}
use Rattle.sides.proofs.Either.{place_of}
use Rattle.sides.proofs.Sets.{rising_at}

-- one more added number
pub added_more :
    (side : List ℕ) (at : ℕ) (p : Numbers) (i : ℕ) → ((k : ℕ) → at ≤ k → k < i → IsAdded p (get_or side k 0)) → IsAdded p (get_or side i 0)
    → (k : ℕ) → at ≤ k → k < i + 1 → IsAdded p (get_or side k 0)
added_more side at p i before now k l h = by (dec_lt k i)
  where
    by : Dec (k < i) → IsAdded p (get_or side k 0)
    by (yes m) = before k l m
    by (no n) = let e : k ≡ i = omega arith in subst (λ (t : ℕ). IsAdded p (get_or side t 0)) (sym e) now

-- the numbers of a before i are added or in b
abbrev Passed : List ℕ → Numbers → List ℕ → ℕ → Type 0
Passed a p b i = (k : ℕ) → k < i → IsAdded p (get_or a k 0) ⊎ (get_or a k 0 ∈ b)

-- where both rise, the numbers of a before i are below b's next
abbrev Below : List ℕ → ℕ → List ℕ → ℕ → Type 0
Below a i b j = strictly_rising a ≡ true → strictly_rising b ≡ true → j < length b → (k : ℕ) → k < i → get_or a k 0 < get_or b j 0

pub record Cursors (a : List ℕ) (p : Numbers) (b : List ℕ) (q : Numbers) (i j : ℕ) : Type 0 where
  pub in_a : i ≤ length a
  pub in_b : j ≤ length b
  passed_a : Passed a p b i
  passed_b : Passed b q a j
  below_b : Below a i b j
  below_a : Below b j a i

none_passed : {a b : List ℕ} {p q : Numbers} → Cursors a p b q 0 0
none_passed = record {
  in_a = omega arith;
  in_b = omega arith;
  passed_a = λ k h. absurd (omega arith);
  passed_b = λ k h. absurd (omega arith);
  below_b = λ ra rb l k h. absurd (omega arith);
  below_a = λ ra rb l k h. absurd (omega arith);
}

-- by other names of the places
pub at_places :
    {a b : List ℕ} {p q : Numbers} {i j i' j' : ℕ} → Cursors a p b q i j → i' ≡ i → j' ≡ j → Cursors a p b q i' j'
at_places {a} {b} {p} {q} {j} {i'} c e f =
    subst (λ (t : ℕ). Cursors a p b q i' t) (sym f) (subst (λ (t : ℕ). Cursors a p b q t j) (sym e) c)

-- the sides change places
flip : {a b : List ℕ} {p q : Numbers} {i j : ℕ} → Cursors a p b q i j → Cursors b q a p j i
flip c = record {
  in_a = c.in_b;
  in_b = c.in_a;
  passed_a = c.passed_b;
  passed_b = c.passed_a;
  below_b = c.below_a;
  below_a = c.below_b;
}

flip_same : {a b : List ℕ} {i j n : ℕ} → SameFrom a i b j n → SameFrom b j a i n
flip_same s = record { in_a = s.in_b; in_b = s.in_a; same = λ k h. sym (s.same k h) }

-- numbers that are the same are passed
module _ {a b : List ℕ} {i j n : ℕ} (s : SameFrom a i b j n) where
  -- a's number at i + k, by k places past i
  at_place : (k : ℕ) → i ≤ k → k < i + n → get_or a k 0 ≡ get_or b (j + (k - i)) 0
  at_place k l h = let e : k ≡ i + (k - i) = omega arith in ap (λ (t : ℕ). get_or a t 0) e ∙ s.same (k - i) (omega arith)

  same_passed : (p : Numbers) → Passed a p b i → Passed a p b (i + n)
  same_passed p f k h = by (dec_lt k i)
    where
      by : Dec (k < i) → IsAdded p (get_or a k 0) ⊎ (get_or a k 0 ∈ b)
      by (yes l) = f k l
      by (no l) = inr (subst (λ (z : ℕ). z ∈ b) (sym (at_place k (omega arith) h)) (in_get_d b (j + (k - i)) 0 (omega (arith, s.in_b))))

  same_below : Below a i b j → Below a (i + n) b (j + n)
  same_below f ra rb l k h = by (dec_lt k i) (dec_lt 0 n)
    where
      by : Dec (k < i) → Dec (0 < n) → get_or a k 0 < get_or b (j + n) 0
      by (yes m) (yes z) = omega (arith, f ra rb (omega arith) k m, rising_at b j (j + n) rb (omega arith) l)
      by (yes m) (no z) =
          let e : j + n ≡ j = omega arith in
          subst (λ (t : ℕ). get_or a k 0 < get_or b t 0) (sym e) (f ra rb (omega arith) k m)
      by (no m) z = omega (arith, at_place k (omega arith) h, rising_at b (j + (k - i)) (j + n) rb (omega arith) l)

pub pass_same : {a b : List ℕ} {p q : Numbers} {i j n : ℕ} → Cursors a p b q i j → SameFrom a i b j n → Cursors a p b q (i + n) (j + n)
pass_same {p} {q} c s = record {
  in_a = s.in_a;
  in_b = s.in_b;
  passed_a = same_passed s p c.passed_a;
  passed_b = same_passed (flip_same s) q c.passed_b;
  below_b = same_below s c.below_b;
  below_a = same_below (flip_same s) c.below_a;
}

-- before all others
pub at_start : {a b : List ℕ} {p q : Numbers} {n : ℕ} → SameFrom a 0 b 0 n → Cursors a p b q n n
at_start {a} {b} {p} {q} {n} s = let e : 0 + n ≡ n = omega arith in subst (λ (t : ℕ). Cursors a p b q t t) e (pass_same none_passed s)

module _ {a b : List ℕ} {p q : Numbers} {i j : ℕ} (c : Cursors a p b q i j) where
  -- an added number of a below b's next is passed
  pub pass_a : i < length a → j < length b → get_or a i 0 < get_or b j 0 → IsAdded p (get_or a i 0) → Cursors a p b q (i + 1) j
  pass_a l m h f = record {
    in_a = omega arith;
    in_b = c.in_b;
    passed_a = more;
    passed_b = c.passed_b;
    below_b = λ ra rb n. below ra rb n;
    below_a = λ rb ra n k d. omega (arith, c.below_a rb ra l k d, rising_at a i (i + 1) ra (omega arith) n);
  }
    where
      more : Passed a p b (i + 1)
      more k d = by (dec_lt k i)
        where
          by : Dec (k < i) → IsAdded p (get_or a k 0) ⊎ (get_or a k 0 ∈ b)
          by (yes n) = c.passed_a k n
          by (no n) = let e : k ≡ i = omega arith in inl (subst (λ (t : ℕ). IsAdded p (get_or a t 0)) (sym e) f)

      below : Below a (i + 1) b j
      below ra rb n k d = by (dec_lt k i)
        where
          by : Dec (k < i) → get_or a k 0 < get_or b j 0
          by (yes e) = c.below_b ra rb n k e
          by (no e) = let k≡i : k ≡ i = omega arith in omega (arith, ap (λ (t : ℕ). get_or a t 0) k≡i)

  -- a number of a that is below b's next, or finds b at its end, is not in b where both rise
  not_in_b : strictly_rising a ≡ true → strictly_rising b ≡ true → (k : ℕ) → i ≤ k → k < length a → (j < length b → get_or a k 0 < get_or b j 0)
      → get_or a k 0 ∈ b → ⊥
  not_in_b ra rb k l h under m = by (place_of b (get_or a k 0) m)
    where
      by : (n : ℕ) × (n < length b) × (get_or b n 0 ≡ get_or a k 0) → ⊥
      by (n, d, e) = apart (dec_lt n j) (dec_lt i k) (dec_lt j n)
        where
          apart : Dec (n < j) → Dec (i < k) → Dec (j < n) → ⊥
          apart (yes u) (yes v) w = omega (arith, c.below_a rb ra (omega arith) n u, rising_at a i k ra v h)
          apart (yes u) (no v) w =
              let i≡k : i ≡ k = omega arith in omega (arith, c.below_a rb ra (omega arith) n u, ap (λ (t : ℕ). get_or a t 0) i≡k)
          apart (no u) v (yes w) = omega (arith, under (omega arith), rising_at b j n rb w d)
          apart (no u) v (no w) = let j≡n : j ≡ n = omega arith in omega (arith, under (omega arith), ap (λ (t : ℕ). get_or b t 0) j≡n)

  -- where such a number is not added either, the sides do not agree
  pub missed_a :
      i < length a → j < length b → get_or a i 0 < get_or b j 0 → (IsAdded p (get_or a i 0) → ⊥)
      → DecidesIf (AllRise (a ∷ b ∷ [])) (Agree a p b q) false
  missed_a l m h n =
      no_if (λ g f.
      not_in_b g.0 g.1.0 i (omega arith) l (λ d. h) (f.0 (get_or a i 0) (in_get_d a i 0 l) (λ e. n (inl e)) (λ e. n (inr e))))

  -- all of a is passed
  all_covered : Passed a p b (length a) → Covered a p.x p.y b
  all_covered f z m nx ny = by (place_of a z m)
    where
      by : (k : ℕ) × (k < length a) × (get_or a k 0 ≡ z) → z ∈ b
      by (k, h, e) =
          ⊎_elim (⊎_elim (λ u. absurd (nx (sym e ∙ u))) (λ u. absurd (ny (sym e ∙ u)))) (λ u. subst (λ (t : ℕ). t ∈ b) e u) (f k h)

  -- b is at its end: the rest of a decides
  pub at_end_b : length b ≤ j → {r : Bool} → Decides (RestAdded a i p) r → DecidesIf (AllRise (a ∷ b ∷ [])) (Agree a p b q) r
  at_end_b h d = record { sound = λ e. (all_covered (whole (d.sound e)), covered_b); complete = λ g f. d.complete (rest g.0 g.1.0 f.0) }
    where
      whole : RestAdded a i p → Passed a p b (length a)
      whole f k l = by (dec_lt k i)
        where
          by : Dec (k < i) → IsAdded p (get_or a k 0) ⊎ (get_or a k 0 ∈ b)
          by (yes m) = c.passed_a k m
          by (no m) = inl (f k (omega arith) l)

      covered_b : Covered b q.x q.y a
      covered_b z m nx ny = by (place_of b z m)
        where
          by : (k : ℕ) × (k < length b) × (get_or b k 0 ≡ z) → z ∈ a
          by (k, l, e) =
              ⊎_elim (⊎_elim (λ u. absurd (nx (sym e ∙ u))) (λ u. absurd (ny (sym e ∙ u)))) (λ u. subst (λ (t : ℕ). t ∈ a) e u)
              (c.passed_b k (omega arith))

      rest : strictly_rising a ≡ true → strictly_rising b ≡ true → Covered a p.x p.y b → RestAdded a i p
      rest ra rb f k l m = by (ℕ_discrete (get_or a k 0) p.x) (ℕ_discrete (get_or a k 0) p.y)
        where
          by : Dec (get_or a k 0 ≡ p.x) → Dec (get_or a k 0 ≡ p.y) → IsAdded p (get_or a k 0)
          by (yes e) v = inl e
          by (no u) (yes e) = inr e
          by (no u) (no v) = absurd (not_in_b ra rb k l m (λ d. absurd (omega arith)) (f (get_or a k 0) (in_get_d a k 0 m) u v))

-- the same with the sides in the other order
flip_agrees :
    {a b : List ℕ} {p q : Numbers} {r : Bool} → DecidesIf (AllRise (a ∷ b ∷ [])) (Agree a p b q) r
    → DecidesIf (AllRise (b ∷ a ∷ [])) (Agree b q a p) r
flip_agrees d = record {
  sound = λ e. let f = d.sound e in (f.1, f.0);
  complete = λ g f. d.complete (g.1.0, (g.0, tt)) (f.1, f.0);
}

module _ {a b : List ℕ} {p q : Numbers} {i j : ℕ} (c : Cursors a p b q i j) where
  pub pass_b : i < length a → j < length b → get_or b j 0 < get_or a i 0 → IsAdded q (get_or b j 0) → Cursors a p b q i (j + 1)
  pass_b l m h f = flip (pass_a (flip c) m l h f)

  pub missed_b :
      i < length a → j < length b → get_or b j 0 < get_or a i 0 → (IsAdded q (get_or b j 0) → ⊥)
      → DecidesIf (AllRise (a ∷ b ∷ [])) (Agree a p b q) false
  missed_b l m h n = flip_agrees (missed_a (flip c) m l h n)

  pub at_end_a : length a ≤ i → {r : Bool} → Decides (RestAdded b j q) r → DecidesIf (AllRise (a ∷ b ∷ [])) (Agree a p b q) r
  at_end_a h d = flip_agrees (at_end_b (flip c) h d)
