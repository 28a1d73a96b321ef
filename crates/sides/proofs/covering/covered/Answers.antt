use Prim.Native.Nat.{ℕ, zero, suc, ◌+◌, ◌≤◌, ◌<◌}
use native.Mathlib.Decide.{dec_lt}
use native.Mathlib.Numerals.{add-one}
use native.Mathlib.Omega.{arith}
use mathlib.Core.Bool.{Bool, true, false, ◌&&◌, ◌||◌, or-true, false≢true}
use mathlib.Core.List.{List, [], ◌∷◌}
use mathlib.Core.Logic.{⊎_elim}
use mathlib.Core.Path.{◌≡◌, refl, sym, ap, subst, ◌∙◌}
use borrow.Author.Count.{below_none, below_more}
use borrow.Author.Rules.{rules}
use borrow.Author.Tests.{eq-eqb, ne_eqb}
use lib.Dec.{eqb}
use lib.ListN.{length, get_or, drop, drop_of_length-le}
use lib.Seq.{drop-cons}
use Rattle.format.specs.Text.{strictly_rising}
use Rattle.sides.specs.Members.{member, AllRise}
use Rattle.sides.specs.Covering.{Covered}
use Rattle.sides.specs.Deciding.{DecidesIf}
use Rattle.sides.specs.Merging.{SameFrom}
use Rattle.sides.proofs.Deciding.{yes_if, no_if}
use Rattle.sides.proofs.Sets.{covered_by, covered_iff, member_at, not_member, rising_at}
use Rattle.sides.proofs.Stretches.{first_same, others_same}
use Rattle.sides.proofs.covering.covered.Goals as goal
use Rattle.sides.proofs.covering.covered.Invariants.{Cursors}

-- z is x, y or in b
abbrev passes : ℕ → ℕ → List ℕ → ℕ → Bool
passes x y b z = eqb z x || eqb z y || member z b

module _ (x y : ℕ) (b : List ℕ) (z : ℕ) where
  is_x : z ≡ x → passes x y b z ≡ true
  is_x e = ap (λ (t : Bool). t || eqb z y || member z b) (eq-eqb z x e)

  is_y : z ≡ y → passes x y b z ≡ true
  is_y e = ap (λ (t : Bool). eqb z x || t || member z b) (eq-eqb z y e) ∙ ap (λ (t : Bool). t || member z b) (or-true (eqb z x))

  is_in : (k : ℕ) → k < length b → get_or b k 0 ≡ z → passes x y b z ≡ true
  is_in k l e = ap (λ (t : Bool). eqb z x || eqb z y || t) (member_at z b k l e) ∙ or-true (eqb z x || eqb z y)

  is_none : (z ≡ x → ⊥) → (z ≡ y → ⊥) → ((k : ℕ) → k < length b → get_or b k 0 ≡ z → ⊥) → passes x y b z ≡ false
  is_none nx ny nb = rw (ne_eqb z x nx, ne_eqb z y ny, not_member z b nb)

module _ {a : List ℕ} {x y : ℕ} {b : List ℕ} {i j : ℕ} (c : Cursors a x y b i j) where
  abbrev Answers : Bool → Type 0
  Answers r = DecidesIf (AllRise (a ∷ b ∷ [])) (Covered a x y b) r

  done : length a ≤ i → Answers true
  unfolding covered_by
  done h = yes_if ((covered_iff a x y b).0 (c.settled ∙ ap (λ (rest : List ℕ). covered_by rest x y b) (drop_of_length-le a h)))

  -- b's next number is passed where it is below a[i]
  pass_b : (strictly_rising a ≡ true → strictly_rising b ≡ true → i < length a → get_or b j 0 < get_or a i 0) → Cursors a x y b i (j + 1)
  pass_b h = record { settled = c.settled; below = λ ra rb l. below_more _ j (c.below ra rb l) (h ra rb l) }

  module _ (l : i < length a) where
    head : covered_by (drop i a) x y b ≡ passes x y b (get_or a i 0) && covered_by (drop (i + 1) a) x y b
    unfolding covered_by
    head = rw (add-one, drop-cons a i 0)

    -- a[i] is passed where it is x, y or in b
    pass_a : passes x y b (get_or a i 0) ≡ true → Cursors a x y b (i + 1) j
    pass_a e = record {
      settled = c.settled ∙ head ∙ ap (λ (t : Bool). t && covered_by (drop (i + 1) a) x y b) e;
      below = λ ra rb m k h. omega (arith, c.below ra rb l k h, rising_at a i (i + 1) ra (omega arith) m);
    }

    -- no number of b is a[i] where b[j] is above it
    above :
        get_or a i 0 < get_or b j 0 → strictly_rising a ≡ true → strictly_rising b ≡ true
        → (k : ℕ) → k < length b → get_or b k 0 ≡ get_or a i 0 → ⊥
    above h ra rb k m e = apart (dec_lt k j) (dec_lt j k)
      where
        apart : Dec (k < j) → Dec (j < k) → ⊥
        apart (yes k<j) d = omega (arith, c.below ra rb l k k<j)
        apart (no n) (yes j<k) = omega (arith, rising_at b j k rb j<k m)
        apart (no n) (no n') = let k≡j : k ≡ j = omega arith in omega (arith, ap (λ (p : ℕ). get_or b p 0) k≡j)

    -- a[i] is none of these
    missed :
        (get_or a i 0 ≡ x → ⊥) → (get_or a i 0 ≡ y → ⊥)
        → (strictly_rising a ≡ true → strictly_rising b ≡ true → (k : ℕ) → k < length b → get_or b k 0 ≡ get_or a i 0 → ⊥) → Answers false
    missed nx ny nb = no_if (λ g h. false≢true (sym (not_covered g.0 g.1.0) ∙ (covered_iff a x y b).1 h))
      where
        not_covered : strictly_rising a ≡ true → strictly_rising b ≡ true → covered_by a x y b ≡ false
        not_covered ra rb =
            c.settled ∙ head ∙ ap (λ (t : Bool). t && covered_by (drop (i + 1) a) x y b) (is_none x y b (get_or a i 0) nx ny (nb ra rb))

-- where both have the same number, both are passed
pass_both :
    {a : List ℕ} {x y : ℕ} {b : List ℕ} {i j : ℕ} → Cursors a x y b i j → i < length a → j < length b → get_or a i 0 ≡ get_or b j 0
    → Cursors a x y b (i + 1) (j + 1)
pass_both {a} {x} {y} {b} {i} {j} c l m e =
    pass_b (pass_a c l (is_in x y b (get_or a i 0) j m (sym e))) (λ ra rb h. omega (arith, rising_at a i (i + 1) ra (omega arith) h))

-- and so are several
pass_same :
    (n : ℕ) {a : List ℕ} {x y : ℕ} {b : List ℕ} {i j : ℕ} → Cursors a x y b i j → SameFrom a i b j n → Cursors a x y b (i + n) (j + n)
pass_same zero {a} {x} {y} {b} {i} {j} c s =
    let at_i : i ≡ i + 0 = omega arith in
    let at_j : j ≡ j + 0 = omega arith in
    subst (λ (t : ℕ). Cursors a x y b (i + 0) t) at_j (subst (λ (t : ℕ). Cursors a x y b t j) at_i c)
pass_same (suc n) {a} {x} {y} {b} {i} {j} c s =
    let at_i : i + 1 + n ≡ i + suc n = omega arith in
    let at_j : j + 1 + n ≡ j + suc n = omega arith in
    let next = pass_both c (omega (arith, s.in_a)) (omega (arith, s.in_b)) (first_same s) in
    subst (λ (t : ℕ). Cursors a x y b (i + suc n) t) at_j (
    subst (λ (t : ℕ). Cursors a x y b t (j + 1 + n)) at_i (pass_same n next (others_same s)))

from_start : {a : List ℕ} {x y : ℕ} {b : List ℕ} {n : ℕ} → Cursors a x y b (0 + n) (0 + n) → Cursors a x y b n n
from_start {a} {x} {y} {b} {n} c = let e : 0 + n ≡ n = omega arith in subst (λ (t : ℕ). Cursors a x y b t t) e c

pub same_blocks-i-requires : goal.same_blocks-i-requires
same_blocks-i-requires c = (omega arith, omega arith)

pub loop-i-init : goal.loop-i-init
loop-i-init c = from_start (pass_same _ (record { settled = refl; below = λ ra rb l. below_none _ }) c.same_blocks-i.ensures)

pub loop-i-preserved-then-z-x : goal.loop-i-preserved-then-z-x
loop-i-preserved-then-z-x c =
    let z = sym c.from-z.ensures in
    pass_a c.loop-i.invariant (search rules) (⊎_elim (λ e. is_x _ _ _ _ (z ∙ e)) (λ e. is_y _ _ _ _ (z ∙ e.1)) c.then-z-x.either)

pub returns-then-j-b : goal.returns-then-j-b
returns-then-j-b c =
    let z = c.from-z.ensures in
    let at = c.loop-i in
    missed at.invariant (search rules) (λ e. c.if-z-x.false (z ∙ e)) (λ e. c.if-z-y.false (z ∙ e))
    (λ ra rb k l e. omega (arith, at.invariant.below ra rb (search rules) k (omega arith)))

pub returns-then-w-z : goal.returns-then-w-z
returns-then-w-z c =
    let z = c.from-z.ensures in
    let at = c.loop-i in
    missed at.invariant (search rules) (λ e. c.if-z-x.false (z ∙ e)) (λ e. c.if-z-y.false (z ∙ e)) (above at.invariant (search rules) (omega arith))

pub same_blocks-n-requires : goal.same_blocks-n-requires
same_blocks-n-requires c = (omega arith, omega arith)

pub overflow_add-i-then-w-z-2 : goal.overflow_add-i-then-w-z-2
overflow_add-i-then-w-z-2 c = omega (arith, c.same_blocks-n.ensures.in_a)

pub overflow_add-j-then-w-z-2 : goal.overflow_add-j-then-w-z-2
overflow_add-j-then-w-z-2 c = omega (arith, c.same_blocks-n.ensures.in_b)

pub loop-i-preserved-then-w-z-2 : goal.loop-i-preserved-then-w-z-2
loop-i-preserved-then-w-z-2 c =
    let loop = c.loop-i in
    pass_same _ (pass_b loop.invariant (λ ra rb l. omega arith)) c.same_blocks-n.ensures

pub loop-i-preserved : goal.loop-i-preserved
loop-i-preserved c =
    let at = c.loop-i in
    pass_both at.invariant (search rules) (search rules) (omega arith)

pub returns : goal.returns
returns c = done c.loop-i.invariant (search rules)
