-- The counted parts of a set of atoms: what part n holds, that every part is counted, and that the last alone is the whole.
use Prim.Native.Nat.{ℕ, suc, ◌+◌, ◌*◌, ◌/◌, ◌%◌, ◌^◌, ◌<◌}
use native.Mathlib.Nat.{pow-suc}
use native.Mathlib.Decide.{ℕ_discrete}
use native.Mathlib.Omega.{arith}
use mathlib.Core.Path.{◌≡◌, refl, sym, ap, subst, ◌∙◌}
use mathlib.Core.Bool.{Bool, true, false, true≢false}
use mathlib.Core.List.Memᴰ
use mathlib.Core.List.{List, [], ◌∷◌}
use mathlib.Core.Logic.{⊎_elim, ◌↔◌}
use lib.Dec.{eqb}
use borrow.Author.Tests.{eqb-true}
use lib.ListN.{length}
use Rattle.equilibrium.specs.Meaning.{◌∈◌, ◌⊆◌, ◌≈◌}
use Rattle.equilibrium.proofs.Sets.{dec_in}
use Rattle.elk.specs.Instance.{Rising}
use Rattle.atomset.specs.AtomSet.{has, cons_if}
use Rattle.elk.proofs.Rising.{rising_rest, rising_below}
use Rattle.pairs.specs.Parts.{part}

-- a digit before a number
abbrev digit : {X : Type 0} → Dec X → ℕ
digit (yes x) = 1
digit (no n) = 0

has_odd : (m : ℕ) → has (1 + 2 * m) 0 ≡ true
unfolding has
has_odd m = let e : (1 + 2 * m) % 2 ≡ 1 = omega arith in ap (λ (d : ℕ). eqb d 1) e

has_even : (m : ℕ) → has (0 + 2 * m) 0 ≡ false
unfolding has
has_even m = let e : (0 + 2 * m) % 2 ≡ 0 = omega arith in ap (λ (d : ℕ). eqb d 1) e

-- digit 0 is the remainder
low : (n : ℕ) → has n 0 ≡ true → n % 2 ≡ 1
unfolding has
low n e = eqb-true (n % 2) 1 e

-- a part holds only atoms of the set
pub part_inside : (n : ℕ) (T : List ℕ) → part n T ⊆ T
unfolding part
part_inside n [] q m = m
part_inside n (p ∷ ps) q m = by (has n 0) (part_inside (n / 2) ps q) m
  where
    by : (b : Bool) → (q ∈ part (n / 2) ps → q ∈ ps) → q ∈ cons_if b p (part (n / 2) ps) → q ∈ p ∷ ps
    by true rest k = ⊎_elim Memᴰ.head (λ j. Memᴰ.tail (rest j)) (Memᴰ.cases_cons k)
    by false rest k = Memᴰ.tail (rest k)

-- the number of the part that holds the atoms with a property
number_of : {P : ℕ → Type 0} → ((p : ℕ) → Dec (P p)) → List ℕ → ℕ
number_of d [] = 0
number_of d (p ∷ ps) = digit (d p) + 2 * number_of d ps

number_below : {P : ℕ → Type 0} (d : (p : ℕ) → Dec (P p)) (T : List ℕ) → number_of d T < 2 ^ length T
unfolding number_of
number_below d [] = omega arith
number_below {P} d (p ∷ ps) = by (d p) (number_below d ps)
  where
    by : (e : Dec (P p)) → number_of d ps < 2 ^ length ps → digit e + 2 * number_of d ps < 2 ^ suc (length ps)
    by (yes h) l = omega (arith, pow-suc 2 (length ps))
    by (no n) l = omega (arith, pow-suc 2 (length ps))

part_number_lem : {P : ℕ → Type 0} (d : (p : ℕ) → Dec (P p)) (T : List ℕ) (q : ℕ) → (q ∈ part (number_of d T) T) ↔ ((q ∈ T) × P q)
unfolding part number_of
part_number_lem d [] q = (λ m. absurd (Memᴰ.not-nil m), λ h. absurd (Memᴰ.not-nil h.0))
part_number_lem {P} d (p ∷ ps) q = by (d p) (part_number_lem d ps q)
  where
    rest : List ℕ
    rest = part (number_of d ps) ps

    by : (e : Dec (P p)) → (q ∈ rest) ↔ ((q ∈ ps) × P q)
        → (q ∈ cons_if (has (digit e + 2 * number_of d ps) 0) p (part ((digit e + 2 * number_of d ps) / 2) ps)) ↔ ((q ∈ p ∷ ps) × P q)
    by (yes h) ih =
        let half : (1 + 2 * number_of d ps) / 2 ≡ number_of d ps = omega arith in
        rw (has_odd (number_of d ps), half) (
          λ m. ⊎_elim (λ (e : q ≡ p). (Memᴰ.head e, subst P (sym e) h)) (λ k. (Memᴰ.tail (ih.0 k).0, (ih.0 k).1)) (Memᴰ.cases_cons m),
          λ g. ⊎_elim Memᴰ.head (λ k. Memᴰ.tail (ih.1 (k, g.1))) (Memᴰ.cases_cons g.0),
        )
    by (no n) ih =
        let half : (0 + 2 * number_of d ps) / 2 ≡ number_of d ps = omega arith in
        rw (has_even (number_of d ps), half) (
          λ m. (Memᴰ.tail (ih.0 m).0, (ih.0 m).1),
          λ g. ⊎_elim (λ (e : q ≡ p). absurd (n (subst P e g.1))) (λ k. ih.1 (k, g.1)) (Memᴰ.cases_cons g.0),
        )

-- every part is counted
pub every_part : {H T : List ℕ} → H ⊆ T → (n : ℕ) × (n < 2 ^ length T) × (part n T ≈ H)
every_part {H} {T} s = (number_of within T, number_below within T, (λ p m. ((part_number_lem within T p).0 m).1, λ p m. (part_number_lem within T p).1 (s p m, m)))
  where
    within : (p : ℕ) → Dec (p ∈ H)
    within p = dec_in ℕ_discrete p H

-- the last part is the whole
pub last_whole : (n : ℕ) (T : List ℕ) → n + 1 ≡ 2 ^ length T → T ⊆ part n T
unfolding part
last_whole n [] e q m = m
last_whole n (p ∷ ps) e q m = by (has n 0) refl (last_whole (n / 2) ps (omega (arith, pow-suc 2 (length ps))) q)
  where
    by : (b : Bool) → has n 0 ≡ b → (q ∈ ps → q ∈ part (n / 2) ps) → q ∈ cons_if b p (part (n / 2) ps)
    by true h rest = ⊎_elim Memᴰ.head (λ k. Memᴰ.tail (rest k)) (Memᴰ.cases_cons m)
    by false h rest = absurd (true≢false (sym odd ∙ h))
      where
        odd : has n 0 ≡ true
        odd = let form : n ≡ 1 + 2 * (n / 2) = omega (arith, pow-suc 2 (length ps)) in ap (λ (k : ℕ). has k 0) form ∙ has_odd (n / 2)

-- and no other, where the atoms are listed in rising order
pub whole_last : (n : ℕ) (T : List ℕ) → Rising T → n < 2 ^ length T → T ⊆ part n T → n + 1 ≡ 2 ^ length T
unfolding part
whole_last n [] r l s = omega arith
whole_last n (p ∷ ps) r l s = by (has n 0) refl s (whole_last (n / 2) ps (rising_rest p ps r) (omega (arith, pow-suc 2 (length ps))))
  where
    once : p ∈ ps → ⊥
    once m = let l = rising_below p ps r p m in omega arith

    by : (b : Bool) → has n 0 ≡ b → p ∷ ps ⊆ cons_if b p (part (n / 2) ps) → (ps ⊆ part (n / 2) ps → n / 2 + 1 ≡ 2 ^ length ps)
        → n + 1 ≡ 2 ^ length (p ∷ ps)
    by false h w rest = absurd (once (part_inside (n / 2) ps p (w p (Memᴰ.head refl))))
    by true h w rest =
        let other : (q : ℕ) → q ∈ ps → q ≡ p → ⊥ = λ q m e. once (subst (λ (z : ℕ). z ∈ ps) e m) in
        let half = rest (λ q m. ⊎_elim (λ e. absurd (other q m e)) (λ k. k) (Memᴰ.cases_cons (w q (Memᴰ.tail m)))) in
        omega (arith, low n h, pow-suc 2 (length ps))
