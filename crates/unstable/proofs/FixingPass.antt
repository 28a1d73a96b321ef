-- The pass over the second premise's left side of `unst`, with l: what each step leaves to show. What is left gives the whole for
-- any lists; that the whole leaves it holds for strictly rising ones.
use Prim.Native.Nat.{ℕ, zero, suc, ◌+◌, ◌^◌, ◌≤◌, ◌<◌}
use native.Mathlib.Numerals.{add-one}
use native.Mathlib.Omega.{arith}
use mathlib.Core.Bool.{Bool, true, false, ◌&&◌, ◌||◌, false≢true, true≢false, and-eq-true_iff}
use mathlib.Core.List.Memᴰ
use mathlib.Core.List.{List, [], ◌∷◌}
use mathlib.Core.Logic.{◌↔◌, ◌⊎◌, inl, inr, ⊎_elim}
use mathlib.Core.Path.{◌≡◌, refl, sym, ap, subst, ◌∙◌}
use borrow.Author.Tests.{eqb-true, eqb-false, lt-ltb, le-ltb, ltb-true, ltb-false}
use lib.Dec.{eqb, ltb}
use lib.ListN.{length, get_or, drop, drop_of_length-le}
use lib.Seq.{drop-cons, drop-drop}
use Rattle.elk.specs.Instance.{Rising}
use Rattle.equilibrium.specs.Meaning.{◌∈◌}
use Rattle.atomset.specs.AtomSet.{has, Member, Included, members}
use Rattle.atomset.proofs.Digits.{has_zero}
use Rattle.atomset.proofs.Membership.{member_union}
use Rattle.atomset.proofs.Members.{member_members}
use Rattle.format.proofs.RisingNumbers.{rising_of}
use Rattle.elk.proofs.Rising.{rising_below, rising_rest}
use Rattle.sides.specs.Members.{AllRise}
use Rattle.sides.specs.Deciding.{DecidesIf}
use Rattle.sides.proofs.Deciding.{no_if}
use Rattle.shapes.specs.Shapes.{shape_in}
use Rattle.unstable.specs.Fixing.{fixes_atom, FixedBy, Fixes}
use Rattle.unstable.proofs.Steps.{more_there, none_left}

-- x is the first number of the list
abbrev is_first : ℕ → List ℕ → Bool
is_first x [] = false
is_first x (y ∷ ys) = eqb y x

-- the place j of l, met by x
first_at : (l : List ℕ) (j x : ℕ) → is_first x (drop j l) ≡ (ltb j (length l) && eqb (get_or l j 0) x)
first_at [] j x =
    ap (is_first x) (drop_of_length-le {A = ℕ} [] {i = j} (omega arith))
    ∙ sym (ap (λ (t : Bool). t && eqb (get_or {A = ℕ} [] j 0) x) (le-ltb j 0 (omega arith)))
first_at (y ∷ ys) zero x = sym (ap (λ (t : Bool). t && eqb y x) (lt-ltb 0 (suc (length ys)) (omega arith)))
first_at (y ∷ ys) (suc j) x = first_at ys j x ∙ ap (λ (t : Bool). t && eqb (get_or ys j 0) x) (shift (ltb j (length ys)) refl)
  where
    shift : (t : Bool) → ltb j (length ys) ≡ t → t ≡ ltb (suc j) (suc (length ys))
    shift true e = sym (lt-ltb (suc j) (suc (length ys)) (omega (arith, ltb-true j (length ys) e)))
    shift false e = sym (le-ltb (suc j) (suc (length ys)) (omega (arith, ltb-false j (length ys) e)))

-- what is left to show of the side and of l, with the atoms that are fixed so far
module _ (formulas : List ℕ) (set others : ℕ) where
  record Left (side l : List ℕ) (fixed : ℕ) : Type 0 where
    part : (x : ℕ) → x ∈ l → x ∈ side
    atoms : (p : ℕ) → Member p set ⊎ Member p others → Member p fixed ⊎ ((x : ℕ) × (x ∈ side) × FixedBy formulas set others x p)
    rest : (x : ℕ) → x ∈ side → (x ∈ l) ⊎ ((p : ℕ) × FixedBy formulas set others x p)

  left_starts : (side l : List ℕ) → Fixes formulas side l set others → Left side l 0
  left_starts side l f = record { part = f.part; atoms = λ p m. inr (f.fixed p m); rest = f.rest }

  all_left : (side l : List ℕ) → Left side l 0 → Fixes formulas side l set others
  all_left side l f = record {
    part = f.part;
    fixed = λ p m. ⊎_elim (λ k. absurd (true≢false (sym k ∙ has_zero p))) (λ k. k) (f.atoms p m);
    rest = f.rest;
  }

  -- x is the first formula that is left of the side
  module _ (x : ℕ) (xs : List ℕ) where
    -- where it is not the first of l it is not of l, as l rises too and is part of the side
    missed :
        Rising (x ∷ xs) → (l : List ℕ) → Rising l → is_first x l ≡ false → ((z : ℕ) → z ∈ l → z ∈ x ∷ xs)
        → (x ∈ l → ⊥) × ((z : ℕ) → z ∈ l → z ∈ xs)
    missed rises [] rises-l e part = (Memᴰ.not-nil, λ z k. absurd (Memᴰ.not-nil k))
    missed rises (y ∷ ys) rises-l e part = (
      λ k. absurd (omega (arith, above x k)),
      λ z k. ⊎_elim (λ (q : z ≡ x). absurd (omega (arith, above z k))) (λ n. n) (Memᴰ.cases_cons (part z k)),
    )
      where
        first : x < y
        first = ⊎_elim (λ (q : y ≡ x). absurd (eqb-false y x e q)) (rising_below x xs rises y) (Memᴰ.cases_cons (part y (Memᴰ.head refl)))

        above : (z : ℕ) → z ∈ y ∷ ys → x < z
        above z k = ⊎_elim (λ (q : z ≡ y). omega (arith, first)) (λ n. omega (arith, first, rising_below y ys rises-l z n)) (Memᴰ.cases_cons k)

    left_fails :
        {fixed : ℕ} (l : List ℕ) → Rising (x ∷ xs) → Rising l → is_first x l ≡ false → ((p : ℕ) → FixedBy formulas set others x p → ⊥)
        → Left (x ∷ xs) l fixed → ⊥
    left_fails l rises rises-l e fixes_none f =
        ⊎_elim (missed rises l rises-l e f.part).0 (λ b. fixes_none b.0 b.1) (f.rest x (Memᴰ.head refl))

    -- with the atoms that it fixes
    module _ (fixed more : ℕ) (m : (p : ℕ) → Member p more ↔ (Member p fixed ⊎ FixedBy formulas set others x p)) where
      abbrev On : List ℕ → ℕ → Type 0
      On zs p = (z : ℕ) × (z ∈ zs) × FixedBy formulas set others z p

      fixed_later : (p : ℕ) → Member p fixed ⊎ On (x ∷ xs) p → Member p more ⊎ On xs p
      fixed_later p (inl k) = inl ((m p).1 (inl k))
      fixed_later p (inr (z, k, f)) =
          ⊎_elim (λ (q : z ≡ x). inl ((m p).1 (inr (subst (λ (y : ℕ). FixedBy formulas set others y p) q f)))) (λ n. inr (z, n, f))
          (Memᴰ.cases_cons k)

      fixed_before : (p : ℕ) → Member p more ⊎ On xs p → Member p fixed ⊎ On (x ∷ xs) p
      fixed_before p (inl k) = ⊎_elim inl (λ f. inr (x, Memᴰ.head refl, f)) ((m p).0 k)
      fixed_before p (inr (z, n, f)) = inr (z, Memᴰ.tail n, f)

      -- it is the first of l
      left_met : (l : List ℕ) → Rising (x ∷ xs) → Rising l → is_first x l ≡ true → Left (x ∷ xs) l fixed → Left xs (drop 1 l) more
      left_met [] rises rises-l e = absurd (false≢true e)
      left_met (y ∷ ys) rises rises-l e = to
        where
          same : y ≡ x
          same = eqb-true y x e

          to : Left (x ∷ xs) (y ∷ ys) fixed → Left xs ys more
          to f = record {
            part = λ z k.
                ⊎_elim (λ (q : z ≡ x). absurd (omega (arith, same, rising_below y ys rises-l z k))) (λ n. n)
                (Memᴰ.cases_cons (f.part z (Memᴰ.tail k)));
            atoms = λ p k. fixed_later p (f.atoms p k);
            rest = λ z k.
                ⊎_elim
                (λ n. inl (⊎_elim (λ (q : z ≡ y). absurd (omega (arith, same, rising_below x xs rises z k))) (λ n. n) (Memᴰ.cases_cons n))) inr
                (f.rest z (Memᴰ.tail k));
          }

      met_left : (l : List ℕ) → is_first x l ≡ true → Left xs (drop 1 l) more → Left (x ∷ xs) l fixed
      met_left [] e = absurd (false≢true e)
      met_left (y ∷ ys) e = from
        where
          same : y ≡ x
          same = eqb-true y x e

          from : Left xs ys more → Left (x ∷ xs) (y ∷ ys) fixed
          from f = record {
            part = λ z k. ⊎_elim (λ (q : z ≡ y). Memᴰ.head (q ∙ same)) (λ n. Memᴰ.tail (f.part z n)) (Memᴰ.cases_cons k);
            atoms = λ p k. fixed_before p (f.atoms p k);
            rest = λ z k.
                ⊎_elim (λ (q : z ≡ x). inl (Memᴰ.head (q ∙ sym same))) (λ n. ⊎_elim (λ d. inl (Memᴰ.tail d)) inr (f.rest z n))
                (Memᴰ.cases_cons k);
          }

      -- it is not, and fixes an atom
      left_missed : (l : List ℕ) → Rising (x ∷ xs) → Rising l → is_first x l ≡ false → Left (x ∷ xs) l fixed → Left xs l more
      left_missed l rises rises-l e f = record {
        part = (missed rises l rises-l e f.part).1;
        atoms = λ p k. fixed_later p (f.atoms p k);
        rest = λ z k. f.rest z (Memᴰ.tail k);
      }

      missed_left : (l : List ℕ) (p : ℕ) → FixedBy formulas set others x p → Left xs l more → Left (x ∷ xs) l fixed
      missed_left l p b f = record {
        part = λ z k. Memᴰ.tail (f.part z k);
        atoms = λ p k. fixed_before p (f.atoms p k);
        rest = λ z k.
            ⊎_elim (λ (q : z ≡ x). inr (p, subst (λ (y : ℕ). FixedBy formulas set others y p) (sym q) b)) (f.rest z) (Memᴰ.cases_cons k);
      }

rising_drop : (i : ℕ) (xs : List ℕ) → Rising xs → Rising (drop i xs)
rising_drop zero xs r = r
rising_drop (suc i) [] r = tt
rising_drop (suc i) (x ∷ xs) r = rising_drop i xs (rising_rest x xs r)

-- at places i and j: what is left to show gives the whole side and l, and the whole leaves it where both rise
pub record Passing (formulas side l : List ℕ) (set others fixed i j : ℕ) : Type 0 where
  pub inside : j ≤ length l
  sound : Left formulas set others (drop i side) (drop j l) fixed → Fixes formulas side l set others
  complete : AllRise (side ∷ l ∷ []) → Fixes formulas side l set others → Left formulas set others (drop i side) (drop j l) fixed

pub passing_starts : (formulas side l : List ℕ) (set others : ℕ) → Passing formulas side l set others 0 0 0
passing_starts formulas side l set others = record {
  inside = omega arith;
  sound = all_left formulas set others side l;
  complete = λ r. left_starts formulas set others side l;
}

module _ {formulas side l : List ℕ} {set others fixed i j : ℕ} (g : Passing formulas side l set others fixed i j) where
  -- the rest of the side, by any name
  left_of : {xs : List ℕ} → drop i side ≡ xs → AllRise (side ∷ l ∷ []) → Fixes formulas side l set others → Left formulas set others xs (drop j l) fixed
  left_of e r f = subst (λ (zs : List ℕ). Left formulas set others zs (drop j l) fixed) e (g.complete r f)

  whole_of : {xs : List ℕ} → drop i side ≡ xs → Left formulas set others xs (drop j l) fixed → Fixes formulas side l set others
  whole_of e f = g.sound (subst (λ (zs : List ℕ). Left formulas set others zs (drop j l) fixed) (sym e) f)

  -- a formula is left
  module _ (h : i < length side) where
    x : ℕ
    x = get_or side i 0

    xs : List ℕ
    xs = drop (i + 1) side

    here : drop i side ≡ x ∷ xs
    unfolding x xs
    here = rw (add-one, drop-cons side i 0)

    rising_here : AllRise (side ∷ l ∷ []) → Rising (x ∷ xs)
    rising_here r = subst Rising here (rising_drop i side (rising_of side r.0))

    rising_there : AllRise (side ∷ l ∷ []) → Rising (drop j l)
    rising_there r = rising_drop j l (rising_of l r.1.0)

    module _ {met : Bool} (m : met ≡ (ltb j (length l) && eqb (get_or l j 0) (get_or side i 0))) where
      pub met_inside : met ≡ true → j < length l
      met_inside t = ltb-true j (length l) ((and-eq-true_iff (ltb j (length l)) (eqb (get_or l j 0) (get_or side i 0))).0 (sym m ∙ t)).0

      first : is_first x (drop j l) ≡ met
      unfolding x
      first = first_at l j (get_or side i 0) ∙ sym m

      -- with the atoms that it fixes
      module _
          (by more : ℕ) (small : by < 2 ^ 64) (b : (p : ℕ) → has by p ≡ fixes_atom set others p (shape_in formulas (get_or side i 0)))
          (u : (p : ℕ) → has more p ≡ (has fixed p || has by p)) where
        fixed_with : (p : ℕ) → Member p more ↔ (Member p fixed ⊎ FixedBy formulas set others x p)
        unfolding x
        fixed_with p = let w = member_union fixed by more u p in (
          λ k. ⊎_elim inl (λ m. inr (sym (b p) ∙ m)) (w.0 k),
          λ k. w.1 (⊎_elim inl (λ f. inr (b p ∙ f)) k),
        )

        pub passing_met : met ≡ true → Passing formulas side l set others more (i + 1) (j + 1)
        unfolding xs
        passing_met t = record {
          inside = omega (arith, met_inside t);
          sound = λ f. whole_of here (met_left formulas set others x xs fixed more fixed_with (drop j l) (first ∙ t) (at_next (sym next) f));
          complete = λ r f. at_next next
              (left_met formulas set others x xs fixed more fixed_with (drop j l) (rising_here r) (rising_there r) (first ∙ t) (left_of here r f));
        }
          where
            next : drop 1 (drop j l) ≡ drop (j + 1) l
            next = drop-drop 1 j l

            at_next : {ys zs : List ℕ} → ys ≡ zs → Left formulas set others xs ys more → Left formulas set others xs zs more
            at_next e f = subst (λ (zs : List ℕ). Left formulas set others xs zs more) e f

        module _ (n : met ≡ false) {empty : Bool} (e : empty ≡ eqb (length (members by)) 0) where
          pub passing_missed : empty ≡ false → Passing formulas side l set others more (i + 1) j
          unfolding x xs
          passing_missed t = record {
            inside = g.inside;
            sound = λ f. whole_of here (missed_left formulas set others x xs fixed more fixed_with (drop j l) p fixes_p f);
            complete = λ r f.
                left_missed formulas set others x xs fixed more fixed_with (drop j l) (rising_here r) (rising_there r) (first ∙ n) (left_of here r f);
          }
            where
              p : ℕ
              p = get_or (members by) 0 64

              there : p ∈ members by
              there = subst (λ (is : List ℕ). p ∈ is) (sym (more_there (members by) e t)) (Memᴰ.head refl)

              fixes_p : FixedBy formulas set others x p
              fixes_p = sym (b p) ∙ (member_members by small p).1 there

          pub passing_fails : empty ≡ true → DecidesIf (AllRise (side ∷ l ∷ [])) (Fixes formulas side l set others) false
          unfolding x
          passing_fails t = no_if (λ r f. left_fails formulas set others x xs (drop j l) (rising_here r) (rising_there r) (first ∙ n) none (left_of here r f))
            where
              none : (p : ℕ) → FixedBy formulas set others x p → ⊥
              none p k = Memᴰ.not-nil (subst (λ (is : List ℕ). p ∈ is) (none_left (members by) e t) ((member_members by small p).0 (b p ∙ k)))

  -- no formula is left
  module _ (h : length side ≤ i) where
    end : drop i side ≡ []
    end = drop_of_length-le side h

    pub passing_short : j < length l → DecidesIf (AllRise (side ∷ l ∷ [])) (Fixes formulas side l set others) false
    passing_short k = no_if (λ r f. Memᴰ.not-nil ((left_of end r f).part (get_or l j 0) there))
      where
        there : get_or l j 0 ∈ drop j l
        there = subst (λ (zs : List ℕ). get_or l j 0 ∈ zs) (sym (drop-cons l j 0 k)) (Memᴰ.head refl)

    pub passing_ends :
        length l ≤ j → (all : ℕ) → ((p : ℕ) → has all p ≡ (has set p || has others p)) → {r : Bool} → (r ≡ true) ↔ Included all fixed
        → DecidesIf (AllRise (side ∷ l ∷ [])) (Fixes formulas side l set others) r
    passing_ends k all a t = record {
      sound = λ e. whole_of end (record {
        part = λ z n. absurd (none z n);
        atoms = λ p n. inl (t.0 e p ((in_all p).1 n));
        rest = λ z n. absurd (Memᴰ.not-nil n);
      });
      complete = λ r f. t.1 (λ p n. ⊎_elim (λ d. d) (λ d. absurd (Memᴰ.not-nil d.1)) ((left_of end r f).atoms p ((in_all p).0 n)));
    }
      where
        none : (z : ℕ) → z ∈ drop j l → ⊥
        none z n = Memᴰ.not-nil (subst (λ (zs : List ℕ). z ∈ zs) (drop_of_length-le l k) n)

        in_all : (p : ℕ) → Member p all ↔ (Member p set ⊎ Member p others)
        in_all = member_union set others all a
