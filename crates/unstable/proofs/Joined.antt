-- What the reading of K and the test of E say of the formulas, in a table that begins with the formulas of a good body: the
-- choice that K makes, and the excluded middles that E joins.
use Prim.Native.Nat.{ℕ, ◌<◌}
use native.Mathlib.Omega.{arith}
use mathlib.Core.Bool.{Bool, true, false, cond, ◌&&◌, false≢true, true≢false, and-eq-true_iff}
use mathlib.Core.List.{List, [], ◌∷◌, map}
use mathlib.Core.Logic.{◌↔◌, ◌≢◌}
use mathlib.Core.Option.{Option, none, some}
use mathlib.Core.Path.{◌≡◌, refl, sym, ap, ap₂, subst, ◌∙◌}
use borrow.Author.Tests.{eqb-true, eq-eqb}
use lib.Dec.{eqb}
use lib.ListN.{length}
use Rattle.equilibrium.specs.Formula.{Formula, atom, neg, conj, disj}
use Rattle.elk.specs.Instance.{domain, literal, excluded_middle, joined}
use Rattle.elk.specs.Instance.{Choice as Chosen}
use Rattle.format.specs.File.{Body, decoded_at}
use Rattle.tables.specs.Holding.{Formulas}
use Rattle.shapes.specs.Shapes.{
  shape_in,
  Unnamed,
  Shows,
  shows_falsum,
  shows_atom,
  shows_verum,
  shows_negated,
  shows_doubled,
  shows_conjunction,
  shows_disjunction,
  shows_other,
}
use Rattle.unstable.specs.Joins.{sign_of, with_sign, conjuncts, disjuncts, with, choice_in, middle_in, middles_in}
use Rattle.shapes.specs.declared.Shape.{Shape}
use Rattle.shapes.proofs.Shown.{shape_shows}

-- the sign of a formula at p
data Signed (F : Formula) (p : ℕ) : ℕ → Type 0 where
  itself : F ≡ atom p → Signed F p 1
  negated : F ≡ neg (atom p) → Signed F p 2
  neither : F ≢ atom p → F ≢ neg (atom p) → Signed F p 0

conflict : ◌≡◌ {A = ℕ} 0 1 → ⊥
conflict e = omega arith

signed : {b : Body} {F : Formula} {s : Shape} (p : ℕ) → Shows b F s → Signed F p (sign_of s p)
signed p shows_falsum = neither (λ e. conflict cc) (λ e. conflict cc)
signed p (shows_atom {p = q} l) = by (eqb q p) refl
  where
    by : (t : Bool) → eqb q p ≡ t → Signed (atom q) p (cond t 1 0)
    by true e = itself (ap atom (eqb-true q p e))
    by false e = neither (λ k. true≢false (sym (eq-eqb q p cc) ∙ e)) (λ k. conflict cc)
signed p shows_verum = neither (λ e. conflict cc) (λ e. conflict cc)
signed p (shows_negated {p = q} l) = by (eqb q p) refl
  where
    by : (t : Bool) → eqb q p ≡ t → Signed (neg (atom q)) p (cond t 2 0)
    by true e = negated (ap (λ q. neg (atom q)) (eqb-true q p e))
    by false e = neither (λ k. conflict cc) (λ k. true≢false (sym (eq-eqb q p cc) ∙ e))
signed p (shows_doubled l) = neither (λ e. conflict cc) (λ e. conflict cc)
signed p (shows_conjunction o) = neither (λ e. conflict cc) (λ e. conflict cc)
signed p (shows_disjunction o) = neither (λ e. conflict cc) (λ e. conflict cc)
signed p (shows_other {F} u) = neither (λ e. subst Unnamed e u) (λ e. subst Unnamed e u)

-- a literal of p has its sign
sign_is : {F : Formula} {p sign : ℕ} (t : Bool) → Signed F p sign → F ≡ literal (p, t) → (sign ≢ 0) × (eqb sign 1 ≡ t)
sign_is true (itself e) k = (λ z. omega arith, refl)
sign_is false (itself e) k = absurd (conflict cc)
sign_is true (negated e) k = absurd (conflict cc)
sign_is false (negated e) k = (λ z. omega arith, refl)
sign_is true (neither n m) k = absurd (n k)
sign_is false (neither n m) k = absurd (m k)

-- what a sign reads, with the choice of the rest
read_cons : {F : Formula} {p sign : ℕ} (rest : Option Chosen) (c : Chosen) → Signed F p sign → with_sign sign p rest ≡ some c
    → (t : Bool) × (d : Chosen) × (rest ≡ some d) × (c ≡ (p, t) ∷ d) × (F ≡ literal (p, t))
read_cons none c (itself e) k = absurd (conflict cc)
read_cons none c (negated e) k = absurd (conflict cc)
read_cons none c (neither n m) k = absurd (conflict cc)
read_cons (some d) c (itself e) k = (true, d, refl, cc, e)
read_cons (some d) c (negated e) k = (false, d, refl, cc, e)
read_cons (some d) c (neither n m) k = absurd (conflict cc)

cons_read : {F : Formula} {p sign : ℕ} (t : Bool) (d : Chosen) → Signed F p sign → F ≡ literal (p, t) → with_sign sign p (some d) ≡ some ((p, t) ∷ d)
cons_read true d (itself e) k = refl
cons_read false d (itself e) k = absurd (conflict cc)
cons_read true d (negated e) k = absurd (conflict cc)
cons_read false d (negated e) k = refl
cons_read true d (neither n m) k = absurd (n k)
cons_read false d (neither n m) k = absurd (m k)

joined_cons : (x : ℕ × Bool) (c : Chosen) {q : ℕ} {qs : List ℕ} → domain c ≡ q ∷ qs → joined (map literal (x ∷ c)) ≡ conj (literal x) (joined (map literal c))
joined_cons x [] e = absurd (conflict cc)
joined_cons x (y ∷ c) e = refl

module _ {b : Body} {table : List ℕ} (g : Formulas b table) where
  signed_at : (k p : ℕ) → k < length b.nodes → Signed (decoded_at b.nodes k) p (sign_of (shape_in table k) p)
  signed_at k p h = signed p (shape_shows g k h)

  -- the choice that is read is the one that K makes
  pub choice_sound :
      (ps : List ℕ) (k p : ℕ) (c : Chosen) → k < length b.nodes → choice_in table k p ps ≡ some c
      → (domain c ≡ p ∷ ps) × (decoded_at b.nodes k ≡ joined (map literal c))
  unfolding choice_in
  choice_sound [] k p c h e =
      let r = read_cons (some []) c (signed_at k p h) e in
      let nil : r.1 ≡ [] = cc in
      let whole : c ≡ (p, r.0) ∷ [] = r.3 ∙ ap (λ (d : Chosen). (p, r.0) ∷ d) nil in
      (ap domain whole, r.4 ∙ sym (ap (λ (d : Chosen). joined (map literal d)) whole))
  choice_sound (q ∷ qs) k p c h e = by (shape_shows g k h) e (λ y l d f. choice_sound qs y q d l f)
    where
      by :
          {F : Formula} {s : Shape} → Shows b F s
          → with (conjuncts s) none (λ o. with_sign (sign_of (shape_in table o.0) p) p (choice_in table o.1 q qs)) ≡ some c
          → ((y : ℕ) → y < length b.nodes → (d : Chosen) → choice_in table y q qs ≡ some d
          → (domain d ≡ q ∷ qs) × (decoded_at b.nodes y ≡ joined (map literal d)))
          → (domain c ≡ p ∷ q ∷ qs) × (F ≡ joined (map literal c))
      by shows_falsum e ih = absurd (conflict cc)
      by (shows_atom l) e ih = absurd (conflict cc)
      by shows_verum e ih = absurd (conflict cc)
      by (shows_negated l) e ih = absurd (conflict cc)
      by (shows_doubled l) e ih = absurd (conflict cc)
      by (shows_conjunction {i = x} {j = y} o) e ih =
          let r = read_cons (choice_in table y q qs) c (signed_at x p o.first_known) e in
          let later = ih y o.second_known r.1 r.2 in (
            ap domain r.3 ∙ ap (λ (ps : List ℕ). p ∷ ps) later.0,
            ap₂ conj (sym o.first_is ∙ r.4) (sym o.second_is ∙ later.1)
                ∙ sym (ap (λ (d : Chosen). joined (map literal d)) r.3 ∙ joined_cons (p, r.0) r.1 later.0),
          )
      by (shows_disjunction o) e ih = absurd (conflict cc)
      by (shows_other u) e ih = absurd (conflict cc)

  pub choice_complete :
      (ps : List ℕ) (k p : ℕ) (c : Chosen) → k < length b.nodes → domain c ≡ p ∷ ps → decoded_at b.nodes k ≡ joined (map literal c)
      → choice_in table k p ps ≡ some c
  unfolding choice_in
  choice_complete ps k p [] h e f = absurd (conflict cc)
  choice_complete (q ∷ qs) k p (x ∷ []) h e f = absurd (conflict cc)
  choice_complete [] k p (x ∷ y ∷ ys) h e f = absurd (conflict cc)
  choice_complete [] k p ((r, t) ∷ []) h e f =
      let same : r ≡ p = cc in
      cons_read t [] (signed_at k p h) (f ∙ ap (λ (i : ℕ). literal (i, t)) same) ∙ ap (λ (i : ℕ). some ((i, t) ∷ [])) (sym same)
  choice_complete (q ∷ qs) k p ((r, t) ∷ y ∷ ys) h e f = by (shape_shows g k h) f (λ z l m. choice_complete qs z q (y ∷ ys) l (cc) m)
    where
      same : r ≡ p
      same = cc

      by : {F : Formula} {s : Shape} → Shows b F s → F ≡ conj (literal (r, t)) (joined (map literal (y ∷ ys)))
          → ((z : ℕ) → z < length b.nodes → decoded_at b.nodes z ≡ joined (map literal (y ∷ ys)) → choice_in table z q qs ≡ some (y ∷ ys))
          → with (conjuncts s) none (λ o. with_sign (sign_of (shape_in table o.0) p) p (choice_in table o.1 q qs)) ≡ some ((r, t) ∷ y ∷ ys)
      by shows_falsum f ih = absurd (conflict cc)
      by (shows_atom l) f ih = absurd (conflict cc)
      by shows_verum f ih = absurd (conflict cc)
      by (shows_negated l) f ih = absurd (conflict cc)
      by (shows_doubled l) f ih = absurd (conflict cc)
      by (shows_conjunction {A} {B} {i = i} {j = j} o) f ih =
          let first : A ≡ literal (r, t) = cc in
          let second : B ≡ joined (map literal (y ∷ ys)) = cc in
          ap (with_sign (sign_of (shape_in table i) p) p) (ih j o.second_known (o.second_is ∙ second))
          ∙ cons_read t (y ∷ ys) (signed_at i p o.first_known) (o.first_is ∙ first ∙ ap (λ (i : ℕ). literal (i, t)) same)
          ∙ ap (λ (i : ℕ). some ((i, t) ∷ y ∷ ys)) (sym same)
      by (shows_disjunction o) f ih = absurd (conflict cc)
      by (shows_other u) f ih = absurd (subst Unnamed f u)

-- the excluded middle
one_is : {F : Formula} {p sign : ℕ} → Signed F p sign → eqb sign 1 ≡ true → F ≡ atom p
one_is (itself e) k = e
one_is (negated e) k = absurd (false≢true k)
one_is (neither n m) k = absurd (false≢true k)

two_is : {F : Formula} {p sign : ℕ} → Signed F p sign → eqb sign 2 ≡ true → F ≡ neg (atom p)
two_is (itself e) k = absurd (false≢true k)
two_is (negated e) k = e
two_is (neither n m) k = absurd (false≢true k)

is_two : {F : Formula} {p sign : ℕ} → Signed F p sign → F ≡ neg (atom p) → eqb sign 2 ≡ true
is_two (itself e) k = absurd (conflict cc)
is_two (negated e) k = refl
is_two (neither n m) k = absurd (m k)

module _ {b : Body} {table : List ℕ} (g : Formulas b table) where
  middle_iff : (x p : ℕ) → x < length b.nodes → (middle_in table x p ≡ true) ↔ (decoded_at b.nodes x ≡ excluded_middle p)
  unfolding middle_in
  middle_iff x p h = (to (shape_shows g x h), from (shape_shows g x h))
    where
      to :
          {F : Formula} {s : Shape} → Shows b F s
          → with (disjuncts s) false (λ o. eqb (sign_of (shape_in table o.0) p) 1 && eqb (sign_of (shape_in table o.1) p) 2) ≡ true
          → F ≡ excluded_middle p
      to shows_falsum e = absurd (false≢true e)
      to (shows_atom l) e = absurd (false≢true e)
      to shows_verum e = absurd (false≢true e)
      to (shows_negated l) e = absurd (false≢true e)
      to (shows_doubled l) e = absurd (false≢true e)
      to (shows_conjunction o) e = absurd (false≢true e)
      to (shows_disjunction {i = i} {j = j} o) e =
          let both = (and-eq-true_iff (eqb (sign_of (shape_in table i) p) 1) (eqb (sign_of (shape_in table j) p) 2)).0 e in
          ap₂ disj (sym o.first_is ∙ one_is (signed_at g i p o.first_known) both.0)
          (sym o.second_is ∙ two_is (signed_at g j p o.second_known) both.1)
      to (shows_other u) e = absurd (false≢true e)

      from :
          {F : Formula} {s : Shape} → Shows b F s → F ≡ excluded_middle p
          → with (disjuncts s) false (λ o. eqb (sign_of (shape_in table o.0) p) 1 && eqb (sign_of (shape_in table o.1) p) 2) ≡ true
      from shows_falsum e = absurd (conflict cc)
      from (shows_atom l) e = absurd (conflict cc)
      from shows_verum e = absurd (conflict cc)
      from (shows_negated l) e = absurd (conflict cc)
      from (shows_doubled l) e = absurd (conflict cc)
      from (shows_conjunction o) e = absurd (conflict cc)
      from (shows_disjunction {A} {B} {i = i} {j = j} o) e =
          let first : A ≡ atom p = cc in
          let second : B ≡ neg (atom p) = cc in
          (and-eq-true_iff (eqb (sign_of (shape_in table i) p) 1) (eqb (sign_of (shape_in table j) p) 2)).1 (
            (sign_is true (signed_at g i p o.first_known) (o.first_is ∙ first)).1,
            is_two (signed_at g j p o.second_known) (o.second_is ∙ second),
          )
      from (shows_other u) e = absurd (subst Unnamed e u)

  -- E joins the excluded middles
  pub middles_iff :
      (ps : List ℕ) (e p : ℕ) → e < length b.nodes
      → (middles_in table e p ps ≡ true) ↔ (decoded_at b.nodes e ≡ joined (map excluded_middle (p ∷ ps)))
  unfolding middles_in
  middles_iff [] e p h = middle_iff e p h
  middles_iff (q ∷ qs) e p h = (to (shape_shows g e h) (λ y l. (middles_iff qs y q l).0), from (shape_shows g e h) (λ y l. (middles_iff qs y q l).1))
    where
      rest : Formula
      rest = joined (map excluded_middle (q ∷ qs))

      to : {F : Formula} {s : Shape} → Shows b F s → ((y : ℕ) → y < length b.nodes → middles_in table y q qs ≡ true → decoded_at b.nodes y ≡ rest)
          → with (conjuncts s) false (λ o. middle_in table o.0 p && middles_in table o.1 q qs) ≡ true → F ≡ conj (excluded_middle p) rest
      to shows_falsum ih k = absurd (false≢true k)
      to (shows_atom l) ih k = absurd (false≢true k)
      to shows_verum ih k = absurd (false≢true k)
      to (shows_negated l) ih k = absurd (false≢true k)
      to (shows_doubled l) ih k = absurd (false≢true k)
      to (shows_conjunction {i = i} {j = j} o) ih k =
          let both = (and-eq-true_iff (middle_in table i p) (middles_in table j q qs)).0 k in
          ap₂ conj (sym o.first_is ∙ (middle_iff i p o.first_known).0 both.0) (sym o.second_is ∙ ih j o.second_known both.1)
      to (shows_disjunction o) ih k = absurd (false≢true k)
      to (shows_other u) ih k = absurd (false≢true k)

      from : {F : Formula} {s : Shape} → Shows b F s → ((y : ℕ) → y < length b.nodes → decoded_at b.nodes y ≡ rest → middles_in table y q qs ≡ true)
          → F ≡ conj (excluded_middle p) rest → with (conjuncts s) false (λ o. middle_in table o.0 p && middles_in table o.1 q qs) ≡ true
      from shows_falsum ih k = absurd (conflict cc)
      from (shows_atom l) ih k = absurd (conflict cc)
      from shows_verum ih k = absurd (conflict cc)
      from (shows_negated l) ih k = absurd (conflict cc)
      from (shows_doubled l) ih k = absurd (conflict cc)
      from (shows_conjunction {A} {B} {i = i} {j = j} o) ih k =
          let first : A ≡ excluded_middle p = cc in
          let second : B ≡ rest = cc in
          (and-eq-true_iff (middle_in table i p) (middles_in table j q qs)).1 (
            (middle_iff i p o.first_known).1 (o.first_is ∙ first),
            ih j o.second_known (o.second_is ∙ second),
          )
      from (shows_disjunction o) ih k = absurd (conflict cc)
      from (shows_other u) ih k = absurd (subst Unnamed k u)
