-- The literals of a side: the formulas that the shapes of its numbers show, in a table that begins with the formulas of a good
-- body.
use Prim.Native.Nat.{ℕ, ◌<◌}
use mathlib.Core.Bool.{Bool, true, false, not, false≢true, true≢false, and-eq-true_iff}
use mathlib.Core.List.Memᴰ
use mathlib.Core.List.{List}
use mathlib.Core.Logic.{◌↔◌, ◌≢◌}
use mathlib.Core.Path.{◌≡◌, refl, sym, ap, subst, ◌∙◌}
use borrow.Author.Tests.{eqb-true, eq-eqb, eqb-false, ne_eqb, lt-ltb, not-true}
use lib.Dec.{eqb, ltb}
use Rattle.equilibrium.specs.Formula.{Formula, atom, neg}
use Rattle.equilibrium.specs.Meaning.{◌∈◌}
use Rattle.elk.specs.Instance.{LeftLiteral, left_atom, left_negated, left_verum, RightLiteral, right_atom, right_negated, right_falsum}
use Rattle.format.specs.Text.{all}
use Rattle.format.specs.File.{Body, decoded_at, decoded}
use Rattle.format.specs.Tests.{unknown_formula}
use Rattle.sides.proofs.Sets.{any_iff, all_iff}
use Rattle.tables.specs.Holding.{Formulas}
use Rattle.shapes.specs.Shapes.{
  shape_in,
  Shows,
  shows_falsum,
  shows_atom,
  shows_verum,
  shows_negated,
  shows_doubled,
  shows_conjunction,
  shows_disjunction,
  shows_other,
}
use Rattle.literals.specs.Literals.{atom_but, atoms_but, at, is_atom, is_negated, is_falsum, is_verum, is_other, some_shape}
use Rattle.shapes.specs.declared.Shape.{Shape}
use Rattle.format.proofs.Decoded.{decoded_in}
use Rattle.shapes.proofs.Shown.{shown, number_shown}

module _ (test : Shape → Bool) (formulas side : List ℕ) where
  some_iff : (some_shape test formulas side ≡ true) ↔ ((x : ℕ) × (x ∈ side) × (test (shape_in formulas x) ≡ true))
  unfolding some_shape
  some_iff = any_iff (λ x. test (shape_in formulas x)) side

  none_test : some_shape test formulas side ≡ false → (x : ℕ) → x ∈ side → test (shape_in formulas x) ≡ false
  none_test e x m = by (test (shape_in formulas x)) refl
    where
      by : (t : Bool) → test (shape_in formulas x) ≡ t → t ≡ false
      by true k = absurd (true≢false (sym (some_iff.1 (x, m, k)) ∙ e))
      by false k = refl

  test_none : ((x : ℕ) → x ∈ side → test (shape_in formulas x) ≡ false) → some_shape test formulas side ≡ false
  test_none h = by (some_shape test formulas side) refl
    where
      by : (t : Bool) → some_shape test formulas side ≡ t → t ≡ false
      by true k = let f = some_iff.0 k in absurd (true≢false (sym f.2 ∙ h f.0 f.1))
      by false k = refl

-- what shows a formula passes its test, and nothing else does
at_own : (p : ℕ) → p < 64 → at p p ≡ true
at_own p h = (and-eq-true_iff (eqb p p) (ltb p 64)).1 (eq-eqb p p refl, lt-ltb p 64 h)

at_same : (i p : ℕ) → at i p ≡ true → p ≡ i
at_same i p e = sym (eqb-true i p ((and-eq-true_iff (eqb i p) (ltb p 64)).0 e).0)

module _ {b : Body} where
  is_atom_lem : (i : ℕ) (F : Formula) (s : Shape) → Shows b F s → is_atom i s ≡ true → F ≡ atom i
  is_atom_lem i F s shows_falsum e = absurd (false≢true e)
  is_atom_lem i F s (shows_atom l) e = ap atom (at_same i _ e)
  is_atom_lem i F s shows_verum e = absurd (false≢true e)
  is_atom_lem i F s (shows_negated l) e = absurd (false≢true e)
  is_atom_lem i F s (shows_doubled l) e = absurd (false≢true e)
  is_atom_lem i F s (shows_conjunction o) e = absurd (false≢true e)
  is_atom_lem i F s (shows_disjunction o) e = absurd (false≢true e)
  is_atom_lem i F s (shows_other u) e = absurd (false≢true e)

  atom_is : (i : ℕ) (s : Shape) → Shows b (atom i) s → is_atom i s ≡ true
  atom_is i s (shows_atom l) = at_own i l
  atom_is i s (shows_other u) = absurd u

  is_negated_lem : (i : ℕ) (F : Formula) (s : Shape) → Shows b F s → is_negated i s ≡ true → F ≡ neg (atom i)
  is_negated_lem i F s shows_falsum e = absurd (false≢true e)
  is_negated_lem i F s (shows_atom l) e = absurd (false≢true e)
  is_negated_lem i F s shows_verum e = absurd (false≢true e)
  is_negated_lem i F s (shows_negated l) e = ap (λ p. neg (atom p)) (at_same i _ e)
  is_negated_lem i F s (shows_doubled l) e = absurd (false≢true e)
  is_negated_lem i F s (shows_conjunction o) e = absurd (false≢true e)
  is_negated_lem i F s (shows_disjunction o) e = absurd (false≢true e)
  is_negated_lem i F s (shows_other u) e = absurd (false≢true e)

  negated_is : (i : ℕ) (s : Shape) → Shows b (neg (atom i)) s → is_negated i s ≡ true
  negated_is i s (shows_negated l) = at_own i l
  negated_is i s (shows_other u) = absurd u

  -- neither # nor a formula that is no literal: what may stand left in xini
  left_literal : (F : Formula) (s : Shape) → Shows b F s → is_falsum s ≡ false → is_other s ≡ false → LeftLiteral F
  left_literal F s shows_falsum e f = absurd (true≢false e)
  left_literal F s (shows_atom l) e f = left_atom
  left_literal F s shows_verum e f = left_verum
  left_literal F s (shows_negated l) e f = left_negated
  left_literal F s (shows_doubled l) e f = absurd (true≢false f)
  left_literal F s (shows_conjunction o) e f = absurd (true≢false f)
  left_literal F s (shows_disjunction o) e f = absurd (true≢false f)
  left_literal F s (shows_other u) e f = absurd (true≢false f)

  literal_left : (F : Formula) (s : Shape) → Shows b F s → LeftLiteral F → (is_falsum s ≡ false) × (is_other s ≡ false)
  literal_left F s (shows_atom l) m = (refl, refl)
  literal_left F s shows_verum m = (refl, refl)
  literal_left F s (shows_negated l) m = (refl, refl)
  literal_left F s (shows_other u) left_atom = absurd u
  literal_left F s (shows_other u) left_negated = absurd u
  literal_left F s (shows_other u) left_verum = absurd u
  literal_left _ _ shows_falsum m = elim m [ ]
  literal_left _ _ (shows_doubled {p = p} _) m = elim m [ ]
  literal_left _ _ (shows_conjunction {A = A} {B = B} {i = i} {j = j} _) m = elim m [ ]
  literal_left _ _ (shows_disjunction {A = A} {B = B} {i = i} {j = j} _) m = elim m [ ]

  right_literal : (F : Formula) (s : Shape) → Shows b F s → is_verum s ≡ false → is_other s ≡ false → RightLiteral F
  right_literal F s shows_falsum e f = right_falsum
  right_literal F s (shows_atom l) e f = right_atom
  right_literal F s shows_verum e f = absurd (true≢false e)
  right_literal F s (shows_negated l) e f = right_negated
  right_literal F s (shows_doubled l) e f = absurd (true≢false f)
  right_literal F s (shows_conjunction o) e f = absurd (true≢false f)
  right_literal F s (shows_disjunction o) e f = absurd (true≢false f)
  right_literal F s (shows_other u) e f = absurd (true≢false f)

  literal_right : (F : Formula) (s : Shape) → Shows b F s → RightLiteral F → (is_verum s ≡ false) × (is_other s ≡ false)
  literal_right F s shows_falsum m = (refl, refl)
  literal_right F s (shows_atom l) m = (refl, refl)
  literal_right F s (shows_negated l) m = (refl, refl)
  literal_right F s (shows_other u) right_atom = absurd u
  literal_right F s (shows_other u) right_negated = absurd u
  literal_right F s (shows_other u) right_falsum = absurd u
  literal_right _ _ shows_verum m = elim m [ ]
  literal_right _ _ (shows_doubled {p = p} _) m = elim m [ ]
  literal_right _ _ (shows_conjunction {A = A} {B = B} {i = i} {j = j} _) m = elim m [ ]
  literal_right _ _ (shows_disjunction {A = A} {B = B} {i = i} {j = j} _) m = elim m [ ]

  -- an atom other than p
  atom_other : (p : ℕ) (F : Formula) (s : Shape) → Shows b F s → atom_but p s ≡ true → (q : ℕ) × (F ≡ atom q) × (q ≢ p)
  atom_other p F s shows_falsum e = absurd (false≢true e)
  atom_other p F s (shows_atom {p = q} l) e = (q, refl, eqb-false q p (not-true (eqb q p) e))
  atom_other p F s shows_verum e = absurd (false≢true e)
  atom_other p F s (shows_negated l) e = absurd (false≢true e)
  atom_other p F s (shows_doubled l) e = absurd (false≢true e)
  atom_other p F s (shows_conjunction o) e = absurd (false≢true e)
  atom_other p F s (shows_disjunction o) e = absurd (false≢true e)
  atom_other p F s (shows_other u) e = absurd (false≢true e)

  other_atom : (p q : ℕ) (s : Shape) → Shows b (atom q) s → q ≢ p → atom_but p s ≡ true
  other_atom p q s (shows_atom l) n = ap not (ne_eqb q p n)
  other_atom p q s (shows_other u) n = absurd u

module _ {b : Body} {table : List ℕ} (g : Formulas b table) (side : List ℕ) (known : unknown_formula b side ≡ false) where
  its_shape : (x : ℕ) → x ∈ side → Shows b (decoded_at b.nodes x) (shape_in table x)
  its_shape = shown g side known

  its_number : (F : Formula) → F ∈ decoded b.nodes side → (x : ℕ) × (x ∈ side) × (F ≡ decoded_at b.nodes x) × Shows b F (shape_in table x)
  its_number = number_shown g side known

  -- the side is atoms alone, p not among them
  abbrev pub AtomsBut : ℕ → Type 0
  AtomsBut p = ((F : Formula) → F ∈ decoded b.nodes side → (q : ℕ) × (F ≡ atom q)) × (atom p ∈ decoded b.nodes side → ⊥)

  found_iff :
      (test : Shape → Bool) (G : Formula) → ((F : Formula) (s : Shape) → Shows b F s → test s ≡ true → F ≡ G)
      → ((s : Shape) → Shows b G s → test s ≡ true) → (some_shape test table side ≡ true) ↔ (G ∈ decoded b.nodes side)
  found_iff test G to from = (
    λ e. let f = (some_iff test table side).0 e in Memᴰ.cast (sym (to _ _ (its_shape f.0 f.1) f.2)) (decoded_in b side f.0 f.1),
    λ m. let n = its_number G m in (some_iff test table side).1 (n.0, n.1, from _ n.3),
  )

  pub atom_found : (p : ℕ) → (some_shape (is_atom p) table side ≡ true) ↔ (atom p ∈ decoded b.nodes side)
  atom_found p = found_iff (is_atom p) (atom p) (is_atom_lem p) (atom_is p)

  pub negated_found : (p : ℕ) → (some_shape (is_negated p) table side ≡ true) ↔ (neg (atom p) ∈ decoded b.nodes side)
  negated_found p = found_iff (is_negated p) (neg (atom p)) (is_negated_lem p) (negated_is p)

  -- no number of the side has a shape that passes either test
  abbrev pub NoneOf : (Shape → Bool) → (Shape → Bool) → Type 0
  NoneOf test other = (some_shape test table side ≡ false) × (some_shape other table side ≡ false)

  literals_iff :
      (test : Shape → Bool) (Literal : Formula → Type 0) → ((F : Formula) (s : Shape) → Shows b F s → test s ≡ false → is_other s ≡ false → Literal F)
      → ((F : Formula) (s : Shape) → Shows b F s → Literal F → (test s ≡ false) × (is_other s ≡ false))
      → NoneOf test is_other ↔ ((F : Formula) → F ∈ decoded b.nodes side → Literal F)
  literals_iff test Literal to from = (
    λ e F m. let n = its_number F m in
        to F _ n.3 (none_test test table side e.0 n.0 n.1) (none_test is_other table side e.1 n.0 n.1),
    λ h. (
      test_none test table side (λ x m. (from _ _ (its_shape x m) (h _ (decoded_in b side x m))).0),
      test_none is_other table side (λ x m. (from _ _ (its_shape x m) (h _ (decoded_in b side x m))).1),
    ),
  )

  pub lefts_iff : NoneOf is_falsum is_other ↔ ((F : Formula) → F ∈ decoded b.nodes side → LeftLiteral F)
  lefts_iff = literals_iff is_falsum LeftLiteral left_literal literal_left

  pub rights_iff : NoneOf is_verum is_other ↔ ((F : Formula) → F ∈ decoded b.nodes side → RightLiteral F)
  rights_iff = literals_iff is_verum RightLiteral right_literal literal_right

  pub atoms_but_iff : (p : ℕ) → (atoms_but table p side ≡ true) ↔ AtomsBut p
  unfolding atoms_but
  atoms_but_iff p = (to, from)
    where
      test : ℕ → Bool
      test x = atom_but p (shape_in table x)

      own : {q : ℕ} → atom p ≡ atom q → q ≡ p
      own e = cc

      to : all test side ≡ true → AtomsBut p
      to e = (
        λ F m. let n = its_number F m in let a = atom_other p F _ n.3 (each n.0 n.1) in (a.0, a.1),
        λ m. let n = its_number (atom p) m in let a = atom_other p (atom p) _ n.3 (each n.0 n.1) in a.2 (own a.1),
      )
        where
          each : (x : ℕ) → x ∈ side → test x ≡ true
          each = (all_iff test side).0 e

      from : AtomsBut p → all test side ≡ true
      from h = (all_iff test side).1 (λ x m. passes x m (h.0 _ (decoded_in b side x m)))
        where
          passes : (x : ℕ) → x ∈ side → (q : ℕ) × (decoded_at b.nodes x ≡ atom q) → test x ≡ true
          passes x m (q, e) =
              other_atom p q _ (subst (λ (F : Formula). Shows b F (shape_in table x)) e (its_shape x m))
              (λ k. h.1 (Memᴰ.cast (ap atom (sym k) ∙ sym e) (decoded_in b side x m)))
