-- The rules on literals in a table that begins with the formulas of a good body: what is asked of shapes there is what `def` and
-- `xini` ask of formulas.
use Prim.Native.Nat.{ℕ, ◌<◌}
use mathlib.Core.Bool.{true, false, ◌&&◌, and-eq-true_iff}
use mathlib.Core.List.{List, []}
use mathlib.Core.Logic.{◌↔◌}
use mathlib.Core.Path.{◌≡◌, refl, sym, subst}
use native.Mathlib.Omega.{arith}
use lib.ListN.{length}
use Rattle.equilibrium.specs.Formula.{Formula, atom, neg}
use Rattle.equilibrium.specs.Meaning.{◌∈◌}
use Rattle.elk.specs.Sequent.{◌⇒◌, ◌⨾◌}
use Rattle.elk.specs.Instance.{DefaultInstance, InitialInstance, LeftLiteral, left_atom, left_negated, left_verum, RightLiteral}
use Rattle.elk.proofs.Entries.{default_iff, InitialTest, initial_iff}
use Rattle.format.specs.File.{Body, decoded_at, decoded}
use Rattle.format.proofs.GoodBodies.{good_held}
use Rattle.format.proofs.Decoded.{number_on}
use Rattle.tables.specs.Holding.{Formulas, Sided}
use Rattle.sides.specs.Members.{member}
use Rattle.sides.specs.Deciding.{Decides}
use Rattle.sides.proofs.Sets.{member_iff}
use Rattle.sides.proofs.Deciding.{decides_no}
use Rattle.shapes.specs.Shapes.{
  shape_in,
  Unnamed,
  Shows,
  shows_falsum,
  shows_atom,
  shows_verum,
  shows_negated,
  shows_doubled,
  shows_conjunction,
  shows_disjunction,
  shows_other,
}
use Rattle.shapes.specs.declared.Shape.{Shape}
use Rattle.shapes.proofs.Shown.{shape_shows}
use Rattle.literals.specs.Literals.{atoms_but, is_atom, is_negated, some_shape, default_by, InitialIn}
use Rattle.literals.proofs.Collected.{atom_found, negated_found, lefts_iff, rights_iff, atoms_but_iff}

conflict : ◌≡◌ {A = ℕ} 0 1 → ⊥
conflict e = omega arith

module _ {b : Body} {formulas left right : List ℕ} (g : Formulas b formulas) (l : Sided b left) (r : Sided b right) where
  abbrev L : List Formula
  L = decoded b.nodes left

  abbrev R : List Formula
  R = decoded b.nodes right

  -- ---- def

  module _ (principal : ℕ) (known : principal < length b.nodes) where
    -- no formula but ~p is the principal one
    not_default : {F : Formula} → ((p : ℕ) → F ≡ neg (atom p) → ⊥) → Decides (DefaultInstance F [] (L ⇒ R)) false
    not_default n = decides_no (λ i. n i.p i.principal)

    default_tests : {p : ℕ} → decoded_at b.nodes principal ≡ neg (atom p)
        → Decides (DefaultInstance (neg (atom p)) [] (L ⇒ R)) (atoms_but formulas p left && member principal right)
    default_tests {p} e = record {
      sound = λ t. let both = (and-eq-true_iff (atoms_but formulas p left) (member principal right)).0 t in
          let atoms = (atoms_but_iff g left l.known p).0 both.0 in
          default_iff.1 (record {
            p = p;
            principal = refl;
            kind = refl;
            only_atoms = atoms.0;
            not_left = atoms.1;
            right = subst (λ (F : Formula). F ∈ decoded b.nodes right) e (on.0 ((member_iff principal right).0 both.1));
          });
      complete = λ i. let t = default_iff.0 i in
          let same : t.p ≡ p = own_atom t.principal in
          (and-eq-true_iff (atoms_but formulas p left) (member principal right)).1 (
            (atoms_but_iff g left l.known p).1 (t.only_atoms, subst (λ (q : ℕ). atom q ∈ decoded b.nodes left → ⊥) same t.not_left),
            (member_iff principal right).1 (on.1 (subst (λ (F : Formula). F ∈ decoded b.nodes right) (sym e) t.right)),
          );
    }
      where
        on : (principal ∈ right) ↔ (decoded_at b.nodes principal ∈ decoded b.nodes right)
        on = number_on b (good_held g.good) right r.known principal known

        own_atom : {i k : ℕ} → neg (atom k) ≡ neg (atom i) → i ≡ k
        own_atom e = cc

    pub default_decides :
        Decides (DefaultInstance (decoded_at b.nodes principal) [] (L ⇒ R)) (default_by formulas (shape_in formulas principal) principal left right)
    default_decides = by (shape_shows g principal known) refl
      where
        by : {F : Formula} {s : Shape} → Shows b F s → decoded_at b.nodes principal ≡ F
            → Decides (DefaultInstance F [] (L ⇒ R)) (default_by formulas s principal left right)
        by shows_falsum e = not_default (λ p k. conflict cc)
        by (shows_atom h) e = not_default (λ p k. conflict cc)
        by shows_verum e = not_default (λ p k. conflict cc)
        by (shows_negated h) e = default_tests e
        by (shows_doubled h) e = not_default (λ p k. conflict cc)
        by (shows_conjunction o) e = not_default (λ p k. conflict cc)
        by (shows_disjunction o) e = not_default (λ p k. conflict cc)
        by (shows_other u) e = not_default (λ p k. subst Unnamed k u)

  -- ---- xini

  left_atoms : (p : ℕ) → (some_shape (is_atom p) formulas left ≡ true) ↔ (atom p ∈ L)
  left_atoms = atom_found g left l.known

  left_negated_atoms : (p : ℕ) → (some_shape (is_negated p) formulas left ≡ true) ↔ (neg (atom p) ∈ L)
  left_negated_atoms = negated_found g left l.known

  right_atoms : (p : ℕ) → (some_shape (is_atom p) formulas right ≡ true) ↔ (atom p ∈ R)
  right_atoms = atom_found g right r.known

  right_negated_atoms : (p : ℕ) → (some_shape (is_negated p) formulas right ≡ true) ↔ (neg (atom p) ∈ R)
  right_negated_atoms = negated_found g right r.known

  initial_tests : InitialTest (L ⨾ R) ↔ InitialIn formulas left right
  initial_tests = (to, from)
    where
      to : InitialTest (L ⨾ R) → InitialIn formulas left right
      to t =
          let lefts = (lefts_iff g left l.known).1 t.lefts in
          let rights = (rights_iff g right r.known).1 t.rights in
          record {
            no_falsum = lefts.0;
            left_literals = lefts.1;
            no_verum = rights.0;
            right_literals = rights.1;
            consistent = λ p m n. t.consistent p ((left_atoms p).0 m) ((left_negated_atoms p).0 n);
            atoms_apart = λ p m n. t.apart (atom p) ((left_atoms p).0 m) ((right_atoms p).0 n);
            negated_apart = λ p m n. t.apart (neg (atom p)) ((left_negated_atoms p).0 m) ((right_negated_atoms p).0 n);
          }

      from : InitialIn formulas left right → InitialTest (L ⨾ R)
      from h = record {
        kind = refl;
        lefts = lefts;
        rights = rights;
        apart = λ F m n. apart F (lefts F m) (rights F n) m n;
        consistent = λ p m n. h.consistent p ((left_atoms p).1 m) ((left_negated_atoms p).1 n);
      }
        where
          lefts : (F : Formula) → F ∈ L → LeftLiteral F
          lefts = (lefts_iff g left l.known).0 (h.no_falsum, h.left_literals)

          rights : (F : Formula) → F ∈ R → RightLiteral F
          rights = (rights_iff g right r.known).0 (h.no_verum, h.right_literals)

          apart : (F : Formula) → LeftLiteral F → RightLiteral F → F ∈ L → F ∈ R → ⊥
          apart F (left_atom {p}) k m n = h.atoms_apart p ((left_atoms p).1 m) ((right_atoms p).1 n)
          apart F (left_negated {p}) k m n = h.negated_apart p ((left_negated_atoms p).1 m) ((right_negated_atoms p).1 n)
          apart F left_verum k m n = elim k [ ]

  pub initial_instance : InitialIn formulas left right ↔ InitialInstance [] (decoded b.nodes left ⨾ decoded b.nodes right)
  initial_instance = (λ h. initial_iff.1 (initial_tests.1 h), λ i. initial_tests.0 (initial_iff.0 i))
