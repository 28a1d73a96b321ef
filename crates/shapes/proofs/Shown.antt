-- The shape of a formula: what each word of a record makes it, and the formula that it shows in a table that begins with the
-- formulas of a good body.
use Prim.Native.Nat.{ℕ, ◌<◌}
use native.Mathlib.Omega.{arith}
use mathlib.Core.Bool.{false}
use mathlib.Core.List.{List}
use mathlib.Core.Logic.{◌≢◌}
use mathlib.Core.Path.{◌≡◌, refl, sym, ap, subst, ◌∙◌}
use borrow.Author.Tests.{eq-eqb, ne_eqb}
use lib.ListN.{length}
use Rattle.equilibrium.specs.Formula.{Formula, atom, neg}
use Rattle.equilibrium.specs.Meaning.{◌∈◌}
use Rattle.format.specs.File.{Body, decoded_at, decoded}
use Rattle.format.specs.Tests.{unknown_formula}
use Rattle.format.proofs.GoodBodies.{good_held}
use Rattle.format.proofs.Formulas.{known_earlier}
use Rattle.format.proofs.Decoded.{in_decoded}
use Rattle.tables.specs.declared.records.NodeRecord.{NodeRecord}
use Rattle.tables.specs.Records.{node_at, record_from}
use Rattle.tables.specs.Holding.{Formulas}
use Rattle.shapes.specs.Shapes.{
  doubled_by,
  doubled_in,
  negated_by,
  negated_in,
  shape_by,
  shape_in,
  Shows,
  shows_falsum,
  shows_atom,
  shows_verum,
  shows_negated,
  shows_doubled,
  shows_conjunction,
  shows_disjunction,
  shows_other,
  ShapeRead,
}
use Rattle.shapes.specs.declared.Shape.{Shape}
use Rattle.shapes.specs.declared.Shape.TheVariants.{Falsum, Atom, Verum, Negated, Doubled, Conjunction, Disjunction, Other}
use Rattle.tables.proofs.Reading.{Told, told_bot, told_atom, told_not, told_and, told_or, told_imp, told}

module _ (n : NodeRecord) where
  pub doubled_atom : n.word ≡ 1 → doubled_by n ≡ Doubled n.first
  unfolding doubled_by
  doubled_atom e = simp (eq-eqb _ _ e)

  pub doubled_other : n.word ≢ 1 → doubled_by n ≡ Other
  unfolding doubled_by
  doubled_other e = simp (ne_eqb _ _ e)

module _ (formulas : List ℕ) (n : NodeRecord) where
  pub negated_falsum : n.word ≡ 0 → negated_by formulas n ≡ Verum
  unfolding negated_by
  negated_falsum e = simp e

  pub negated_atom : n.word ≡ 1 → negated_by formulas n ≡ Negated n.first
  unfolding negated_by
  negated_atom e = simp e

  pub negated_not : n.word ≡ 2 → negated_by formulas n ≡ doubled_in formulas n.first
  unfolding negated_by
  negated_not e = simp e

  pub negated_other : n.word ≢ 0 → n.word ≢ 1 → n.word ≢ 2 → negated_by formulas n ≡ Other
  unfolding negated_by
  negated_other e f g = simp (ne_eqb _ _ e, ne_eqb _ _ f, ne_eqb _ _ g)

  pub shape_falsum : n.word ≡ 0 → shape_by formulas n ≡ Falsum
  unfolding shape_by
  shape_falsum e = simp e

  pub shape_atom : n.word ≡ 1 → shape_by formulas n ≡ Atom n.first
  unfolding shape_by
  shape_atom e = simp e

  pub shape_not : n.word ≡ 2 → shape_by formulas n ≡ negated_in formulas n.first
  unfolding shape_by
  shape_not e = simp e

  pub shape_and : n.word ≡ 3 → shape_by formulas n ≡ Conjunction n.first n.second
  unfolding shape_by
  shape_and e = simp e

  pub shape_or : n.word ≡ 4 → shape_by formulas n ≡ Disjunction n.first n.second
  unfolding shape_by
  shape_or e = simp e

  pub shape_other : n.word ≢ 0 → n.word ≢ 1 → n.word ≢ 2 → n.word ≢ 3 → n.word ≢ 4 → shape_by formulas n ≡ Other
  unfolding shape_by
  shape_other e f g h i = simp (ne_eqb _ _ e, ne_eqb _ _ f, ne_eqb _ _ g, ne_eqb _ _ h, ne_eqb _ _ i)

-- the record of x, by whatever number it was read
module _ (formulas : List ℕ) {n : NodeRecord} {i x : ℕ} (e : n ≡ record_from (node_at formulas i)) (k : i ≡ x) where
  its_record : n ≡ record_from (node_at formulas x)
  its_record = e ∙ ap (λ (i : ℕ). record_from (node_at formulas i)) k

  pub doubled_read : doubled_by n ≡ doubled_in formulas x
  unfolding doubled_in
  doubled_read = ap doubled_by its_record

  pub negated_read : negated_by formulas n ≡ negated_in formulas x
  unfolding negated_in
  negated_read = ap (negated_by formulas) its_record

  pub shape_read : shape_by formulas n ≡ shape_in formulas x
  unfolding shape_in
  shape_read = ap (shape_by formulas) its_record

-- the shapes of ~p and of ~~p
module _ {b : Body} {F : Formula} {s : Shape} {p : ℕ} (h : Shows b F s) where
  pub negated_shown : F ≡ neg (atom p) → s ≡ Negated p
  negated_shown e = by (subst (λ (F : Formula). Shows b F s) e h)
    where
      by : {s : Shape} → Shows b (neg (atom p)) s → s ≡ Negated p
      by (shows_negated l) = refl
      by (shows_other u) = absurd u

  pub doubled_shown : F ≡ neg (neg (atom p)) → s ≡ Doubled p
  doubled_shown e = by (subst (λ (F : Formula). Shows b F s) e h)
    where
      by : {s : Shape} → Shows b (neg (neg (atom p))) s → s ≡ Doubled p
      by (shows_doubled l) = refl
      by (shows_other u) = absurd u

module _ {b : Body} {table : List ℕ} (g : Formulas b table) where
  shows : {F G : Formula} {s t : Shape} → F ≡ G → s ≡ t → Shows b G t → Shows b F s
  shows {G} {s} e k h = subst (λ (F : Formula). Shows b F s) (sym e) (subst (λ (s : Shape). Shows b G s) (sym k) h)

  below_64 : (p : ℕ) → p < b.atoms → p < 64
  below_64 p h = omega (arith, (good_held g.good).few_atoms)

  number_of : (i : ℕ) → NodeRecord
  number_of i = record_from (node_at table i)

  doubled_shows : (i : ℕ) → i < length b.nodes → Shows b (neg (neg (decoded_at b.nodes i))) (doubled_in table i)
  unfolding doubled_in number_of
  doubled_shows i h = by (told g i h)
    where
      by : Told b (number_of i) (decoded_at b.nodes i) → Shows b (neg (neg (decoded_at b.nodes i))) (doubled_by (number_of i))
      by (told_bot w e) = shows (ap (λ F. neg (neg F)) e) (doubled_other _ (λ k. omega arith)) (shows_other tt)
      by (told_atom w l e) = shows (ap (λ F. neg (neg F)) e) (doubled_atom _ w) (shows_doubled (below_64 _ l))
      by (told_not w l e) = shows (ap (λ F. neg (neg F)) e) (doubled_other _ (λ k. omega arith)) (shows_other tt)
      by (told_and w l m e) = shows (ap (λ F. neg (neg F)) e) (doubled_other _ (λ k. omega arith)) (shows_other tt)
      by (told_or w l m e) = shows (ap (λ F. neg (neg F)) e) (doubled_other _ (λ k. omega arith)) (shows_other tt)
      by (told_imp w l m e) = shows (ap (λ F. neg (neg F)) e) (doubled_other _ (λ k. omega arith)) (shows_other tt)

  negated_shows : (i : ℕ) → i < length b.nodes → Shows b (neg (decoded_at b.nodes i)) (negated_in table i)
  unfolding negated_in number_of
  negated_shows i h = by (told g i h)
    where
      by : Told b (number_of i) (decoded_at b.nodes i) → Shows b (neg (decoded_at b.nodes i)) (negated_by table (number_of i))
      by (told_bot w e) = shows (ap neg e) (negated_falsum _ _ w) shows_verum
      by (told_atom w l e) = shows (ap neg e) (negated_atom _ _ w) (shows_negated (below_64 _ l))
      by (told_not w l e) = shows (ap neg e) (negated_not _ _ w) (doubled_shows _ l)
      by (told_and w l m e) = shows (ap neg e) (negated_other _ _ (λ k. omega arith) (λ k. omega arith) (λ k. omega arith)) (shows_other tt)
      by (told_or w l m e) = shows (ap neg e) (negated_other _ _ (λ k. omega arith) (λ k. omega arith) (λ k. omega arith)) (shows_other tt)
      by (told_imp w l m e) = shows (ap neg e) (negated_other _ _ (λ k. omega arith) (λ k. omega arith) (λ k. omega arith)) (shows_other tt)

  -- the shape that is read is that of the formula
  pub shape_shows : (i : ℕ) → i < length b.nodes → Shows b (decoded_at b.nodes i) (shape_in table i)
  unfolding shape_in number_of
  shape_shows i h = by (told g i h)
    where
      by : Told b (number_of i) (decoded_at b.nodes i) → Shows b (decoded_at b.nodes i) (shape_by table (number_of i))
      by (told_bot w e) = shows e (shape_falsum _ _ w) shows_falsum
      by (told_atom w l e) = shows e (shape_atom _ _ w) (shows_atom (below_64 _ l))
      by (told_not w l e) = shows e (shape_not _ _ w) (negated_shows _ l)
      by (told_and w l m e) = shows e (shape_and _ _ w) (shows_conjunction (record { first_known = l; second_known = m; first_is = refl; second_is = refl }))
      by (told_or w l m e) = shows e (shape_or _ _ w) (shows_disjunction (record { first_known = l; second_known = m; first_is = refl; second_is = refl }))
      by (told_imp w l m e) =
          shows e (shape_other _ _ (λ k. omega arith) (λ k. omega arith) (λ k. omega arith) (λ k. omega arith) (λ k. omega arith)) (shows_other tt)

-- what is read of a formula, by the shape that the table gives
pub shape_told : (formulas : List ℕ) (x : ℕ) {r : Shape} → r ≡ shape_in formulas x → ShapeRead formulas x r
shape_told formulas x e =
    record {
      answer = e;
      shown = λ b g h. subst (λ (s : Shape). Shows b (decoded_at b.nodes x) s) (sym e) (shape_shows g x h);
    }

module _ {b : Body} {table : List ℕ} (g : Formulas b table) where
  -- each formula of a side of known formulas, with its shape
  module _ (side : List ℕ) (known : unknown_formula b side ≡ false) where
    pub shown : (x : ℕ) → x ∈ side → Shows b (decoded_at b.nodes x) (shape_in table x)
    shown x m = shape_shows g x (known_earlier b side known x m)

    pub number_shown : (F : Formula) → F ∈ decoded b.nodes side → (x : ℕ) × (x ∈ side) × (F ≡ decoded_at b.nodes x) × Shows b F (shape_in table x)
    number_shown F m =
        let n = in_decoded b side F m in
        (n.0, n.1, n.2, subst (λ (G : Formula). Shows b G (shape_in table n.0)) (sym n.2) (shown n.0 n.1))
