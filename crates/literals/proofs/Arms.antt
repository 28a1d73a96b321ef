-- The arms of a `match` on a shape that take the rest of them: what the definitions answer for these. Assumes nothing.
use Prim.Native.Nat.{ℕ}
use mathlib.Core.Bool.{Bool, true, false, ◌||◌, or-false, or-true}
use mathlib.Core.List.{List}
use mathlib.Core.Path.{◌≡◌, refl, sym, ap, ◌∙◌}
use Rattle.atomset.specs.AtomSet.{has}
use Rattle.shapes.specs.declared.Shape.{Shape}
use Rattle.shapes.specs.declared.Shape.TheVariants.{Falsum, Atom, Verum, Negated, Doubled, Conjunction, Disjunction, Other}
use Rattle.literals.specs.declared.Literals.{Literals}
use Rattle.literals.specs.Literals.{atom_but, is_atom, is_negated, is_falsum, is_verum, is_other, Adds, default_by}

pub not_atom : (p : ℕ) (s : Shape) → ((q : ℕ) → s ≡ Atom q → ⊥) → atom_but p s ≡ false
not_atom p Falsum n = refl
not_atom p (Atom q) n = absurd (n q refl)
not_atom p Verum n = refl
not_atom p (Negated q) n = refl
not_atom p (Doubled q) n = refl
not_atom p (Conjunction i j) n = refl
not_atom p (Disjunction i j) n = refl
not_atom p Other n = refl

module _ (formulas : List ℕ) (principal : ℕ) (left right : List ℕ) where
  pub not_negated : (s : Shape) → ((q : ℕ) → s ≡ Negated q → ⊥) → default_by formulas s principal left right ≡ false
  not_negated Falsum n = refl
  not_negated (Atom q) n = refl
  not_negated Verum n = refl
  not_negated (Negated q) n = absurd (n q refl)
  not_negated (Doubled q) n = refl
  not_negated (Conjunction i j) n = refl
  not_negated (Disjunction i j) n = refl
  not_negated Other n = refl

-- a test that a formula passes, or not
pub made : (x : Bool) → true ≡ (x || true)
made x = sym (or-true x)

pub kept : (x : Bool) → x ≡ (x || false)
kept x = sym (or-false x)

module _ (found : Literals) where
  abbrev pub with_other : Literals
  with_other = record { atoms = found.atoms; negated = found.negated; falsum = found.falsum; verum = found.verum; other = true }

  -- a formula that is no literal
  other :
      (s : Shape) → ((i : ℕ) → is_atom i s ≡ false) → ((i : ℕ) → is_negated i s ≡ false) → is_falsum s ≡ false → is_verum s ≡ false
      → is_other s ≡ true → Adds s found with_other
  other s a n f v o = record {
    atoms = λ i. kept (has found.atoms i) ∙ ap (λ (t : Bool). has found.atoms i || t) (sym (a i));
    negated = λ i. kept (has found.negated i) ∙ ap (λ (t : Bool). has found.negated i || t) (sym (n i));
    falsum = kept found.falsum ∙ ap (λ (t : Bool). found.falsum || t) (sym f);
    verum = kept found.verum ∙ ap (λ (t : Bool). found.verum || t) (sym v);
    other = made found.other ∙ ap (λ (t : Bool). found.other || t) (sym o);
  }

  pub adds_other :
      (s : Shape) → (s ≡ Falsum → ⊥) → ((q : ℕ) → s ≡ Atom q → ⊥) → (s ≡ Verum → ⊥) → ((q : ℕ) → s ≡ Negated q → ⊥)
      → Adds s found with_other
  adds_other Falsum m n o p = absurd (m refl)
  adds_other (Atom q) m n o p = absurd (n q refl)
  adds_other Verum m n o p = absurd (o refl)
  adds_other (Negated q) m n o p = absurd (p q refl)
  adds_other (Doubled q) m n o p = other _ (λ i. refl) (λ i. refl) refl refl refl
  adds_other (Conjunction i j) m n o p = other _ (λ i. refl) (λ i. refl) refl refl refl
  adds_other (Disjunction i j) m n o p = other _ (λ i. refl) (λ i. refl) refl refl refl
  adds_other Other m n o p = other _ (λ i. refl) (λ i. refl) refl refl refl
