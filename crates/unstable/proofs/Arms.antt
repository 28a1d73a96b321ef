-- The arms of a `match` on a shape that take the rest of them: what the definitions answer for these. Assumes nothing.
use Prim.Native.Nat.{ℕ}
use mathlib.Core.Bool.{false}
use mathlib.Core.Logic.{◌≢◌}
use mathlib.Core.Option.{none}
use mathlib.Core.Path.{◌≡◌, refl}
use Rattle.shapes.specs.declared.Shape.{Shape}
use Rattle.shapes.specs.declared.Shape.TheVariants.{Falsum, Atom, Verum, Negated, Doubled, Conjunction, Disjunction, Other}
use Rattle.unstable.specs.Joins.{sign_of, conjuncts, disjuncts}
use Rattle.unstable.specs.Fixing.{fixes_atom}

pub no_sign : (p : ℕ) (s : Shape) → ((q : ℕ) → s ≢ Atom q) → ((q : ℕ) → s ≢ Negated q) → sign_of s p ≡ 0
no_sign p Falsum n m = refl
no_sign p (Atom q) n m = absurd (n q refl)
no_sign p Verum n m = refl
no_sign p (Negated q) n m = absurd (m q refl)
no_sign p (Doubled q) n m = refl
no_sign p (Conjunction i j) n m = refl
no_sign p (Disjunction i j) n m = refl
no_sign p Other n m = refl

pub no_conjuncts : (s : Shape) → ((i j : ℕ) → s ≢ Conjunction i j) → conjuncts s ≡ none
no_conjuncts Falsum n = refl
no_conjuncts (Atom q) n = refl
no_conjuncts Verum n = refl
no_conjuncts (Negated q) n = refl
no_conjuncts (Doubled q) n = refl
no_conjuncts (Conjunction i j) n = absurd (n i j refl)
no_conjuncts (Disjunction i j) n = refl
no_conjuncts Other n = refl

pub no_disjuncts : (s : Shape) → ((i j : ℕ) → s ≢ Disjunction i j) → disjuncts s ≡ none
no_disjuncts Falsum n = refl
no_disjuncts (Atom q) n = refl
no_disjuncts Verum n = refl
no_disjuncts (Negated q) n = refl
no_disjuncts (Doubled q) n = refl
no_disjuncts (Conjunction i j) n = refl
no_disjuncts (Disjunction i j) n = absurd (n i j refl)
no_disjuncts Other n = refl

pub fixes_none : (set others i : ℕ) (s : Shape) → ((q : ℕ) → s ≢ Negated q) → ((q : ℕ) → s ≢ Doubled q) → fixes_atom set others i s ≡ false
fixes_none set others i Falsum n m = refl
fixes_none set others i (Atom q) n m = refl
fixes_none set others i Verum n m = refl
fixes_none set others i (Negated q) n m = absurd (n q refl)
fixes_none set others i (Doubled q) n m = absurd (m q refl)
fixes_none set others i (Conjunction j k) n m = refl
fixes_none set others i (Disjunction j k) n m = refl
fixes_none set others i Other n m = refl
