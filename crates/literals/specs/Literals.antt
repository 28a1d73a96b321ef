-- The literals of a side, and what `def` and `xini` ask of sides: in any table by the shapes of its formulas, and in one that
-- begins with the formulas of a good body by the rules of the calculus.
use Rattle.std.specs.Prelude.{ℕ, ◌<◌, Bool, true, false, not, ◌||◌, ◌&&◌, List, [], ◌≡◌, eqb, ltb, length}
use Rattle.elk.specs.Sequent.{◌⇒◌, ◌⨾◌}
use Rattle.elk.specs.Instance.{DefaultInstance, InitialInstance}
use Rattle.format.specs.Text.{any, all}
use Rattle.format.specs.File.{Body, decoded_at, decoded}
use Rattle.atomset.specs.AtomSet.{has}
use Rattle.tables.specs.Holding.{Formulas, Sided}
use Rattle.sides.specs.Members.{member}
use Rattle.sides.specs.Deciding.{Decides}
use Rattle.shapes.specs.Shapes.{shape_in}
use Rattle.shapes.specs.declared.Shape.{Shape}
use Rattle.shapes.specs.declared.Shape.TheVariants.{Falsum, Atom, Verum, Negated, Doubled, Conjunction, Disjunction, Other}
use Rattle.literals.specs.declared.Literals.{Literals}

-- an atom other than p
abbrev pub atom_but : ℕ → Shape → Bool
atom_but p Falsum = false
atom_but p (Atom q) = not (eqb q p)
atom_but p Verum = false
atom_but p (Negated q) = false
atom_but p (Doubled q) = false
atom_but p (Conjunction i j) = false
atom_but p (Disjunction i j) = false
atom_but p Other = false

-- every formula of the side is an atom other than p
unfoldable pub atoms_but : List ℕ → ℕ → List ℕ → Bool
atoms_but formulas p side = all (λ x. atom_but p (shape_in formulas x)) side

-- i is the atom p, which a set of atoms has room for
abbrev pub at : ℕ → ℕ → Bool
at i p = eqb i p && ltb p 64

abbrev pub is_atom : ℕ → Shape → Bool
is_atom i Falsum = false
is_atom i (Atom p) = at i p
is_atom i Verum = false
is_atom i (Negated p) = false
is_atom i (Doubled p) = false
is_atom i (Conjunction j k) = false
is_atom i (Disjunction j k) = false
is_atom i Other = false

abbrev pub is_negated : ℕ → Shape → Bool
is_negated i Falsum = false
is_negated i (Atom p) = false
is_negated i Verum = false
is_negated i (Negated p) = at i p
is_negated i (Doubled p) = false
is_negated i (Conjunction j k) = false
is_negated i (Disjunction j k) = false
is_negated i Other = false

abbrev pub is_falsum : Shape → Bool
is_falsum Falsum = true
is_falsum (Atom p) = false
is_falsum Verum = false
is_falsum (Negated p) = false
is_falsum (Doubled p) = false
is_falsum (Conjunction j k) = false
is_falsum (Disjunction j k) = false
is_falsum Other = false

abbrev pub is_verum : Shape → Bool
is_verum Falsum = false
is_verum (Atom p) = false
is_verum Verum = true
is_verum (Negated p) = false
is_verum (Doubled p) = false
is_verum (Conjunction j k) = false
is_verum (Disjunction j k) = false
is_verum Other = false

-- no #, p, ~# or ~p
abbrev pub is_other : Shape → Bool
is_other Falsum = false
is_other (Atom p) = false
is_other Verum = false
is_other (Negated p) = false
is_other (Doubled p) = true
is_other (Conjunction j k) = true
is_other (Disjunction j k) = true
is_other Other = true

-- `more` has the formula of shape s besides what `found` has
pub record Adds (s : Shape) (found more : Literals) : Type 0 where
  pub atoms : (i : ℕ) → has more.atoms i ≡ (has found.atoms i || is_atom i s)
  pub negated : (i : ℕ) → has more.negated i ≡ (has found.negated i || is_negated i s)
  pub falsum : more.falsum ≡ (found.falsum || is_falsum s)
  pub verum : more.verum ≡ (found.verum || is_verum s)
  pub other : more.other ≡ (found.other || is_other s)

-- some formula of the side has a shape that passes the test
unfoldable pub some_shape : (Shape → Bool) → List ℕ → List ℕ → Bool
some_shape test formulas side = any (λ x. test (shape_in formulas x)) side

-- the literals are those of the side
pub record Collects (formulas side : List ℕ) (found : Literals) : Type 0 where
  pub atoms : (i : ℕ) → has found.atoms i ≡ some_shape (is_atom i) formulas side
  pub negated : (i : ℕ) → has found.negated i ≡ some_shape (is_negated i) formulas side
  pub falsum : found.falsum ≡ some_shape is_falsum formulas side
  pub verum : found.verum ≡ some_shape is_verum formulas side
  pub other : found.other ≡ some_shape is_other formulas side

-- What `def` asks in any table, of a principal formula of shape s: it is ~p and stands right, and left are only atoms, p not
-- among them.
abbrev pub default_by : List ℕ → Shape → ℕ → List ℕ → List ℕ → Bool
default_by formulas Falsum principal left right = false
default_by formulas (Atom p) principal left right = false
default_by formulas Verum principal left right = false
default_by formulas (Negated p) principal left right = atoms_but formulas p left && member principal right
default_by formulas (Doubled p) principal left right = false
default_by formulas (Conjunction j k) principal left right = false
default_by formulas (Disjunction j k) principal left right = false
default_by formulas Other principal left right = false

-- the answer for `def`: in a good body it decides whether the row with these sides is an instance
pub record DefaultStep (formulas : List ℕ) (principal : ℕ) (left right : List ℕ) (r : Bool) : Type 0 where
  pub answer : r ≡ default_by formulas (shape_in formulas principal) principal left right
  pub decides :
      (b : Body) → Formulas b formulas → principal < length b.nodes → Sided b left → Sided b right
      → Decides (DefaultInstance (decoded_at b.nodes principal) [] (decoded b.nodes left ⇒ decoded b.nodes right)) r

-- What `xini` asks in any table: left no # and right no ~#, nothing on either side that is no literal, left never both p and
-- ~p, and no p and no ~p on both sides.
pub record InitialIn (formulas left right : List ℕ) : Type 0 where
  pub no_falsum : some_shape is_falsum formulas left ≡ false
  pub left_literals : some_shape is_other formulas left ≡ false
  pub no_verum : some_shape is_verum formulas right ≡ false
  pub right_literals : some_shape is_other formulas right ≡ false
  pub consistent : (p : ℕ) → some_shape (is_atom p) formulas left ≡ true → some_shape (is_negated p) formulas left ≡ true → ⊥
  pub atoms_apart : (p : ℕ) → some_shape (is_atom p) formulas left ≡ true → some_shape (is_atom p) formulas right ≡ true → ⊥
  pub negated_apart : (p : ℕ) → some_shape (is_negated p) formulas left ≡ true → some_shape (is_negated p) formulas right ≡ true → ⊥

-- the answer for `xini`: in a good body it decides whether the row with these sides is an instance
pub record InitialStep (formulas left right : List ℕ) (r : Bool) : Type 0 where
  pub answer : Decides (InitialIn formulas left right) r
  pub decides :
      (b : Body) → Formulas b formulas → Sided b left → Sided b right
      → Decides (InitialInstance [] (decoded b.nodes left ⨾ decoded b.nodes right)) r
