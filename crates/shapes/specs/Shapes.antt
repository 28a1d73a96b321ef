-- The shape of a formula, read off the records of any formulas table; and the formula that each shape shows in a table that begins
-- with the formulas of a good body.
use Rattle.std.specs.Prelude.{ℕ, ◌<◌, cond, List, ◌≡◌, eqb, length}
use Rattle.equilibrium.specs.Formula.{Formula, falsum, atom, neg, conj, disj, imp}
use Rattle.format.specs.File.{Body, decoded_at}
use Rattle.tables.specs.declared.records.NodeRecord.{NodeRecord}
use Rattle.tables.specs.Records.{node_at, record_from}
use Rattle.tables.specs.Holding.{Formulas}
use Rattle.shapes.specs.declared.Shape.{Shape}
use Rattle.shapes.specs.declared.Shape.TheVariants.{Falsum, Atom, Verum, Negated, Doubled, Conjunction, Disjunction, Other}

-- ~~A, where n is the record of A
unfoldable pub doubled_by : NodeRecord → Shape
doubled_by n = cond (eqb n.word 1) (Doubled n.first) Other

unfoldable pub doubled_in : List ℕ → ℕ → Shape
doubled_in formulas x = doubled_by (record_from (node_at formulas x))

-- ~A, where n is the record of A
unfoldable pub negated_by : List ℕ → NodeRecord → Shape
negated_by formulas n =
    cond (eqb n.word 0) Verum (cond (eqb n.word 1) (Negated n.first) (cond (eqb n.word 2) (doubled_in formulas n.first) Other))

unfoldable pub negated_in : List ℕ → ℕ → Shape
negated_in formulas x = negated_by formulas (record_from (node_at formulas x))

-- A itself, where n is its record
unfoldable pub shape_by : List ℕ → NodeRecord → Shape
shape_by formulas n =
    cond (eqb n.word 0) Falsum (cond (eqb n.word 1) (Atom n.first) (cond (eqb n.word 2) (negated_in formulas n.first)
    (cond (eqb n.word 3) (Conjunction n.first n.second) (cond (eqb n.word 4) (Disjunction n.first n.second) Other))))

-- the shape of formula x
unfoldable pub shape_in : List ℕ → ℕ → Shape
shape_in formulas x = shape_by formulas (record_from (node_at formulas x))

-- none of the shapes that have a name
abbrev pub Unnamed : Formula → Type 0
Unnamed falsum = ⊥
Unnamed (atom p) = ⊥
Unnamed (neg falsum) = ⊥
Unnamed (neg (atom p)) = ⊥
Unnamed (neg (neg falsum)) = Unit {0}
Unnamed (neg (neg (atom p))) = ⊥
Unnamed (neg (neg (neg A))) = Unit {0}
Unnamed (neg (neg (conj A B))) = Unit {0}
Unnamed (neg (neg (disj A B))) = Unit {0}
Unnamed (neg (neg (imp A B))) = Unit {0}
Unnamed (neg (conj A B)) = Unit {0}
Unnamed (neg (disj A B)) = Unit {0}
Unnamed (neg (imp A B)) = Unit {0}
Unnamed (conj A B) = ⊥
Unnamed (disj A B) = ⊥
Unnamed (imp A B) = Unit {0}

-- the numbers are those of the two formulas
pub record Operands (b : Body) (i j : ℕ) (A B : Formula) : Type 0 where
  pub first_known : i < length b.nodes
  pub second_known : j < length b.nodes
  pub first_is : decoded_at b.nodes i ≡ A
  pub second_is : decoded_at b.nodes j ≡ B

-- the shape of a formula of a good body, whose atoms are below 64
pub data Shows (b : Body) : Formula → Shape → Type 0 where
  shows_falsum : Shows b falsum Falsum
  shows_atom : {p : ℕ} → p < 64 → Shows b (atom p) (Atom p)
  shows_verum : Shows b (neg falsum) Verum
  shows_negated : {p : ℕ} → p < 64 → Shows b (neg (atom p)) (Negated p)
  shows_doubled : {p : ℕ} → p < 64 → Shows b (neg (neg (atom p))) (Doubled p)
  shows_conjunction : {A B : Formula} {i j : ℕ} → Operands b i j A B → Shows b (conj A B) (Conjunction i j)
  shows_disjunction : {A B : Formula} {i j : ℕ} → Operands b i j A B → Shows b (disj A B) (Disjunction i j)
  shows_other : {F : Formula} → Unnamed F → Shows b F Other

-- The shape by the records, whatever they are; and where the table begins with the formulas of a good body, the formula it shows. No
-- shape stands for a refusal: it is up to the rule what it makes of it.
pub record ShapeRead (formulas : List ℕ) (x : ℕ) (r : Shape) : Type 0 where
  pub answer : r ≡ shape_in formulas x
  pub shown : (b : Body) → Formulas b formulas → x < length b.nodes → Shows b (decoded_at b.nodes x) r
