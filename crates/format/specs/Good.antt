-- The invariant: what is true of every accepted beginning of a file, of its body, by which one more row is judged, of its names,
-- and of what its lines have said.
use Rattle.std.specs.Prelude.{ℕ, ◌<◌, ◌≤◌, ◌≡◌, true, false, List, [], map, reverse, length, get_or}
use Rattle.std.proofs.Math.Option.{none, some}
use Rattle.equilibrium.specs.Meaning.{◌∈◌}
use Rattle.elk.specs.Sequent.{Sequent}
use Rattle.format.specs.Text.{Bytes, any, is_name}
use Rattle.format.specs.File.{Node, Row, Name, Model, Claim, Body, add_node, add_row, sequent_of, decoded}
use Rattle.format.specs.File.{in_atoms, in_formulas, in_rows, modelled, claimed, File, atoms_given}
use Rattle.format.specs.Line.{claim_line, line_of}
use Rattle.format.specs.Tables.{most_atoms}
use Rattle.format.specs.Tests.{first, rank, not_earlier, bad_side, node_tests, body_tests, last_is}
use Rattle.format.specs.Model.{ModelFits}
use Rattle.format.specs.Judged.{said_by}

-- so many atoms, and nothing else
abbrev pub bare : ℕ → Body
bare n = record { atoms = n; nodes = []; rows = [] }

-- A body that 01 allows: atoms up to their most, then formulas and then rows, each of which passes its tests over the body
-- before it.
pub data GoodBody : Body → Type 0 where
  atoms : (n : ℕ) → n ≤ most_atoms → GoodBody (bare n)
  formula : {b : Body} → GoodBody b → b.rows ≡ [] → (node : Node) → first (node_tests b node) ≡ none → GoodBody (add_node b node)
  row : {b : Body} → GoodBody b → (r : Row) → first (body_tests b r) ≡ none → GoodBody (add_row b r)

-- the sequents of rows, the last one first: of a good body a derivation
abbrev pub derived : List Node → List Row → List Sequent
derived nodes rows = reverse (map (sequent_of nodes) rows)

-- the spellings of names, in the order of their atoms
abbrev pub spellings : List Name → List Bytes
spellings names = map (λ (n : Name). n.name) names

-- as many names as atoms, each of 01's form, and no two alike
pub record GoodNames (atoms : ℕ) (names : List Name) : Type 0 where
  pub count : length names ≡ atoms
  pub form : (name : Bytes) → name ∈ spellings names → is_name name ≡ true
  pub distinct : (i j : ℕ) → i < atoms → j < atoms → get_or (spellings names) i [] ≡ get_or (spellings names) j [] → i ≡ j

-- the list of an M line: atoms that are there, written as a side would be
pub record GoodModel (atoms : ℕ) (model : List ℕ) : Type 0 where
  pub known : any (not_earlier atoms) model ≡ false
  pub side : bad_side model ≡ false

-- the beginning made of these lines, and the file that it comes to
pub record Good (done : List Bytes) (f : File) : Type 0 where
  pub body : GoodBody f.body
  pub names : GoodNames f.body.atoms f.names
  pub no_nodes : rank f.stage ≤ rank in_atoms → f.body.nodes ≡ []
  pub no_rows : rank f.stage ≤ rank in_formulas → f.body.rows ≡ []
  pub no_model : rank f.stage ≤ rank in_rows → f.model ≡ none
  pub model_made : rank f.stage ≡ rank modelled → (m : Model) × (f.model ≡ some m)
  pub model : (m : Model) → f.model ≡ some m → GoodModel f.body.atoms m.atoms
  pub no_claim : rank f.stage ≤ rank modelled → f.claim ≡ none
  pub claim_made : rank f.stage ≡ rank claimed → (c : Claim) × (f.claim ≡ some c)
  pub said : said_by done ≡ record { names = spellings f.names; nodes = f.body.nodes; model = atoms_given f.model }
  pub claims_read :
      (line : Bytes) (l r : List ℕ) → line ∈ done → line_of line ≡ some (claim_line l r)
      → (c : Claim) × (f.claim ≡ some c) × (c.left ≡ l) × (c.right ≡ r)
  pub claim_said : (c : Claim) → f.claim ≡ some c → (line : Bytes) × (line ∈ done) × (line_of line ≡ some (claim_line c.left c.right))
  pub claim_last : (c : Claim) → f.claim ≡ some c → last_is f.body.rows c.left c.right ≡ true
  pub fits :
      (c : Claim) → f.claim ≡ some c → ModelFits (decoded f.body.nodes c.left) (decoded f.body.nodes c.right) (atoms_given f.model)
