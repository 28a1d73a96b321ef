-- What an accepted beginning of a file holds, and the formulas that its numbers stand for. Atoms, formulas and rows are
-- numbered from 0 in the order of their lines; a formula or a row names earlier ones by number.
use Rattle.std.specs.Prelude.{ℕ, List, [], ◌∷◌, ◌++◌, map, get_or}
use Rattle.std.proofs.Math.Option.{Option, none}
use Rattle.equilibrium.specs.Formula.{Formula}
use Rattle.elk.specs.Sequent.{Sequent}
use Rattle.elk.specs.Rules.{Rule, entry, kind_of}
use Rattle.format.specs.Text.{Bytes, ◌<$>◌}

-- one F line: a word with an atom number, or with formula numbers
pub data Node : Type 0 where
  bot : Node
  atom not : ℕ → Node
  and or imp : ℕ → ℕ → Node

-- one N line: a row of the derivation, that is a sequent with the rule, principal formula and premises it follows by
pub record Row : Type 0 where
  pub rule : Rule
  pub principal : Option ℕ
  pub premises : List ℕ
  pub left : List ℕ
  pub right : List ℕ

-- the name of an atom, and the byte of the text at which it starts
pub record Name : Type 0 where
  pub start : ℕ
  pub name : Bytes

-- the M line: the set of atoms that is to be a model, and the number of the line
pub record Model : Type 0 where
  pub line : ℕ
  pub atoms : List ℕ

-- the C line: its sequent, and the number of the line
pub record Claim : Type 0 where
  pub line : ℕ
  pub left : List ℕ
  pub right : List ℕ

-- what rows are judged by: the count of atoms, the formulas and the earlier rows
pub record Body : Type 0 where
  pub atoms : ℕ
  pub nodes : List Node
  pub rows : List Row

-- the kind of the last line: what may follow it
pub data Stage : Type 0 where
  in_atoms in_formulas in_rows modelled claimed : Stage

-- what an accepted beginning of a file holds
pub record File : Type 0 where
  pub names : List Name
  pub body : Body
  pub stage : Stage
  pub model : Option Model
  pub claim : Option Claim

-- the atoms of the M line, if there is one
abbrev pub atoms_given : Option Model → Option (List ℕ)
atoms_given model = (λ (m : Model). m.atoms) <$> model

-- nothing yet
abbrev pub no_body : Body
no_body = record { atoms = 0; nodes = []; rows = [] }

-- one formula more
abbrev pub add_node : Body → Node → Body
add_node b node = record { atoms = b.atoms; nodes = b.nodes ++ node ∷ []; rows = b.rows }

-- one row more
abbrev pub add_row : Body → Row → Body
add_row b r = record { atoms = b.atoms; nodes = b.nodes; rows = b.rows ++ r ∷ [] }

-- the file before its first line
abbrev pub no_file : File
no_file = record { names = []; body = no_body; stage = in_atoms; model = none; claim = none }

-- the formula of a number, where the formulas of 0, 1, 2, .. are listed
abbrev pub formula_at : List Formula → ℕ → Formula
formula_at earlier i = get_or earlier i Formula.falsum

-- the formula of a node over those of the earlier numbers
abbrev pub formula_of : List Formula → Node → Formula
formula_of earlier Node.bot = Formula.falsum
formula_of earlier (Node.atom k) = Formula.atom k
formula_of earlier (Node.not i) = Formula.neg (formula_at earlier i)
formula_of earlier (Node.and i j) = Formula.conj (formula_at earlier i) (formula_at earlier j)
formula_of earlier (Node.or i j) = Formula.disj (formula_at earlier i) (formula_at earlier j)
formula_of earlier (Node.imp i j) = Formula.imp (formula_at earlier i) (formula_at earlier j)

-- these formulas, and then those of the nodes in turn
abbrev pub formulas_after : List Formula → List Node → List Formula
formulas_after earlier [] = earlier
formulas_after earlier (n ∷ ns) = formulas_after (earlier ++ formula_of earlier n ∷ []) ns

-- the formulas of 0, 1, 2, ..
unfoldable pub formulas : List Node → List Formula
formulas nodes = formulas_after [] nodes

-- the formula of a number
abbrev pub decoded_at : List Node → ℕ → Formula
decoded_at nodes i = formula_at (formulas nodes) i

-- the formulas of a list of numbers
abbrev pub decoded : List Node → List ℕ → List Formula
decoded nodes is = map (decoded_at nodes) is

-- the sequent of a row
abbrev pub sequent_of : List Node → Row → Sequent
sequent_of nodes r = record { kind = kind_of (entry r.rule); left = decoded nodes r.left; right = decoded nodes r.right }
