-- The counts with one item more: where there is room for it and where there is not, and that they are then those of the body with it.
use Prim.Native.Nat.{ℕ, ◌+◌, ◌<◌}
use mathlib.Core.Bool.{Bool, false, cond}
use mathlib.Core.List.{[], ◌∷◌, ◌++◌}
use mathlib.Core.Path.{◌≡◌, sym, ap, ◌∙◌}
use borrow.Author.Tests.{lt-leb}
use lib.ListN.{length, length-append}
use Rattle.format.specs.File.{Node, Row, Body, add_node, add_row}
use Rattle.format.specs.Tables.{most_atoms, most_formulas}
use Rattle.format.proofs.GoodBodies.{joined_snoc}
use Rattle.counts.specs.Counts.{counts_of, count_atom, count_formula, full_for, count_row}
use Rattle.counts.specs.declared.Counts.{Counts}

module _ (c : Counts) where
  abbrev one_atom : Counts
  one_atom = record { atoms = c.atoms + 1; formulas = c.formulas; rows = c.rows; left = c.left; right = c.right }

  abbrev one_formula : Counts
  one_formula = record { atoms = c.atoms; formulas = c.formulas + 1; rows = c.rows; left = c.left; right = c.right }

  atom_more : c.atoms < most_atoms → one_atom ≡ count_atom c
  unfolding count_atom
  atom_more h = sym (ap (λ (b : Bool). cond b c one_atom) (lt-leb most_atoms c.atoms h))

  formula_more : c.formulas < most_formulas → one_formula ≡ count_formula c
  unfolding count_formula
  formula_more h = sym (ap (λ (b : Bool). cond b c one_formula) (lt-leb most_formulas c.formulas h))

  module _ (left right : ℕ) where
    abbrev more : Counts
    more = record { atoms = c.atoms; formulas = c.formulas; rows = c.rows + 1; left = c.left + left; right = c.right + right }

    row_more : full_for c left right ≡ false → more ≡ count_row c left right
    unfolding count_row
    row_more e = sym (ap (λ (b : Bool). cond b c more) e)

-- the counts of a body with one item more
pub counts_atom : (b : Body) → b.atoms < most_atoms
    → count_atom (counts_of b) ≡ counts_of (record { atoms = b.atoms + 1; nodes = b.nodes; rows = b.rows })
counts_atom b h = sym (atom_more (counts_of b) h)

pub counts_node : (b : Body) (node : Node) → length b.nodes < most_formulas → count_formula (counts_of b) ≡ counts_of (add_node b node)
counts_node b node h =
    sym (formula_more (counts_of b) h)
    ∙ ap (λ (n : ℕ). record { atoms = b.atoms; formulas = n; rows = (counts_of b).rows; left = (counts_of b).left; right = (counts_of b).right })
    (sym (length-append b.nodes (node ∷ [])))

pub counts_row : (b : Body) (r : Row) → full_for (counts_of b) (length r.left) (length r.right) ≡ false
    → count_row (counts_of b) (length r.left) (length r.right) ≡ counts_of (add_row b r)
counts_row b r e =
    let rows : length b.rows + 1 ≡ length (b.rows ++ r ∷ []) = sym (length-append b.rows (r ∷ [])) in
    let left = sym (joined_snoc (λ (q : Row). q.left) b.rows r) in
    let right = sym (joined_snoc (λ (q : Row). q.right) b.rows r) in
    sym (row_more (counts_of b) (length r.left) (length r.right) e) ∙ cc
