-- The counts of a body, and with one item more.
use Rattle.std.specs.Prelude.{ℕ, ◌+◌, Bool, cond, ◌||◌, ltb, leb, length}
use Rattle.format.specs.File.{Body}
use Rattle.format.specs.Tables.{left_pool, right_pool, most_atoms, most_formulas, most_rows, most_entries}
use Rattle.counts.specs.declared.Counts.{Counts}

abbrev pub counts_of : Body → Counts
counts_of b =
    record {
      atoms = b.atoms;
      formulas = length b.nodes;
      rows = length b.rows;
      left = length (left_pool b.rows);
      right = length (right_pool b.rows);
    }

abbrev pub no_counts : Counts
no_counts = record { atoms = 0; formulas = 0; rows = 0; left = 0; right = 0 }

-- one atom more; the same counts where there is no room for it
unfoldable pub count_atom : Counts → Counts
count_atom c =
    cond (leb most_atoms c.atoms) c (record { atoms = c.atoms + 1; formulas = c.formulas; rows = c.rows; left = c.left; right = c.right })

-- one formula more, in the same way
unfoldable pub count_formula : Counts → Counts
count_formula c =
    cond (leb most_formulas c.formulas) c (record { atoms = c.atoms; formulas = c.formulas + 1; rows = c.rows; left = c.left; right = c.right })

-- there is no room for a row with so many numbers on its sides
unfoldable pub full_for : Counts → ℕ → ℕ → Bool
full_for c left right = leb most_rows c.rows || ltb most_entries (c.left + left) || ltb most_entries (c.right + right)

-- one row more, in the same way
unfoldable pub count_row : Counts → ℕ → ℕ → Counts
count_row c left right =
    cond (full_for c left right) c (
    record { atoms = c.atoms; formulas = c.formulas; rows = c.rows + 1; left = c.left + left; right = c.right + right })
