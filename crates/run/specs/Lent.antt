-- The five lent tables together, their lengths, and tables that hold nothing.
use Rattle.std.specs.Prelude.{ℕ, ◌≡◌, List, length, replicate}
use Rattle.format.specs.Tables.{Contents, Lent}
use Rattle.state.specs.State.{Memory, tables}
use Rattle.run.specs.declared.lent.Tables.{Tables}

-- the five lent tables
abbrev pub five : List ℕ → List ℕ → List ℕ → List ℕ → List ℕ → Contents
five names formulas rows left right = record { names = names; formulas = formulas; rows = rows; left = left; right = right }

-- those of a memory, without the notes
abbrev pub five_of : Memory → Contents
five_of t = five t.names t.formulas t.rows t.left t.right

-- what the lent tables hold
abbrev pub held : Tables → Contents
held t = five t.names.now t.formulas.now t.rows.now t.left.now t.right.now

-- the same beside notes
abbrev pub held_with : Tables → List ℕ → Memory
held_with t notes = tables t.names.now t.formulas.now notes t.rows.now t.left.now t.right.now

-- each is still the same table, so whoever lent it knows what it holds
pub record Same (t u : Tables) : Type 0 where
  pub names : u.names.ghost_name ≡ t.names.ghost_name
  pub formulas : u.formulas.ghost_name ≡ t.formulas.ghost_name
  pub rows : u.rows.ghost_name ≡ t.rows.ghost_name
  pub left : u.left.ghost_name ≡ t.left.ghost_name
  pub right : u.right.ghost_name ≡ t.right.ghost_name

-- their lengths
abbrev pub lengths : Contents → Lent
lengths t =
    record {
      names = length t.names;
      formulas = length t.formulas;
      rows = length t.rows;
      left = length t.left;
      right = length t.right;
    }

-- tables of these lengths with nothing but zeros
abbrev pub clear : Lent → Contents
clear lent =
    record {
      names = replicate lent.names 0;
      formulas = replicate lent.formulas 0;
      rows = replicate lent.rows 0;
      left = replicate lent.left 0;
      right = replicate lent.right 0;
    }

-- nothing but zeros in any table
abbrev pub Zeros : Contents → Type 0
Zeros t = t ≡ clear (lengths t)
