-- The names of atoms, as the names table has them: where each starts in the text, and its length.
use Rattle.std.specs.Prelude.{ℕ, ◌*◌, get_or, List}
use Rattle.format.specs.Text.{Bytes}
use Rattle.format.specs.Tables.{part, name_width}

-- the record of an atom's name, empty where it lies outside
abbrev pub name_at : List ℕ → ℕ → List ℕ
name_at names atom = part names (name_width * atom) name_width

-- the part of the text that it says, empty where that lies outside
unfoldable pub spelling : Bytes → List ℕ → ℕ → Bytes
spelling text names atom = part text (get_or (name_at names atom) 0 0) (get_or (name_at names atom) 1 0)
