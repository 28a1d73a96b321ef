-- What a call of a writer does to it: the lent text stays the one that it was made of, and is written as `Writes` says.
use Rattle.std.specs.Prelude.{◌≡◌}
use Rattle.format.specs.Text.{Bytes}
use Rattle.writer.specs.declared.Writer.{Writer}
use Rattle.writer.specs.Writing.{Writes}

-- these words more
pub record Puts (words : Bytes) (w w' : Writer) : Type 0 where
  pub same_text : w'.out.ghost_name ≡ w.out.ghost_name
  pub writes : Writes words w.out.now w.end w'.out.now w'.end
