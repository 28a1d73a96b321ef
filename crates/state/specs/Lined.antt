-- What a line of one kind comes to: what every accepted beginning that the tables hold makes of it, and what holds in any tables.
use Rattle.std.specs.Prelude.{ℕ, ◌≤◌, ◌≡◌, List, [], length, get_or}
use Prim.Native.String.{String}
use Rattle.format.specs.Text.{Bytes, bytes, fields_of}
use Rattle.format.specs.File.{File}
use Rattle.format.specs.Tables.{most_bytes}
use Rattle.format.specs.Judged.{Place, step}
use Rattle.format.specs.Good.{Good}
use Rattle.state.specs.State.{Stepped, Memory, Stored, Steps, Keeps}
use Rattle.state.specs.declared.State.{State}

-- the first field of the line is this word
abbrev pub OfKind : String → Bytes → Type 0
OfKind kind line = get_or (fields_of line) 0 [] ≡ bytes kind

-- the line of this number, which starts at this byte of the text
pub record Lined (text : Bytes) (start : ℕ) (line : Bytes) (number : ℕ) (s : State) (r : Stepped) (t u : Memory) : Type 0 where
  pub steps :
      (f : File) (p : Place) (done : List Bytes) → Good done f → Stored text f s t → length text ≤ most_bytes → p.start ≡ start → p.line ≡ number
      → Steps text (step f p line) r u
  pub keeps : Keeps r t u
