-- What the judging of one line comes to, whatever its kind.
use Rattle.std.specs.Prelude.{ℕ, ◌≤◌, ◌≡◌, length, Result, Ok, Err}
use Rattle.format.specs.Text.{Bytes}
use Rattle.parts.specs.Parts.{between}
use Rattle.refusals.specs.declared.Refusal.{Refusal}
use Rattle.refusals.specs.declared.Refusal.TheVariants.{BadLine}
use Rattle.state.specs.State.{Stepped, refused_by, Memory}
use Rattle.state.specs.Lined.{Lined}
use Rattle.state.specs.declared.State.{State}

-- a refusal that belongs to this line
abbrev pub at_line : ℕ → Result State Refusal → Stepped
at_line line (Ok s) = Ok s
at_line line (Err refusal) = refused_by refusal line

-- A part of the text is judged as a line, by every accepted beginning that the tables hold; a place outside the text is a bad line.
-- Where the tables hold no accepted beginning, or the text is longer than 65,536 bytes, it is free whether the line passes, what it
-- is refused for, and on which line; what `Keeps` says holds all the same.
pub record LineStepped (text : Bytes) (start end number : ℕ) (s : State) (r : Stepped) (t u : Memory) : Type 0 where
  pub inside : start ≤ end → end ≤ length text → Lined text start (between text start end) number s r t u
  pub outside : ((start ≤ end) × (end ≤ length text) → ⊥) → (r ≡ refused_by BadLine number) × (u ≡ t)
