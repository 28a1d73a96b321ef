-- `adding::OpenFile::with_row` meets its contract. Assumes nothing.
use mathlib.Core.Path.{ap₂}
use Rattle.counts.specs.declared.Counts.{Counts}
use Rattle.answers.specs.declared.Answer.{Answer}
use Rattle.adding.proofs.OpenFile.with_row.Goals as goal

pub returns : goal.returns
returns c = ap₂ (λ (a : Answer) (k : Counts). record { answer = a; file = record { counts = k } }) c.accepted.ensures c.with_row.ensures
