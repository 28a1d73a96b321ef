-- `sentences::Book::put_sentences` meets its contract. The invariant of its loop: the rows before the number are told.
use Prim.Native.Nat.{◌≤◌}
use mathlib.Core.Path.{◌≡◌}
use lib.ListN.{length}
use Rattle.sentences.proofs.Begun.{Begun}
use Rattle.sentences.proofs.Book.put_sentences.Given as goal

abbrev pub invariant-loop-number : goal.invariant-loop-number
invariant-loop-number l =
    (l.at ≤ length l.out) × (length l.out ≡ length l.initial.out) × Begun l.self.sheet.text.now l.self.sheet.names.now
    l.self.sheet.formulas.now l.self.rows.now l.self.left.now l.self.right.now l.count l.number l.at l.initial.out l.out
