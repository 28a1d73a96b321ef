-- `sentences::Book::put_sentence` meets its contract.
use borrow.Author.Rules.{rules}
use Rattle.writer.proofs.Writing.{puts_as, puts_then, puts_whole}
use Rattle.sentences.proofs.Begun.{sentence_read}
use Rattle.sentences.proofs.Book.put_sentence.Goals as goal

pub returns : goal.returns
returns c =
    let self = c.args.self in
    let sheet = self.sheet in
    puts_whole
    (puts_as (sentence_read sheet.text.now sheet.names.now sheet.formulas.now self.rows.now self.left.now self.right.now _ _
    c.row-held.result _ c.from-at.ensures c.row-held.ensures c.kind_of.ensures)
    (puts_then c.put_heading.ensures (puts_then c.put_grounds.ensures c.put_sequent.ensures)))
    c.new-out.ensures.text c.new-out.ensures.end (search rules) c.end.ensures
