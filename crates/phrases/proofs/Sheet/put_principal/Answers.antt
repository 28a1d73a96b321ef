-- `phrases::Sheet::put_principal` meets its contract.
use Rattle.words.specs.Words.{principal_words}
use Rattle.writer.proofs.Writing.{puts_as, puts_then}
use Rattle.phrases.proofs.TableRows.{no_principal, principal_words_lem}
use Rattle.phrases.proofs.Sheet.put_principal.Goals as goal

pub returns-then-principal-eq-ABSENT : goal.returns-then-principal-eq-ABSENT
unfolding principal_words
returns-then-principal-eq-ABSENT c =
    let self = c.args.self in
    puts_as (no_principal self.text.now self.names.now self.formulas.now c.args.principal c.if-principal-eq-ABSENT.true)
    c.put.ensures

pub returns-else-principal-eq-ABSENT : goal.returns-else-principal-eq-ABSENT
returns-else-principal-eq-ABSENT c =
    let self = c.args.self in
    puts_as (principal_words_lem self.text.now self.names.now self.formulas.now c.args.principal c.if-principal-eq-ABSENT.false _
    c.from.ensures)
    (puts_then c.put-else-principal-eq-ABSENT.ensures c.put_formula.ensures)
