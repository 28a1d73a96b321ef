-- `phrases::grounds::put_premises` meets its contract.
use Rattle.writer.proofs.Writing.{puts_as, puts_then}
use Rattle.phrases.proofs.TableRows.{no_premises, one_premise, two_premises}
use Rattle.phrases.proofs.grounds.put_premises.Goals as goal

pub returns-then-first-eq-ABSENT : goal.returns-then-first-eq-ABSENT
returns-then-first-eq-ABSENT c =
    let args = c.args in
    puts_as (no_premises args.first args.second c.if-first-eq-ABSENT.true) c.put.ensures

pub returns-then-second-ne-ABSENT : goal.returns-then-second-ne-ABSENT
returns-then-second-ne-ABSENT c =
    let args = c.args in
    puts_as (two_premises args.first args.second c.if-first-eq-ABSENT.false c.if-second-ne-ABSENT.true)
    (puts_then c.put-2.ensures (puts_then c.put_number.ensures
    (puts_then c.put-then-second-ne-ABSENT.ensures c.put_number-then-second-ne-ABSENT.ensures)))

pub returns-else-second-ne-ABSENT : goal.returns-else-second-ne-ABSENT
returns-else-second-ne-ABSENT c =
    let args = c.args in
    puts_as (one_premise args.first args.second c.if-first-eq-ABSENT.false c.if-second-ne-ABSENT.false)
    (puts_then c.put-2.ensures c.put_number.ensures)
