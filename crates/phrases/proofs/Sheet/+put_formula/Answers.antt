-- `phrases::Sheet::put_formula` meets its contract. Assumes nothing.
use Prim.Native.Nat.{ℕ, ◌<◌}
use native.Mathlib.Omega.{arith}
use mathlib.Core.Path.{◌≡◌}
use Rattle.phrases.proofs.TableFormulas.{first_before, second_before, parts_of_lem, falsum_words, atom_words_lem, not_words, two_words}
use Rattle.writer.proofs.Writing.{puts_as, puts_then}
use Rattle.phrases.proofs.Sheet.+put_formula.Goals as goal

-- a part has a smaller number
earlier : {j part i t : ℕ} → j ≡ part → i ≡ t → part < i → j < t
earlier e f h = omega arith

pub returns-in-0 : goal.returns-in-0
returns-in-0 t c =
    let self = c.args.self in
    puts_as (falsum_words self.text.now self.names.now self.formulas.now c.args.i _ c.node-n.ensures _
    c.word_before.ensures c.in-0.is) c.put.ensures

pub returns-in-1 : goal.returns-in-1
returns-in-1 t c =
    let self = c.args.self in
    puts_as (atom_words_lem self.text.now self.names.now self.formulas.now c.args.i _ c.node-n.ensures _
    c.word_before.ensures c.in-1.is _ c.from-first.ensures) c.put_atom.ensures

pub put_formula-requires : goal.put_formula-requires
put_formula-requires t c =
    let self = c.args.self in
    let parts = parts_of_lem self.text.now self.names.now self.formulas.now c.args.i _ c.node-n.ensures _ c.word_before.ensures in
    (earlier c.from-first.ensures c.decreases (first_before parts (omega arith)), tt)

pub returns-in-2 : goal.returns-in-2
returns-in-2 t c =
    let self = c.args.self in
    puts_as (not_words self.text.now self.names.now self.formulas.now c.args.i _ c.node-n.ensures _
    c.word_before.ensures c.in-2.is _ c.from-first.ensures) (puts_then c.put-in-2.ensures c.put_formula.ensures)

pub put_formula-requires-in_default : goal.put_formula-requires-in_default
put_formula-requires-in_default t c =
    let self = c.args.self in
    let parts = parts_of_lem self.text.now self.names.now self.formulas.now c.args.i _ c.node-n.ensures _ c.word_before.ensures in
    (earlier c.from-first.ensures c.decreases (first_before parts (omega arith)), tt)

pub put_formula-requires-in_default-2 : goal.put_formula-requires-in_default-2
put_formula-requires-in_default-2 t c =
    let self = c.args.self in
    let parts = parts_of_lem self.text.now self.names.now self.formulas.now c.args.i _ c.node-n.ensures _ c.word_before.ensures in
    (earlier c.from.ensures c.decreases (second_before parts (omega arith)), tt)

pub returns-in_default : goal.returns-in_default
returns-in_default t c =
    let self = c.args.self in
    puts_as (two_words self.text.now self.names.now self.formulas.now c.args.i _ c.node-n.ensures _
    c.word_before.ensures (omega arith) _ _ c.from-first.ensures c.from.ensures)
    (puts_then c.put_bracket.ensures (puts_then c.put_formula-in_default.ensures
    (puts_then c.put_connective.ensures (puts_then c.put_formula-in_default-2.ensures c.put-in_default.ensures))))
