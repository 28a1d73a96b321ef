use native.Mathlib.Omega.{arith}
use mathlib.Core.Path.{refl, ◌∙◌}
use Rattle.writer.proofs.Writing.{rest_told, rest_full, writes_within}
use Rattle.sentences.proofs.Begun.{begun_none, begun_more, begun_full, begun_all}
use Rattle.sentences.proofs.Book.put_sentences.Goals as goal

pub loop-number-init : goal.loop-number-init
loop-number-init c =
    let self = c.args.self in
    let sheet = self.sheet in
    (omega arith, refl, begun_none sheet.text.now sheet.names.now sheet.formulas.now self.rows.now self.left.now self.right.now c.args.count c.args.out.now)

pub returns-in_err-at : goal.returns-in_err-at
returns-in_err-at c =
    let loop = c.loop-number in
    let self = c.args.self in
    let sheet = self.sheet in
    begun_full sheet.text.now sheet.names.now sheet.formulas.now self.rows.now self.left.now self.right.now c.args.count
    loop.invariant.2 c.loop-number-test.true (rest_full loop.out loop.at loop.invariant.0 c.put_sentence.ensures c.in_err-at.was)
    c.from_residual.ensures

pub loop-number-preserved : goal.loop-number-preserved
loop-number-preserved c =
    let loop = c.loop-number in
    let self = c.args.self in
    let sheet = self.sheet in
    let told = rest_told loop.out loop.at loop.invariant.0 c.put_sentence.ensures c.in_ok-at.was in
    let end = writes_within told in (
      omega (arith, end, told.length_kept),
      told.length_kept ∙ loop.invariant.1,
      begun_more sheet.text.now sheet.names.now sheet.formulas.now self.rows.now self.left.now self.right.now c.args.count
          loop.invariant.2 c.loop-number-test.true told,
    )

pub returns : goal.returns
returns c =
    let self = c.args.self in
    let sheet = self.sheet in
    begun_all sheet.text.now sheet.names.now sheet.formulas.now self.rows.now self.left.now self.right.now c.args.count
    c.loop-number.invariant.2 (omega arith)
