use Prim.Native.Nat.{ℕ, ◌+◌, ◌≤◌, ◌<◌}
use native.Mathlib.Numerals.{add-one}
use mathlib.Core.Bool.{◌&&◌, cond, and-false}
use mathlib.Core.List.{List}
use mathlib.Core.Logic.{⊎_elim}
use mathlib.Core.Path.{◌≡◌, sym, ap, ◌∙◌}
use borrow.Author.Tests.{eq-eqb, ne_eqb}
use lib.Dec.{eqb}
use lib.ListN.{length, get_or, drop, drop_of_length-le}
use lib.Seq.{drop-cons}
use Rattle.tables.specs.declared.records.NodeRecord.{NodeRecord}
use Rattle.sides.specs.Numbers.{missing}
use Rattle.schema.specs.Principal.{record_at}
use Rattle.schema.specs.Additions.{negation_in}
use Rattle.schema.proofs.additions.negation_on.Goals as goal

module _ (formulas side : List ℕ) (a i : ℕ) where
  at_end : length side ≤ i → negation_in formulas (drop i side) a ≡ missing
  unfolding negation_in
  at_end h = ap (λ (rest : List ℕ). negation_in formulas rest a) (drop_of_length-le side h)

  -- the number at i, whose record was read
  module _ (h : i < length side) (n : NodeRecord) (read : n ≡ record_at formulas (get_or side i 0)) where
    head : negation_in formulas (drop i side) a ≡ cond (eqb n.word 2 && eqb n.first a) (get_or side i 0) (negation_in formulas (drop (i + 1) side) a)
    unfolding negation_in
    head = rw (read, add-one, drop-cons side i 0)

    here : n.word ≡ 2 → n.first ≡ a → negation_in formulas (drop i side) a ≡ get_or side i 0
    here w f = head ∙ rw (eq-eqb n.word 2 w, eq-eqb n.first a f)

    other_word : (n.word ≡ 2 → ⊥) → negation_in formulas (drop i side) a ≡ negation_in formulas (drop (i + 1) side) a
    other_word w = head ∙ rw (ne_eqb n.word 2 w)

    other_operand : (n.first ≡ a → ⊥) → negation_in formulas (drop i side) a ≡ negation_in formulas (drop (i + 1) side) a
    other_operand f = head ∙ rw (ne_eqb n.first a f, and-false (eqb n.word 2))

pub returns-then-n-a : goal.returns-then-n-a
returns-then-n-a c =
    let args = c.args in
    let formulas = args.formulas.now in
    let read = c.node-n.ensures ∙ ap (record_at formulas) c.from.ensures in
    let found = here formulas args.side.now args.a c.loop-x.x-index c.loop-x-test.true c.node-n.result read in
    c.from-then-n-a.ensures ∙ sym (c.loop-x.invariant ∙ found c.if-n-eq-NOT.true c.if-n-a.true)

pub loop-x-preserved : goal.loop-x-preserved
loop-x-preserved c =
    let args = c.args in
    let formulas = args.formulas.now in
    let inside = c.loop-x-test.true in
    let n = c.node-n.result in
    let read = c.node-n.ensures ∙ ap (record_at formulas) c.from.ensures in
    let by-operand = other_operand formulas args.side.now args.a c.loop-x.x-index inside n read in
    let by_word_lem = other_word formulas args.side.now args.a c.loop-x.x-index inside n read in
    c.loop-x.invariant ∙ ⊎_elim (λ w. by-operand w.1) by_word_lem c.else-n-eq-NOT.either

pub returns : goal.returns
returns c =
    let args = c.args in
    sym (c.loop-x.invariant ∙ at_end args.formulas.now args.side.now args.a c.loop-x.x-index c.loop-x-test.false)
