-- `alike::truths::judge` meets its contract: an atom, what has no parts, and a connective. Assumes nothing.
use native.Mathlib.Omega.{arith}
use mathlib.Core.Logic.{⊎_elim}
use mathlib.Core.Path.{ap, ◌∙◌}
use Rattle.alike.specs.Truths.{place_of}
use Rattle.alike.proofs.TruthBits.{of_atom, at_slot, judged_simple, judged_nothing, judged_joined}
use Rattle.alike.proofs.truths.judge.Goals as goal

pub returns-then-step-eq-ATOM : goal.returns-then-step-eq-ATOM
returns-then-step-eq-ATOM c =
    let args = c.args in
    let places = args.places.now in
    let is = c.note.ensures ∙ ap (place_of places) c.from.ensures in
    judged_simple args.step places args.sets.h args.sets.g args.sets.t args.k args.table.now c.put_truth.ensures (record {
      first = of_atom args.step places _ _ args.sets.h args.sets.t c.if-step-eq-ATOM.true _ _ is c.truth_of_place.ensures.first;
      second = of_atom args.step places _ _ args.sets.g args.sets.t c.if-step-eq-ATOM.true _ _ is c.truth_of_place.ensures.second;
    })

pub returns-then-step-lt-NOT : goal.returns-then-step-lt-NOT
returns-then-step-lt-NOT c =
    let args = c.args in
    let is = c.at_all.ensures in
    judged_nothing args.step args.places.now args.sets.h args.sets.g args.sets.t args.k args.table.now is.0 is.1 is.2
    c.all_of_one.ensures c.all_of_one-then-step-lt-NOT.ensures c.if-step-eq-ATOM.false
    (λ two five. ⊎_elim (λ l. omega arith) (λ l. omega arith) c.then-step-lt-NOT.either)
    c.put_truth-then-step-lt-NOT.ensures

pub put_truth-requires-2 : goal.put_truth-requires-2
put_truth-requires-2 c = c.requires

pub returns : goal.returns
returns c =
    let args = c.args in
    let table = args.table.now in
    judged_joined args.step args.places.now args.sets.h args.sets.g args.sets.t args.k table
    (omega (arith, c.if-step-lt-NOT.false)) (omega (arith, c.if-step-gt-IMP.false)) c.signs_of.ensures
    c.put_truth-2.ensures c.joined_truth.ensures c.truth_in-x.ensures c.truth_in-y.ensures
    (at_slot table c.within.ensures.1) (at_slot table c.within-2.ensures.1)
