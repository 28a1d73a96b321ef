use Prim.Native.Nat.{ℕ}
use mathlib.Core.Path.{ap, ◌∙◌}
use Rattle.tables.specs.Records.{node_at, record_from}
use Rattle.alike.specs.Under.{step_of}
use Rattle.alike.proofs.Stepping.{none_filled, next_filled, all_filled}
use Rattle.alike.proofs.steps.fill_steps.Goals as goal

pub loop-k-init : goal.loop-k-init
loop-k-init c =
    let args = c.args in
    none_filled args.formulas.now args.list.now args.slots.now args.steps.now

pub loop-k-preserved : goal.loop-k-preserved
loop-k-preserved c =
    let args = c.args in
    let formulas = args.formulas.now in
    next_filled formulas args.list.now args.slots.now args.steps.now c.loop-k.invariant c.loop-k-test.true _
    (c.step_of.ensures ∙ ap (step_of args.slots.now) (c.node.ensures
    ∙ ap (λ (i : ℕ). record_from (node_at formulas i)) c.from.ensures)) c.put_node.ensures

pub shape_of-steps : goal.shape_of-steps
shape_of-steps c = c.loop-k.invariant.long

pub returns : goal.returns
returns c =
    let args = c.args in
    all_filled args.formulas.now args.list.now args.slots.now args.steps.now c.loop-k.invariant c.loop-k-test.false
