-- `alike::steps::step_of` meets its contract. Assumes nothing.
use Prim.Native.Nat.{ℕ}
use mathlib.Core.Path.{sym, ap, ap₂, ◌∙◌}
use Rattle.alike.specs.Under.{slot_of}
use Rattle.alike.proofs.Stepping.{step_without, step_with}
use Rattle.alike.proofs.steps.step_of.Goals as goal

pub returns-then-key-lt-NOT : goal.returns-then-key-lt-NOT
returns-then-key-lt-NOT c =
    let args = c.args in
    sym (step_without args.slots.now args.key c.if-key-lt-NOT.true)

pub returns : goal.returns
returns c =
    let key = c.args.key in
    let slots = c.args.slots.now in
    ap₂ (λ (x y : ℕ). record { word = key.word; first = x; second = y })
    (c.entry_of.ensures ∙ ap (slot_of slots) c.from.ensures)
    (c.entry_of-2.ensures ∙ ap (slot_of slots) (c.from-2.ensures ∙ c.last_part.ensures))
    ∙ sym (step_with slots key c.if-key-lt-NOT.false)
