-- `schema::additions::added` meets its contract: the table has the rule's parts at the place, and each is looked for on the side.
use Prim.Native.Nat.{ℕ}
use mathlib.Core.Path.{ap, ap₂, ◌∙◌}
use Rattle.schema.specs.Principal.{apart}
use Rattle.schema.specs.Additions.{part_in}
use Rattle.schema.proofs.additions.added.Goals as goal

pub returns : goal.returns
returns c =
    let args = c.args in
    let part = part_in args.formulas.now args.side.now (apart args.p) in
    ap₂ (λ (x y : ℕ). record { x = x; y = y }) (c.part_on.ensures ∙ ap part c.rule_number-one.ensures)
    (c.part_on-2.ensures ∙ ap part c.rule_number-two.ensures)
