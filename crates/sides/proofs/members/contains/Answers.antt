use mathlib.Core.Bool.{Bool, true, false, ◌||◌}
use mathlib.Core.Path.{◌≡◌, sym, ap, ◌∙◌}
use borrow.Author.Rules.{rules}
use Rattle.sides.proofs.Searching.{at_end}
use Rattle.sides.proofs.members.contains.Goals as goal

-- by whether it is in the block
in_block : (found rest : Bool) {all : Bool} → all ≡ found || rest → found ≡ true → all ≡ true
in_block found rest e f = e ∙ ap (λ t. t || rest) f

past_block : (found rest : Bool) {all : Bool} → all ≡ found || rest → found ≡ false → all ≡ rest
past_block found rest e f = e ∙ ap (λ t. t || rest) f

pub returns-then-side-i-lt8 : goal.returns-then-side-i-lt8
returns-then-side-i-lt8 c = c.contains_near.ensures ∙ sym c.loop-i.invariant

pub returns-then-block_has : goal.returns-then-block_has
returns-then-block_has c = sym (c.loop-i.invariant ∙ in_block _ _ c.block_has.ensures c.if-block_has.true)

pub loop-i-preserved : goal.loop-i-preserved
loop-i-preserved c = c.loop-i.invariant ∙ past_block _ _ c.block_has.ensures c.if-block_has.false

pub returns : goal.returns
returns c = sym (c.loop-i.invariant ∙ at_end _ _ c.loop-i.i (search rules))
