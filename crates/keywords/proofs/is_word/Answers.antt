-- `keywords::is_word` meets its contract: the word of a code stands from its start to the next one, or to the end. Assumes nothing.
use native.Mathlib.Omega.{arith}
use mathlib.Core.Path.{ap, ◌∙◌}
use Rattle.format.specs.Text.{same_list}
use Rattle.keywords.proofs.RuleWordLaws.{StandsAt, stands_by}
use Rattle.keywords.proofs.is_word.Goals as goal
use Rattle.keywords.proofs.is_word.Goals.{After-start_of-to}

standing : (c : After-start_of-to)
    → StandsAt c.args.words.now c.args.code
    c.start_of-from.result c.start_of-to.result
standing c =
    stands_by _ _ _ c.from-at.result _ _ c.requires c.from-at.ensures c.start_of-from.ensures c.start_of-to.ensures

pub slice_bounds-same_bytes-count : goal.slice_bounds-same_bytes-count
slice_bounds-same_bytes-count c = (standing c).ordered

pub slice_bounds-same_bytes-start : goal.slice_bounds-same_bytes-start
slice_bounds-same_bytes-start c = omega (arith, (standing c).ordered, (standing c).inside)

pub slice_bounds-same_bytes-end : goal.slice_bounds-same_bytes-end
slice_bounds-same_bytes-end c = omega (arith, (standing c).ordered, (standing c).inside)

pub returns : goal.returns
returns c = c.same_bytes.ensures ∙ ap (same_list c.args.field.now) (standing (goal.at.returns c).After-start_of-to).there
