-- `keywords::rule_word` meets its contract: its byte strings hold the words of the rules and their starts, by computation.
-- Assumes nothing.
use mathlib.Core.Path.{refl, sym, ap, ◌∙◌}
use Rattle.std.specs.Prelude.{Some}
use Rattle.keywords.proofs.RuleWordLaws.{words_stand, codes_placed, is_rule, is_no_rule, rule_answered}
use Rattle.keywords.proofs.rule_word.Goals as goal

-- each rule's code stands at the place of its word
pub candidate-code-requires : goal.candidate-code-requires
candidate-code-requires c = codes_placed _ refl refl refl

-- each word stands from its start to the next one, or to the end
pub is_word-requires : goal.is_word-requires
is_word-requires c = words_stand _ _ refl refl refl refl

pub returns-then-is_word : goal.returns-then-is_word
returns-then-is_word c =
    let candidate = c.candidate-code in
    rule_answered _ (ap (λ n. Some n) c.from.ensures ∙ is_rule _ candidate.result candidate.ensures (sym c.is_word.ensures ∙ c.if-is_word.true))

pub returns : goal.returns
returns c =
    let candidate = c.candidate-code in
    rule_answered _ (is_no_rule _ candidate.result candidate.ensures (sym c.is_word.ensures ∙ c.if-is_word.false))
