-- `rows::premises::wrong_premises` meets its contract: each comparison of numbers says what it is to say of `wrong_premises`.
-- Assumes nothing.
use mathlib.Core.Path.{◌∙◌}
use Rattle.rows.proofs.PremiseKinds.{named_by, by_number, ten_principal, ten_count, none_wrong, ten_first, one_right, ten_second, two_right}
use Rattle.rows.proofs.premises.wrong_premises.Goals as goal

pub returns-then-named-rule_number : goal.returns-then-named-rule_number
returns-then-named-rule_number c b q formulas notes left_pool right_pool left right j = ten_principal j _ _ (named_by _ c.is_some.ensures c.from-named.ensures) c.rule_number.ensures c.if-named-rule_number.true

pub returns-then-draft-premises : goal.returns-then-draft-premises
returns-then-draft-premises c b q formulas notes left_pool right_pool left right j =
    ten_count j _ _ (named_by _ c.is_some.ensures c.from-named.ensures) c.rule_number.ensures c.if-named-rule_number.false _
    (c.from-premises.ensures ∙ c.rule_number-2.ensures) c.if-draft-premises.true

pub returns-then-premises-eq0 : goal.returns-then-premises-eq0
returns-then-premises-eq0 c b q formulas notes left_pool right_pool left right j =
    none_wrong j _ _ (named_by _ c.is_some.ensures c.from-named.ensures) c.rule_number.ensures c.if-named-rule_number.false _
    (c.from-premises.ensures ∙ c.rule_number-2.ensures) c.if-draft-premises.false c.if-premises-eq0.true

pub returns-then-kind_of-rule_number : goal.returns-then-kind_of-rule_number
returns-then-kind_of-rule_number c b q formulas notes left_pool right_pool left right j =
    ten_first j _ _ (named_by _ c.is_some.ensures c.from-named.ensures) c.rule_number.ensures c.if-named-rule_number.false _
    (c.from-premises.ensures ∙ c.rule_number-2.ensures) c.if-draft-premises.false c.if-premises-eq0.false _ _
    c.kind_of.ensures c.rule_number-3.ensures c.if-kind_of-rule_number.true

pub returns-then-premises-eq1 : goal.returns-then-premises-eq1
returns-then-premises-eq1 c b q formulas notes left_pool right_pool left right j =
    one_right j _ _ (named_by _ c.is_some.ensures c.from-named.ensures) c.rule_number.ensures c.if-named-rule_number.false _
    (c.from-premises.ensures ∙ c.rule_number-2.ensures) c.if-draft-premises.false c.if-premises-eq0.false _ _
    c.kind_of.ensures c.rule_number-3.ensures c.if-kind_of-rule_number.false c.if-premises-eq1.true

pub returns : goal.returns
returns c b q formulas notes left_pool right_pool left right j =
    let named = named_by _ c.is_some.ensures c.from-named.ensures in
    let count = c.from-premises.ensures ∙ c.rule_number-2.ensures in
    by_number c.kind_of-2.result c.rule_number-4.result
    (λ n. ten_second j _ _ named c.rule_number.ensures c.if-named-rule_number.false _
    count c.if-draft-premises.false c.if-premises-eq0.false _ _
    c.kind_of.ensures c.rule_number-3.ensures c.if-kind_of-rule_number.false c.if-premises-eq1.false _ _
    c.kind_of-2.ensures c.rule_number-4.ensures n)
    (λ e. two_right j _ _ named c.rule_number.ensures c.if-named-rule_number.false _
    count c.if-draft-premises.false c.if-premises-eq0.false _ _
    c.kind_of.ensures c.rule_number-3.ensures c.if-kind_of-rule_number.false c.if-premises-eq1.false _ _
    c.kind_of-2.ensures c.rule_number-4.ensures e)
