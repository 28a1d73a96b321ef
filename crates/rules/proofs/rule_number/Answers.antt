-- `rules::rule_number` meets its contract: it reads one digit of the rule's packed numbers.
use Prim.Native.Nat.{ℕ, ◌*◌, ◌-◌, ◌/◌, ◌%◌, ◌^◌, ◌<◌}
use mathlib.Core.Path.{sym, ap, ◌∙◌}
use borrow.Author.Rules.{rules}
use lib.ListN.{get_or}
use Rattle.rules.specs.RuleTable.{packed_rules, count_of_numbers, rule_number}
use Rattle.rules.proofs.RuleNumbers.{first_read, later_read, no_place}
use Rattle.rules.proofs.rule_number.Goals as goal

pub returns-then-at-ge-NUMBERS : goal.returns-then-at-ge-NUMBERS
returns-then-at-ge-NUMBERS c = sym (no_place c.args.rule c.args.at c.if-at-ge-NUMBERS.true)

pub returns-then-at-eq-STEP : goal.returns-then-at-eq-STEP
returns-then-at-eq-STEP c =
    let args = c.args in
    ap (λ (n : ℕ). n / 2 ^ (3 * (17 - args.at)) % 256) c.packed-numbers.ensures
    ∙ ap (λ (i : ℕ). get_or packed_rules args.rule 0 / 2 ^ (3 * (17 - i)) % 256) c.if-at-eq-STEP.true
    ∙ first_read args.rule
    ∙ ap (rule_number args.rule) (sym c.if-at-eq-STEP.true)

pub returns : goal.returns
returns c =
    let args = c.args in
    let inside : args.at < count_of_numbers = search rules in
    ap (λ (n : ℕ). n / 2 ^ (3 * (17 - args.at)) % 8) c.packed-numbers.ensures ∙ later_read args.rule args.at inside c.if-at-eq-STEP.false
