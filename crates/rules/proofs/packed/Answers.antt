-- `rules::packed` meets its contract: each arm by computation, and what is left lies past the table.
use mathlib.Core.Path.{sym}
use lib.ListN.{get_or-eq_default}
use borrow.Author.Rules.{rules}
use Rattle.rules.specs.RuleTable.{packed_rules}
use Rattle.rules.proofs.RuleNumbers.{past_all}
use Rattle.rules.proofs.packed.Goals as goal

pub returns-in_default : goal.returns-in_default
returns-in_default c = sym (get_or-eq_default packed_rules 0 (past_all 38 c.args.rule (search rules)))
