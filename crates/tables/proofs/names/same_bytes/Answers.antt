-- `tables::names::same_bytes` meets its contract: strings of one length are the same where no pair of their bytes differs.
-- Assumes nothing.
use native.Mathlib.Omega.{arith}
use mathlib.Core.Path.{ap}
use lib.ListN.{length}
use Rattle.std.proofs.Common.{rules, tests}
use Rattle.std.proofs.lemmas.Bool.Decides.{same_from_decides}
use Rattle.std.proofs.lemmas.Iterator.{YieldsList-from_slice, YieldsList-from_zip, same_from_all}
use Rattle.format.proofs.Equal.{same_false, same_iff}
use Rattle.tables.proofs.names.same_bytes.Goals as goal

pub returns-then-a-b : goal.returns-then-a-b
returns-then-a-b c =
    same_from_decides _ _ (same_from_all c.all.new.self _ _ _ _ c.all.ensures.ran
    (YieldsList-from_zip (YieldsList-from_slice c.args.a.now cc) (YieldsList-from_slice c.args.b.now cc))
    (search rules) (λ x q k. search (rules, tests)) (λ x q k. search (rules, tests))) (same_iff _ _)

-- strings of two lengths
pub returns-else-a-b : goal.returns-else-a-b
returns-else-a-b c =
    rw (same_false c.args.a.now c.args.b.now (λ e. let lengths = ap length e in omega arith)) (search (rules, tests))
