-- `models::only_falsum` meets its contract. Assumes nothing.
use Prim.Native.Nat.{ℕ}
use mathlib.Core.Bool.{Bool}
use mathlib.Core.Path.{sym, ◌∙◌}
use borrow.Author.Rules.{rules}
use lib.Dec.{eqb}
use Rattle.std.proofs.lemmas.Iterator.{YieldsList-from_slice}
use Rattle.std.proofs.lemmas.Iterator.Search.{all_from_yields_List}
use Rattle.tables.specs.Records.{node_at, record_from}
use Rattle.models.proofs.Judging.{all_listed}
use Rattle.models.proofs.only_falsum.Goals as goal

pub returns : goal.returns
returns c =
    let test : ℕ → Bool = λ i. eqb (record_from (node_at c.args.formulas.now i)).word 0 in
    all_from_yields_List test _ _ c.all.result c.all.ensures.ran (YieldsList-from_slice c.args.side.now cc) (λ x b q k. search rules)
    ∙ sym (all_listed test c.args.side.now)
