-- `handed::limits::zeros_from` meets its contract. Assumes nothing.
use Prim.Native.Nat.{ℕ}
use mathlib.Core.Bool.{Bool, true, ◌&&◌}
use mathlib.Core.List.{List}
use mathlib.Core.Path.{refl, ap, ◌∙◌}
use borrow.Author.Rules.{rules}
use denote.Bor.{Bor}
use lib.Dec.{eqb}
use lib.ListN.{drop}
use Rattle.std.proofs.lemmas.Iterator.{YieldsList-from_slice}
use Rattle.std.proofs.lemmas.Iterator.Consumers.{fold_from_yields_List}
use Rattle.handed.proofs.Zeros.{rest_got, zeros_seen}
use Rattle.handed.proofs.limits.zeros_from.Goals as goal

pub returns : goal.returns
returns c =
    let args = c.args in
    let rest = ap (λ (b : Bor (List ℕ)). b.now) c.unwrap_or.ensures ∙ rest_got args.table.now args.from _ _ c.get.ensures.lookup refl in
    fold_from_yields_List _ (λ (zeros : Bool) (x : ℕ). zeros && eqb x 0) true c.fold.result c.fold.ensures.ran
    (YieldsList-from_slice (drop args.from args.table.now) (c.iter.ensures.rest ∙ rest)) (λ zeros x b q k. search rules)
    ∙ zeros_seen args.table.now args.from
