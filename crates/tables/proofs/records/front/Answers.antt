-- `tables::records::front` meets its contract. Assumes nothing.
use Prim.Native.Nat.{ℕ}
use native.Mathlib.Omega.{arith}
use mathlib.Core.Path.{sym, ap, ◌∙◌}
use lib.ListN.{take}
use lib.Seq.{length-take-le}
use Rattle.std.proofs.lemmas.List.{take_min}
use Rattle.tables.proofs.records.front.Goals as goal

pub slice_bounds-result-end : goal.slice_bounds-result-end
slice_bounds-result-end c = sym (length-take-le c.min.result c.args.table.now (omega arith))

pub returns : goal.returns
returns c = ap (λ (n : ℕ). take n c.args.table.now) c.min.ensures ∙ take_min c.args.count c.args.table.now
