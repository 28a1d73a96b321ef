-- `tables::records::put_side` meets its contract: the side is copied where it fits, and else nothing is. Assumes nothing.
use Prim.Native.Nat.{ℕ, ◌+◌}
use native.Mathlib.Omega.{arith}
use mathlib.Core.List.{List, ◌++◌}
use mathlib.Core.Path.{refl, sym, ap, ◌∙◌}
use lib.ListN.{length, take, drop}
use lib.Seq.{take-length}
use Rattle.std.proofs.lemmas.Slice.{put_mid-paste}
use Rattle.tables.proofs.Placed.{written_inside, written_outside}
use Rattle.tables.proofs.records.put_side.Goals as goal

pub returns-then-at-pool : goal.returns-then-at-pool
returns-then-at-pool c = sym (written_outside c.args.pool.now _ c.args.side.now (omega arith))

pub returns-then-side-pool : goal.returns-then-side-pool
returns-then-side-pool c = sym (written_outside c.args.pool.now _ c.args.side.now (omega arith))

pub returns : goal.returns
returns c =
    let pool = c.args.pool.now in
    let side = c.args.side.now in
    put_mid-paste c.args.at _ pool _ side (length side) c.copy_from_slice.ensures.after (omega arith) refl
    ∙ ap (λ (numbers : List ℕ). take c.args.at pool ++ numbers ++ drop (c.args.at + length side) pool) (take-length side)
    ∙ sym (written_inside pool c.args.at side (omega arith))
