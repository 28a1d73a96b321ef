-- `tables::records::part` meets its contract: `get` answers the part exactly where it lies inside. Assumes nothing.
use Prim.Native.Nat.{ℕ, ◌+◌, ◌-◌}
use native.Mathlib.Omega.{arith}
use mathlib.Core.List.{List, []}
use mathlib.Core.Path.{◌≡◌, refl, sym, ap, ap₂, ◌∙◌}
use denote.Bor.{Bor}
use lib.ListN.{take, drop}
use Rattle.std.specs.Prelude.{Option, Some, None}
use Rattle.std.specs.Option.{unwrap_or}
use Rattle.std.specs.Slice.{IsGetRangeResult}
use Rattle.format.specs.Tables.{part}
use Rattle.tables.proofs.Placed.{part_inside, part_outside}
use Rattle.tables.proofs.records.part.Goals as goal

got : (table : List ℕ) (from to start len : ℕ) (r : Option (Bor (List ℕ))) (d : Bor (List ℕ))
    → IsGetRangeResult table from to r → from ≡ start → to ≡ start + len → d.now ≡ [] → (unwrap_or r d).now ≡ part table start len
got table from to start len None d g e f n = n ∙ sym (part_outside table start len (omega (arith, g)))
got table from to start len (Some x) d g e f n =
    let count : to - from ≡ len = omega arith in
    g.0.2
    ∙ ap₂ (λ (k at : ℕ). take k (drop at table)) count e
    ∙ sym (part_inside table start len (omega arith))

pub returns : goal.returns
returns c = ap (λ (b : Bor (List ℕ)). b.now) c.unwrap_or.ensures ∙ got _ _ _ _ _ _ _ c.get.ensures.lookup c.from-from.ensures (omega arith) refl
