-- `tables::records::put_record` meets its contract: a place past the end of the table writes nothing, whichever it is. Assumes nothing.
use Prim.Native.Nat.{ℕ, ◌*◌, ◌<◌, min}
use native.Mathlib.Decide.{dec_lt}
use native.Mathlib.Nat.{mul_comm}
use native.Mathlib.Omega.{arith}
use mathlib.Core.List.{List}
use mathlib.Core.Path.{◌≡◌, sym, ap, ◌∙◌}
use lib.ListN.{length}
use Rattle.tables.specs.Records.{written}
use Rattle.tables.proofs.Placed.{written_outside}
use Rattle.tables.proofs.records.put_record.Goals as goal

same_place : (table : List ℕ) (at place : ℕ) (numbers : List ℕ) → length table < 18446744073709551615 → at ≡ min place 18446744073709551615
    → written table at numbers ≡ written table place numbers
same_place table at place numbers fits e = by (dec_lt place 18446744073709551615)
  where
    by : Dec (place < 18446744073709551615) → written table at numbers ≡ written table place numbers
    by (yes l) = let same : at ≡ place = omega arith in ap (λ (k : ℕ). written table k numbers) same
    by (no n) = written_outside table at numbers (omega arith) ∙ sym (written_outside table place numbers (omega arith))

pub returns : goal.returns
returns g c =
    c.put_side.ensures
    ∙ same_place c.args.table.now c.saturating_mul.result (g.row.N * c.args.count) c.args.numbers (omega (arith, c.well_formed))
    (c.saturating_mul.ensures ∙ ap (λ (n : ℕ). min n 18446744073709551615) (mul_comm c.args.count g.row.N))
