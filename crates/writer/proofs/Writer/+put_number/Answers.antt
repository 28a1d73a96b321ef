-- `writer::Writer::put_number` meets its contract. Assumes nothing.
use Prim.Native.Nat.{ℕ, ◌+◌, ◌%◌}
use native.Mathlib.Omega.{arith}
use mathlib.Core.List.{[], ◌∷◌}
use mathlib.Core.Path.{◌≡◌, sym, ap, ◌∙◌}
use Rattle.writer.proofs.Decimals.{decimal_one, decimal_more}
use Rattle.writer.proofs.Writing.{puts_as, puts_from, puts_then}
use Rattle.writer.proofs.Writer.+put_number.Goals as goal
use Rattle.writer.proofs.Writer.+put_number.Goals.{then-n-ge10, else-n-ge10}

pub returns : goal.returns
returns t c =
    let n = c.args.n in
    elim c.if-n-ge10.branch [
      | then-n-ge10 w ↦ puts_as (decimal_more n (omega arith) (omega arith)) (puts_then w.put_number.ensures (puts_from w.self-is c.put_byte.ensures))
      | else-n-ge10 w ↦
          let last : n % 10 ≡ n = omega arith in
          puts_as (decimal_one n (omega arith) ∙ ap (λ (d : ℕ). (48 + d) ∷ []) (sym last)) (puts_from w.self-is c.put_byte.ensures)
    ]
