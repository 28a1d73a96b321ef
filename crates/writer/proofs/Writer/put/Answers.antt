use Prim.Native.Nat.{ℕ, ◌+◌}
use native.Mathlib.Numerals.{add-one}
use native.Mathlib.Omega.{arith}
use mathlib.Core.List.{List}
use mathlib.Core.Path.{sym, ap, ◌∙◌}
use lib.ListN.{get_or, set, length-set}
use lib.Seq.{paste, paste-suc}
use Rattle.writer.proofs.Writer.put.Goals as goal

pub loop-i-preserved : goal.loop-i-preserved
loop-i-preserved c =
    let text = c.args.self.now.out.now in
    let words = c.args.words.now in
    let at = c.in-Some.at in
    let loop = c.loop-i in (
      simp length-set loop.invariant.0,
      ap (λ (out : List ℕ). set out (at + loop.i) (get_or words loop.i 0)) loop.invariant.1
          ∙ paste-suc text at words loop.i 0 (omega arith) (omega arith)
          ∙ ap (paste text at words) (sym (add-one loop.i)),
    )
