-- `elkcheck::print_held` is safe: the first zero is within the text.
use Prim.Native.Nat.{zero-le}
use native.Mathlib.Omega.{arith}
use mathlib.Core.Path.{sym}
use lib.Seq.{length-take-le}
use Rattle.parts.proofs.PartLaws.{next_bounds}
use Rattle.elkcheck.proofs.print_held.Goals as goal

pub slice_bounds-write_all-end : goal.slice_bounds-write_all-end
slice_bounds-write_all-end g c =
    let found = c.find-end in
    let bounds = next_bounds 0 c.args.held.now 0 zero-le in
    sym (length-take-le found.result c.args.held.now (omega (arith, bounds.1, found.ensures)))
