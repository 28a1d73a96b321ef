-- `alike::alike_with` meets its contract. Assumes nothing.
use mathlib.Core.Path.{sym}
use native.Mathlib.Omega.{arith}
use Prim.Native.Nat.{◌*◌, ◌≤◌}
use lib.ListN.{length, take, length-take}
use lib.Seq.{length-take-le}
use borrow.Author.Rules.{rules}
use Rattle.format.specs.Tables.{node_width}
use Rattle.alike.specs.Blocks.{truth_words}
use Rattle.alike.proofs.Choosing.{some_alike}
use Rattle.alike.proofs.alike_with.Goals as goal

pub slice_bounds-alike_in-end-then-n-le-FEW_LISTED : goal.slice_bounds-alike_in-end-then-n-le-FEW_LISTED
slice_bounds-alike_in-end-then-n-le-FEW_LISTED c = sym (length-take-le _ _ (search rules))

pub alike_in-requires-clause-room : goal.alike_in-requires-clause-room
alike_in-requires-clause-room c =
    let few : length (take c.list_under-n.result c.list_under-n.new.list) ≤ 32 = simp length-take (omega (arith, c.if-n-le-FEW_LISTED.true)) in
    let words : truth_words * length (take c.list_under-n.result c.list_under-n.new.list) ≤ 384 = omega arith in
    let numbers : node_width * length (take c.list_under-n.result c.list_under-n.new.list) ≤ 96 = omega arith in
    (c.outer_places-outer.ensures.few, words, numbers)

pub returns-then-n-le-FEW_LISTED : goal.returns-then-n-le-FEW_LISTED
returns-then-n-le-FEW_LISTED c =
    some_alike c.requires.1 c.end_of-end.ensures c.mark.ensures c.mark_candidates.ensures c.list_under-n.ensures
    c.outer_places-outer.ensures c.alike_in.ensures c.requires.0

pub slice_bounds-alike_in-end-3 : goal.slice_bounds-alike_in-end-3
slice_bounds-alike_in-end-3 c = sym (length-take-le _ _ (search rules))

pub alike_in-requires-2-clause-room : goal.alike_in-requires-2-clause-room
alike_in-requires-2-clause-room c =
    let few : length (take c.list_under-n.result c.list_under-n.new.list) ≤ 1024 = simp length-take (omega (arith, c.list_under-n.ensures.few, c.end_of-end.ensures.few)) in
    let words : truth_words * length (take c.list_under-n.result c.list_under-n.new.list) ≤ 12288 = omega arith in
    let numbers : node_width * length (take c.list_under-n.result c.list_under-n.new.list) ≤ 3072 = omega arith in
    (c.outer_places-outer.ensures.few, words, numbers)

pub returns : goal.returns
returns c =
    some_alike c.requires.1 c.end_of-end.ensures c.mark.ensures c.mark_candidates.ensures c.list_under-n.ensures
    c.outer_places-outer.ensures c.alike_in-2.ensures c.requires.0
