use Prim.Native.Nat.{ℕ, suc, ◌+◌, ◌-◌, ◌<◌}
use native.Mathlib.Omega.{arith}
use mathlib.Core.Bool.{Bool, ◌&&◌, and-true, true≢false}
use mathlib.Core.Path.{◌≡◌, sym, ap, subst, ◌∙◌}
use lib.Dec.{eqb}
use lib.ListN.{length, get_or}
use Rattle.format.specs.Text.{same_list}
use Rattle.format.specs.File.{Node}
use Rattle.format.specs.Tables.{node_record}
use Rattle.tables.specs.declared.records.NodeRecord.{NodeRecord}
use Rattle.tables.specs.Records.{record_numbers}
use Rattle.known.specs.Index.{slot_notes}
use Rattle.format.proofs.Equal.{same_iff}
use Rattle.known.proofs.Indexing.{record_there, Cursor, walk_start, walk_next, walk_falls, found_at, found_nowhere}
use Rattle.known.proofs.index.find_node.Goals as goal

-- what `==` of two records answers, where the first is known
compared : {r : NodeRecord} (found key : NodeRecord) → r ≡ found
    → eqb r.word key.word && (eqb r.first key.first && eqb r.second key.second) ≡ same_list (record_numbers found) (record_numbers key)
unfolding same_list
compared found key e =
    ap (λ (r : NodeRecord). eqb r.word key.word && (eqb r.first key.first && eqb r.second key.second)) e
    ∙ ap (λ (last : Bool). eqb found.word key.word && (eqb found.first key.first && last)) (sym (and-true (eqb found.second key.second)))

pub overflow_add-slot : goal.overflow_add-slot
overflow_add-slot c = omega (arith, c.slot.ensures)

pub loop-after-init : goal.loop-after-init
loop-after-init c nodes held index =
    let args = c.args in
    subst (Cursor nodes (record_numbers args.key))
    (sym (c.note-after.ensures ∙ ap (λ (s : ℕ). get_or args.notes.now (slot_notes + s) 0) c.slot.ensures))
    (walk_start nodes (record_numbers args.key) args.notes.now index)

pub returns-then-eq : goal.returns-then-eq
returns-then-eq c =
    let loop = c.loop-after in
    let at = loop.after - 1 in
    let same = (same_iff _ _).0 (sym (compared _ c.args.key c.node.ensures) ∙ sym c.eq.ensures ∙ c.if-eq.true) in
    found_at _ _ _ at same (λ nodes held index. omega (arith, (loop.invariant nodes held index).within))

pub loop-after-smaller : goal.loop-after-smaller
loop-after-smaller c = omega (arith, c.past_last-after.ensures.0)

pub loop-after-preserved : goal.loop-after-preserved
loop-after-preserved c nodes held index =
    let args = c.args in
    let loop = c.loop-after in
    let i = loop.after - 1 in
    let one_past : loop.after ≡ suc i = omega arith in
    let at : Cursor nodes (record_numbers args.key) (suc i) = subst (Cursor nodes (record_numbers args.key)) one_past (loop.invariant nodes held index) in
    let here : i < length nodes = omega (arith, at.within) in
    let other : node_record (get_or nodes i Node.bot) ≡ record_numbers args.key → ⊥ =
    λ e. true≢false (sym (c.eq.ensures ∙ compared _ args.key c.node.ensures ∙ (same_iff _ _).1 (record_there held i here ∙ e)) ∙ c.if-eq.false) in
    subst (Cursor nodes (record_numbers args.key))
    (sym (c.past_last-after.ensures.1 (omega (arith, index.few)) (walk_falls nodes (record_numbers args.key) args.notes.now index i at)))
    (walk_next nodes (record_numbers args.key) args.notes.now index i at other)

pub returns : goal.returns
returns c =
    let args = c.args in
    let ended : c.loop-after.after ≡ 0 = omega arith in
    found_nowhere _ _ _ (λ nodes held index. subst (Cursor nodes (record_numbers args.key)) ended (c.loop-after.invariant nodes held index))
