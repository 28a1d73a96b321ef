-- `known::index::enter_node` meets its contract. Assumes nothing.
use Prim.Native.Nat.{ℕ, ◌+◌, ◌≤◌, ◌<◌}
use native.Mathlib.Omega.{arith}
use mathlib.Core.Bool.{Bool, cond}
use mathlib.Core.List.{List}
use mathlib.Core.Path.{◌≡◌, sym, ap, ◌∙◌}
use borrow.Author.Tests.{le-leb, lt-leb}
use lib.ListN.{get_or, set}
use Rattle.tables.specs.Records.{record_numbers}
use Rattle.known.specs.Index.{slot_notes, formula_notes, slot_of, entered}
use Rattle.known.proofs.index.enter_node.Goals as goal

module _ (notes : List ℕ) (i : ℕ) (numbers : List ℕ) where
  -- the two notes written
  abbrev linked : ℕ → ℕ → List ℕ
  linked s before = set (set notes (formula_notes + i) before) (slot_notes + s) (i + 1)

  outside : 1024 ≤ i → notes ≡ entered notes i numbers
  outside h = sym (ap (λ (b : Bool). cond b notes (linked (slot_of numbers) (get_or notes (slot_notes + slot_of numbers) 0))) (le-leb 1024 i h))

  inside : i < 1024 → (s before : ℕ) → s ≡ slot_of numbers → before ≡ get_or notes (slot_notes + s) 0 → linked s before ≡ entered notes i numbers
  inside h s before e b =
      ap (linked s) b
      ∙ ap (λ (k : ℕ). linked k (get_or notes (slot_notes + k) 0)) e
      ∙ sym (ap (λ (t : Bool). cond t notes (linked (slot_of numbers) (get_or notes (slot_notes + slot_of numbers) 0))) (lt-leb 1024 i h))

pub returns-then-i-ge1024 : goal.returns-then-i-ge1024
returns-then-i-ge1024 c = outside _ _ (record_numbers c.args.key) c.if-i-ge1024.true

pub overflow_add-at : goal.overflow_add-at
overflow_add-at c = omega (arith, c.slot-at.ensures)

pub returns : goal.returns
returns c =
    let notes = c.args.notes.now in
    let i = c.args.i in
    let s = c.slot-at in
    c.put_note-2.ensures
    ∙ ap (λ (l : List ℕ). set l (slot_notes + s.result) (i + 1)) c.put_note.ensures
    ∙ inside notes i (record_numbers c.args.key)
    c.if-i-ge1024.false s.result c.note-before.result s.ensures c.note-before.ensures
