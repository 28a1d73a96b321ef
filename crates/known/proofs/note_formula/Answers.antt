-- `known::note_formula` meets its contract. Assumes nothing.
use mathlib.Core.List.{List}
use mathlib.Core.Path.{refl, ap, ◌∙◌}
use Prim.Native.Nat.{ℕ}
use Rattle.tables.specs.Records.{record_numbers}
use Rattle.known.specs.Index.{entered}
use Rattle.known.specs.Entering.{full, held, new}
use Rattle.known.proofs.Entries.{formula_entered}
use Rattle.known.proofs.note_formula.Goals as goal

pub returns-then-count-ge-MOST_FORMULAS : goal.returns-then-count-ge-MOST_FORMULAS
returns-then-count-ge-MOST_FORMULAS c = formula_entered (full c.if-count-ge-MOST_FORMULAS.true refl refl)

pub returns-in-Some : goal.returns-in-Some
returns-in-Some c = formula_entered (held _ c.if-count-ge-MOST_FORMULAS.false c.in-Some.ensures refl refl)

pub returns : goal.returns
returns c =
    let args = c.args in
    formula_entered (new c.if-count-ge-MOST_FORMULAS.false c.in_default.ensures (
    record {
      atoms = c.record_atoms.result;
      atoms_are = c.record_atoms.ensures;
      put = refl;
      noted = c.enter_node.ensures ∙ ap (λ (l : List ℕ). entered l args.count (record_numbers args.key)) c.put_note.ensures;
    }))
