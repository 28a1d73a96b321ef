-- `lines::atom::atom_number` meets its contract: each way out is one test of an atom. Assumes nothing.
use mathlib.Core.Path.{sym, ◌∙◌}
use Rattle.lines.proofs.AtomLines.{atom_out, atom_full, atom_misnamed, atom_used, atom_new}
use Rattle.lines.proofs.atom.atom_number.Goals as goal

pub returns-then-out_of_order : goal.returns-then-out_of_order
returns-then-out_of_order c = atom_out _ _ _ _ _ (sym c.out_of_order.ensures ∙ c.if-out_of_order.true)

pub returns-then-atoms-ge-MOST_ATOMS : goal.returns-then-atoms-ge-MOST_ATOMS
returns-then-atoms-ge-MOST_ATOMS c = atom_full _ _ _ _ _ (sym c.out_of_order.ensures ∙ c.if-out_of_order.false) c.if-atoms-ge-MOST_ATOMS.true

pub returns-then-not-is_name : goal.returns-then-not-is_name
returns-then-not-is_name c =
    atom_misnamed _ _ _ _ _ (sym c.out_of_order.ensures ∙ c.if-out_of_order.false) c.if-atoms-ge-MOST_ATOMS.false
    (sym c.is_name.ensures ∙ c.if-not-is_name.true)

pub returns-then-is_some : goal.returns-then-is_some
returns-then-is_some c =
    atom_used _ _ _ _ _ (sym c.out_of_order.ensures ∙ c.if-out_of_order.false) c.if-atoms-ge-MOST_ATOMS.false
    c.find_name.ensures (sym c.is_some.ensures ∙ c.if-is_some.true)

pub returns : goal.returns
returns c =
    atom_new _ _ _ _ _ (sym c.out_of_order.ensures ∙ c.if-out_of_order.false) c.if-atoms-ge-MOST_ATOMS.false
    c.find_name.ensures (sym c.is_name.ensures ∙ c.if-not-is_name.false) (sym c.is_some.ensures ∙ c.if-is_some.false)
