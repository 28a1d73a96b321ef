-- `literals::atom_but` meets its contract.
use mathlib.Core.Path.{sym, ap}
use Rattle.literals.specs.Literals.{atom_but}
use Rattle.literals.proofs.Arms.{not_atom}
use Rattle.literals.proofs.atom_but.Goals as goal

pub returns-in-Atom : goal.returns-in-Atom
returns-in-Atom c = sym (ap (atom_but c.args.p) c.in-Atom.is)

pub returns-in_default : goal.returns-in_default
returns-in_default c = sym (not_atom c.args.p c.args.s c.in_default.not-Atom)
