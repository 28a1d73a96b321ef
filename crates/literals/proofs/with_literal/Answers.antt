-- `literals::with_literal` meets its contract: each shape adds to one of the literals.
use mathlib.Core.Path.{◌≡◌, sym, subst}
use Rattle.shapes.specs.declared.Shape.{Shape}
use Rattle.literals.specs.declared.Literals.{Literals}
use Rattle.literals.specs.Literals.{Adds}
use Rattle.literals.proofs.Arms.{made, kept, adds_other}
use Rattle.literals.proofs.with_literal.Goals as goal

adds : {s t : Shape} {found more : Literals} → s ≡ t → Adds t found more → Adds s found more
adds {found} {more} e a = subst (λ (s : Shape). Adds s found more) (sym e) a

pub returns-in-Falsum : goal.returns-in-Falsum
returns-in-Falsum c =
    adds c.in-Falsum.is
    (record { atoms = λ i. kept _; negated = λ i. kept _; falsum = made c.args.found.falsum; verum = kept _; other = kept _ })

pub returns-in-Atom : goal.returns-in-Atom
returns-in-Atom c =
    adds c.in-Atom.is
    (record { atoms = c.insert.ensures; negated = λ i. kept _; falsum = kept _; verum = kept _; other = kept _ })

pub returns-in-Verum : goal.returns-in-Verum
returns-in-Verum c =
    adds c.in-Verum.is
    (record { atoms = λ i. kept _; negated = λ i. kept _; falsum = kept _; verum = made c.args.found.verum; other = kept _ })

pub returns-in-Negated : goal.returns-in-Negated
returns-in-Negated c =
    adds c.in-Negated.is
    (record { atoms = λ i. kept _; negated = c.insert-in-Negated.ensures; falsum = kept _; verum = kept _; other = kept _ })

pub returns-in_default : goal.returns-in_default
returns-in_default c = adds_other _ _ c.in_default.not-Falsum c.in_default.not-Atom c.in_default.not-Verum c.in_default.not-Negated
