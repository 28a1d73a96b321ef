-- `unstable::joins::with_sign` meets its contract: only the sign of p itself inserts.
use mathlib.Core.Bool.{◌||◌, ◌&&◌, or-false}
use mathlib.Core.Path.{sym, ap, ◌∙◌}
use lib.Dec.{eqb}
use Rattle.std.specs.Prelude.{Some}
use Rattle.atomset.specs.AtomSet.{has}
use Rattle.unstable.specs.Joins.{sign_number}
use Rattle.unstable.specs.declared.joins.Sign.{Sign}
use Rattle.unstable.proofs.Steps.{is}
use Rattle.unstable.proofs.joins.with_sign.Goals as goal

pub returns-in-Plain : goal.returns-in-Plain
returns-in-Plain c =
    λ i.
    c.insert.ensures i
    ∙ ap (λ (s : Sign). has c.args.set i || (eqb (sign_number (Some s)) 1 && is i c.args.p)) (sym c.in-Plain.is)

pub returns-in-Negated : goal.returns-in-Negated
returns-in-Negated c =
    λ i.
    sym (or-false (has c.args.set i))
    ∙ ap (λ (s : Sign). has c.args.set i || (eqb (sign_number (Some s)) 1 && is i c.args.p)) (sym c.in-Negated.is)
