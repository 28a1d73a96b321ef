-- `alike::some_alike` meets its contract. Assumes nothing.
use native.Mathlib.Omega.{arith}
use mathlib.Core.Path.{refl}
use Rattle.alike.proofs.some_alike.Goals as goal

pub returns-then-width-gt-MOST_PLACES : goal.returns-then-width-gt-MOST_PLACES
returns-then-width-gt-MOST_PLACES c = record { decides = λ b held few. absurd (omega (arith, few, c.if-width-gt-MOST_PLACES.true)); many = λ l. refl }
