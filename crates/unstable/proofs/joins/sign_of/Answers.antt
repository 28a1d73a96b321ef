-- `unstable::joins::sign_of` meets its contract.
use Prim.Native.Nat.{ℕ}
use mathlib.Core.Bool.{Bool, cond}
use mathlib.Core.Path.{◌≡◌, sym, ap, ◌∙◌}
use Rattle.unstable.specs.Joins.{sign_of}
use Rattle.shapes.specs.declared.Shape.{Shape}
use Rattle.unstable.proofs.Arms.{no_sign}
use Rattle.unstable.proofs.joins.sign_of.Goals as goal

-- the sign of a formula whose shape was told
signed : (p : ℕ) {s t : Shape} {sign : ℕ} → s ≡ t → sign_of t p ≡ sign → sign ≡ sign_of s p
signed p e h = sym (ap (λ (s : Shape). sign_of s p) e ∙ h)

if_same : (sign : ℕ) {t u : Bool} → t ≡ u → cond t sign 0 ≡ cond u sign 0
if_same sign e = ap (λ (t : Bool). cond t sign 0) e

pub returns-in_default : goal.returns-in_default
returns-in_default c = sym (no_sign c.args.p c.args.s c.in_default.not-Atom c.in_default.not-Negated)
