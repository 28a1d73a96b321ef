use Prim.Native.Nat.{ℕ, suc, ◌+◌, ◌*◌, ◌≤◌, ◌<◌}
use native.Mathlib.Numerals.{towards_suc}
use native.Mathlib.Omega.{arith}
use mathlib.Core.List.{List, [], ◌∷◌}
use mathlib.Core.Path.{◌≡◌, refl, sym, ap, ◌∙◌}
use lib.ListN.{length, get_or, take, drop}
use lib.Seq.{drop-cons}
use Rattle.format.specs.Tables.{name_width}
use Rattle.tables.specs.Names.{spelled_by, found_as}
use Rattle.tables.proofs.Turns.{start, next, found, ended, name_looked}
use Rattle.tables.proofs.names.find_name.Goals as goal

two : (names : List ℕ) (at : ℕ) → at + name_width ≤ length names → take name_width (drop at names) ≡ get_or names at 0 ∷ get_or names (at + 1) 0 ∷ []
two names at h =
    let h₀ : at < length names = omega arith in
    let h₁ : suc at < length names = omega arith in
    simp towards_suc (rw (drop-cons names at 0, drop-cons names (suc at) 0))

pub loop-i-init : goal.loop-i-init
loop-i-init c = start _ _ _ _

pub returns-then-spells : goal.returns-then-spells
returns-then-spells c =
    let loop = c.loop-i in
    name_looked _ _ _ (ap found_as (found _ _ _ _ loop.invariant (omega arith) (omega arith)
    (ap (spelled_by _ _) (two _ (name_width * loop.i) (omega arith)) ∙ sym c.spells.ensures ∙ c.if-spells.true)))

pub loop-i-preserved : goal.loop-i-preserved
loop-i-preserved c =
    let loop = c.loop-i in
    next _ _ _ _ loop.invariant (omega arith) (omega arith) _ refl (loop.i + 1) (omega arith) (omega arith)
    (ap (spelled_by _ _) (two _ (name_width * loop.i) (omega arith)) ∙ sym c.spells.ensures ∙ c.if-spells.false)

pub returns : goal.returns
returns c = name_looked _ _ _ (ap found_as (ended _ _ _ _ c.loop-i.invariant (λ l. omega arith)))
