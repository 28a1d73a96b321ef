-- `handed::formulas::is_formula` meets its contract: word by word. Assumes nothing.
use Prim.Native.Nat.{ℕ, ◌≤◌, ◌<◌}
use native.Mathlib.Omega.{arith}
use mathlib.Core.Path.{refl, ap, ◌∙◌}
use mathlib.Core.Bool.{true, false}
use lib.Dec.{eqb, ltb}
use borrow.Author.Tests.{eq-eqb, ne_eqb, lt-ltb, le-ltb}
use Rattle.format.specs.Tables.{absent}
use Rattle.handed.proofs.Entering.{bot_back, atom_back, none_back, not_back, two_back}
use Rattle.handed.proofs.formulas.is_formula.Goals as goal

pub returns-then-key-eq-ABSENT : goal.returns-then-key-eq-ABSENT
returns-then-key-eq-ABSENT c b a h = let k = c.args.key in bot_back b k.word k.first k.second c.in-0.is true _ (eq-eqb _ _ c.if-key-eq-ABSENT.true) refl

pub returns-else-key-eq-ABSENT : goal.returns-else-key-eq-ABSENT
returns-else-key-eq-ABSENT c b a h =
    let k = c.args.key in
    let other = ne_eqb k.first absent c.if-key-eq-ABSENT.false in
    other ∙ bot_back b k.word k.first k.second c.in-0.is false (eqb k.second absent) other refl

pub returns-then-key-eq-ABSENT-2 : goal.returns-then-key-eq-ABSENT-2
returns-then-key-eq-ABSENT-2 c b a h =
    let k = c.args.key in
    ap (λ (n : ℕ). ltb n c.args.atoms) c.from-first.ensures
    ∙ atom_back b k.word k.first k.second c.in-1.is c.args.atoms a true _ (eq-eqb _ _ c.if-key-eq-ABSENT-2.true) refl

pub returns-else-key-eq-ABSENT-2 : goal.returns-else-key-eq-ABSENT-2
returns-else-key-eq-ABSENT-2 c b a h =
    let k = c.args.key in
    let other = ne_eqb k.second absent c.if-key-eq-ABSENT-2.false in
    other ∙ atom_back b k.word k.first k.second c.in-1.is c.args.atoms a false (ltb k.first c.args.atoms) other refl

pub returns-then-first-held : goal.returns-then-first-held
returns-then-first-held c b a h =
    let k = c.args.key in
    not_back b k.word k.first k.second c.args.held h c.in-2.is true _ (lt-ltb _ _ (omega (arith, c.from-first.ensures, c.if-first-held.true))) refl

pub returns-else-first-held : goal.returns-else-first-held
returns-else-first-held c b a h =
    let k = c.args.key in
    le-ltb _ _ c.if-first-held.false
    ∙ not_back b k.word k.first k.second c.args.held h c.in-2.is false (eqb k.second absent)
    (le-ltb _ _ (omega (arith, c.from-first.ensures, c.if-first-held.false))) refl

pub returns-then-first-held-2 : goal.returns-then-first-held-2
returns-then-first-held-2 c b a h =
    let k = c.args.key in
    let low : 2 < k.word = omega arith in
    let high : k.word ≤ 5 = omega arith in
    ap (λ (n : ℕ). ltb n c.args.held) c.from-second.ensures
    ∙ two_back b k.word k.first k.second c.args.held h low high true _ (lt-ltb _ _ (omega (arith, c.from-first.ensures, c.if-first-held-2.true))) refl

pub returns-else-first-held-2 : goal.returns-else-first-held-2
returns-else-first-held-2 c b a h =
    let k = c.args.key in
    let low : 2 < k.word = omega arith in
    let high : k.word ≤ 5 = omega arith in
    le-ltb _ _ c.if-first-held-2.false
    ∙ two_back b k.word k.first k.second c.args.held h low high false (ltb k.second c.args.held)
    (le-ltb _ _ (omega (arith, c.from-first.ensures, c.if-first-held-2.false))) refl

pub returns-in_default : goal.returns-in_default
returns-in_default c b a h = let k = c.args.key in none_back b k.word k.first k.second (omega arith)
