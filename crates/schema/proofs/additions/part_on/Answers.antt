-- `schema::additions::part_on` meets its contract, part by part.
use Prim.Native.Nat.{ℕ, zero, suc}
use native.Mathlib.Omega.{arith}
use mathlib.Core.List.{List}
use mathlib.Core.Path.{◌≡◌, refl, sym, ap, ◌∙◌}
use Rattle.schema.specs.Additions.{negation_in, part_in}
use Rattle.schema.specs.Principal.{Apart, apart}
use Rattle.schema.proofs.additions.part_on.Goals as goal

last_part_lem :
    (formulas side : List ℕ) (p : Apart) (part : ℕ) → (part ≡ 0 → ⊥) → (part ≡ 1 → ⊥) → (part ≡ 2 → ⊥) → (part ≡ 3 → ⊥) → (part ≡ 4 → ⊥)
    → part_in formulas side p part ≡ negation_in formulas side p.second
unfolding part_in
last_part_lem formulas side p zero n0 n1 n2 n3 n4 = absurd (n0 refl)
last_part_lem formulas side p (suc zero) n0 n1 n2 n3 n4 = absurd (n1 refl)
last_part_lem formulas side p (suc (suc zero)) n0 n1 n2 n3 n4 = absurd (n2 refl)
last_part_lem formulas side p (suc (suc (suc zero))) n0 n1 n2 n3 n4 = absurd (n3 refl)
last_part_lem formulas side p (suc (suc (suc (suc zero)))) n0 n1 n2 n3 n4 = absurd (n4 refl)
last_part_lem formulas side p (suc (suc (suc (suc (suc k))))) n0 n1 n2 n3 n4 = refl

pub returns-in-0 : goal.returns-in-0
unfolding part_in
returns-in-0 c =
    let args = c.args in
    sym (ap (part_in args.formulas.now args.side.now (apart args.p)) c.in-0.is)

pub returns-in-1 : goal.returns-in-1
unfolding part_in
returns-in-1 c =
    let args = c.args in
    c.from.ensures ∙ sym (ap (part_in args.formulas.now args.side.now (apart args.p)) c.in-1.is)

pub returns-in-2 : goal.returns-in-2
unfolding part_in
returns-in-2 c =
    let args = c.args in
    c.from-in-2.ensures ∙ sym (ap (part_in args.formulas.now args.side.now (apart args.p)) c.in-2.is)

pub returns-in-3 : goal.returns-in-3
unfolding part_in
returns-in-3 c =
    let args = c.args in
    c.from-in-3.ensures ∙ sym (ap (part_in args.formulas.now args.side.now (apart args.p)) c.in-3.is)

pub returns-in-4 : goal.returns-in-4
unfolding part_in
returns-in-4 c =
    let args = c.args in
    c.negation_on.ensures ∙ sym (ap (part_in args.formulas.now args.side.now (apart args.p)) c.in-4.is)

pub returns-in_default : goal.returns-in_default
returns-in_default c =
    let args = c.args in
    c.negation_on-in_default.ensures
    ∙ sym (last_part_lem args.formulas.now args.side.now (apart args.p) args.part
    (λ e. omega arith) (λ e. omega arith) (λ e. omega arith) (λ e. omega arith) (λ e. omega arith))
