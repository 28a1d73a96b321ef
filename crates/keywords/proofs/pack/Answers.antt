use mathlib.Core.Path.{refl, ap₂, ◌∙◌}
use mathlib.Core.List.{[], ◌∷◌, append-nil}
use Prim.Native.Nat.{◌+◌, ◌*◌, ◌^◌, ◌<◌}
use native.Mathlib.Omega.{arith}
use Rattle.keywords.specs.Words.{key_of}
use Rattle.keywords.proofs.WordLaws.{key_more, key_room, key_done, no_key}
use Rattle.keywords.proofs.pack.Goals as goal
use Rattle.keywords.proofs.pack.Goals.{In-Some}

-- the key of six bytes at most, with room for one more
room : (c : In-Some) → c.loop-b.key < 2 * 256 ^ 6
room c =
    let inv = c.loop-b.invariant in
    rw inv.2 (key_room _ _ _ _ _ c.in-Some.ensures.steps inv.1 (λ i. (c.type_inv.field i).fits) c.if-field-gt7.false)

pub returns-then-field-gt7 : goal.returns-then-field-gt7
returns-then-field-gt7 c = no_key _ c.if-field-gt7.true

pub loop-b-init : goal.loop-b-init
unfolding key_of
loop-b-init c = ([], append-nil _ ∙ cc, refl)

pub overflow_mul-key : goal.overflow_mul-key
overflow_mul-key c = omega (arith, room c)

pub overflow_add-key : goal.overflow_add-key
overflow_add-key c = omega (arith, room (goal.at.overflow_add-key c).In-Some, c.from.ensures)

pub loop-b-preserved : goal.loop-b-preserved
unfolding key_of
loop-b-preserved c =
    let inv = c.loop-b.invariant in
    (c.in-Some.b.now ∷ inv.0, key_more _ _ _ _ _ c.in-Some.ensures.steps inv.1, ap₂ (λ k b. k * 256 + b) inv.2 c.from.ensures)

pub returns : goal.returns
returns c = let inv = c.loop-b.invariant in key_done _ _ _ _ (λ i. (c.type_inv.field i).fits) c.in-None.ensures.steps.0 inv.1 inv.2
