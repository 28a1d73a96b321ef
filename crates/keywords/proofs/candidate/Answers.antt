-- `keywords::candidate` meets its contract. Assumes nothing.
use Prim.Native.Nat.{◌-◌, ◌<◌}
use native.Mathlib.Omega.{arith}
use lib.ListN.{length}
use Rattle.keywords.proofs.RuleWordLaws.{too_short_lem, too_long, found_by}
use Rattle.keywords.proofs.candidate.Goals as goal
use Rattle.keywords.proofs.candidate.Goals.{After-from}
use Rattle.keywords.proofs.candidate.Goals.{After-from-2}
use Rattle.keywords.proofs.candidate.Goals.{After-from-3}

-- each byte that is read is below 256
second-small : (c : After-from) → c.from.result < 256
second-small c = omega (arith, c.from.ensures, (c.type_inv.field 1).fits)

before-last-small : (c : After-from-2) → c.from-2.result < 256
before-last-small c =
    let field = c.args.field.now in
    omega (arith, c.from-2.ensures, (c.type_inv.field (length field - 2)).fits)

last-small : (c : After-from-3) → c.from-3.result < 256
last-small c =
    let field = c.args.field.now in
    omega (arith, c.from-3.ensures, (c.type_inv.field (length field - 1)).fits)

pub returns-then-len-lt2 : goal.returns-then-len-lt2
returns-then-len-lt2 c = too_short_lem _ c.if-len-lt2.true

pub returns-then-len-gt7 : goal.returns-then-len-gt7
returns-then-len-gt7 c = too_long _ c.if-len-gt7.true

pub overflow_mul-place-2 : goal.overflow_mul-place-2
overflow_mul-place-2 c = omega (arith, second-small c)

pub overflow_add-place : goal.overflow_add-place
overflow_add-place c = omega (arith, second-small c, c.if-len-gt7.false)

pub overflow_mul-place-3 : goal.overflow_mul-place-3
overflow_mul-place-3 c = omega (arith, before-last-small c)

pub overflow_add-place-2 : goal.overflow_add-place-2
overflow_add-place-2 c = omega (arith, second-small (goal.at.overflow_add-place-2 c).After-from, before-last-small c, c.if-len-gt7.false)

pub overflow_add-place-3 : goal.overflow_add-place-3
overflow_add-place-3 c = omega (arith, second-small (goal.at.overflow_add-place-3 c).After-from, before-last-small (goal.at.overflow_add-place-3 c).After-from-2, last-small c, c.if-len-gt7.false)

pub bounds-codes-place : goal.bounds-codes-place
bounds-codes-place c = omega (arith, c.requires.count)

pub returns : goal.returns
returns c =
    found_by _ c.args.codes.now c.from.result c.from-2.result c.from-3.result c.requires
    c.from.ensures c.from-2.ensures c.from-3.ensures
