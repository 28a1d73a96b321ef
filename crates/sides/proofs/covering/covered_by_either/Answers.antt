use Prim.Native.Nat.{ℕ, ◌+◌, ◌<◌}
use native.Mathlib.Omega.{arith}
use mathlib.Core.List.Memᴰ
use mathlib.Core.List.{List, ◌++◌}
use mathlib.Core.Path.{◌≡◌, sym, subst}
use borrow.Author.Rules.{rules}
use lib.ListN.{length, get_or}
use Rattle.equilibrium.specs.Meaning.{◌∈◌}
use Rattle.sides.specs.Covering.{Skips}
use Rattle.sides.specs.Merging.{SameFrom}
use Rattle.sides.proofs.Stretches.{one_same}
use Rattle.sides.proofs.Deciding.{yes_if, no_if}
use Rattle.sides.proofs.Either.{skip_passed, next_passed, same_passed, later_passed, not_there, found_more, found_same, all_found, in_neither, on_side, stands_inside, stands_there, not_at}
use Rattle.sides.proofs.covering.covered_by_either.Goals as goal
use Rattle.sides.proofs.covering.covered_by_either.Invariants.{Cursors}

none_passed : {a b c : List ℕ} → Cursors a b c 0 0 0
none_passed = record {
  found = λ k h. absurd (omega arith);
  passed_b = λ ra l k h. absurd (omega arith);
  passed_c = λ ra l k h. absurd (omega arith);
}

-- smaller numbers of b are passed
skip_b : {a b c : List ℕ} {i j k r : ℕ} → Cursors a b c i j k → i < length a → Skips b j (get_or a i 0) r → Cursors a b c i r k
skip_b {a} {b} {i} {j} {r} at l s = record {
  found = at.found;
  passed_b = λ ra m. skip_passed a b i j l (at.passed_b ra) r s;
  passed_c = at.passed_c;
}

-- a number of a that is in c is passed, and so are the smaller ones of c
pass_c :
    {a b c : List ℕ} {i j k r : ℕ} → Cursors a b c i j k → i < length a → Skips c k (get_or a i 0) r → get_or a i 0 ∈ c
    → Cursors a b c (i + 1) j r
pass_c {a} {b} {c} {i} {j} {k} {r} at l s m = record {
  found = found_more a i (b ++ c) at.found (Memᴰ.append_right b m);
  passed_b = λ ra. later_passed a b i j 1 ra (at.passed_b ra);
  passed_c = λ ra. next_passed a c i k l (at.passed_c ra) r s ra;
}

-- numbers that a and b have alike are passed
pass_same : {a b c : List ℕ} {i j k n : ℕ} → Cursors a b c i j k → SameFrom a i b j n → Cursors a b c (i + n) (j + n) k
pass_same {a} {b} {c} {i} {j} {k} {n} at s = record {
  found = found_same a b c i j n s at.found;
  passed_b = λ ra. same_passed a b i j n s ra (at.passed_b ra);
  passed_c = λ ra. later_passed a c i k n ra (at.passed_c ra);
}

from_start : {a b c : List ℕ} {k n : ℕ} → Cursors a b c (0 + n) (0 + n) k → Cursors a b c n n k
from_start {a} {b} {c} {k} {n} at = let e : 0 + n ≡ n = omega arith in subst (λ (t : ℕ). Cursors a b c t t k) e at

pub same_blocks-i-requires : goal.same_blocks-i-requires
same_blocks-i-requires c = (omega arith, omega arith)

pub loop-i-init : goal.loop-i-init
loop-i-init c = from_start (pass_same none_passed c.same_blocks-i.ensures)

pub overflow_add-j : goal.overflow_add-j
overflow_add-j c =
    let b = c.args.b.now in
    let inside : c.skipped-j.result < length b = stands_inside b _ _ c.stands.ensures c.if-stands.true in
    omega arith

pub same_blocks-n-requires : goal.same_blocks-n-requires
same_blocks-n-requires c =
    let b = c.args.b.now in
    let inside : c.skipped-j.result < length b = stands_inside b _ _ c.stands.ensures c.if-stands.true in
    (omega arith, omega arith)

pub overflow_add-i-then-stands : goal.overflow_add-i-then-stands
overflow_add-i-then-stands c = omega (arith, c.same_blocks-n.ensures.in_a)

pub overflow_add-j-then-stands : goal.overflow_add-j-then-stands
overflow_add-j-then-stands c = omega (arith, c.same_blocks-n.ensures.in_b)

pub loop-i-preserved-then-stands : goal.loop-i-preserved-then-stands
loop-i-preserved-then-stands c =
    let loop = c.loop-i in
    let args = c.args in
    let b = args.b.now in
    let x = get_or args.a.now loop.i 0 in
    let inside = stands_inside b c.skipped-j.result x c.stands.ensures c.if-stands.true in
    let there = stands_there b c.skipped-j.result x c.stands.ensures c.if-stands.true in
    let skipped = skip_b loop.invariant (search rules) c.skipped-j.ensures in
    pass_same (pass_same skipped (one_same (search rules) inside (sym there))) c.same_blocks-n.ensures

pub loop-i-preserved : goal.loop-i-preserved
loop-i-preserved c =
    let loop = c.loop-i in
    let skipped = skip_b loop.invariant (search rules) c.skipped-j.ensures in
    pass_c skipped (search rules) c.skipped-k.ensures (on_side _ _ _ c.stands-in-loop-i.ensures c.if-stands-2.true)

pub returns-in-loop-i : goal.returns-in-loop-i
returns-in-loop-i c =
    let args = c.args in
    let a = args.a.now in
    let b = args.b.now in
    let at = c.loop-i in
    let inside : at.i < length a = search rules in
    let not-b = not_at b _ _ c.stands.ensures c.if-stands.false in
    let not-c = not_at args.c.now _ _ c.stands-in-loop-i.ensures c.if-stands-2.false in
    no_if (λ (ra, (rb, (rc, t))). in_neither a b args.c.now at.i inside
    (not_there a b at.i at.j inside (at.invariant.passed_b ra) c.skipped-j.result c.skipped-j.ensures rb not-b)
    (not_there a args.c.now at.i at.k inside (at.invariant.passed_c ra) c.skipped-k.result c.skipped-k.ensures rc not-c))

pub returns : goal.returns
returns c = yes_if (all_found _ c.loop-i.i _ c.loop-i.invariant.found (search rules))
