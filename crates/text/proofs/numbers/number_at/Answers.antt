use mathlib.Core.Path.{◌≡◌, sym, ◌∙◌}
use mathlib.Core.List.{[]}
use native.Mathlib.Omega.{arith}
use lib.ListN.{drop, get_or}
use Rattle.text.specs.Numbers.{digits_ahead}
use Rattle.text.proofs.NumberLaws.{reading_none, reading_long, reading_small, reading_more, reading_past, reading_stray}
use Rattle.text.proofs.NumberLaws.{digit_range, read_none, read_padded, read_value}
use Rattle.text.proofs.numbers.number_at.Goals as goal
use Rattle.text.proofs.numbers.number_at.Goals.{Left-loop-end}
use Rattle.text.proofs.numbers.number_at.Goals.{else-loop-end-test, then-loop-end-test+then-not-is_ascii_digit}

-- where the loop is left no digit follows
no_more : (c : Left-loop-end) → digits_ahead (drop c.loop-end.end c.args.field.now) ≡ []
no_more c =
    elim c.loop-end-test.branch [
      | else-loop-end-test w ↦ reading_past _ _ _ _ c.loop-end.invariant w.loop-end-test.false
      | then-loop-end-test+then-not-is_ascii_digit w ↦ reading_stray _ _ _ _ c.loop-end.invariant w.loop-end-test.true (sym w.is_ascii_digit.ensures.value ∙ w.if-not-is_ascii_digit.true)
    ]

pub loop-end-init : goal.loop-end-init
loop-end-init c = reading_none _ _ c.requires

pub returns-then-end-at-eq5 : goal.returns-then-end-at-eq5
returns-then-end-at-eq5 c =
    let digit = sym c.is_ascii_digit.ensures.value ∙ c.if-not-is_ascii_digit.false in
    sym (reading_long _ _ _ _ c.loop-end.invariant c.loop-end-test.true digit c.if-end-at-eq5.true)

pub overflow_mul-value : goal.overflow_mul-value
overflow_mul-value c = omega (arith, reading_small _ _ _ _ c.loop-end.invariant c.if-end-at-eq5.false)

pub overflow_add-value : goal.overflow_add-value
overflow_add-value c =
    let digit = sym c.is_ascii_digit.ensures.value ∙ c.if-not-is_ascii_digit.false in
    omega (arith, reading_small _ _ _ _ c.loop-end.invariant c.if-end-at-eq5.false, digit_range (get_or c.args.field.now c.loop-end.end 0) digit)

pub loop-end-preserved : goal.loop-end-preserved
loop-end-preserved c =
    let digit = sym c.is_ascii_digit.ensures.value ∙ c.if-not-is_ascii_digit.false in
    rw c.from.ensures (reading_more _ _ _ _ c.loop-end.invariant c.if-end-at-eq5.false c.loop-end-test.true digit)

pub returns-then-end-at : goal.returns-then-end-at
returns-then-end-at c = read_none _ _ _ _ c.loop-end.invariant (no_more (goal.at.returns-then-end-at c).Left-loop-end) c.if-end-at.true

pub returns-then-end-at-2 : goal.returns-then-end-at-2
returns-then-end-at-2 c = read_value _ _ _ _ c.loop-end.invariant (no_more (goal.at.returns-then-end-at-2 c).Left-loop-end) c.if-end-at.false (λ more. absurd (omega arith))

pub returns-then-field-at-eq48 : goal.returns-then-field-at-eq48
returns-then-field-at-eq48 c = read_padded _ _ _ _ c.loop-end.invariant (no_more (goal.at.returns-then-field-at-eq48 c).Left-loop-end) c.if-end-at.false c.if-end-at-2.false c.if-field-at-eq48.true

pub returns : goal.returns
returns c = read_value _ _ _ _ c.loop-end.invariant (no_more (goal.at.returns c).Left-loop-end) c.if-end-at.false (λ more. c.if-field-at-eq48.false)
