-- `candidates::candidates_number` meets its contract. Assumes nothing.
use Prim.Native.Nat.{ℕ, ◌^◌, ◌<◌}
use native.Mathlib.Omega.{arith}
use mathlib.Core.Path.{subst}
use borrow.Author.Rules.{rules}
use lib.Bits.{bit_or, or_lt}
use lib.ListN.{get_or}
use Rattle.candidates.specs.Candidates.{CandidatesNumbered}
use Rattle.candidates.proofs.Numbers.{zero_given, eleven_given, eighteen_given}
use Rattle.candidates.proofs.candidates_number.Goals as goal
use Rattle.candidates.proofs.candidates_number.Goals.{After-note}

-- the atoms of two formulas are a word
bound : (c : After-note) → (x : ℕ) → bit_or c.note.result (get_or c.args.notes.now x 0) < 2 ^ 64
bound c x =
    let args = c.args in
    or_lt 64 c.note.result (get_or args.notes.now x 0) (search rules) (omega (arith, c.type_inv.notes x))

pub some_equal-requires : goal.some_equal-requires
some_equal-requires c = λ i m. ((c.narrow_ones-narrow.ensures i).0 m).1

pub returns-then-some_equal : goal.returns-then-some_equal
returns-then-some_equal c =
    let args = c.args in
    let own = c.from-own in
    subst (λ (x : ℕ). CandidatesNumbered args.formulas.now args.notes.now x args.side.now 0) own.ensures
    (zero_given args.formulas.now args.notes.now own.result c.note.result args.side.now _ _ c.note.ensures
    c.all_of-all.ensures c.narrow_ones-narrow.ensures (bound (goal.at.returns-then-some_equal c).After-note) _ c.some_equal.ensures c.if-some_equal.true)

pub returns-then-is_empty : goal.returns-then-is_empty
returns-then-is_empty c =
    let args = c.args in
    let own = c.from-own in
    subst (λ (x : ℕ). CandidatesNumbered args.formulas.now args.notes.now x args.side.now 11) own.ensures
    (eleven_given args.formulas.now args.notes.now own.result c.note.result args.side.now _ _ c.note.ensures
    c.all_of-all.ensures c.narrow_ones-narrow.ensures (bound (goal.at.returns-then-is_empty c).After-note) _ c.some_equal.ensures c.if-some_equal.false _
    c.difference.ensures (search rules) _ c.is_empty.ensures c.if-is_empty.true)

pub returns : goal.returns
returns c =
    let args = c.args in
    let own = c.from-own in
    subst (λ (x : ℕ). CandidatesNumbered args.formulas.now args.notes.now x args.side.now 18) own.ensures
    (eighteen_given args.formulas.now args.notes.now own.result c.note.result args.side.now _ _ c.note.ensures
    c.all_of-all.ensures c.narrow_ones-narrow.ensures (bound (goal.at.returns c).After-note) _ c.some_equal.ensures c.if-some_equal.false _
    c.difference.ensures (search rules) _ c.is_empty.ensures c.if-is_empty.false)
