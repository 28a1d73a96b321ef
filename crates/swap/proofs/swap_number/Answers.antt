-- `swap::swap_number` meets its contract. Assumes nothing.
use Prim.Native.Nat.{ℕ, ◌+◌, ◌-◌, ◌≤◌, ◌<◌}
use native.Mathlib.Omega.{arith}
use mathlib.Core.Bool.{false≢true}
use mathlib.Core.List.Memᴰ
use mathlib.Core.List.{List, [], ◌∷◌}
use mathlib.Core.Path.{◌≡◌, sym, ap, subst, ◌∙◌}
use borrow.Author.Rules.{rules}
use lib.ListN.{length, get_or, take, drop}
use lib.Seq.{drop-cons}
use Rattle.equilibrium.specs.Meaning.{◌∈◌, ◌⊆◌}
use Rattle.format.proofs.Equal.{same_iff}
use Rattle.format.proofs.GoodBodies.{in_get_d, in_place_lem}
use Rattle.sides.proofs.Deciding.{denied_if}
use Rattle.refusals.specs.Refusals.{outcome}
use Rattle.candidates.specs.Candidates.{CandidatesNumbered}
use Rattle.swap.proofs.SwapRule.{LeftsMeet, one_tested, none_tested, none_needed, none_leaves, only_one, eleven_given, candidates_given}
use Rattle.swap.proofs.swap_number.Goals as goal

-- every number before the end is found
all_within : (a b : List ℕ) (n : ℕ) → ((k : ℕ) → k < n → get_or a k 0 ∈ b) → length a ≤ n → a ⊆ b
all_within a b n found l z m = let at = in_place_lem a 0 m in subst (λ (x : ℕ). x ∈ b) at.2 (found at.0 (omega (arith, at.1)))

-- the part of a list that is one entry
one_entry : (xs : List ℕ) (at : ℕ) → at < length xs → take ((at + 1) - at) (drop at xs) ≡ get_or xs at 0 ∷ []
one_entry xs at l = let one : (at + 1) - at ≡ 1 = omega arith in ap (λ (k : ℕ). take k (drop at xs)) one ∙ ap (take 1) (drop-cons xs at 0 l)

pub returns-then-not-same : goal.returns-then-not-same
returns-then-not-same c = eleven_given (λ b o q m t e. false≢true (sym (c.if-not-same.true) ∙ c.same.ensures ∙ (same_iff _ _).1 e))

pub returns-then-not-fit : goal.returns-then-not-fit
returns-then-not-fit c =
    let args = c.args in
    let left = args.row.left.now in
    let left₁ = args.one.left.now in
    let outside = c.first_outside-at.ensures in
    let at = c.first_outside-at.result in
    let inside : at < length left₁ = c.if-at-one.true in
    eleven_given (λ b o q m t e.
    let only = only_one args.principal q (get_or left₁ at 0) left left₁ (in_get_d left₁ at 0 inside)
    (outside.lacks (o.premise_left.rising, (o.row_left.rising, tt)) inside) t in
    denied_if c.fit.ensures (c.if-not-fit.true) (o.row_left.rising, (o.premise_left.rising, tt))
    ((one_tested args.principal left left₁ c.from.ensures (omega (arith, c.ranges.principal)) c.from-then-at-one.ensures
    (search rules)).1 (subst (λ (x : ℕ). LeftsMeet args.principal x left left₁) only t)))

pub returns-then-at-one : goal.returns-then-at-one
returns-then-at-one c =
    let args = c.args in
    let left = args.row.left.now in
    let left₁ = args.one.left.now in
    let outside = c.first_outside-at.ensures in
    let at = c.first_outside-at.result in
    let inside : at < length left₁ = c.if-at-one.true in
    let here = in_get_d left₁ at 0 inside in
    let rights = (same_iff _ _).0 (sym c.same.ensures ∙ c.if-not-same.false) in
    let meets = (one_tested args.principal left left₁ c.from.ensures (omega (arith, c.ranges.principal)) c.from-then-at-one.ensures
    (search rules)).0 (c.fit.ensures.sound (c.if-not-fit.false)) in
    candidates_given (get_or left₁ at 0 ∷ [])
    (λ b o. (
      λ z m. subst (λ (x : ℕ). x ∈ left₁) (sym (Memᴰ.eq_of_singleton m)) here,
      omega arith,
      λ q m. subst (λ (x : ℕ). LeftsMeet args.principal x left left₁) (sym (Memᴰ.eq_of_singleton m)) meets,
      λ q m t. Memᴰ.head (only_one args.principal q (get_or left₁ at 0) left left₁ here
          (outside.lacks (o.premise_left.rising, (o.row_left.rising, tt)) inside) t),
    ))
    rights (record { rights = rights; principal = meets.principal; others = meets.up })
    (subst (λ (xs : List ℕ). CandidatesNumbered args.formulas.now args.notes.now args.principal xs (outcome c.candidates_number.result))
    (one_entry left₁ at inside) c.candidates_number.ensures)

pub returns-then-not-fit-2 : goal.returns-then-not-fit-2
returns-then-not-fit-2 c =
    let args = c.args in
    let left = args.row.left.now in
    let left₁ = args.one.left.now in
    eleven_given (λ b o q m t e.
    denied_if c.fit-2.ensures (c.if-not-fit-2.true) (o.row_left.rising, (o.premise_left.rising, tt))
    (none_needed args.principal left left₁ c.from.ensures (omega (arith, c.ranges.principal))
    (all_within left₁ left _ c.first_outside-at.ensures.found (omega (arith, c.if-at-one.false))) q t))

pub returns : goal.returns
returns c =
    let args = c.args in
    let left = args.row.left.now in
    let left₁ = args.one.left.now in
    let rights = (same_iff _ _).0 (sym c.same.ensures ∙ c.if-not-same.false) in
    let shared = c.fit-2.ensures.sound (c.if-not-fit-2.false) in
    let fits : args.principal < 65536 = omega (arith, c.ranges.principal) in
    let leaves = none_leaves args.principal left left₁ c.from.ensures fits shared in
    candidates_given left₁
    (λ b o. (λ z m. m, o.few, none_tested args.principal left left₁ c.from.ensures fits shared, λ q m t. m))
    rights (record { rights = rights; principal = leaves.0; others = leaves.1 }) c.candidates_number-2.ensures
