-- `candidates::judge_group` meets its contract. Assumes nothing.
use Prim.Native.Nat.{ℕ, ◌^◌, ◌≤◌, ◌<◌}
use native.Mathlib.Omega.{arith}
use mathlib.Core.List.{List}
use mathlib.Core.Path.{◌≡◌, sym, ap, subst}
use borrow.Author.Rules.{rules}
use lib.Bits.{or_lt}
use lib.ListN.{length, get_or}
use Rattle.atomset.specs.AtomSet.{members}
use Rattle.alike.specs.Survivors.{most_places}
use Rattle.alike.specs.Places.{Seated}
use Rattle.candidates.specs.Places.{SeatedAll}
use Rattle.candidates.specs.Candidates.{GroupJudged}
use Rattle.candidates.proofs.Seeking.{group_judged}
use Rattle.candidates.proofs.judge_group.Goals as goal
use Rattle.candidates.proofs.judge_group.Goals.{After-some_alike}

-- the same set and width, by other names
seated_as : {before after : List ℕ} {n set set' : ℕ} → SeatedAll set before after → n ≡ length (members set) → set ≡ set' → Seated after n set'
seated_as {after = after} {set = set} s e f = subst (Seated after _) f (subst (λ (n : ℕ). Seated after n set) (sym e) s.seated)

-- how many atoms the candidate has with the formula
few : (c : After-some_alike) → c.count-width.result ≤ most_places
few c = omega (arith, c.count-width.ensures, ap (λ (w : ℕ). length (members w)) c.atoms_with-set.ensures, c.requires.1)

pub seat_group-group-requires : goal.seat_group-group-requires
seat_group-group-requires c = (
  omega (arith, c.count-width.ensures, ap (λ (w : ℕ). length (members w)) c.atoms_with-set.ensures, c.requires.1),
  c.requires.0,
  subst (λ (w : ℕ). w < 2 ^ 64) c.atoms_with-set.ensures (search rules),
  seated_as c.seat.ensures c.count-width.ensures c.atoms_with-set.ensures,
)

-- what the answer says
judged : (c : After-some_alike)
    → let swapped = c.args.swapped in
    GroupJudged swapped.formulas.now swapped.notes.now swapped.own swapped.atoms swapped.side.now c.args.c c.args.pending c.seat_group-group.result
    c.some_alike.result
judged c =
    group_judged c.seat_group-group.ensures (few c) c.some_alike.ensures

pub returns-then-some_alike : goal.returns-then-some_alike
returns-then-some_alike c =
    let swapped = c.args.swapped in (
      c.seat_group-group.result,
      subst (GroupJudged swapped.formulas.now swapped.notes.now swapped.own swapped.atoms swapped.side.now c.args.c c.args.pending c.seat_group-group.result)
          c.if-some_alike.true (judged (goal.at.returns-then-some_alike c).After-some_alike),
    )

pub returns : goal.returns
returns c =
    let swapped = c.args.swapped in
    subst (GroupJudged swapped.formulas.now swapped.notes.now swapped.own swapped.atoms swapped.side.now c.args.c c.args.pending c.seat_group-group.result)
    c.if-some_alike.false (judged (goal.at.returns c).After-some_alike)
