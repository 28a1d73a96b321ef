-- What it says of a list of tests that none applies, test by test under its number.
use Prim.Native.Nat.{ℕ, ◌+◌, ◌≤◌, ◌<◌}
use native.Mathlib.Omega.{arith}
use mathlib.Core.Path.{◌≡◌, refl}
use mathlib.Core.Bool.{Bool, true, false, not, cond, ◌&&◌, ◌||◌, false≢true}
use mathlib.Core.List.{List, [], ◌∷◌}
use mathlib.Core.Option.{none, some}
use mathlib.Core.Logic.{◌⊎◌, inl, inr, ⊎_elim}
use lib.Dec.{eqb, ltb, leb}
use lib.ListN.{length}
use borrow.Author.Tests.{eqb-true, ltb-true, leb-false, ltb-false}
use Rattle.format.specs.Text.{any}
use Rattle.format.specs.File.{Row, Body, Stage, in_atoms, in_formulas, in_rows, modelled, claimed}
use Rattle.format.specs.Tables.{left_pool, right_pool, most_rows, most_entries}
use Rattle.format.specs.Tests.{Test, first, rank, goes_on, may_follow, out_of_order, not_earlier, unknown_formula, listed, bad_side, passed, body_tests}
use Rattle.format.proofs.Booleans.{or_false, or_false₄, and_true, not_false}

-- whether the test under a number applies; no list has two of one number
abbrev pub under : ℕ → List Test → Bool
under n [] = false
under n (t ∷ ts) = cond (eqb n t.number) t.applies (under n ts)

pub passes : (n : ℕ) (ts : List Test) → first ts ≡ none → under n ts ≡ false
passes n [] e = refl
passes n (t ∷ ts) e = cases t.applies (eqb n t.number) e (passes n ts)
  where
    cases : (a here : Bool) → cond a (some t.number) (first ts) ≡ none → (first ts ≡ none → under n ts ≡ false) → cond here a (under n ts) ≡ false
    cases true here k rest = let z : ◌≡◌ {A = ℕ} 0 1 = cc in absurd (omega arith)
    cases false true k rest = refl
    cases false false k rest = rest k

-- the stage that a line follows
goes_on_lem : (t : Stage) → goes_on t ≡ true → rank t < 3
goes_on_lem in_atoms e = omega arith
goes_on_lem in_formulas e = omega arith
goes_on_lem in_rows e = omega arith
goes_on_lem modelled e = absurd (false≢true e)
goes_on_lem claimed e = absurd (false≢true e)

follows : (s t : Stage) → may_follow s t ≡ true → (rank s < rank t) ⊎ ((rank s ≡ rank t) × (rank t < 3))
follows s t e = cases (ltb (rank s) (rank t)) refl e
  where
    cases : (b : Bool) → ltb (rank s) (rank t) ≡ b → b || (eqb (rank s) (rank t) && goes_on t) ≡ true → (rank s < rank t) ⊎ ((rank s ≡ rank t) × (rank t < 3))
    cases true l k = inl (ltb-true _ _ l)
    cases false l k = let parts = and_true (eqb (rank s) (rank t)) (goes_on t) k in inr (eqb-true _ _ parts.0, goes_on_lem t parts.1)

-- M and C come once
pub follows_once : (s t : Stage) → 3 ≤ rank t → may_follow s t ≡ true → rank s < rank t
follows_once s t h e = ⊎_elim (λ l. l) (λ p. absurd (omega (arith, p.1))) (follows s t e)

-- a numbered line begins a stage or goes on with it
pub in_order : (s t : Stage) (held n : ℕ) → out_of_order s t held n ≡ false → rank s ≤ rank t
in_order s t held n e = ⊎_elim (λ l. omega (arith, l)) (λ p. omega (arith, p.0)) (follows s t (not_false _ (or_false (not (may_follow s t)) _ e).0))

-- a row that passes the tests over a body
pub record PassedRow (b : Body) (r : Row) : Type 0 where
  pub rows_room : length b.rows < most_rows
  pub left_room : length (left_pool b.rows) + length r.left ≤ most_entries
  pub right_room : length (right_pool b.rows) + length r.right ≤ most_entries
  pub principal_known : unknown_formula b (listed r.principal) ≡ false
  pub premises_earlier : any (not_earlier (length b.rows)) r.premises ≡ false
  pub left_known : unknown_formula b r.left ≡ false
  pub right_known : unknown_formula b r.right ≡ false
  pub left_good : bad_side r.left ≡ false
  pub right_good : bad_side r.right ≡ false

pub passed_row : (b : Body) (r : Row) → first (body_tests b r) ≡ none → PassedRow b r
passed_row b r e =
    record {
      rows_room = leb-false _ _ one.0;
      left_room = ltb-false _ _ one.1;
      right_room = ltb-false _ _ both.1;
      principal_known = known.0;
      premises_earlier = known.1;
      left_known = known.2;
      right_known = known.3;
      left_good = sides.0;
      right_good = sides.1;
    }
  where
    full : Bool
    full = leb most_rows (length b.rows)

    both : (full || passed (left_pool b.rows) r.left ≡ false) × (passed (right_pool b.rows) r.right ≡ false)
    both = or_false _ _ (passes 5 (body_tests b r) e)

    one : (full ≡ false) × (passed (left_pool b.rows) r.left ≡ false)
    one = or_false _ _ both.0

    known :
        (unknown_formula b (listed r.principal) ≡ false) × (any (not_earlier (length b.rows)) r.premises ≡ false)
        × (unknown_formula b r.left ≡ false) × (unknown_formula b r.right ≡ false)
    known = or_false₄ _ _ _ _ (passes 7 (body_tests b r) e)

    sides : (bad_side r.left ≡ false) × (bad_side r.right ≡ false)
    sides = or_false _ _ (passes 9 (body_tests b r) e)
