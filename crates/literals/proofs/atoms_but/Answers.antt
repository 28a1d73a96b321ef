-- `literals::atoms_but` meets its contract: the closure tests the shape of each formula.
use Prim.Native.Nat.{ℕ, zero, suc, ◌<◌}
use native.Mathlib.Omega.{arith}
use mathlib.Core.Bool.{Bool, true, false, ◌&&◌, and-false}
use mathlib.Core.List.{List, [], ◌∷◌}
use mathlib.Core.Path.{◌≡◌, refl, sym, ap, ap₂, ◌∙◌}
use lib.ListN.{length}
use borrow.Author.Rules.{rules}
use borrow.Author.Tests.{tests}
use Rattle.std.specs.Bool.{MatchBool}
use Rattle.std.specs.List.{AllWithin, HoldsAt}
use Rattle.std.proofs.lemmas.Iterator.{cases_from_all, YieldsList-from_slice}
use Rattle.format.specs.Text.{all}
use Rattle.shapes.specs.Shapes.{shape_in}
use Rattle.literals.specs.Literals.{atom_but, atoms_but}
use Rattle.literals.proofs.atoms_but.Goals as goal

module _ (test : ℕ → Bool) where
  every : (xs : List ℕ) → AllWithin (λ x. test x ≡ true) xs 0 (length xs) → all test xs ≡ true
  every [] h = refl
  every (x ∷ xs) h = ap₂ (λ (t u : Bool). t && u) (h 0 0 (omega arith) (omega arith)) (every xs (λ k d a b. h (suc k) d (omega arith) (omega arith)))

  not_every : (xs : List ℕ) (k : ℕ) → k < length xs → HoldsAt (λ x. test x ≡ false) xs k → all test xs ≡ false
  not_every [] k l h = absurd (omega arith)
  not_every (x ∷ xs) zero l h = ap (λ (t : Bool). t && all test xs) (h 0)
  not_every (x ∷ xs) (suc k) l h = ap (λ (t : Bool). test x && t) (not_every xs k (omega arith) h) ∙ and-false (test x)

  told :
      (xs : List ℕ) (r : Bool)
      → MatchBool r (AllWithin (λ x. test x ≡ true) xs 0 (length xs)) ((k : ℕ) × (k < length xs) × HoldsAt (λ x. test x ≡ false) xs k)
      → r ≡ all test xs
  told xs true h = sym (every xs h)
  told xs false h = sym (not_every xs h.0 h.1 h.2)

pub returns : goal.returns
unfolding atoms_but
returns c =
    let formulas = c.args.formulas.now in
    let p = c.args.p in
    told (λ x. atom_but p (shape_in formulas x)) c.args.side.now c.all.result
    (cases_from_all _ _ _ (λ x. atom_but p (shape_in formulas x) ≡ true) (λ x. atom_but p (shape_in formulas x) ≡ false) c.all.ensures.ran
    (YieldsList-from_slice c.args.side.now cc) (λ x q k. search (rules, tests)) (λ x q k. search (rules, tests)))
