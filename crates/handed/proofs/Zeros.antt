-- Counts within their limits, and zeros to the end of a table, looked at one by one. Assumes nothing.
use Prim.Native.Nat.{ℕ, ◌-◌, ◌≤◌}
use native.Mathlib.Omega.{arith}
use mathlib.Core.Path.{◌≡◌, sym, ◌∙◌}
use mathlib.Core.Bool.{Bool, true, ◌&&◌, and-true, and_assoc}
use mathlib.Core.List.{List, [], ◌∷◌}
use denote.Bor.{Bor}
use lib.Dec.{eqb, leb}
use lib.ListN.{length, drop, drop_of_length-le, length-drop}
use lib.Seq.{take_all}
use borrow.Author.Tests.{leb-true}
use Rattle.std.specs.Prelude.{Option, Some, None}
use Rattle.std.specs.Option.{unwrap_or}
use Rattle.std.specs.List.{fold}
use Rattle.std.specs.Slice.{IsGetRangeResult}
use Rattle.format.specs.Text.{all}
use Rattle.format.proofs.Booleans.{and_true}
use Rattle.format.specs.Tables.{most_atoms, most_formulas, most_rows}
use Rattle.counts.specs.declared.Counts.{Counts}
use Rattle.bodies.specs.Walk.{within, zeros_from}

-- what `get` has of a table from a place on
pub rest_got : (table : List ℕ) (from : ℕ) (r : Option (Bor (List ℕ))) (none_got : Bor (List ℕ)) → IsGetRangeResult table from (length table) r
    → none_got.now ≡ [] → (unwrap_or r none_got).now ≡ drop from table
rest_got table from None none_got g e = let past : length table ≤ from = omega (arith, g) in e ∙ sym (drop_of_length-le table past)
rest_got table from (Some rest) none_got g e =
    let long : length (drop from table) ≤ length table - from = simp length-drop (omega arith) in g.0.2 ∙ take_all _ (drop from table) long

-- zeros, looked at one after the other
zeros_folded : (zeros : Bool) (xs : List ℕ) → fold (λ (zeros : Bool) (x : ℕ). zeros && eqb x 0) zeros xs ≡ zeros && all (λ x. eqb x 0) xs
zeros_folded zeros [] = sym (and-true zeros)
zeros_folded zeros (x ∷ xs) = zeros_folded (zeros && eqb x 0) xs ∙ and_assoc zeros (eqb x 0) (all (λ x. eqb x 0) xs)

pub zeros_seen : (table : List ℕ) (from : ℕ) → fold (λ (zeros : Bool) (x : ℕ). zeros && eqb x 0) true (drop from table) ≡ zeros_from from table
unfolding zeros_from
zeros_seen table from = zeros_folded true (drop from table)

-- counts within their limits are small
pub record Limited (c : Counts) : Type 0 where
  pub atoms : c.atoms ≤ most_atoms
  pub formulas : c.formulas ≤ most_formulas
  pub rows : c.rows ≤ most_rows

pub limits_kept : (c : Counts) → within c ≡ true → Limited c
unfolding within
limits_kept c e =
    let one = and_true (leb c.atoms most_atoms) _ e in
    let two = and_true (leb c.formulas most_formulas) _ one.1 in
    let three = and_true (leb c.rows most_rows) _ two.1 in
    record { atoms = leb-true _ _ one.0; formulas = leb-true _ _ two.0; rows = leb-true _ _ three.0 }
