-- A row that passes its tests over a good body is told by its record: its principal formula and its premises are told from absent
-- ones, and it has two premises at most.
use Prim.Native.Nat.{ℕ, ◌<◌}
use native.Mathlib.Decide.{dec_lt}
use native.Mathlib.Omega.{arith}
use mathlib.Core.Path.{◌≡◌, refl, ap}
use mathlib.Core.Bool.{false}
use mathlib.Core.List.Memᴰ
use mathlib.Core.List.{List, [], ◌∷◌}
use mathlib.Core.Option.{Option, none, some}
use lib.ListN.{length, get_or, length-map}
use borrow.Author.Tests.{leb-false}
use Rattle.equilibrium.specs.Meaning.{◌∈◌}
use Rattle.equilibrium.proofs.Sets.{dec_all, from_yes}
use Rattle.elk.specs.Sequent.{Kind, Sequent}
use Rattle.elk.specs.Rules.{Rule, rules, entry, premise_kinds}
use Rattle.elk.proofs.RuleCodes.{every_rule}
use Rattle.format.specs.Text.{any}
use Rattle.format.specs.File.{Row, Body, sequent_of}
use Rattle.format.specs.Tables.{absent}
use Rattle.format.specs.Tests.{first, not_earlier, unknown_formula, listed, premises_of, body_tests}
use Rattle.format.specs.Good.{GoodBody}
use Rattle.format.proofs.Booleans.{any_false}
use Rattle.format.proofs.Tested.{passes, passed_row}
use Rattle.format.proofs.Formulas.{known_earlier}
use Rattle.format.proofs.RowPasses.{ten_exactly}
use Rattle.format.proofs.GoodBodies.{good_held}
use Rattle.bodies.proofs.Decoding.{Small, Few}

-- no rule has more than two premises, by one computed test
two_at_most : (r : Rule) → length (premise_kinds (entry r)) < 3
unfolding dec_all dec_lt
two_at_most r = from_yes (dec_all (λ q. dec_lt (length (premise_kinds (entry q))) 3) rules) tt r (every_rule r)

few_of : (ps : List ℕ) → length ps < 3 → ((i : ℕ) → i ∈ ps → i < absent) → Few ps
few_of [] n h = tt
few_of (i ∷ []) n h = h i (Memᴰ.head refl)
few_of (i ∷ j ∷ []) n h = (h i (Memᴰ.head refl), h j (Memᴰ.tail (Memᴰ.head refl)))
few_of (i ∷ j ∷ k ∷ ks) n h = absurd (omega arith)

module _ (b : Body) (r : Row) (g : GoodBody b) (ok : first (body_tests b r) ≡ none) where
  -- the principal formula is told from an absent one
  pub principal_small : Small r.principal
  principal_small = of r.principal (passed_row b r ok).principal_known
    where
      of : (p : Option ℕ) → unknown_formula b (listed p) ≡ false → Small p
      of none e = tt
      of (some i) e = omega (arith, known_earlier b (i ∷ []) e i (Memᴰ.head refl), (good_held g).few_nodes)

  -- two premises at most, each told from an absent one
  pub premises_few : Few r.premises
  premises_few =
      few_of r.premises count
      (λ i m. omega (arith, leb-false (length b.rows) i (any_false (not_earlier (length b.rows)) r.premises earlier i m), (good_held g).few_rows))
    where
      earlier : any (not_earlier (length b.rows)) r.premises ≡ false
      earlier = (passed_row b r ok).premises_earlier

      count : length r.premises < 3
      count =
          omega (
            arith,
            two_at_most r.rule,
            ap (λ (ks : List Kind). length ks) ((ten_exactly b r).0 (passes 10 (body_tests b r) ok)).premises,
            length-map (premises_of b r) (λ (s : Sequent). s.kind),
            length-map r.premises (λ i. sequent_of b.nodes (get_or b.rows i r)),
          )
