-- A row and its premises as their sides show them: what is said of the row's rule, over the sides that were fetched.
use Prim.Native.Nat.{ℕ, ◌%◌, ◌≤◌, ◌<◌}
use native.Mathlib.Omega.{arith}
use mathlib.Core.Bool.{true, false, not, true≢false, false≢true}
use mathlib.Core.List.Memᴰ
use mathlib.Core.List.{List, [], ◌∷◌, map}
use mathlib.Core.Option.{Option, none, some}
use mathlib.Core.Path.{◌≡◌, refl, sym, ap, ap₂, subst, ◌∙◌}
use mathlib.Core.Logic.{◌↔◌}
use lib.ListN.{length, get_or, take}
use Rattle.equilibrium.specs.Formula.{Formula}
use Rattle.elk.specs.Sequent.{Kind, Sequent}
use Rattle.elk.specs.Rules.{Added, Entry, entry, kind_of, has_principal, premise_kinds}
use Rattle.format.specs.Text.{strictly_rising, ◌<$>◌}
use Rattle.format.specs.File.{Node, Row, Body, decoded_at, sequent_of}
use Rattle.format.specs.Tables.{absent, Side, fetched, most_on_side}
use Rattle.format.specs.Tests.{present, bad_side, unknown_formula, listed, premises_of, wrong_premises}
use Rattle.format.specs.Passing.{RightPremises}
use Rattle.format.proofs.Booleans.{or_false, not_false}
use Rattle.format.proofs.GoodBodies.{in_get_d, HeldRow, good_held}
use Rattle.format.proofs.Formulas.{known_earlier}
use Rattle.format.proofs.RowPasses.{ten_exactly}
use Rattle.text.specs.Numbers.{number_as}
use Rattle.tables.specs.Records.{on_side}
use Rattle.tables.specs.Holding.{Sided}
use Rattle.tables.proofs.Encoded.{side_held}
use Rattle.schema.specs.SchemaRows.{Sides, ◌⊣◌, sequent_with}
use Rattle.rows.specs.Judging.{Judging}
use Rattle.drafts.specs.declared.Draft.{Draft}
use Rattle.rows.proofs.EarlyTests.{short_side}
use Rattle.rows.proofs.PremiseKinds.{premise_row, premise_earlier, counted}
use Rattle.drafts.specs.Drafts.{principal_number}

-- the premises of these kinds, by the sides of the first and of the second
abbrev pub seen : List Node → List Kind → Sides → Sides → List Sequent
seen nodes [] one two = []
seen nodes (k ∷ []) one two = sequent_with nodes k one ∷ []
seen nodes (k ∷ j ∷ js) one two = sequent_with nodes k one ∷ sequent_with nodes j two ∷ []

-- where all are of one kind, as the rules of the table have it
pub seen_alike : (nodes : List Node) (k : Kind) (added : List Added) (one two : Sides) → length added < 3
    → seen nodes (map (λ (p : Added). k) added) one two ≡ map (sequent_with nodes k) (take (length added) (one ∷ two ∷ []))
seen_alike nodes k [] one two h = refl
seen_alike nodes k (a ∷ []) one two h = refl
seen_alike nodes k (a ∷ b ∷ []) one two h = refl
seen_alike nodes k (a ∷ b ∷ c ∷ cs) one two h = absurd (omega arith)

-- the sequent of a row, by its kind and its sides
by_sides : (nodes : List Node) (r : Row) (k : Kind) (s : Sides)
    → kind_of (entry r.rule) ≡ k → s ≡ (r.left ⊣ r.right) → sequent_of nodes r ≡ sequent_with nodes k s
by_sides nodes r k s e f =
    ap (λ (j : Kind). sequent_with nodes j (r.left ⊣ r.right)) e ∙ ap (sequent_with nodes k) (sym f)

premises_seen : (nodes : List Node) (row : ℕ → Row) (is : List ℕ) (ks : List Kind) (one two : Sides) → length ks < 3
    → map (λ (s : Sequent). s.kind) (map (λ i. sequent_of nodes (row i)) is) ≡ ks
    → (0 < length is → one ≡ ((row (get_or is 0 absent)).left ⊣ (row (get_or is 0 absent)).right))
    → (1 < length is → two ≡ ((row (get_or is 1 absent)).left ⊣ (row (get_or is 1 absent)).right))
    → map (λ i. sequent_of nodes (row i)) is ≡ seen nodes ks one two
premises_seen nodes row [] [] one two h e f g = refl
premises_seen nodes row [] (k ∷ ks) one two h e f g = let z : ◌≡◌ {A = ℕ} 0 1 = cc in absurd (omega arith)
premises_seen nodes row (i ∷ is) [] one two h e f g = let z : ◌≡◌ {A = ℕ} 0 1 = cc in absurd (omega arith)
premises_seen nodes row (i ∷ []) (k ∷ []) one two h e f g = ap (λ (s : Sequent). s ∷ []) (by_sides nodes (row i) k one (cc) (f (omega arith)))
premises_seen nodes row (i ∷ []) (k ∷ l ∷ ls) one two h e f g = let z : ◌≡◌ {A = ℕ} 0 1 = cc in absurd (omega arith)
premises_seen nodes row (i ∷ j ∷ js) (k ∷ []) one two h e f g = let z : ◌≡◌ {A = ℕ} 0 1 = cc in absurd (omega arith)
premises_seen nodes row (i ∷ j ∷ []) (k ∷ l ∷ []) one two h e f g =
    ap₂ (λ (s t : Sequent). s ∷ t ∷ []) (by_sides nodes (row i) k one (cc) (f (omega arith))) (by_sides nodes (row j) l two (cc) (g (omega arith)))
premises_seen nodes row (i ∷ j ∷ m ∷ ms) (k ∷ l ∷ []) one two h e f g = let z : ◌≡◌ {A = ℕ} 0 1 = cc in absurd (omega arith)
premises_seen nodes row (i ∷ j ∷ js) (k ∷ l ∷ m ∷ ms) one two h e f g = absurd (omega arith)

-- the formula of a number that is present
there : (p : Option ℕ) → present p ≡ true → (i : ℕ) × (p ≡ some i)
there none e = absurd (false≢true e)
there (some i) e = (i, refl)

none_there : (p : Option ℕ) → present p ≡ false → p ≡ none
none_there none e = refl
none_there (some i) e = absurd (true≢false e)

good_rises : (side : List ℕ) → bad_side side ≡ false → strictly_rising side ≡ true
good_rises side e = not_false (strictly_rising side) (or_false (not (strictly_rising side)) _ e).0

module _ {b : Body} {q : Row} {formulas notes rows left_pool right_pool left right : List ℕ} {d : Draft}
    (j : Judging b q formulas notes rows left_pool right_pool d left right) (right-premises : wrong_premises b q ≡ false) where
  asks : RightPremises b q
  asks = (ten_exactly b q).0 right-premises

  -- the sides of premise k, as they are fetched
  module _ (k i : ℕ) (h : k < length q.premises) (e : i ≡ get_or q.premises k absent) where
    premise_side : (side : Side) → fetched rows left_pool right_pool side i ≡ on_side side (premise_row b q k)
    premise_side side =
        ap (fetched rows left_pool right_pool side) e ∙ side_held j.rows_held (get_or q.premises k absent) q (premise_earlier j k h) side

    premise_held : HeldRow b (premise_row b q k)
    premise_held = (good_held j.formulas_held.good).rows _ (in_get_d b.rows (get_or q.premises k absent) q (premise_earlier j k h))

    pub premise_sides : (fetched rows left_pool right_pool Side.left i ⊣ fetched rows left_pool right_pool Side.right i)
        ≡ ((premise_row b q k).left ⊣ (premise_row b q k).right)
    premise_sides = ap₂ ◌⊣◌ (premise_side Side.left) (premise_side Side.right)

    pub left_fetched : Sided b (fetched rows left_pool right_pool Side.left i)
    left_fetched = subst (Sided b) (sym (premise_side Side.left)) (record { known = premise_held.left_known; rising = good_rises _ premise_held.left_good })

    pub right_fetched : Sided b (fetched rows left_pool right_pool Side.right i)
    right_fetched =
        subst (Sided b) (sym (premise_side Side.right)) (record { known = premise_held.right_known; rising = good_rises _ premise_held.right_good })

    pub left_short : length (fetched rows left_pool right_pool Side.left i) ≤ most_on_side
    left_short = subst (λ (l : List ℕ). length l ≤ most_on_side) (sym (premise_side Side.left)) (short_side _ premise_held.left_good)

  module _ {e : Entry} (he : entry q.rule ≡ e) where
    pub premise_count : length q.premises ≡ length (premise_kinds e)
    premise_count = sym (counted b q) ∙ ap length (asks.premises ∙ ap premise_kinds he)

    -- the principal formula, where the rule has one
    pub principal_there : has_principal e ≡ true → (i : ℕ) × (q.principal ≡ some i)
    principal_there h = there q.principal (asks.principal ∙ ap has_principal he ∙ h)

    pub principal_absent : has_principal e ≡ false → q.principal ≡ none
    principal_absent h = none_there q.principal (asks.principal ∙ ap has_principal he ∙ h)

    -- what is said of the row's rule and sequents, by the sides
    pub row_seen : (P : Entry → Option Formula → List Sequent → Sequent → Type 0) (o : Option Formula) (one two : Sides)
        → length (premise_kinds e) < 3 → (decoded_at b.nodes <$> q.principal) ≡ o
        → (0 < length q.premises → one ≡ ((premise_row b q 0).left ⊣ (premise_row b q 0).right))
        → (1 < length q.premises → two ≡ ((premise_row b q 1).left ⊣ (premise_row b q 1).right))
        → P (entry q.rule) (decoded_at b.nodes <$> q.principal) (premises_of b q) (sequent_of b.nodes q)
        ↔ P e o (seen b.nodes (premise_kinds e) one two) (sequent_with b.nodes (kind_of e) (left ⊣ right))
    row_seen P o one two few ho f g = (
      λ i. subst (λ (s : Sequent). P e o ps s) conclusion
          (subst (λ (l : List Sequent). P e o l s₀) premises
          (subst (λ p. P e p (premises_of b q) s₀) ho (subst (λ x. P x (decoded_at b.nodes <$> q.principal) (premises_of b q) s₀) he i))),
      λ i. subst (λ x. P x (decoded_at b.nodes <$> q.principal) (premises_of b q) s₀) (sym he)
          (subst (λ p. P e p (premises_of b q) s₀) (sym ho)
          (subst (λ (l : List Sequent). P e o l s₀) (sym premises) (subst (λ (s : Sequent). P e o ps s) (sym conclusion) i))),
    )
      where
        s₀ : Sequent
        s₀ = sequent_of b.nodes q

        ps : List Sequent
        ps = seen b.nodes (premise_kinds e) one two

        premises : premises_of b q ≡ seen b.nodes (premise_kinds e) one two
        premises = premises_seen b.nodes (λ i. get_or b.rows i q) q.premises (premise_kinds e) one two few (asks.premises ∙ ap premise_kinds he) f g

        conclusion : sequent_of b.nodes q ≡ sequent_with b.nodes (kind_of e) (left ⊣ right)
        conclusion = by_sides b.nodes q (kind_of e) (left ⊣ right) (ap kind_of he) (ap₂ ◌⊣◌ (sym j.left_side) (sym j.right_side))

  -- a principal formula that is there: its number is known, and as the table holds it
  pub principal_number_lem : (i : ℕ) → q.principal ≡ some i → (principal_number d.principal ≡ i) × (i < length b.nodes)
  principal_number_lem i e =
      let known : i < length b.nodes =
      known_earlier b (i ∷ []) (ap (λ (p : Option ℕ). unknown_formula b (listed p)) (sym e) ∙ j.principal_known) i (Memᴰ.head refl) in
      let small : i % 65536 ≡ i = omega (arith, (good_held j.formulas_held.good).few_nodes) in
      (ap principal_number (j.principal ∙ ap (λ (p : Option ℕ). number_as p) e) ∙ small, known)
