-- What each rule's test on sides says of the row: it decides whether the row is an instance of its rule, or it is the row's number.
use Prim.Native.Nat.{ℕ, zero, suc, ◌≤◌, ◌<◌}
use native.Mathlib.Omega.{arith}
use mathlib.Core.Bool.{Bool, true, false, ◌||◌}
use mathlib.Core.List.{List, [], ◌∷◌, map}
use mathlib.Core.Option.{Option, none, some}
use mathlib.Core.Path.{◌≡◌, refl, sym, ap, subst, ◌∙◌}
use borrow.Author.Tests.{lt-leb}
use lib.ListN.{length, get_or, take, length-map}
use Rattle.elk.specs.Rules.{
  Form,
  any,
  falsity,
  negation,
  conjunction,
  disjunction,
  implication,
  double_negation,
  negated_conjunction,
  negated_disjunction,
  negated_implication,
  Added,
  Schema,
  Entry,
  schema,
  default,
  cut,
  unstable,
  initial,
  exchange,
  entry,
  premise_kinds,
}
use Rattle.elk.specs.Sequent.{Sequent}
use Rattle.elk.specs.Instance.{SchemaInstance, InstanceOf, TooManyAtomsOf}
use Rattle.format.specs.Text.{strictly_rising, ◌<$>◌}
use Rattle.format.specs.File.{Row, Body, decoded_at, decoded}
use Rattle.format.specs.Tables.{absent, Side, fetched}
use Rattle.format.specs.Tests.{first, unknown_formula, wrong_premises, rule_tests}
use Rattle.format.specs.Passing.{RowInstance}
use Rattle.tables.specs.Holding.{Sided}
use Rattle.rules.specs.RuleTable.{step_number, form_number}
use Rattle.sides.specs.Deciding.{Decides, DecidesIf}
use Rattle.sides.specs.Members.{AllRise}
use Rattle.sides.proofs.Deciding.{decided, decides_iff}
use Rattle.cut.specs.Cut.{CutSides}
use Rattle.cut.proofs.CutRule.{cut_rule}
use Rattle.literals.specs.Literals.{DefaultStep, InitialStep}
use Rattle.schema.specs.SchemaRows.{Sides, ◌⊣◌, Handed, SidesRise, sequent_with, OfBody, SchemaAnswer}
use Rattle.unstable.specs.Unstable.{UnstableStep}
use Rattle.swap.specs.Swap as swap
use Rattle.schema.proofs.SchemaRule.{two_at_most}
use Rattle.rows.specs.Judging.{Judging}
use Rattle.drafts.specs.declared.Draft.{Draft}
use Rattle.early.specs.Early.{numbered}
use Rattle.rows.proofs.Numbering.{swap_given}
use Rattle.rows.proofs.PremiseKinds.{premise_row}
use Rattle.rows.proofs.Seen.{
  seen,
  seen_alike,
  premise_sides,
  left_fetched,
  right_fetched,
  left_short,
  premise_count,
  principal_there,
  principal_absent,
  row_seen,
  principal_number_lem,
}
use Rattle.drafts.specs.Drafts.{principal_number}

-- which rule's test runs is told by the number of its entry

form_below : (f : Form) → form_number f < 10
form_below any = omega arith
form_below falsity = omega arith
form_below negation = omega arith
form_below conjunction = omega arith
form_below disjunction = omega arith
form_below implication = omega arith
form_below double_negation = omega arith
form_below negated_conjunction = omega arith
form_below negated_disjunction = omega arith
form_below negated_implication = omega arith

pub is_default : (e : Entry) → step_number e ≡ 10 → e ≡ default
is_default (schema t) h = absurd (omega (arith, form_below t.form))
is_default default h = refl
is_default cut h = absurd (omega arith)
is_default unstable h = absurd (omega arith)
is_default initial h = absurd (omega arith)
is_default exchange h = absurd (omega arith)

pub is_initial : (e : Entry) → step_number e ≡ 13 → e ≡ initial
is_initial (schema t) h = absurd (omega (arith, form_below t.form))
is_initial default h = absurd (omega arith)
is_initial cut h = absurd (omega arith)
is_initial unstable h = absurd (omega arith)
is_initial initial h = refl
is_initial exchange h = absurd (omega arith)

pub is_cut : (e : Entry) → step_number e ≡ 11 → e ≡ cut
is_cut (schema t) h = absurd (omega (arith, form_below t.form))
is_cut default h = absurd (omega arith)
is_cut cut h = refl
is_cut unstable h = absurd (omega arith)
is_cut initial h = absurd (omega arith)
is_cut exchange h = absurd (omega arith)

pub is_unstable : (e : Entry) → step_number e ≡ 12 → e ≡ unstable
is_unstable (schema t) h = absurd (omega (arith, form_below t.form))
is_unstable default h = absurd (omega arith)
is_unstable cut h = absurd (omega arith)
is_unstable unstable h = refl
is_unstable initial h = absurd (omega arith)
is_unstable exchange h = absurd (omega arith)

pub is_schema : (e : Entry) → (10 ≤ step_number e → 14 < step_number e) → (t : Schema) × (e ≡ schema t)
is_schema (schema t) h = (t, refl)
is_schema default h = absurd (omega arith)
is_schema cut h = absurd (omega arith)
is_schema unstable h = absurd (omega arith)
is_schema initial h = absurd (omega arith)
is_schema exchange h = absurd (omega arith)

pub is_exchange : (e : Entry) → step_number e ≡ 14 → e ≡ exchange
is_exchange (schema t) h = absurd (omega (arith, form_below t.form))
is_exchange default h = absurd (omega arith)
is_exchange cut h = absurd (omega arith)
is_exchange unstable h = absurd (omega arith)
is_exchange initial h = absurd (omega arith)
is_exchange exchange h = refl

abbrev no_sides : Sides
no_sides = [] ⊣ []

-- as many of two lists as there are rise, if each does that is there
all_rise : (n : ℕ) (x y : List ℕ) → n < 3 → (0 < n → strictly_rising x ≡ true) → (1 < n → strictly_rising y ≡ true) → AllRise (take n (x ∷ y ∷ []))
all_rise zero x y h f g = tt
all_rise (suc zero) x y h f g = (f (omega arith), tt)
all_rise (suc (suc zero)) x y h f g = (f (omega arith), (g (omega arith), tt))
all_rise (suc (suc (suc n))) x y h f g = absurd (omega arith)

module _ {b : Body} {q : Row} {formulas notes rows left_pool right_pool left right : List ℕ} {d : Draft}
    (j : Judging b q formulas notes rows left_pool right_pool d left right) (right-premises : wrong_premises b q ≡ false) where
  none_at : {e : Entry} → entry q.rule ≡ e → premise_kinds e ≡ [] → (k : ℕ) → k < length q.premises → ⊥
  none_at he h k l = omega (arith, premise_count j right-premises he, ap length h)

  principal_is : (i : ℕ) → q.principal ≡ some i → (p : ℕ) → p ≡ principal_number d.principal → (p ≡ i) × (p < length b.nodes)
  principal_is i e p h = let n = principal_number_lem j right-premises i e in (h ∙ n.0, subst (λ (x : ℕ). x < length b.nodes) (sym (h ∙ n.0)) n.1)

  principal_decoded : (i p : ℕ) → q.principal ≡ some i → p ≡ i → (decoded_at b.nodes <$> q.principal) ≡ some (decoded_at b.nodes p)
  principal_decoded i p e h = ap (λ (o : Option ℕ). decoded_at b.nodes <$> o) e ∙ ap (λ (n : ℕ). some (decoded_at b.nodes n)) (sym h)

  pub default_decided : entry q.rule ≡ default → (p : ℕ) → p ≡ principal_number d.principal
      → (r : Bool) → DefaultStep formulas p left right r → Decides (RowInstance b q) r
  default_decided he p hp r answer =
      let named = principal_there j right-premises he refl in
      let is = principal_is named.0 named.1 p hp in
      let iff = row_seen j right-premises he InstanceOf _ no_sides no_sides (omega arith)
      (principal_decoded named.0 p named.1 is.0) (λ l. absurd (none_at he refl 0 l)) (λ l. absurd (none_at he refl 1 l)) in
      decides_iff (iff.1, iff.0) (answer.decides b j.formulas_held is.1 j.left_sided j.right_sided)

  pub initial_decided : entry q.rule ≡ initial → (r : Bool) → InitialStep formulas left right r → Decides (RowInstance b q) r
  initial_decided he r answer =
      let absent-here = ap (λ (o : Option ℕ). decoded_at b.nodes <$> o) (principal_absent j right-premises he refl) in
      let iff = row_seen j right-premises he InstanceOf none no_sides no_sides (omega arith) absent-here
      (λ l. absurd (none_at he refl 0 l)) (λ l. absurd (none_at he refl 1 l)) in
      decides_iff (iff.1, iff.0) (answer.decides b j.formulas_held j.left_sided j.right_sided)

  -- the sides of the first premise, as they were fetched
  module _ (i : ℕ) (is-first : i ≡ d.first) where
    abbrev l₁ : List ℕ
    l₁ = fetched rows left_pool right_pool Side.left i

    abbrev r₁ : List ℕ
    r₁ = fetched rows left_pool right_pool Side.right i

    first_at : i ≡ get_or q.premises 0 absent
    first_at = is-first ∙ sym j.first_premise

    first_sides : 0 < length q.premises → (l₁ ⊣ r₁) ≡ ((premise_row b q 0).left ⊣ (premise_row b q 0).right)
    first_sides h = premise_sides j right-premises 0 i h first_at

    module _ (h : 0 < length q.premises) where
      l₁_sided : Sided b l₁
      l₁_sided = left_fetched j right-premises 0 i h first_at

      r₁_sided : Sided b r₁
      r₁_sided = right_fetched j right-premises 0 i h first_at

    pub swap_numbered : entry q.rule ≡ exchange → (p : ℕ) → p ≡ principal_number d.principal → (n : ℕ)
        → swap.SwapNumbered formulas notes p left right l₁ r₁ n → numbered n ≡ first (rule_tests b q)
    swap_numbered he p hp n answer =
        let named = principal_there j right-premises he refl in
        let is = principal_is named.0 named.1 p hp in
        let one : length q.premises ≡ 1 = premise_count j right-premises he in
        let decoded-here = principal_decoded named.0 p named.1 is.0 in
        let body : swap.OfBody b formulas notes p left right l₁ r₁ =
        record {
          held = j.formulas_held;
          atoms = j.atoms_known;
          principal = is.1;
          row_left = j.left_sided;
          row_right = j.right_sided;
          premise_left = l₁_sided (omega arith);
          premise_right = r₁_sided (omega arith);
          few = left_short j right-premises 0 i (omega arith) first_at;
        } in
        let instances = row_seen j right-premises he InstanceOf _ (l₁ ⊣ r₁) no_sides (omega arith) decoded-here first_sides (λ h. absurd (omega arith)) in
        let wide = row_seen j right-premises he TooManyAtomsOf _ (l₁ ⊣ r₁) no_sides (omega arith) decoded-here first_sides (λ h. absurd (omega arith)) in
        let passes = answer.passes b body in
        let eighteen = answer.wide b body in
        swap_given b q right-premises n answer.one_of (λ e. instances.1 (passes.0 e), λ x. passes.1 (instances.0 x))
        (λ e. wide.1 (eighteen.0 e), λ x. eighteen.1 (wide.0 x))

    -- and those of the second
    module _ (k : ℕ) (is-second : k ≡ d.second) where
      abbrev l₂ : List ℕ
      l₂ = fetched rows left_pool right_pool Side.left k

      abbrev r₂ : List ℕ
      r₂ = fetched rows left_pool right_pool Side.right k

      second_at : k ≡ get_or q.premises 1 absent
      second_at = is-second ∙ sym j.second_premise

      second_sides : 1 < length q.premises → (l₂ ⊣ r₂) ≡ ((premise_row b q 1).left ⊣ (premise_row b q 1).right)
      second_sides h = premise_sides j right-premises 1 k h second_at

      module _ (h : 1 < length q.premises) where
        l₂_sided : Sided b l₂
        l₂_sided = left_fetched j right-premises 1 k h second_at

        r₂_sided : Sided b r₂
        r₂_sided = right_fetched j right-premises 1 k h second_at

      pub cut_decided : entry q.rule ≡ cut → (p : ℕ) → p ≡ principal_number d.principal → (r : Bool)
          → DecidesIf (AllRise (left ∷ right ∷ l₁ ∷ r₁ ∷ l₂ ∷ r₂ ∷ [])) (CutSides p left right l₁ r₁ l₂ r₂) r → Decides (RowInstance b q) r
      cut_decided he p hp r answer =
          let named = principal_there j right-premises he refl in
          let is = principal_is named.0 named.1 p hp in
          let two : length q.premises ≡ 2 = premise_count j right-premises he in
          let one_left = l₁_sided (omega arith) in
          let one_right = r₁_sided (omega arith) in
          let two-left = l₂_sided (omega arith) in
          let two_right = r₂_sided (omega arith) in
          let rise : AllRise (left ∷ right ∷ l₁ ∷ r₁ ∷ l₂ ∷ r₂ ∷ []) =
          (j.left_sided.rising, (j.right_sided.rising, (one_left.rising, (one_right.rising, (two-left.rising, (two_right.rising, tt)))))) in
          let iff = row_seen j right-premises he InstanceOf _ (l₁ ⊣ r₁) (l₂ ⊣ r₂) (omega arith)
          (principal_decoded named.0 p named.1 is.0) first_sides second_sides in
          let rule = cut_rule j.formulas_held.good p left right l₁ r₁ l₂ r₂ (known_one p is.1)
          j.left_sided.known j.right_sided.known one_left.known one_right.known two-left.known two_right.known in
          decides_iff (λ x. iff.1 (rule.0 x), λ x. rule.1 (iff.0 x)) (decided answer rise)
        where
          known_one : (n : ℕ) → n < length b.nodes → unknown_formula b (n ∷ []) ≡ false
          known_one n l = ap (λ (t : Bool). t || false) (lt-leb (length b.nodes) n l)

      pub unstable_decided : entry q.rule ≡ unstable → (r : Bool) → UnstableStep formulas notes left l₁ r₁ l₂ r₂ r → Decides (RowInstance b q) r
      unstable_decided he r answer =
          let two : length q.premises ≡ 2 = premise_count j right-premises he in
          let absent-here = ap (λ (o : Option ℕ). decoded_at b.nodes <$> o) (principal_absent j right-premises he refl) in
          let iff = row_seen j right-premises he InstanceOf none (l₁ ⊣ r₁) (l₂ ⊣ r₂) (omega arith) absent-here first_sides second_sides in
          decides_iff (iff.1, iff.0) (
          answer.decides b (decoded b.nodes right) j.formulas_held j.atoms_known j.left_sided (l₁_sided (omega arith)) (r₁_sided (omega arith))
          (l₂_sided (omega arith)) (r₂_sided (omega arith)))

      pub schema_decided : (t : Schema) → entry q.rule ≡ schema t → (p count : ℕ) → p ≡ principal_number d.principal
          → count ≡ d.premises.count → (r : Bool)
          → SchemaAnswer formulas (record { rule = d.rule; principal = p; count = count; row = left ⊣ right; one = l₁ ⊣ r₁; two = l₂ ⊣ r₂ }) r
          → Decides (RowInstance b q) r
      schema_decided t he p count hp hc r answer =
          let named = principal_there j right-premises he refl in
          let is = principal_is named.0 named.1 p hp in
          let many : length q.premises ≡ length t.premises = premise_count j right-premises he ∙ length-map t.premises (λ (a : Added). t.kind) in
          let few : length t.premises < 3 =
          omega (arith, two_at_most q.rule, ap (λ (e : Entry). length (premise_kinds e)) he, length-map t.premises (λ (a : Added). t.kind)) in
          let counted : count ≡ length q.premises = omega (arith, hc, j.count) in
          let handed : Handed = record { rule = d.rule; principal = p; count = count; row = left ⊣ right; one = l₁ ⊣ r₁; two = l₂ ⊣ r₂ } in
          let iff = row_seen j right-premises he InstanceOf _ (l₁ ⊣ r₁) (l₂ ⊣ r₂) (omega (arith, length-map t.premises (λ (a : Added). t.kind)))
          (principal_decoded named.0 p named.1 is.0) first_sides second_sides in
          let same : seen b.nodes (map (λ (a : Added). t.kind) t.premises) (l₁ ⊣ r₁) (l₂ ⊣ r₂)
          ≡ map (sequent_with b.nodes t.kind) (take count ((l₁ ⊣ r₁) ∷ (l₂ ⊣ r₂) ∷ [])) =
          seen_alike b.nodes t.kind t.premises (l₁ ⊣ r₁) (l₂ ⊣ r₂) few
          ∙ ap (λ (n : ℕ). map (sequent_with b.nodes t.kind) (take n ((l₁ ⊣ r₁) ∷ (l₂ ⊣ r₂) ∷ []))) (sym (counted ∙ many)) in
          let F = decoded_at b.nodes p in
          let s = sequent_with b.nodes t.kind (left ⊣ right) in
          let body : OfBody b q.rule t formulas handed =
          record {
            held = j.formulas_held;
            code = j.rule;
            rule = he;
            count = counted ∙ many;
            principal = is.1;
            row = record { left = j.left_sided.known; right = j.right_sided.known };
            one = λ h. record { left = (l₁_sided (omega arith)).known; right = (r₁_sided (omega arith)).known };
            two = λ h. record { left = (l₂_sided (omega arith)).known; right = (r₂_sided (omega arith)).known };
          } in
          let rise : SidesRise handed =
          record {
            left = (j.left_sided.rising, all_rise count l₁ l₂ (omega arith) (λ h. (l₁_sided (omega arith)).rising) (λ h. (l₂_sided (omega arith)).rising));
            right = (j.right_sided.rising, all_rise count r₁ r₂ (omega arith) (λ h. (r₁_sided (omega arith)).rising) (λ h. (r₂_sided (omega arith)).rising));
          } in
          decides_iff (
            λ x. iff.1 (subst (λ (ps : List Sequent). SchemaInstance t F ps s) (sym same) x),
            λ x. subst (λ (ps : List Sequent). SchemaInstance t F ps s) same (iff.0 x),
          )
          (decided (answer.instances b q.rule t body) rise)
