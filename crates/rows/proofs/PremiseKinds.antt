-- The number and the kinds of a row's premises, and its principal formula, compared as numbers: what each test says of
-- `wrong_premises`.
use Prim.Native.Nat.{ℕ, suc, ◌<◌}
use native.Mathlib.Omega.{arith}
use mathlib.Core.Bool.{Bool, true, false, not, ◌&&◌, ◌||◌, or-true, and-false}
use mathlib.Core.List.{List, [], ◌∷◌, ◌++◌, map}
use mathlib.Core.Option.{Option, none, some}
use mathlib.Core.Path.{◌≡◌, refl, sym, ap, ap₂, ◌∙◌}
use borrow.Author.Tests.{eqb-true, eqb-false}
use lib.Dec.{eqb}
use mir.Val.{bool_byte}
use Rattle.std.specs.Prelude.{Option as Given, None, Some}
use Rattle.std.specs.Option.{is_some}
use lib.ListN.{length, get_or, length-map, get_or-map}
use Rattle.elk.specs.Sequent.{Kind, elk, refutation}
use Rattle.elk.specs.Rules.{Rule, entry, kind_of, has_principal, premise_kinds}
use Rattle.format.specs.File.{Row, Body, sequent_of}
use Rattle.format.specs.Tables.{absent, row_at}
use Rattle.format.specs.Tests.{same_kind, same_kinds, present, same_truth, premises_of, wrong_premises}
use Rattle.format.proofs.GoodBodies.{in_get_d}
use Rattle.text.specs.Numbers.{number_as}
use Rattle.tables.specs.Records.{row_from}
use Rattle.tables.proofs.Encoded.{rule_held}
use Rattle.rules.specs.RuleTable.{kind_number, kind_numbers, truth_number, rule_numbers, rule_number}
use Rattle.rules.proofs.RuleNumbers.{rule_number_lem}
use Rattle.schema.proofs.SchemaRule.{two_at_most}
use Rattle.rows.specs.Judging.{named_of, Judging}
use Rattle.drafts.specs.declared.Draft.{Draft}

-- whether a principal formula was read, as a number
pub named_by : (p : Given ℕ) {t : Bool} {n : ℕ} → t ≡ is_some p → n ≡ bool_byte t → n ≡ named_of p
named_by None e f = f ∙ ap bool_byte e
named_by (Some i) e f = f ∙ ap bool_byte e

-- an answer that is whether two numbers differ
pub by_number : (x y : ℕ) {w : Bool} → ((x ≡ y → ⊥) → true ≡ w) → (x ≡ y → false ≡ w) → not (eqb x y) ≡ w
by_number x y {w} differ same = by (eqb x y) refl
  where
    by : (t : Bool) → eqb x y ≡ t → not t ≡ w
    by true e = same (eqb-true x y e)
    by false e = differ (eqb-false x y e)

-- the kinds of the premises
abbrev pub kinds_of : Body → Row → List Kind
kinds_of b q = map (λ s. s.kind) (premises_of b q)

kind_same : (j k : Kind) → kind_number j ≡ kind_number k → same_kind j k ≡ true
kind_same elk elk e = refl
kind_same elk refutation e = absurd (omega arith)
kind_same refutation elk e = absurd (omega arith)
kind_same refutation refutation e = refl

kind_differs : (j k : Kind) → (kind_number j ≡ kind_number k → ⊥) → same_kind j k ≡ false
kind_differs elk elk n = absurd (n refl)
kind_differs elk refutation n = refl
kind_differs refutation elk n = refl
kind_differs refutation refutation n = absurd (n refl)

-- the kind asked at a place, as the rule table has it
abbrev pub kind_asked : List Kind → ℕ → ℕ
kind_asked ks k = get_or (kind_numbers ks) k 0

-- kinds compared place by place; d stands past their end
module _ (d : Kind) where
  abbrev pub kind_had : List Kind → ℕ → ℕ
  kind_had js k = kind_number (get_or js k d)

  count_differs : (js ks : List Kind) → (length js ≡ length ks → ⊥) → same_kinds js ks ≡ false
  count_differs [] [] n = absurd (n refl)
  count_differs [] (k ∷ ks) n = refl
  count_differs (j ∷ js) [] n = refl
  count_differs (j ∷ js) (k ∷ ks) n = ap (λ (t : Bool). same_kind j k && t) (count_differs js ks (λ e. n (ap suc e))) ∙ and-false (same_kind j k)

  none_asked : (js ks : List Kind) → length js ≡ length ks → length ks ≡ 0 → same_kinds js ks ≡ true
  none_asked [] [] e f = refl
  none_asked js (k ∷ ks) e f = absurd (omega arith)
  none_asked (j ∷ js) [] e f = absurd (omega arith)

  first_differs : (js ks : List Kind) → length js ≡ length ks → (length ks ≡ 0 → ⊥) → (kind_had js 0 ≡ kind_asked ks 0 → ⊥) → same_kinds js ks ≡ false
  first_differs js [] e m n = absurd (m refl)
  first_differs [] (k ∷ ks) e m n = absurd (omega arith)
  first_differs (j ∷ js) (k ∷ []) e m n = ap (λ (t : Bool). t && same_kinds js []) (kind_differs j k n)
  first_differs (j ∷ js) (k ∷ l ∷ ls) e m n = ap (λ (t : Bool). t && same_kinds js (l ∷ ls)) (kind_differs j k n)

  one_same : (js ks : List Kind) → length js ≡ length ks → length ks ≡ 1 → kind_had js 0 ≡ kind_asked ks 0 → same_kinds js ks ≡ true
  one_same js [] e f s = absurd (omega arith)
  one_same js (k ∷ l ∷ ls) e f s = absurd (omega arith)
  one_same [] (k ∷ []) e f s = absurd (omega arith)
  one_same (j ∷ i ∷ is) (k ∷ []) e f s = absurd (omega arith)
  one_same (j ∷ []) (k ∷ []) e f s = ap (λ (t : Bool). t && true) (kind_same j k s)

  two_same : (js ks : List Kind) → length js ≡ length ks → length ks ≡ 2
      → kind_had js 0 ≡ kind_asked ks 0 → kind_had js 1 ≡ kind_asked ks 1 → same_kinds js ks ≡ true
  two_same js [] e f s t = absurd (omega arith)
  two_same [] (k ∷ ks) e f s t = absurd (omega arith)
  two_same (j ∷ js) (k ∷ []) e f s t = absurd (omega arith)
  two_same (j ∷ js) (k ∷ l ∷ ls) e f s t = ap (λ (u : Bool). u && same_kinds js (l ∷ ls)) (kind_same j k s) ∙ second js ls (omega arith) (omega arith) t
    where
      second : (js ls : List Kind) → length js ≡ 1 → length ls ≡ 0 → kind_had js 0 ≡ kind_number l → same_kinds js (l ∷ ls) ≡ true
      second (j ∷ []) [] e f t = ap (λ (u : Bool). u && true) (kind_same j l t)
      second [] ls e f t = absurd (omega arith)
      second (j ∷ i ∷ is) ls e f t = absurd (omega arith)
      second (j ∷ []) (m ∷ ms) e f t = absurd (omega arith)

  second_differs : (js ks : List Kind) → length js ≡ length ks → length ks ≡ 2 → (kind_had js 1 ≡ kind_asked ks 1 → ⊥) → same_kinds js ks ≡ false
  second_differs js [] e f n = absurd (omega arith)
  second_differs js (k ∷ []) e f n = absurd (omega arith)
  second_differs [] (k ∷ l ∷ ls) e f n = absurd (omega arith)
  second_differs (j ∷ []) (k ∷ l ∷ ls) e f n = absurd (omega arith)
  second_differs (j ∷ i ∷ is) (k ∷ l ∷ ls) e f n = ap (λ (t : Bool). same_kind j k && (t && same_kinds is ls)) (kind_differs i l n) ∙ and-false (same_kind j k)

-- the numbers of the kinds in the table
kind_numbers_lem : (ks : List Kind) (rest : List ℕ) → (get_or (kind_numbers ks ++ rest) 0 0 ≡ kind_asked ks 0) × (get_or (kind_numbers ks ++ rest) 1 0 ≡ kind_asked ks 1)
kind_numbers_lem [] rest = (refl, refl)
kind_numbers_lem (k ∷ []) rest = (refl, refl)
kind_numbers_lem (k ∷ j ∷ js) rest = (refl, refl)

pub asked_first : (s : Rule) → get_or (rule_numbers s) 4 0 ≡ kind_asked (premise_kinds (entry s)) 0
asked_first s = (kind_numbers_lem (premise_kinds (entry s)) _).0

pub asked_second : (s : Rule) → get_or (rule_numbers s) 5 0 ≡ kind_asked (premise_kinds (entry s)) 1
asked_second s = (kind_numbers_lem (premise_kinds (entry s)) _).1

truth_same : (t u : Bool) → truth_number t ≡ truth_number u → same_truth t u ≡ true
truth_same true true e = refl
truth_same true false e = absurd (omega arith)
truth_same false true e = absurd (omega arith)
truth_same false false e = refl

truth_differs : (t u : Bool) → (truth_number t ≡ truth_number u → ⊥) → same_truth t u ≡ false
truth_differs true true n = absurd (n refl)
truth_differs true false n = refl
truth_differs false true n = refl
truth_differs false false n = absurd (n refl)

-- the row that premise k names
abbrev pub premise_row : Body → Row → ℕ → Row
premise_row b q k = get_or b.rows (get_or q.premises k absent) q

-- the numbers of a row's rule, and of a row of the body
module _ {b : Body} {q : Row} {formulas notes rows left_pool right_pool left right : List ℕ} {d : Draft}
    (j : Judging b q formulas notes rows left_pool right_pool d left right) where
  pub asked_number : (at : ℕ) → at < 18 → rule_number d.rule at ≡ get_or (rule_numbers q.rule) at 0
  asked_number at h = ap (λ (code : ℕ). rule_number code at) (sym j.rule) ∙ rule_number_lem q.rule at h

  pub named_principal : named_of d.principal ≡ truth_number (present q.principal)
  named_principal = ap named_of j.principal ∙ named q.principal
    where
      named : (p : Option ℕ) → named_of (number_as p) ≡ truth_number (present p)
      named none = refl
      named (some i) = refl

  pub premise_earlier : (k : ℕ) → k < length q.premises → get_or q.premises k absent < length b.rows
  premise_earlier k h = j.premises_earlier (get_or q.premises k absent) (in_get_d q.premises k absent h)

  pub premise_kind_lem : (k i : ℕ) → k < length q.premises → get_or q.premises k absent ≡ i
      → rule_number (row_from (row_at rows i)).rule 1 ≡ kind_number (kind_of (entry (premise_row b q k).rule))
  premise_kind_lem k i h e =
      ap (λ (n : ℕ). rule_number (row_from (row_at rows n)).rule 1) (sym e)
      ∙ ap (λ (code : ℕ). rule_number code 1) (rule_held j.rows_held (get_or q.premises k absent) q (premise_earlier k h))
      ∙ rule_number_lem (premise_row b q k).rule 1 (omega arith)

-- the number of the kind of premise k
abbrev pub premise_kind : Body → Row → ℕ → ℕ
premise_kind b q k = kind_number (kind_of (entry (premise_row b q k).rule))

module _ (b : Body) (q : Row) where
  asked : List Kind
  asked = premise_kinds (entry q.rule)

  pub principal_differs : (truth_number (present q.principal) ≡ truth_number (has_principal (entry q.rule)) → ⊥) → wrong_premises b q ≡ true
  unfolding wrong_premises
  principal_differs n =
      ap (λ (t : Bool). not t || not (same_kinds (kinds_of b q) (premise_kinds (entry q.rule))))
      (truth_differs (present q.principal) (has_principal (entry q.rule)) n)

  kinds_differ : same_kinds (kinds_of b q) asked ≡ false → wrong_premises b q ≡ true
  unfolding wrong_premises asked
  kinds_differ e =
      ap (λ (t : Bool). not (same_truth (present q.principal) (has_principal (entry q.rule))) || not t) e
      ∙ or-true (not (same_truth (present q.principal) (has_principal (entry q.rule))))

  kinds_same : truth_number (present q.principal) ≡ truth_number (has_principal (entry q.rule))
      → same_kinds (kinds_of b q) asked ≡ true → wrong_premises b q ≡ false
  unfolding wrong_premises asked
  kinds_same t e = ap₂ (λ (t u : Bool). not t || not u) (truth_same (present q.principal) (has_principal (entry q.rule)) t) e

  -- the kind of premise k, by its number
  past : Kind
  past = (sequent_of b.nodes (get_or b.rows absent q)).kind

  had : (k : ℕ) → premise_kind b q k ≡ kind_had past (kinds_of b q) k
  unfolding past
  had k = ap kind_number (sym (get_or-map (λ s. s.kind) (premises_of b q) k (sequent_of b.nodes (get_or b.rows absent q))
      ∙ ap (λ s. s.kind) (get_or-map (λ i. sequent_of b.nodes (get_or b.rows i q)) q.premises k absent)))

  pub counted : length (kinds_of b q) ≡ length q.premises
  counted = length-map (premises_of b q) (λ s. s.kind) ∙ length-map q.premises (λ i. sequent_of b.nodes (get_or b.rows i q))

  module _ (count : length q.premises ≡ length (premise_kinds (entry q.rule))) where
    pub wrong_first : (length (premise_kinds (entry q.rule)) ≡ 0 → ⊥)
        → (premise_kind b q 0 ≡ kind_asked (premise_kinds (entry q.rule)) 0 → ⊥) → wrong_premises b q ≡ true
    unfolding asked
    wrong_first m n = kinds_differ (first_differs past (kinds_of b q) asked (counted ∙ count) m (λ e. n (had 0 ∙ e)))

    pub wrong_second : length (premise_kinds (entry q.rule)) ≡ 2
        → (premise_kind b q 1 ≡ kind_asked (premise_kinds (entry q.rule)) 1 → ⊥) → wrong_premises b q ≡ true
    unfolding asked
    wrong_second m n = kinds_differ (second_differs past (kinds_of b q) asked (counted ∙ count) m (λ e. n (had 1 ∙ e)))

    module _ (named : truth_number (present q.principal) ≡ truth_number (has_principal (entry q.rule))) where
      pub right_none : length (premise_kinds (entry q.rule)) ≡ 0 → wrong_premises b q ≡ false
      unfolding asked
      right_none m = kinds_same named (none_asked past (kinds_of b q) asked (counted ∙ count) m)

      module _ (first : premise_kind b q 0 ≡ kind_asked (premise_kinds (entry q.rule)) 0) where
        pub right_one : length (premise_kinds (entry q.rule)) ≡ 1 → wrong_premises b q ≡ false
        unfolding asked
        right_one m = kinds_same named (one_same past (kinds_of b q) asked (counted ∙ count) m (sym (had 0) ∙ first))

        pub right_two : length (premise_kinds (entry q.rule)) ≡ 2 → premise_kind b q 1 ≡ kind_asked (premise_kinds (entry q.rule)) 1
            → wrong_premises b q ≡ false
        unfolding asked
        right_two m second = kinds_same named (two_same past (kinds_of b q) asked (counted ∙ count) m (sym (had 0) ∙ first) (sym (had 1) ∙ second))

  pub wrong_count : (length q.premises ≡ length (premise_kinds (entry q.rule)) → ⊥) → wrong_premises b q ≡ true
  unfolding asked
  wrong_count n = kinds_differ (count_differs past (kinds_of b q) asked (λ e. n (sym counted ∙ e)))

-- number 10 by the numbers that are compared: the principal formula's, the count of premises, and the premises' kinds
module _ {b : Body} {q : Row} {formulas notes rows left_pool right_pool left right : List ℕ} {d : Draft}
    (j : Judging b q formulas notes rows left_pool right_pool d left right) where
  abbrev asks_for : List Kind
  asks_for = premise_kinds (entry q.rule)

  module _ (had asked : ℕ) (is-had : had ≡ named_of d.principal) (is-asked : asked ≡ rule_number d.rule 2) where
    principal_had : had ≡ truth_number (present q.principal)
    principal_had = is-had ∙ named_principal j

    principal_asked : asked ≡ truth_number (has_principal (entry q.rule))
    principal_asked = is-asked ∙ asked_number j 2 (omega arith)

    pub ten_principal : (had ≡ asked → ⊥) → true ≡ wrong_premises b q
    ten_principal n = sym (principal_differs b q (λ e. n (principal_had ∙ e ∙ sym principal_asked)))

    module _ (same : had ≡ asked) (count : ℕ) (is-count : count ≡ rule_number d.rule 3) where
      count_asked : count ≡ length asks_for
      count_asked = is-count ∙ asked_number j 3 (omega arith)

      named : truth_number (present q.principal) ≡ truth_number (has_principal (entry q.rule))
      named = sym principal_had ∙ same ∙ principal_asked

      pub ten_count : (d.premises.count ≡ count → ⊥) → true ≡ wrong_premises b q
      ten_count n = sym (wrong_count b q (λ e. n (omega (arith, j.count, e, count_asked, two_at_most q.rule))))

      module _ (counts : d.premises.count ≡ count) where
        as_many : length q.premises ≡ length asks_for
        as_many = omega (arith, j.count, counts, count_asked, two_at_most q.rule)

        pub none_wrong : count ≡ 0 → false ≡ wrong_premises b q
        none_wrong z = sym (right_none b q as_many named (sym count_asked ∙ z))

        module _ (some : count ≡ 0 → ⊥) (kind asked-kind : ℕ) (is-kind : kind ≡ rule_number (row_from (row_at rows d.first)).rule 1)
            (is-asked-kind : asked-kind ≡ rule_number d.rule 4) where
          first_had : kind ≡ premise_kind b q 0
          first_had = is-kind ∙ premise_kind_lem j 0 d.first (omega (arith, as_many, count_asked)) j.first_premise

          first_asked : asked-kind ≡ kind_asked asks_for 0
          first_asked = is-asked-kind ∙ asked_number j 4 (omega arith) ∙ asked_first q.rule

          pub ten_first : (kind ≡ asked-kind → ⊥) → true ≡ wrong_premises b q
          ten_first n = sym (wrong_first b q as_many (λ e. some (count_asked ∙ e)) (λ e. n (first_had ∙ e ∙ sym first_asked)))

          module _ (first_same : kind ≡ asked-kind) where
            first_right : premise_kind b q 0 ≡ kind_asked asks_for 0
            first_right = sym first_had ∙ first_same ∙ first_asked

            pub one_right : count ≡ 1 → false ≡ wrong_premises b q
            one_right e = sym (right_one b q as_many named first_right (sym count_asked ∙ e))

            module _ (more : count ≡ 1 → ⊥) (kind₂ asked-kind₂ : ℕ) (is-kind₂ : kind₂ ≡ rule_number (row_from (row_at rows d.second)).rule 1)
                (is-asked-kind₂ : asked-kind₂ ≡ rule_number d.rule 5) where
              two : length asks_for ≡ 2
              two = omega (arith, two_at_most q.rule, count_asked)

              second_had : kind₂ ≡ premise_kind b q 1
              second_had = is-kind₂ ∙ premise_kind_lem j 1 d.second (omega (arith, as_many, two)) j.second_premise

              second_asked : asked-kind₂ ≡ kind_asked asks_for 1
              second_asked = is-asked-kind₂ ∙ asked_number j 5 (omega arith) ∙ asked_second q.rule

              pub ten_second : (kind₂ ≡ asked-kind₂ → ⊥) → true ≡ wrong_premises b q
              ten_second n = sym (wrong_second b q as_many two (λ e. n (second_had ∙ e ∙ sym second_asked)))

              pub two_right : kind₂ ≡ asked-kind₂ → false ≡ wrong_premises b q
              two_right e = sym (right_two b q as_many named first_right two (sym second_had ∙ e ∙ second_asked))
