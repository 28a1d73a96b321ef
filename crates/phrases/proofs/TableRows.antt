-- The words of a row's parts, as tables tell them.
use Prim.Native.Nat.{ℕ, ◌+◌, ◌≤◌, ◌<◌}
use mathlib.Core.Bool.{Bool, cond}
use mathlib.Core.List.{List, [], ◌∷◌, ◌++◌, append-nil, append_assoc}
use mathlib.Core.Option.{none, some}
use mathlib.Core.Path.{◌≡◌, refl, sym, ap, ◌∙◌}
use borrow.Author.Tests.{eq-eqb, ne_eqb}
use lib.Dec.{eqb}
use lib.ListN.{length, get_or, drop}
use Rattle.elk.specs.Sequent.{Kind}
use Rattle.format.specs.Text.{Bytes, bytes, ◌<$>◌}
use Rattle.format.specs.Tables.{Side, absent}
use Rattle.format.specs.Written.{decimal}
use Rattle.words.specs.Words.{formula_words, items, listing, principal_words, premise_words, empty_side, side_opening}
use Rattle.words.proofs.Unrolled.{items_first, items_end, listing_none, listing_map}
use Rattle.phrases.specs.Formulas.{table_formula}
use Rattle.phrases.specs.Rows.{premises_from, table_principal, table_side}

-- ---- the principal formula

module _ (text : Bytes) (names formulas : List ℕ) (principal : ℕ) where
  principal_by : {t : Bool} → eqb principal absent ≡ t
      → table_principal text names formulas principal ≡ (table_formula text names formulas <$> cond t none (some principal))
  unfolding table_principal
  principal_by e = ap (λ (t : Bool). table_formula text names formulas <$> cond t none (some principal)) e

  pub no_principal : principal ≡ absent → principal_words (table_principal text names formulas principal) ≡ bytes "about no single formula"
  unfolding principal_words
  no_principal e = ap principal_words (principal_by (eq-eqb principal absent e))

  pub principal_words_lem : (principal ≡ absent → ⊥) → (i : ℕ) → i ≡ principal
      → principal_words (table_principal text names formulas principal) ≡ bytes "about the formula " ++ formula_words (table_formula text names formulas i)
  unfolding principal_words
  principal_words_lem n i e =
      ap principal_words (principal_by (ne_eqb principal absent n))
      ∙ ap (λ (words : Bytes). bytes "about the formula " ++ words)
      (append-nil (formula_words (table_formula text names formulas principal)) ∙ ap (λ (k : ℕ). formula_words (table_formula text names formulas k)) (sym e))

-- ---- the premises

module _ (first second : ℕ) where
  module _ {s t : Bool} (e : eqb first absent ≡ s) (f : eqb second absent ≡ t) where
    premises_by : premises_from first second ≡ cond s [] (cond t (first ∷ []) (first ∷ second ∷ []))
    unfolding premises_from
    premises_by =
        ap (λ (b : Bool). cond b [] (cond (eqb second absent) (first ∷ []) (first ∷ second ∷ []))) e
        ∙ ap (λ (b : Bool). cond s [] (cond b (first ∷ []) (first ∷ second ∷ []))) f

  pub no_premises : first ≡ absent → premise_words (premises_from first second) ≡ bytes "from no other row"
  unfolding listing
  no_premises e = ap premise_words (premises_by (eq-eqb first absent e) refl)

  module _ (held : first ≡ absent → ⊥) where
    pub one_premise : second ≡ absent → premise_words (premises_from first second) ≡ bytes "from row " ++ decimal first
    unfolding listing items
    one_premise e =
        ap premise_words (premises_by (ne_eqb first absent held) (eq-eqb second absent e))
        ∙ ap (λ (words : Bytes). bytes "from row " ++ words) (append-nil (decimal first))

    pub two_premises : (second ≡ absent → ⊥)
        → premise_words (premises_from first second) ≡ bytes "from row " ++ (decimal first ++ (bytes " and row " ++ decimal second))
    unfolding listing items
    two_premises n =
        ap premise_words (premises_by (ne_eqb first absent held) (ne_eqb second absent n))
        ∙ ap (λ (words : Bytes). bytes "from row " ++ (decimal first ++ (bytes " and row " ++ words))) (append-nil (decimal second))

-- ---- a side

module _ (text : Bytes) (names formulas : List ℕ) where
  abbrev words_of : ℕ → Bytes
  words_of i = formula_words (table_formula text names formulas i)

  -- the words of formulas, each after a comma
  unfoldable pub further : List ℕ → Bytes
  further rest = items ", " words_of rest

  pub further_first : (rest : List ℕ) (k i : ℕ) → k < length rest → i ≡ get_or rest k 0
      → further (drop k rest) ≡ (bytes ", " ++ words_of i) ++ further (drop (k + 1) rest)
  unfolding further
  further_first rest k i h e =
      items_first ", " words_of rest k 0 h
      ∙ ap (λ (j : ℕ). bytes ", " ++ (words_of j ++ items ", " words_of (drop (k + 1) rest))) (sym e)
      ∙ sym (append_assoc (bytes ", ") (words_of i) (items ", " words_of (drop (k + 1) rest)))

  pub further_end : (rest : List ℕ) (k : ℕ) → length rest ≤ k → further (drop k rest) ≡ []
  unfolding further
  further_end rest k h = items_end ", " words_of rest k h

  module _ (kind : Kind) (side : Side) where
    by_numbers : (numbers : List ℕ)
        → table_side text names formulas kind side numbers ≡ listing (empty_side kind side) (side_opening kind side) ", " words_of numbers
    unfolding table_side
    by_numbers numbers = listing_map (empty_side kind side) (side_opening kind side) ", " formula_words (table_formula text names formulas) numbers

    pub side_empty : (numbers : List ℕ) → length numbers ≡ 0 → table_side text names formulas kind side numbers ≡ bytes (empty_side kind side)
    side_empty numbers e = by_numbers numbers ∙ listing_none (empty_side kind side) (side_opening kind side) ", " words_of numbers e

    -- a first formula, and the others
    pub side_first : (numbers rest : List ℕ) (x i : ℕ) → numbers ≡ x ∷ rest → i ≡ x
        → table_side text names formulas kind side numbers ≡ bytes (side_opening kind side) ++ (words_of i ++ further rest)
    unfolding further listing
    side_first numbers rest x i e f =
        by_numbers numbers
        ∙ ap (listing (empty_side kind side) (side_opening kind side) ", " words_of) e
        ∙ ap (λ (j : ℕ). bytes (side_opening kind side) ++ (words_of j ++ items ", " words_of rest)) (sym f)
