-- The last row by tables that begin with the rows of a body. Assumes nothing.
use Prim.Native.Nat.{ℕ, zero, suc, ◌-◌}
use native.Mathlib.Decide.{ℕ_discrete}
use native.Mathlib.Omega.{arith}
use mathlib.Core.Path.{◌≡◌, refl, sym, ap, ap₂, ◌∙◌}
use mathlib.Core.Bool.{Bool, true, false, not, ◌&&◌}
use mathlib.Core.List.{List, [], ◌∷◌}
use mathlib.Core.Option.{none}
use lib.Dec.{eqb, lit<}
use lib.ListN.{length, get_or}
use borrow.Author.Tests.{eq-eqb, ne_eqb}
use Rattle.elk.specs.Sequent.{Kind, elk, refutation}
use Rattle.elk.specs.Rules.{Rule, entry, kind_of}
use Rattle.format.specs.Text.{same_list}
use Rattle.format.specs.File.{Row}
use Rattle.format.specs.Tables.{Side, fetched, row_at}
use Rattle.format.specs.Tests.{same_kind, last_is}
use Rattle.rules.specs.RuleTable.{kind_number, rule_number}
use Rattle.rules.proofs.RuleNumbers.{rule_number_lem}
use Rattle.tables.specs.Holding.{HoldsRows}
use Rattle.tables.specs.Records.{row_from}
use Rattle.tables.proofs.Encoded.{rule_held, side_held}
use Rattle.rows.specs.Last.{elk_row, last_by, LastIs}

abbrev row_is : Row → List ℕ → List ℕ → Bool
row_is q left right = same_kind (kind_of (entry q.rule)) elk && same_list q.left left && same_list q.right right

last_at : (rows : List Row) (d : Row) (n : ℕ) (left right : List ℕ) → length rows ≡ suc n → last_is rows left right ≡ row_is (get_or rows n d) left right
last_at [] d n left right e = absurd (omega arith)
last_at (q ∷ []) d zero left right e = refl
last_at (q ∷ []) d (suc n) left right e = absurd (omega arith)
last_at (q ∷ p ∷ ps) d zero left right e = absurd (omega arith)
last_at (q ∷ p ∷ ps) d (suc n) left right e = last_at (p ∷ ps) d n left right (omega arith)

kind_test : (k : Kind) → same_kind k elk ≡ eqb (kind_number k) 0
kind_test elk = refl
kind_test refutation = refl

no_row : Row
no_row = record { rule = Rule.def; principal = none; premises = []; left = []; right = [] }

module _ (rows lefts rights : List ℕ) where
  -- the kind of a row's rule, by its record
  abbrev kind_at : ℕ → ℕ
  kind_at n = rule_number (row_from (row_at rows n)).rule 1

  module _ (count : ℕ) (left right : List ℕ) where
    pub none_last : count ≡ 0 → last_by rows lefts rights count left right ≡ false
    unfolding last_by
    none_last e = ap (λ (b : Bool). not b && elk_row rows lefts rights (count - 1) left right) (eq-eqb count 0 e)

    some_last : (count ≡ 0 → ⊥) → last_by rows lefts rights count left right ≡ elk_row rows lefts rights (count - 1) left right
    unfolding last_by
    some_last h = ap (λ (b : Bool). not b && elk_row rows lefts rights (count - 1) left right) (ne_eqb count 0 h)

    module _ (some-row : count ≡ 0 → ⊥) (kind : ℕ) (told : kind ≡ kind_at (count - 1)) where
      pub last_refutes : (kind ≡ 0 → ⊥) → last_by rows lefts rights count left right ≡ false
      last_refutes h =
          some_last some-row
          ∙ ap
          (λ (b : Bool). b && same_list (fetched rows lefts rights Side.left (count - 1)) left
          && same_list (fetched rows lefts rights Side.right (count - 1)) right)
          (ne_eqb (kind_at (count - 1)) 0 (λ e. h (told ∙ e)))

      module _ (elk-row : kind ≡ 0) (l : List ℕ) (at_left : l ≡ fetched rows lefts rights Side.left (count - 1)) (t : Bool)
          (tested : t ≡ same_list l left) where
        by_left : last_by rows lefts rights count left right ≡ t && same_list (fetched rows lefts rights Side.right (count - 1)) right
        by_left =
            some_last some-row
            ∙ ap₂ (λ (a c : Bool). a && c && same_list (fetched rows lefts rights Side.right (count - 1)) right)
            (eq-eqb (kind_at (count - 1)) 0 (sym told ∙ elk-row)) (ap (λ (x : List ℕ). same_list x left) (sym at_left) ∙ sym tested)

        pub last_left : t ≡ false → last_by rows lefts rights count left right ≡ false
        last_left h = by_left ∙ ap (λ (a : Bool). a && same_list (fetched rows lefts rights Side.right (count - 1)) right) h

        pub last_right : t ≡ true → (r : List ℕ) → r ≡ fetched rows lefts rights Side.right (count - 1) → (u : Bool) → u ≡ same_list r right
            → last_by rows lefts rights count left right ≡ u
        last_right h r at_right u tested-right =
            by_left ∙ ap (λ (a : Bool). a && same_list (fetched rows lefts rights Side.right (count - 1)) right) h
            ∙ ap (λ (x : List ℕ). same_list x right) (sym at_right) ∙ sym tested-right

    -- by the rows that the tables begin with
    module _ (held : List Row) (holds : HoldsRows held rows lefts rights) (counted : count ≡ length held) where
      last_held : last_by rows lefts rights count left right ≡ last_is held left right
      last_held = either (ℕ_discrete count 0)
        where
          row_held : (n : ℕ) → length held ≡ suc n → elk_row rows lefts rights n left right ≡ row_is (get_or held n no_row) left right
          row_held n e =
              let rule = rule_held holds n no_row (omega arith) in
              let kind : kind_at n ≡ kind_number (kind_of (entry (get_or held n no_row).rule)) =
              ap (λ (k : ℕ). rule_number k 1) rule ∙ rule_number_lem (get_or held n no_row).rule 1 (lit< tt) in
              ap (λ (b : Bool). b && same_list (fetched rows lefts rights Side.left n) left && same_list (fetched rows lefts rights Side.right n) right)
              (ap (λ (k : ℕ). eqb k 0) kind ∙ sym (kind_test (kind_of (entry (get_or held n no_row).rule))))
              ∙ ap₂ (λ (l r : List ℕ). same_kind (kind_of (entry (get_or held n no_row).rule)) elk && same_list l left && same_list r right)
              (side_held holds n no_row (omega arith) Side.left) (side_held holds n no_row (omega arith) Side.right)

          no_row_lem : (rs : List Row) → length rs ≡ 0 → last_is rs left right ≡ false
          no_row_lem [] e = refl
          no_row_lem (q ∷ qs) e = absurd (omega arith)

          either : Dec (count ≡ 0) → last_by rows lefts rights count left right ≡ last_is held left right
          either (yes z) = none_last z ∙ sym (no_row_lem held (sym counted ∙ z))
          either (no n) =
              let more : length held ≡ suc (count - 1) = omega arith in
              some_last n ∙ row_held (count - 1) more ∙ sym (last_at held no_row (count - 1) left right more)

    pub last_told : {r : Bool} → last_by rows lefts rights count left right ≡ r → LastIs rows lefts rights count left right r
    last_told e = record { answer = sym e; held = λ held holds counted. sym e ∙ last_held held holds counted }
