-- The text of one row: a line of another kind is no row, and a text is read as its one complete line. Assumes nothing.
use Prim.Native.Nat.{ℕ, suc, ◌+◌, ◌-◌, ◌≤◌, ◌<◌}
use native.Mathlib.Nat.{sub-zero}
use native.Mathlib.Omega.{arith}
use mathlib.Core.Path.{◌≡◌, refl, sym, ap, subst, ◌∙◌}
use mathlib.Core.Bool.{Bool, true, false, cond, false≢true}
use mathlib.Core.List.{List, [], ◌∷◌}
use mathlib.Core.Option.{Option, none, some}
use lib.Dec.{eqb, ltb}
use lib.ListN.{length, get_or, take, drop, drop_of_length-le}
use lib.Seq.{drop-cons}
use borrow.Author.Tests.{ltb-true, ltb-false}
use Rattle.format.specs.Text.{Bytes, bytes, ◌<$>◌, ◌<*>◌, only_if, is, parts_at, line_feed, all_but_last, lines_of, fields_of, number_of, side_of}
use Rattle.format.specs.File.{Node, Body}
use Rattle.format.specs.Line.{
  Line,
  atom_line,
  formula_line,
  model_line,
  claim_line,
  node_of,
  field_at,
  atom_fields,
  formula_fields,
  row_fields,
  model_fields,
  claim_fields,
  of_kind,
  line_of,
}
use Rattle.format.specs.Judged.{refused}
use Rattle.format.proofs.Booleans.{same_list_lem}
use Rattle.format.proofs.Stepping.{parts_some}
use Rattle.parts.specs.Parts.{next_at, Fielded, FieldPart, field_by}
use Rattle.parts.specs.declared.Fields.{Fields}
use Rattle.parts.proofs.PartLaws.{next_bounds, last_part_lem, next_part}
use Rattle.std.specs.Prelude.{Option as Answer, None}
use Rattle.std.proofs.lemmas.Option.{none-some}
use Rattle.drafts.specs.Drafts.{RowInto, whole_of}
use Rattle.drafts.specs.declared.RowFields.{RowFields}
use Rattle.drafts.specs.declared.RowRead.{RowRead}
use Rattle.lines.proofs.LineLaws.{line_no_row}
use Rattle.lines.proofs.RowFields.{row_unread, row_found}
use Rattle.open.specs.Adding.{said_in, only_line, with_line}
use Rattle.bodies.specs.Walk.{and_then}
use Rattle.adding.specs.Reading.{SaidRead}

-- ---- lines of another kind

module _ (b : Body) where
  other_if : (x : Bool) (o : Option Line) → with_line o b ≡ refused 3 1 → with_line (only_if x o) b ≡ refused 3 1
  other_if true o e = e
  other_if false o e = refl

  other_atom : (o : Option ℕ) (name : Bytes) → with_line ((λ n. atom_line n name) <$> o) b ≡ refused 3 1
  other_atom none name = refl
  other_atom (some n) name = refl

  other_formula : (o : Option ℕ) (p : Option Node) → with_line ((λ n node. formula_line n node) <$> o <*> p) b ≡ refused 3 1
  other_formula none p = refl
  other_formula (some n) none = refl
  other_formula (some n) (some m) = refl

  other_model : (o : Option (List ℕ)) → with_line ((λ atoms. model_line atoms) <$> o) b ≡ refused 3 1
  other_model none = refl
  other_model (some ps) = refl

  other_claim : (o p : Option (List ℕ)) → with_line ((λ l r. claim_line l r) <$> o <*> p) b ≡ refused 3 1
  other_claim none p = refl
  other_claim (some l) none = refl
  other_claim (some l) (some r) = refl

  atoms_other : (fs : List Bytes) → with_line (atom_fields fs) b ≡ refused 3 1
  unfolding atom_fields
  atoms_other fs =
      other_if (eqb (length fs) 2) ((λ n. atom_line n (field_at fs 1)) <$> number_of (field_at fs 0)) (other_atom (number_of (field_at fs 0)) (field_at fs 1))

  formulas_other : (fs : List Bytes) → with_line (formula_fields fs) b ≡ refused 3 1
  unfolding formula_fields
  formulas_other fs =
      let node = node_of (field_at fs 1) (field_at fs 2) (field_at fs 3) in
      other_if (eqb (length fs) 4) ((λ n m. formula_line n m) <$> number_of (field_at fs 0) <*> node) (other_formula (number_of (field_at fs 0)) node)

  models_other : (fs : List Bytes) → with_line (model_fields fs) b ≡ refused 3 1
  unfolding model_fields
  models_other fs = other_if (eqb (length fs) 1) ((λ atoms. model_line atoms) <$> side_of (field_at fs 0)) (other_model (side_of (field_at fs 0)))

  claims_other : (fs : List Bytes) → with_line (claim_fields fs) b ≡ refused 3 1
  unfolding claim_fields
  claims_other fs =
      other_if (eqb (length fs) 2) ((λ l r. claim_line l r) <$> side_of (field_at fs 0) <*> side_of (field_at fs 1))
      (other_claim (side_of (field_at fs 0)) (side_of (field_at fs 1)))

  other_fields : (fs : List Bytes) → is "N" (get_or fs 0 []) ≡ false → with_line (of_kind fs) b ≡ refused 3 1
  other_fields [] e = refl
  other_fields (kind ∷ fs) e = cases (is "A" kind) (is "F" kind) (is "N" kind) (is "M" kind) (is "C" kind) e
    where
      cases : (x y z u v : Bool) → z ≡ false
          → with_line (cond x (atom_fields fs) (cond y (formula_fields fs) (cond z (row_fields fs) (cond u (model_fields fs) (cond v (claim_fields fs) none))))) b
          ≡ refused 3 1
      cases true y z u v k = atoms_other fs
      cases false true z u v k = formulas_other fs
      cases false false true u v k = absurd (false≢true (sym k))
      cases false false false true v k = models_other fs
      cases false false false false true k = claims_other fs
      cases false false false false false k = refl

  pub other_line : (line : Bytes) → is "N" (get_or (fields_of line) 0 []) ≡ false → with_line (line_of line) b ≡ refused 3 1
  unfolding line_of
  other_line line e = other_fields (fields_of line) e

-- ---- what is said, and what was read

-- no row was read where none is written
module _ (premises left right : List ℕ) where
  pub none_said : (said : Option Line) → ((b : Body) → with_line said b ≡ refused 3 1) → SaidRead said premises left right premises left right None
  none_said said other = record { other = λ _ b. other b; found = λ row read. absurd (none-some row read) }

module _ (line : Bytes) (fields : Fields) (fielded : Fielded line fields) (first : Bytes) (part : FieldPart line fields 0 first) where
  kind_field : first ≡ get_or (fields_of line) 0 []
  kind_field = part.field fielded (omega arith)

  pub other_kind : is "N" first ≡ false → (b : Body) → with_line (line_of line) b ≡ refused 3 1
  other_kind e b = other_line b line (sym (ap (is "N") kind_field) ∙ e)

  module _ (e : is "N" first ≡ true) where
    of_kind_lem : get_or (fields_of line) 0 [] ≡ bytes "N"
    of_kind_lem = sym kind_field ∙ same_list_lem first (bytes "N") e

    pub miscounted : (fields.count ≡ 7 → ⊥) → (b : Body) → with_line (line_of line) b ≡ refused 3 1
    miscounted ne b = ap (λ (o : Option Line). with_line o b) (line_no_row line of_kind_lem (λ h. ne (fielded.counted ∙ h)))

    pub row_said : fields.count ≡ 7 → {premises left right premises' left' right' : List ℕ} {six : RowFields}
        → RowInto (field_by line fields) premises left right premises' left' right' six → {read : Answer RowRead} → read ≡ whole_of six
        → SaidRead (line_of line) premises left right premises' left' right' read
    row_said counted into is_whole =
        record {
          other = λ bad b. ap (λ (o : Option Line). with_line o b) (row_unread line of_kind_lem fields fielded counted into is_whole bad);
          found = λ row is. row_found line of_kind_lem fields fielded counted into is_whole is;
        }

-- ---- the one line of a text

module _ (text : Bytes) where
  abbrev end : ℕ
  end = next_at line_feed text 0

  said_by_lem : (parts : List Bytes) → parts_at line_feed text ≡ parts
      → said_in text ≡ and_then (only_line (all_but_last parts).complete (all_but_last parts).rest) line_of
  unfolding said_in lines_of
  said_by_lem parts e = ap (λ (ps : List Bytes). and_then (only_line (all_but_last ps).complete (all_but_last ps).rest) line_of) e

  pub no_line : length text ≤ end → said_in text ≡ none
  no_line h = said_by_lem (text ∷ []) (last_part_lem line_feed text 0 (omega arith) (omega (arith, h, (next_bounds line_feed text 0 (omega arith)).1)))

  module _ (inside : end < length text) where
    first_line : parts_at line_feed text ≡ take end text ∷ parts_at line_feed (drop (end + 1) text)
    first_line =
        next_part line_feed text 0 (omega arith) inside
        ∙ ap (λ (k : ℕ). take k text ∷ parts_at line_feed (drop (end + 1) text)) (sub-zero end)

    pub one_line : end + 1 ≡ length text → said_in text ≡ line_of (take end text)
    unfolding parts_at
    one_line e =
        let past : length text ≤ end + 1 = omega (arith, e) in
        said_by_lem (take end text ∷ [] ∷ [])
        (first_line ∙ ap (λ (rest : Bytes). take end text ∷ parts_at line_feed rest) (drop_of_length-le text past))

    pub more_text : (end + 1 ≡ length text → ⊥) → said_in text ≡ none
    more_text ne = cases (ltb (next_at line_feed text (end + 1)) (length text)) refl
      where
        rest_inside : end + 1 < length text
        rest_inside = omega (arith, ne)

        cases : (x : Bool) → ltb (next_at line_feed text (end + 1)) (length text) ≡ x → said_in text ≡ none
        cases false e =
            let ends : next_at line_feed text (end + 1) ≡ length text =
            omega (arith, ltb-false (next_at line_feed text (end + 1)) (length text) e, (next_bounds line_feed text (end + 1) (omega (arith, rest_inside))).1) in
            let rest = last_part_lem line_feed text (end + 1) (omega (arith, rest_inside)) ends in
            let cons = drop-cons text (end + 1) 0 rest_inside in
            said_by_lem (take end text ∷ (get_or text (end + 1) 0 ∷ drop (suc (end + 1)) text) ∷ [])
            (first_line ∙ ap (λ (ps : List Bytes). take end text ∷ ps) (rest ∙ ap (λ (bs : Bytes). bs ∷ []) cons))
        cases true e =
            let second = next_part line_feed text (end + 1) (omega (arith, rest_inside)) (ltb-true _ _ e) in
            let last = parts_some line_feed (drop (next_at line_feed text (end + 1) + 1) text) in
            said_by_lem (take end text ∷ take (next_at line_feed text (end + 1) - (end + 1)) (drop (end + 1) text) ∷ last.0 ∷ last.1)
            (first_line ∙ ap (λ (ps : List Bytes). take end text ∷ ps)
            (second ∙ ap (λ (ps : List Bytes). take (next_at line_feed text (end + 1) - (end + 1)) (drop (end + 1) text) ∷ ps) last.2))

-- the same reading of what is said in other words
pub said_same : {said said' : Option Line} {premises left right premises' left' right' : List ℕ} {read : Answer RowRead} → said' ≡ said
    → SaidRead said premises left right premises' left' right' read → SaidRead said' premises left right premises' left' right' read
said_same {premises = premises} {left} {right} {premises'} {left'} {right'} {read} e s =
    subst (λ (o : Option Line). SaidRead o premises left right premises' left' right' read) (sym e) s
