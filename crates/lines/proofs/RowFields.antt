-- N lines: their six fields together, and the draft of a row.
use Prim.Native.Nat.{ℕ, zero, suc, ◌%◌, ◌≤◌, ◌<◌}
use native.Mathlib.Omega.{arith}
use mathlib.Core.Path.{◌≡◌, refl, sym, ap, subst, ◌∙◌}
use mathlib.Core.List.Memᴰ
use mathlib.Core.List.{List, [], ◌∷◌}
use mathlib.Core.Option.{Option, none, some}
use lib.Dec.{lit<}
use lib.ListN.{length, get_or}
use Rattle.elk.specs.Rules.{Rule}
use Rattle.format.specs.Text.{Bytes, number_of, principal_of, premise_list_of, side_of}
use Rattle.format.specs.File.{Row}
use Rattle.format.specs.Line.{row_line, rule_of, make_row, line_of}
use Rattle.format.specs.Tables.{absent, most_on_side}
use Rattle.text.specs.Lists.{laid_over}
use Rattle.parts.specs.Parts.{Fielded, field_by}
use Rattle.parts.specs.declared.Fields.{Fields}
use Rattle.parts.proofs.PartLaws.{field_found}
use Rattle.std.specs.Prelude.{Option as Answer, None, Some}
use Rattle.std.proofs.lemmas.Option.{none-some, same_Some}
use Rattle.drafts.specs.declared.Draft.{Draft}
use Rattle.state.specs.Lined.{OfKind}
use Rattle.lines.proofs.LineLaws.{row_written, line_row, list_laid}
use Rattle.drafts.specs.Drafts.{Narrow, Drafted, read_as, whole_of, row_read, RowInto, draft_of, RowLaid}
use Rattle.drafts.specs.declared.RowFields.{RowFields}
use Rattle.drafts.specs.declared.RowRead.{RowRead}

-- ---- the fields

-- the row that well written fields write
pub record Written (number : Option ℕ) (rule : Option Rule) (principal : Option (Option ℕ)) (premises left right : Option (List ℕ)) (row : RowRead) : Type 0 where
  pub own : ℕ
  pub its : Row
  pub line : row_written number rule principal premises left right ≡ some (row_line own its)
  pub read : row ≡ row_read own its
  pub premises_listed : premises ≡ some its.premises
  pub left_listed : left ≡ some its.left
  pub right_listed : right ≡ some its.right

well_written : (number : Option ℕ) (rule : Option Rule) (principal : Option (Option ℕ)) (premises left right : Option (List ℕ)) (row : RowRead)
    → whole_of (read_as number rule principal premises left right) ≡ Some row → Written number rule principal premises left right row
well_written none rule principal premises left right row h = absurd (none-some row h)
well_written (some n) none principal premises left right row h = absurd (none-some row h)
well_written (some n) (some s) none premises left right row h = absurd (none-some row h)
well_written (some n) (some s) (some o) none left right row h = absurd (none-some row h)
well_written (some n) (some s) (some o) (some ps) none right row h = absurd (none-some row h)
well_written (some n) (some s) (some o) (some ps) (some ls) none row h = absurd (none-some row h)
well_written (some n) (some s) (some o) (some ps) (some ls) (some rs) row h =
    record {
      own = n;
      its = make_row s o ps ls rs;
      line = refl;
      read = sym (same_Some _ _ h);
      premises_listed = refl;
      left_listed = refl;
      right_listed = refl;
    }

badly_written : (number : Option ℕ) (rule : Option Rule) (principal : Option (Option ℕ)) (premises left right : Option (List ℕ))
    → whole_of (read_as number rule principal premises left right) ≡ None → row_written number rule principal premises left right ≡ none
badly_written none rule principal premises left right h = refl
badly_written (some n) none principal premises left right h = refl
badly_written (some n) (some s) none premises left right h = refl
badly_written (some n) (some s) (some o) none left right h = refl
badly_written (some n) (some s) (some o) (some ps) none right h = refl
badly_written (some n) (some s) (some o) (some ps) (some ls) none h = refl
badly_written (some n) (some s) (some o) (some ps) (some ls) (some rs) h = absurd (none-some (row_read n (make_row s o ps ls rs)) (sym h))

-- ---- lists as they were stored

-- a number there, where it lies inside
laid_at_lem : (xs was : List ℕ) (i : ℕ) → Narrow xs → i < length was → get_or (laid_over xs was) i 0 ≡ get_or xs i (get_or was i 0)
unfolding laid_over
laid_at_lem [] was i narrow room = refl
laid_at_lem (x ∷ xs) [] i narrow room = absurd (omega arith)
laid_at_lem (x ∷ xs) (o ∷ was) zero narrow room = omega (arith, narrow x (Memᴰ.head refl))
laid_at_lem (x ∷ xs) (o ∷ was) (suc i) narrow room = laid_at_lem xs was i (λ y m. narrow y (Memᴰ.tail m)) (omega arith)

-- ---- a line whose kind is N

module _ (line : Bytes) (kind : OfKind "N" line) (fields : Fields) (fielded : Fielded line fields) (counted : fields.count ≡ 7)
    {above l r above' l' r' : List ℕ} {read : RowFields} (i : RowInto (field_by line fields) above l r above' l' r' read)
    {answer : Answer RowRead} (is_whole : answer ≡ whole_of read) where
  abbrev own : Option ℕ
  own = number_of (field_by line fields 1)

  abbrev rule : Option Rule
  rule = rule_of (field_by line fields 2)

  abbrev principal : Option (Option ℕ)
  principal = principal_of (field_by line fields 3)

  abbrev premises : Option (List ℕ)
  premises = premise_list_of (field_by line fields 4)

  abbrev side_at_lem : ℕ → Option (List ℕ)
  side_at_lem k = side_of (field_by line fields k)

  is_row : line_of line ≡ row_written own rule principal premises (side_at_lem 5) (side_at_lem 6)
  is_row =
      let at_1 = field_found line fields 1 fielded (lit< tt) in
      let at-2 = field_found line fields 2 fielded (lit< tt) in
      let at-3 = field_found line fields 3 fielded (lit< tt) in
      let at-4 = field_found line fields 4 fielded (lit< tt) in
      let at_5 = field_found line fields 5 fielded (lit< tt) in
      let at-6 = field_found line fields 6 fielded (lit< tt) in
      line_row line kind (sym fielded.counted ∙ counted) ∙ cc

  answered : whole_of (read_as own rule principal premises (side_at_lem 5) (side_at_lem 6)) ≡ answer
  answered = ap whole_of (sym i.answer) ∙ sym is_whole

  pub row_unread : answer ≡ None → line_of line ≡ none
  row_unread h = is_row ∙ badly_written own rule principal premises (side_at_lem 5) (side_at_lem 6) (answered ∙ h)

  pub row_found : {row : RowRead} → answer ≡ Some row → above ≡ absent ∷ absent ∷ [] → most_on_side ≤ length l → most_on_side ≤ length r
      → (n : ℕ) × (q : Row) × (line_of line ≡ some (row_line n q)) × RowLaid n q row above' l' r'
  row_found {row} h lent left_room right_room =
      let w = well_written own rule principal premises (side_at_lem 5) (side_at_lem 6) row (answered ∙ h) in
      let read : row ≡ row_read w.own w.its = w.read in
      let laid : RowLaid w.own w.its row above' l' r' =
      record {
        read = read;
        premises = i.premises_listed.stored w.its.premises w.premises_listed ∙ ap (laid_over w.its.premises) lent;
        left_laid = list_laid l (ap (λ (z : RowRead). z.left) read) (i.left_listed.stored w.its.left w.left_listed) left_room;
        right_laid = list_laid r (ap (λ (z : RowRead). z.right) read) (i.right_listed.stored w.its.right w.right_listed) right_room;
      } in
      (w.own, w.its, is_row ∙ w.line, laid)

-- ---- the draft of a row

pub small_mod : (x : ℕ) → x ≤ absent → x % 65536 ≡ x
small_mod x h = omega arith

pub row_drafted : {n : ℕ} {q : Row} {row : RowRead} {above l r : List ℕ} → RowLaid n q row above l r → {d : Draft} {one two : ℕ}
    → one ≡ get_or above 0 0 → two ≡ get_or above 1 0 → d ≡ draft_of row one two → Drafted q d l r
row_drafted {n} {q} {row} {above} {l} {r} h {d} {one} {two} is_one is_two e =
    subst (λ (z : Draft). Drafted q z l r) (sym e) (
    record {
      rule = ap (λ (z : RowRead). z.rule) h.read;
      principal = ap (λ (z : RowRead). z.principal) h.read;
      premises = ap (λ (z : RowRead). z.premises) h.read;
      first_premise = λ narrow. is_one ∙ ap (λ (z : List ℕ). get_or z 0 0) h.premises ∙ laid_at_lem q.premises (absent ∷ absent ∷ []) 0 narrow (omega arith);
      second_premise = λ narrow. is_two ∙ ap (λ (z : List ℕ). get_or z 1 0) h.premises ∙ laid_at_lem q.premises (absent ∷ absent ∷ []) 1 narrow (omega arith);
      left_laid = h.left_laid;
      right_laid = h.right_laid;
    })
