-- A beginning of A, F and N lines is opened, and rows are added one after the other: what comes of it is what the text with these
-- lines opens to. The same number, with line 1, and on acceptance the same counts and tables; so 01 answers alike.
use Prim.Native.Nat.{ℕ, ◌+◌, ◌≤◌}
use native.Mathlib.Omega.{arith}
use mathlib.Core.Path.{◌≡◌, refl, sym, ap, ap₂, subst, ◌∙◌}
use mathlib.Core.Bool.{Bool, true, false, not, cond, ◌||◌}
use mathlib.Core.List.{List, [], ◌∷◌, ◌++◌, append_assoc, append-nil}
use mathlib.Core.Option.{Option, none, some}
use lib.Dec.{eqb}
use lib.ListN.{length, get_or, length-append}
use borrow.Author.Tests.{le-ltb}
use Rattle.format.specs.Text.{Bytes, bytes, Lines, lines_of, fields_of, is, same_list, number_of, only_if, ◌<$>◌, ◌<*>◌}
use Rattle.format.specs.File.{Row, Claim, Body, Stage, in_atoms, in_formulas, in_rows, modelled, claimed, File, add_row}
use Rattle.format.specs.Line.{Line, row_line, row_fields, row_of, field_at, of_kind, line_of}
use Rattle.format.specs.Tables.{Lent, too_short, most_bytes}
use Rattle.format.specs.Tests.{◌when◌, first, rank, may_follow, body_tests, row_tests}
use Rattle.format.specs.Judged.{Place, Outcome, next, refused, settled, step, below, top, with_row, Ruling, turned_down, number_in, or_no_claim, judged}
use Rattle.format.proofs.Booleans.{same_list_lem}
use Rattle.format.proofs.Fold.{place_after}
use Rattle.format.proofs.Stepping.{step_bad, step_row}
use Rattle.counts.specs.Counts.{counts_of}
use Rattle.counts.specs.declared.Counts.{Counts}
use Rattle.bodies.specs.Open.{Tables, lent_of, filled}
use Rattle.bodies.specs.Walk.{and_then}
use Rattle.open.specs.Adding.{only_line, said_in, open_tests, entered, with_line, with_text, tried, ruling_of, Added, added_by, added}
use Rattle.open.specs.Files.{opened, UpToRows, IsRowText, RowTexts, after_added, added_rows, joined, AsOpened, in_text, without_claim}
use Rattle.open.proofs.Adding.{tried_open, line_refused, Lengths, filled_lengths, filled_again, still_long}
use Rattle.open.proofs.Opened.{beginning_good, up_to_rows, IsOpened, opened_next, opened_as_judged, opened_judged}
use Rattle.open.proofs.Opened.{place_in, lines_more, beginning_more, opened_more, opened_stays}

-- a line whose kind is N: badly written, or a row
data OnlyRow : Option Line → Type 0 where
  bad : OnlyRow none
  good : (n : ℕ) (r : Row) → OnlyRow (some (row_line n r))

fields_row : (fields : List Bytes) → OnlyRow (row_fields fields)
unfolding row_fields
fields_row fields =
    made (eqb (length fields) 6) (number_of (field_at fields 0))
    (row_of (field_at fields 1) (field_at fields 2) (field_at fields 3) (field_at fields 4) (field_at fields 5))
  where
    made : (i : Bool) (o : Option ℕ) (p : Option Row) → OnlyRow (only_if i ((λ n row. row_line n row) <$> o <*> p))
    made false o p = bad
    made true none p = bad
    made true (some n) none = bad
    made true (some n) (some r) = good n r

kind_row : (l : Bytes) → is "N" (get_or (fields_of l) 0 []) ≡ true → OnlyRow (line_of l)
unfolding line_of same_list
kind_row l e = of (fields_of l) e
  where
    of : (fields : List Bytes) → is "N" (get_or fields 0 []) ≡ true → OnlyRow (of_kind fields)
    of [] k = bad
    of (kind ∷ fields) k = subst (λ (word : Bytes). OnlyRow (of_kind (word ∷ fields))) (sym (same_list_lem kind (bytes "N") k)) (fields_row fields)

-- before an M line and a C line a row may follow
row_follows : (s : Stage) → rank s ≤ rank in_rows → may_follow s in_rows ≡ true
row_follows in_atoms h = refl
row_follows in_formulas h = refl
row_follows in_rows h = refl
row_follows modelled h = absurd (omega arith)
row_follows claimed h = absurd (omega arith)

-- what trying a row comes to, as a line of the file: its body, or the refusal with that line
abbrev pub in_file : File → ℕ → Outcome Body → Outcome File
in_file f line (next b) = next (record { names = f.names; body = b; stage = in_rows; model = f.model; claim = f.claim })
in_file f line (refused n l) = refused n line

place_line : (p : Place) (ls : List Bytes) → (place_after p ls).line ≡ p.line + length ls
place_line p [] = omega arith
place_line p (l ∷ ls) = place_line (below p l) ls ∙ omega arith

module _ (lent : Lent) (text x : Bytes) (f : File) (o : IsOpened lent text f) (early : rank f.stage ≤ rank in_rows) (row : IsRowText x)
    (short : length (text ++ x) ≤ most_bytes) where
  -- the tests of the row as 01's N line, and in the open file
  same_tests : (n : ℕ) (r : Row) → first (row_tests f n r) ≡ first (open_tests f.body n r)
  same_tests n r =
      ap (λ (i : Bool). first ((4 when not i || not (eqb n (length f.body.rows))) ∷ body_tests f.body r)) (row_follows f.stage early)

  -- so the line comes to the same
  same_line : step f (place_in text) row.line ≡ in_file f (place_in text).line (with_line (line_of row.line) f.body)
  same_line = by_line (line_of row.line) refl (kind_row row.line row.kind)
    where
      by_tests : (q : Option ℕ) (r : Row) → settled q (place_in text).line (with_row f r) ≡ in_file f (place_in text).line (entered q (add_row f.body r))
      by_tests none r = refl
      by_tests (some n) r = refl

      by_line : (l : Option Line) → line_of row.line ≡ l → OnlyRow l
          → step f (place_in text) row.line ≡ in_file f (place_in text).line (with_line l f.body)
      by_line l e bad = step_bad f (place_in text) row.line e
      by_line l e (good n r) =
          step_row f (place_in text) row.line n r e
          ∙ ap (λ (k : Option ℕ). settled k (place_in text).line (with_row f r)) (same_tests n r)
          ∙ by_tests (first (open_tests f.body n r)) r

  opened_line : opened lent (text ++ x) ≡ in_file f (place_in text).line (with_line (line_of row.line) f.body)
  opened_line = opened_more lent text x row.line f o row.one short ∙ same_line

  -- a row follows rows
  still_early : (g : File) → opened lent (text ++ x) ≡ next g → rank g.stage ≤ rank in_rows
  still_early g e = by_outcome (with_line (line_of row.line) f.body) (sym opened_line ∙ e)
    where
      by_outcome : (q : Outcome Body) → in_file f (place_in text).line q ≡ next g → rank g.stage ≤ rank in_rows
      by_outcome (next b) k = let same : in_rows ≡ g.stage = ap stage_in k in omega (arith, ap rank same)
        where
          stage_in : Outcome File → Stage
          stage_in (next h) = h.stage
          stage_in (refused n l) = in_rows
      by_outcome (refused n l) k = let z : ◌≡◌ {A = ℕ} 0 1 = cc in absurd (omega arith)

  module _ (t : Tables) (long : too_short (lent_of t) ≡ false) (same : t ≡ filled t f.body) where
    -- in the open file, the text's one line is found
    tried_line : tried t (counts_of f.body) x ≡ with_line (line_of row.line) f.body
    unfolding with_text said_in
    tried_line =
        tried_open t (counts_of f.body) f.body x long (record { good = (beginning_good text f o.lines).body; counts = refl; tables = same })
        ∙ ap (λ (i : Bool). cond i (refused 2 0) (with_line (said_in x) f.body)) (le-ltb most_bytes (length x) (omega (arith, length-append text x)))
        ∙ ap (λ (ls : Lines). with_line (and_then (only_line ls.complete ls.rest) line_of) f.body) row.one

    one_opened : AsOpened (opened lent (text ++ x)) t (added t (counts_of f.body) x)
    one_opened =
        subst (λ (q : Outcome File). AsOpened q t (added t (counts_of f.body) x)) (sym opened_line)
        (subst (λ (q : Outcome Body). AsOpened (in_file f (place_in text).line (with_line (line_of row.line) f.body)) t (added_by t (counts_of f.body) q))
        (sym tried_line) (by_outcome (with_line (line_of row.line) f.body) (λ n l e. (line_refused (line_of row.line) f.body n l e).1)))
      where
        by_outcome : (q : Outcome Body) → ((n l : ℕ) → q ≡ refused n l → l ≡ 1)
            → AsOpened (in_file f (place_in text).line q) t (added_by t (counts_of f.body) q)
        by_outcome (next b) h = (refl, refl, refl)
        by_outcome (refused n l) h = ap (turned_down n) (h n l refl)

    one_judged : judged lent (text ++ x) ≡ in_text (length (lines_of text).complete + 1) (added t (counts_of f.body) x).ruling
    one_judged =
        by_outcome (with_line (line_of row.line) f.body) opened_line
        ∙ ap (λ (q : Outcome Body). in_text (length (lines_of text).complete + 1) (ruling_of q)) (sym tried_line)
      where
        more : length (lines_of (text ++ x)).complete ≡ length (lines_of text).complete + 1
        more =
            ap (λ (ls : Lines). length ls.complete) (lines_more text x row.line o.rest row.one)
            ∙ length-append (lines_of text).complete (row.line ∷ [])

        unclaimed : f.claim ≡ none
        unclaimed = (beginning_good text f o.lines).no_claim (omega (arith, early))

        by_outcome : (q : Outcome Body) → opened lent (text ++ x) ≡ in_file f (place_in text).line q
            → judged lent (text ++ x) ≡ in_text (length (lines_of text).complete + 1) (ruling_of q)
        by_outcome (next b) e = opened_judged lent (text ++ x) _ e ∙ ap₂ or_no_claim unclaimed (omega (arith, more))
        by_outcome (refused n l) e =
            opened_as_judged lent (text ++ x) n (place_in text).line e
            ∙ ap (turned_down n) (place_line top (lines_of text).complete ∙ omega arith)

-- the file has come no further than its rows
abbrev Early : Outcome File → Type 0
Early (next f) = rank f.stage ≤ rank in_rows
Early (refused n l) = Unit {0}

-- what is said of rows in order
abbrev InOrder : Tables → Outcome File → Added → Type 0
InOrder t q a = AsOpened q t a × Early q

in_order : (lent : Lent) (t : Tables) → too_short (lent_of t) ≡ false → (xs : List Bytes) (text : Bytes) (f : File) → opened lent text ≡ next f
    → rank f.stage ≤ rank in_rows → RowTexts xs → length (text ++ joined xs) ≤ most_bytes
    → InOrder t (opened lent (text ++ joined xs)) (added_rows xs (filled t f.body) (counts_of f.body))
in_order lent t long [] text f e early rows short =
    subst (λ (o : Outcome File). InOrder t o (added_rows [] (filled t f.body) (counts_of f.body))) (sym (ap (opened lent) (append-nil text) ∙ e))
    ((refl, refl, refl), early)
in_order lent t long (x ∷ xs) text f e early rows short =
    further (opened lent (text ++ x)) refl one (λ g k u s. in_order lent t long xs (text ++ x) g k u rows.1 s)
  where
    o : IsOpened lent text f
    o = opened_next lent text f e

    now : Tables
    now = filled t f.body

    same_lengths : Lengths t now
    same_lengths = filled_lengths t f.body long (beginning_good text f o.lines).body

    shorter : length (text ++ x) ≤ most_bytes
    shorter = omega (arith, length-append text (x ++ joined xs), length-append x (joined xs), length-append text x)

    one : AsOpened (opened lent (text ++ x)) now (added now (counts_of f.body) x)
    one = one_opened lent text x f o early rows.0 shorter now (still_long t now same_lengths long) (sym (filled_again t now f.body same_lengths))

    a : Added
    a = added now (counts_of f.body) x

    joined_on : opened lent (text ++ (x ++ joined xs)) ≡ opened lent ((text ++ x) ++ joined xs)
    joined_on = ap (opened lent) (sym (append_assoc text x (joined xs)))

    short_on : length ((text ++ x) ++ joined xs) ≤ most_bytes
    short_on = omega (arith, length-append (text ++ x) (joined xs), length-append text x, length-append text (x ++ joined xs), length-append x (joined xs))

    whole : Bytes
    whole = (text ++ x) ++ joined xs

    further : (q : Outcome File) → opened lent (text ++ x) ≡ q → AsOpened q now a
        → ((g : File) → opened lent (text ++ x) ≡ next g → rank g.stage ≤ rank in_rows → length whole ≤ most_bytes
        → InOrder t (opened lent whole) (added_rows xs (filled t g.body) (counts_of g.body)))
        → InOrder t (opened lent (text ++ (x ++ joined xs))) (after_added a.ruling a (added_rows xs a.tables a.counts))
    further (next g) k p rest =
        subst (λ (r : Outcome File). InOrder t r (after_added a.ruling a (added_rows xs a.tables a.counts))) (sym joined_on)
        (subst (λ (w : Ruling). InOrder t (opened lent whole) (after_added w a (added_rows xs a.tables a.counts))) (sym p.0)
        (subst (λ (c : Counts). InOrder t (opened lent whole) (added_rows xs a.tables c)) (sym p.1)
        (subst (λ (u : Tables). InOrder t (opened lent whole) (added_rows xs u (counts_of g.body)))
        (sym (p.2 ∙ filled_again t now g.body same_lengths))
        (rest g k (still_early lent text x f o early rows.0 shorter g k) short_on))))
    further (refused n l) k p rest =
        subst (λ (r : Outcome File). InOrder t r (after_added a.ruling a (added_rows xs a.tables a.counts))) (sym (joined_on ∙ stays))
        (subst (λ (w : Ruling). (after_added w a (added_rows xs a.tables a.counts)).ruling ≡ turned_down n 1) (sym p) p, tt)
      where
        line : Bytes
        line = rows.0.line

        stays : opened lent whole ≡ refused n l
        stays =
            opened_stays lent (text ++ x) (joined xs) n l o.long (ap (λ (ls : Lines). ls.rest) (lines_more text x line o.rest rows.0.one)) short_on
            (beginning_more text x line o.rest rows.0.one f o.lines ∙ sym (opened_more lent text x line f o rows.0.one shorter) ∙ k)

-- a beginning of A, F and N lines that is opened, and tables that are long enough
module _ (lent : Lent) (t : Tables) (long : too_short (lent_of t) ≡ false) (text : Bytes) (f : File) (e : opened lent text ≡ next f)
    (begun : UpToRows text) where
  early : rank f.stage ≤ rank in_rows
  early = up_to_rows text f (opened_next lent text f e).lines begun

  module _ (x : Bytes) (row : IsRowText x) (short : length (text ++ x) ≤ most_bytes) (same : t ≡ filled t f.body) where
    -- Adding one row: the number that the text with the line gives, with line 1; on acceptance, its counts and tables.
    pub row_as_opened : AsOpened (opened lent (text ++ x)) t (added t (counts_of f.body) x)
    row_as_opened = one_opened lent text x f (opened_next lent text f e) early row short t long same

    -- And 01's answer to that text: the same number on the row's line, or 13 after it where the row is accepted.
    pub row_as_judged : judged lent (text ++ x) ≡ in_text (length (lines_of text).complete + 1) (added t (counts_of f.body) x).ruling
    row_as_judged = one_judged lent text x f (opened_next lent text f e) early row short t long same

  module _ (xs : List Bytes) (rows : RowTexts xs) (short : length (text ++ joined xs) ≤ most_bytes) where
    -- Row after row: what comes of rows added in order is what the text with these lines opens to. The same number, with line 1, and on
    -- acceptance the same counts and tables.
    pub rows_as_opened : AsOpened (opened lent (text ++ joined xs)) t (added_rows xs (filled t f.body) (counts_of f.body))
    rows_as_opened = (in_order lent t long xs text f e early rows short).0

    -- And 01's answer to that text has the same number, or 13 where all rows are accepted.
    pub rows_as_judged : number_in (judged lent (text ++ joined xs)) ≡ without_claim (added_rows xs (filled t f.body) (counts_of f.body)).ruling
    rows_as_judged = by_outcome (opened lent (text ++ joined xs)) refl (in_order lent t long xs text f e early rows short)
      where
        a : Added
        a = added_rows xs (filled t f.body) (counts_of f.body)

        by_outcome : (q : Outcome File) → opened lent (text ++ joined xs) ≡ q → InOrder t q a
            → number_in (judged lent (text ++ joined xs)) ≡ without_claim a.ruling
        by_outcome (next g) k p =
            let o = opened_next lent (text ++ joined xs) g k in
            let unclaimed = (beginning_good (text ++ joined xs) g o.lines).no_claim (omega (arith, p.1)) in
            ap number_in (opened_judged lent (text ++ joined xs) g k
            ∙ ap (λ (c : Option Claim). or_no_claim c (length (lines_of (text ++ joined xs)).complete + 1)) unclaimed)
            ∙ ap (λ (w : Ruling). without_claim w) (sym p.0.0)
        by_outcome (refused n l) k p =
            ap number_in (opened_as_judged lent (text ++ joined xs) n l k) ∙ ap (λ (w : Ruling). without_claim w) (sym p.0)
