-- A row tried: by the text, the open file and the row's own tests; and what is written of a row that passed is what the open file with
-- it holds. Assumes nothing.
use Prim.Native.Nat.{ℕ, ◌≤◌, ◌<◌}
use mathlib.Core.Path.{◌≡◌, refl, sym, ap, ap₂, subst, ◌∙◌}
use Rattle.std.specs.Prelude.{Option as Answer, None, Some, Result, Ok, Err}
use mathlib.Core.Bool.{Bool, true, false, not, cond}
use mathlib.Core.List.{List, [], ◌∷◌}
use mathlib.Core.Option.{Option, some}
use lib.Dec.{eqb}
use lib.ListN.{length, get_or, replicate}
use borrow.Author.Tests.{lt-ltb, le-ltb, eq-eqb, ne_eqb}
use Rattle.format.specs.Text.{Bytes}
use Rattle.format.specs.File.{Row, Body, add_row}
use Rattle.format.specs.Line.{Line, row_line}
use Rattle.format.specs.Tables.{absent, too_short, least, padded, row_records, left_pool, right_pool, most_bytes, most_on_side}
use Rattle.format.specs.Tests.{◌when◌, first, body_tests}
use Rattle.format.specs.Judged.{Outcome, refused, number_in, line_in}
use Rattle.counts.specs.Counts.{count_row}
use Rattle.counts.specs.declared.Counts.{Counts}
use Rattle.early.specs.Early.{numbered}
use Rattle.refusals.specs.Refusals.{number_of}
use Rattle.refusals.specs.declared.Refusal.{Refusal}
use Rattle.refusals.specs.declared.Refusal.TheVariants.{ShortTable, TooLong, BadLine, OutOfOrder}
use Rattle.refusals.proofs.OneNumber.{number_of-some}
use Rattle.state.specs.declared.Refused.{Refused}
use Rattle.drafts.specs.Drafts.{draft_of, Drafted, RowLaid}
use Rattle.drafts.specs.Storing.{RowStored}
use Rattle.drafts.specs.declared.Draft.{Draft}
use Rattle.drafts.specs.declared.RowRead.{RowRead}
use Rattle.rows.specs.Judgement.{Ground, RowNumbered}
use Rattle.rows.proofs.Numbering.{numbered_some, numbered_none}
use Rattle.lines.proofs.RowFields.{row_drafted}
use Rattle.lines.proofs.RowPut.{rows_length, left_length, right_length, counts_same, row_put, left_put, right_put}
use Rattle.answers.specs.Answers.{answer, refusing}
use Rattle.bodies.specs.Open.{Tables, four, lent_of, filled, IsOpen}
use Rattle.bodies.proofs.Walking.{open_read}
use Rattle.handed.specs.Handed.{BodyRead}
use Rattle.open.specs.Adding.{said_in, entered, with_line, with_text, tried, ruling_of, counts_after, tables_after}
use Rattle.open.proofs.Adding.{tried_short, tried_open, tried_none, room_each}
use Rattle.adding.specs.declared.Added.{Added}
use Rattle.adding.specs.Reading.{SaidRead}
use Rattle.adding.specs.Trials.{turned_down_by, Comes, Tries, TextJudged}
use Rattle.adding.specs.Contract.{Adds, Previews}

-- ---- the row of a text, over a body

module _ (t : Tables) (notes : List ℕ) (c : Counts) (text : Bytes) (premises l r premises' l' r' : List ℕ) (read : Answer RowRead)
    (said : SaidRead (said_in text) premises l r premises' l' r' read) where
  pub text_other : read ≡ None → TextJudged t notes c text l r l' r' (Err BadLine)
  text_other bad b g left_room right_room = Comes.refuses BadLine (said.other bad b)

  module _ (row : RowRead) (is : read ≡ Some row) (lent : premises ≡ absent ∷ absent ∷ []) where
    module _ (b : Body) (g : Ground b c t.formulas notes t.rows t.left t.right) (left_room : most_on_side ≤ length l)
        (right_room : most_on_side ≤ length r) where
      abbrev found : (n : ℕ) × (q : Row) × (said_in text ≡ some (row_line n q)) × RowLaid n q row premises' l' r'
      found = said.found row is lent left_room right_room

      abbrev q : Row
      q = found.1

      comes : (x : Bool) → eqb row.number c.rows ≡ x
          → with_line (said_in text) b ≡ entered (first ((4 when not x) ∷ body_tests b q)) (add_row b q)
      comes x e =
          ap (λ (o : Option Line). with_line o b) found.2
          ∙ ap (λ (y : Bool). entered (first ((4 when not y) ∷ body_tests b q)) (add_row b q))
          (ap₂ eqb (sym (ap (λ (z : RowRead). z.number) found.3.read)) (sym (ap (λ (k : Counts). k.rows) g.counts)) ∙ e)

    pub text_misplaced : (row.number ≡ c.rows → ⊥) → TextJudged t notes c text l r l' r' (Err OutOfOrder)
    text_misplaced ne b g left_room right_room = Comes.refuses OutOfOrder (comes b g left_room right_room false (ne_eqb row.number c.rows ne))

    module _ (in-turn : row.number ≡ c.rows) (one two : ℕ) (is_one : one ≡ get_or premises' 0 0) (is_two : two ≡ get_or premises' 1 0)
        (d : Draft) (is-draft : d ≡ draft_of row one two) (k : ℕ)
        (numbers : RowNumbered d c l' r' t.formulas notes t.rows t.left t.right k) where
      module _ (b : Body) (g : Ground b c t.formulas notes t.rows t.left t.right) (left_room : most_on_side ≤ length l)
          (right_room : most_on_side ≤ length r) where
        drafted : Drafted (q b g left_room right_room) d l' r'
        drafted = row_drafted (found b g left_room right_room).3 is_one is_two is-draft

        earned : numbered k ≡ first (body_tests b (q b g left_room right_room))
        earned = numbers.given b (q b g left_room right_room) g drafted

        outcome : with_line (said_in text) b ≡ entered (numbered k) (add_row b (q b g left_room right_room))
        outcome =
            comes b g left_room right_room true (eq-eqb row.number c.rows in-turn)
            ∙ ap (λ (o : Option ℕ). entered o (add_row b (q b g left_room right_room))) (sym earned)

      pub text_refused : (e : Refusal) → k ≡ number_of e → TextJudged t notes c text l r l' r' (Err e)
      text_refused e is b g left_room right_room =
          Comes.refuses e (outcome b g left_room right_room
          ∙ ap (λ (o : Option ℕ). entered o (add_row b (q b g left_room right_room))) (numbered_some k (λ z. number_of-some e (sym is ∙ z)))
          ∙ ap (λ (n : ℕ). refused n 1) is)

      pub text_passes : k ≡ 0 → TextJudged t notes c text l r l' r' (Ok d)
      text_passes z b g left_room right_room =
          let nothing = (numbered_none k).1 z in
          Comes.passes (q b g left_room right_room) d
          (outcome b g left_room right_room ∙ ap (λ (o : Option ℕ). entered o (add_row b (q b g left_room right_room))) nothing)
          (sym (earned b g left_room right_room) ∙ nothing) (drafted b g left_room right_room)

-- ---- in an open file

-- a refusal of the text, on its one line
abbrev pub on_its_line : Result Draft Refusal → Result Draft Refused
on_its_line (Ok d) = Ok d
on_its_line (Err e) = turned_down_by e 1

module _ (t : Tables) (c : Counts) (text : Bytes) (l r : List ℕ) where
  refuses_by : (e : Refusal) (line : ℕ) → tried t c text ≡ refused (number_of e) line → (answered : Result Draft Refused)
      → answered ≡ turned_down_by e line → Tries t c text l r answered
  refuses_by e line k answered is = subst (Tries t c text l r) (sym is) (Tries.refuses (record { refusal = e; line = line }) k)

  pub tries_short : too_short (lent_of t) ≡ true → (answered : Result Draft Refused) → answered ≡ turned_down_by ShortTable 0 → Tries t c text l r answered
  tries_short e = refuses_by ShortTable 0 (tried_short t c text e)

  module _ (long : too_short (lent_of t) ≡ false) (notes notes' : List ℕ) (roomy : 3072 ≤ length notes) (zeros : notes ≡ replicate (length notes) 0)
      (found : Bool) (read : BodyRead t c notes notes' found) where
    pub tries_none : found ≡ false → (answered : Result Draft Refused) → answered ≡ turned_down_by OutOfOrder 0 → Tries t c text l r answered
    tries_none e = refuses_by OutOfOrder 0 (tried_none t c text long (read.missing roomy zeros e))

    module _ (e : found ≡ true) where
      abbrev body : Body
      body = (read.found roomy zeros e).0

      is_open : IsOpen t c body
      is_open = (read.found roomy zeros e).1

      in_text : tried t c text ≡ with_text text body
      in_text = tried_open t c body text long is_open

      pub tries_long : most_bytes < length text → (answered : Result Draft Refused) → answered ≡ turned_down_by TooLong 0 → Tries t c text l r answered
      unfolding with_text
      tries_long h =
          refuses_by TooLong 0
          (in_text ∙ ap (λ (x : Bool). cond x (refused 2 0) (with_line (said_in text) body)) (lt-ltb most_bytes (length text) h))

      ground : Ground body c t.formulas notes' t.rows t.left t.right
      ground =
          let begun = open_read t c body is_open in
          record {
            good = is_open.good;
            counts = is_open.counts;
            nodes = begun.nodes;
            known = (read.found roomy zeros e).2;
            rows_held = begun.rows;
          }

      pub tries_text : length text ≤ most_bytes → (was-l was-r : List ℕ) → most_on_side ≤ length was-l → most_on_side ≤ length was-r
          → (judged : Result Draft Refusal) → TextJudged t notes' c text was-l was-r l r judged → Tries t c text l r (on_its_line judged)
      unfolding with_text
      tries_text h was-l was-r left_room right_room judged comes = by_outcome judged (comes body ground left_room right_room)
        where
          all : tried t c text ≡ with_line (said_in text) body
          all = in_text ∙ ap (λ (x : Bool). cond x (refused 2 0) (with_line (said_in text) body)) (le-ltb most_bytes (length text) h)

          by_outcome : (s : Result Draft Refusal) → Comes (with_line (said_in text) body) body l r s → Tries t c text l r (on_its_line s)
          by_outcome (Err e) (Comes.refuses x k) = Tries.refuses (record { refusal = e; line = 1 }) (all ∙ k)
          by_outcome (Ok d) (Comes.passes q x k tests drafted) = Tries.passes body q d long is_open (all ∙ k) tests drafted

-- the same, by what the text was judged to be
pub tries_same : {t : Tables} {c : Counts} {text : Bytes} {l r : List ℕ} {s s' : Result Draft Refusal} → s ≡ s' → Tries t c text l r (on_its_line s)
    → Tries t c text l r (on_its_line s')
tries_same {t} {c} {text} {l} {r} e tries = subst (λ (s : Result Draft Refusal). Tries t c text l r (on_its_line s)) e tries

-- ---- the answers

module _ (t : Tables) (c : Counts) (text : Bytes) (l r : List ℕ) where
  pub previews_refused : (a : Refused) → Tries t c text l r (Err a) → Previews t c text (refusing a)
  previews_refused a (Tries.refuses x e) =
      record { number = sym (ap (λ (o : Outcome Body). number_in (ruling_of o)) e); line = sym (ap (λ (o : Outcome Body). line_in (ruling_of o)) e) }

  pub previews_passes : (d : Draft) → Tries t c text l r (Ok d) → Previews t c text (answer 0 1)
  previews_passes d (Tries.passes b q x long opened e tests read) =
      record { number = sym (ap (λ (o : Outcome Body). number_in (ruling_of o)) e); line = sym (ap (λ (o : Outcome Body). line_in (ruling_of o)) e) }

  pub adds_refused : (a : Refused) → Tries t c text l r (Err a) → (added : Added) → added ≡ record { answer = refusing a; file = record { counts = c } }
      → Adds t c text t added
  adds_refused a (Tries.refuses x e) added is =
      subst (Adds t c text t) (sym is) (
      record {
        number = sym (ap (λ (o : Outcome Body). number_in (ruling_of o)) e);
        line = sym (ap (λ (o : Outcome Body). line_in (ruling_of o)) e);
        counts = sym (ap (counts_after c) e);
        tables = sym (ap (tables_after t) e);
        unchanged = λ _. (refl, refl);
      })

  pub adds_passes : (d : Draft) → Tries t c text l r (Ok d) → (rows left right : List ℕ)
      → RowStored d c l r t.rows t.left t.right rows left right → (added : Added)
      → added ≡ record { answer = answer 0 1; file = record { counts = count_row c d.left.count d.right.count } }
      → Adds t c text (four t.formulas rows left right) added
  adds_passes d (Tries.passes b q x long is_open e tests drafted) rows left right w added is =
      subst (Adds t c text (four t.formulas rows left right)) (sym is) (
      record {
        number = sym (ap (λ (o : Outcome Body). number_in (ruling_of o)) e);
        line = sym (ap (λ (o : Outcome Body). line_in (ruling_of o)) e);
        counts = counts_same is_open.good is_open.counts tests drafted ∙ sym (ap (counts_after c) e);
        tables = same_tables ∙ sym (ap (tables_after t) e);
        unchanged = λ ne. absurd (ne refl);
      })
    where
      room : (least.formulas ≤ length t.formulas) × (least.rows ≤ length t.rows) × (least.left ≤ length t.left)
          × (least.right ≤ length t.right)
      room = room_each least.names t long

      rows_now : rows ≡ padded (length t.rows) (row_records (add_row b q).rows)
      rows_now =
          row_put is_open.good is_open.counts tests drafted w room.1 (ap (λ (u : Tables). u.rows) is_open.tables)
          ∙ ap (λ (m : ℕ). padded m (row_records (add_row b q).rows)) (rows_length w)

      left_now : left ≡ padded (length t.left) (left_pool (add_row b q).rows)
      left_now =
          left_put is_open.good is_open.counts tests drafted w room.2 (ap (λ (u : Tables). u.left) is_open.tables)
          ∙ ap (λ (m : ℕ). padded m (left_pool (add_row b q).rows)) (left_length w)

      right_now : right ≡ padded (length t.right) (right_pool (add_row b q).rows)
      right_now =
          right_put is_open.good is_open.counts tests drafted w room.3 (ap (λ (u : Tables). u.right) is_open.tables)
          ∙ ap (λ (m : ℕ). padded m (right_pool (add_row b q).rows)) (right_length w)

      same_tables : four t.formulas rows left right ≡ filled t (add_row b q)
      same_tables =
          let formulas = ap (λ (u : Tables). u.formulas) is_open.tables in
          λ i. four (formulas i) (rows_now i) (left_now i) (right_now i)
