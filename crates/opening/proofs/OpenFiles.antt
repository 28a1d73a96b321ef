-- What `open` leaves where its number is 0, by its contract alone: an open file, that of the beginning, with the counts that it answers.
-- So what is proved of rows added to it (open proofs, RowsAdded) is proved of these tables and counts.
use Prim.Native.Nat.{ℕ}
use mathlib.Core.Path.{◌≡◌, sym, ap, subst, ◌∙◌}
use Rattle.format.specs.Text.{Bytes}
use Rattle.format.specs.File.{File}
use Rattle.format.specs.Tables.{Contents}
use Rattle.format.specs.Judged.{Outcome, next}
use Rattle.counts.specs.Counts.{counts_of}
use Rattle.counts.specs.declared.Counts.{Counts}
use Rattle.judge.specs.declared.Judged.{Judged}
use Rattle.answers.specs.Answers.{filled as filledWith}
use Rattle.bodies.specs.Open.{Tables, filled, IsOpen}
use Rattle.open.specs.Files.{opened, opening_contents, opening_counts}
use Rattle.open.proofs.Adding.{lent_with, four_long}
use Rattle.open.proofs.Opened.{opened_next, opened_zero, opened_open}
use Rattle.opening.specs.Contract.{Opens, four_of, LeavesOpen}

pub opens_open : (names : ℕ) (t : Tables) (text : Bytes) (u : Contents) (r : Judged) → Opens text (lent_with names t) u r → r.answer.number ≡ 0
    → (f : File) × (opened (lent_with names t) text ≡ next f) × LeavesOpen t u r f
opens_open names t text u r o zero = (f, file, record { tables = tables; counts = counts; is_open = is_open })
  where
    found : (f : File) × (opened (lent_with names t) text ≡ next f)
    found = opened_zero (lent_with names t) text (sym o.number ∙ zero)

    f : File
    f = found.0

    file : opened (lent_with names t) text ≡ next f
    file = found.1

    tables : four_of u ≡ filled t f.body
    tables = ap four_of (o.tables ∙ ap (λ (z : Outcome File). filledWith (lent_with names t) (opening_contents z)) file)

    counts : r.counts ≡ counts_of f.body
    counts = o.counts ∙ ap opening_counts file

    is_open : IsOpen (four_of u) r.counts f.body
    is_open =
        let long = four_long names t (opened_next (lent_with names t) text f file).long in
        subst (λ (v : Tables). IsOpen v r.counts f.body) (sym tables)
        (subst (λ (c : Counts). IsOpen (filled t f.body) c f.body) (sym counts) (opened_open (lent_with names t) t text f long file))
