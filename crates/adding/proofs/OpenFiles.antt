-- What `OpenFile::add` leaves where its number is 0, by its contract alone: it was handed an open file, and hands back that file with one
-- row more.
use mathlib.Core.Path.{◌≡◌, sym, subst, ◌∙◌}
use Rattle.format.specs.Text.{Bytes}
use Rattle.format.specs.File.{Row, Body, add_row}
use Rattle.counts.specs.declared.Counts.{Counts}
use Rattle.bodies.specs.Open.{Tables, IsOpen}
use Rattle.open.specs.Adding.{added}
use Rattle.open.proofs.Adding.{added_zero, RowAdded, accepted_open}
use Rattle.adding.specs.Contract.{Adds}
use Rattle.adding.specs.declared.Added.{Added}

pub adds_open : (t : Tables) (c : Counts) (text : Bytes) (u : Tables) (r : Added) → Adds t c text u r → r.answer.number ≡ 0
    → (b : Body) × (q : Row) × IsOpen t c b × IsOpen u r.file.counts (add_row b q)
adds_open t c text u r a zero = (row.body, row.new, row.before, after)
  where
    row : RowAdded t c text
    row = accepted_open t c text 1 (added_zero t c text (sym a.number ∙ zero))

    after : IsOpen u r.file.counts (add_row row.body row.new)
    after =
        subst (λ (v : Tables). IsOpen v r.file.counts (add_row row.body row.new)) (sym a.tables)
        (subst (λ (d : Counts). IsOpen (added t c text).tables d (add_row row.body row.new)) (sym a.counts) row.after)
