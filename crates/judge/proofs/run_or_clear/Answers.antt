-- `judge::run_or_clear` meets its contract: the tables stay where the run accepts, and are clear where it refuses.
use mathlib.Core.Path.{refl, sym, ap, ◌∙◌}
use Rattle.run.specs.Lent.{held, lengths}
use Rattle.answers.proofs.Ends.{finished_by}
use Rattle.run.specs.declared.lent.Tables.{Tables}
use Rattle.judge.proofs.Whole.{clear_lengths, kept_lengths, fresh_tables, judges_kept, judges_again_clear}
use Rattle.judge.proofs.run_or_clear.Goals as goal
use Rattle.judge.proofs.run_or_clear.Goals.{then-is_err, else-is_err}

pub returns-clause-lengths : goal.returns-clause-lengths
returns-clause-lengths c =
    let kept = kept_lengths c.run-ran.ensures.over.lengths in
    elim c.if-is_err.branch [
      | then-is_err w ↦ clear_lengths _ _ (ap held w.lent-is ∙ w.clear.ensures.cleared) ∙ kept
      | else-is_err w ↦ ap (λ (t : Tables). lengths (held t)) w.lent-is ∙ kept
    ]

pub returns-clause-judges : goal.returns-clause-judges
returns-clause-judges c =
    let fresh = fresh_tables _ c.requires.0 c.requires.1 refl in
    elim c.if-is_err.branch [
      | then-is_err w ↦
          judges_again_clear c.requires.0 fresh c.run-ran.ensures.over (finished_by _ _ _ c.finish-end.ensures) c.from.ensures
          (sym c.is_err.ensures.value ∙ w.if-is_err.true) (ap held w.lent-is ∙ w.clear.ensures.cleared)
      | else-is_err w ↦
          judges_kept c.requires.0 fresh c.run-ran.ensures.over (finished_by _ _ _ c.finish-end.ensures) c.from.ensures
          (sym c.is_err.ensures.value ∙ w.if-is_err.false) (ap held w.lent-is)
    ]
