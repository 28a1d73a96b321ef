-- `run::run` meets its contract: each return is one of the laws of `Reached`.
use mathlib.Core.Path.{refl}
use Rattle.run.proofs.Running.{reached_start, reached_next, run_unread, run_out, run_refused}
use Rattle.run.proofs.run.Goals as goal

pub returns-then-text-gt-MOST_BYTES-clause-over : goal.returns-then-text-gt-MOST_BYTES-clause-over
returns-then-text-gt-MOST_BYTES-clause-over c = run_unread c.if-text-gt-MOST_BYTES.true c.start-state.ensures

pub loop-end-init : goal.loop-end-init
loop-end-init c =
    (record { names = refl; formulas = refl; rows = refl; left = refl; right = refl }, reached_start c.start-state.ensures c.find-end.ensures)

pub returns-in-Err-clause-over : goal.returns-in-Err-clause-over
returns-in-Err-clause-over c =
    let loop = c.loop-end in
    run_refused loop.invariant.1 c.if-text-gt-MOST_BYTES.false c.loop-end-test.true c.step_line-stepped.ensures c.in-Err.is

pub loop-end-preserved : goal.loop-end-preserved
loop-end-preserved c =
    let loop = c.loop-end in
    let same = loop.invariant.0 in (
      record { names = same.names; formulas = same.formulas; rows = same.rows; left = same.left; right = same.right },
      reached_next loop.invariant.1 c.if-text-gt-MOST_BYTES.false c.loop-end-test.true c.step_line-stepped.ensures c.in-Ok.is
          c.find-end-in-loop-end.ensures,
    )

pub returns-clause-over : goal.returns-clause-over
returns-clause-over c =
    let loop = c.loop-end in
    run_out loop.invariant.1 c.if-text-gt-MOST_BYTES.false c.loop-end-test.false
