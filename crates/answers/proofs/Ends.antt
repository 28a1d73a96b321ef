-- What the answer after the complete lines says of the text: it is accepted, and the tables hold its file, or it is refused.
use Prim.Native.Nat.{ℕ, suc, ◌+◌, ◌≤◌, ◌<◌}
use Rattle.std.specs.Prelude
use Rattle.std.specs.Prelude.{unwrap_or, Result, Ok, Err, IsErrAnd, MatchResult}
use Rattle.std.proofs.lemmas.Result.{err_from_is_err_and}
use native.Mathlib.Omega.{arith}
use mathlib.Core.Path.{◌≡◌, refl, sym, ap, subst, ◌∙◌}
use mathlib.Core.Bool.{Bool, true, false}
use mathlib.Core.List.{[], ◌∷◌}
use mathlib.Core.Option.{Option}
use lib.Dec.{eqb, ltb}
use lib.ListN.{length, get_or, drop, drop_of_length-le}
use lib.Seq.{drop-cons}
use borrow.Author.Tests.{ltb-true, ltb-false, eqb-true, eqb-false}
use Rattle.format.specs.Text.{Bytes, parts_at, line_feed, lines_of}
use Rattle.format.specs.File.{File, Claim, Stage, in_atoms, in_formulas, in_rows, modelled, claimed, no_file}
use Rattle.format.specs.Tests.{rank}
use Rattle.format.specs.Judged.{Outcome, beginning, top, or_no_claim, finish, run_from, answer_from}
use Rattle.format.proofs.Stepping.{answer_stub, run_end, answer_end}
use Rattle.parts.proofs.PartLaws.{next_bounds, last_part_lem}
use Rattle.refusals.specs.declared.Refusal.TheVariants.{BadLine, NoClaim}
use Rattle.state.specs.State.{Memory, claim_line}
use Rattle.state.specs.declared.Refused.{Refused}
use Rattle.state.specs.declared.State.{State}
use Rattle.run.specs.Running.{place, Running, Passes, Stops, Runs}
use Rattle.run.specs.declared.Ran.{Ran}
use Rattle.run.specs.declared.Stopped.{Stopped}
use Rattle.answers.specs.Answers.{answer_by, finished, Finishes, state_of, Accepts, Refuses}
use Rattle.answers.specs.declared.Accepted.{Accepted}

-- what the answer after the run says
abbrev pub Ends : Bytes → State → Memory → Result Accepted Refused → Type 0
Ends text s t r = MatchResult r (λ a. Accepts text s a t) (Refuses text)

-- what the run over the lines was stopped by, and a refusal of the end, stay what they are
pub finished_by : (len : ℕ) (r : Result Ran Stopped) (end : Result Accepted Refused)
    → Finishes (λ (s : Stopped) (e : Refused). e ≡ s.refused) (λ (a e : Refused). e ≡ a) len r end → end ≡ finished len r
unfolding finished
finished_by len (Err s) end f = let given = err_from_is_err_and end f in given.1 ∙ ap (λ (e : Refused). Err e) given.2
finished_by len (Ok ran) end f = by (answer_by (ltb ran.at len) (eqb ran.state.stage (rank claimed)) ran) f
  where
    by : (a : Result Accepted Refused) → MatchResult a (λ (x : Accepted). end ≡ Ok x) (λ (e : Refused). IsErrAnd end (λ (given : Refused). given ≡ e))
        → end ≡ a
    by (Ok x) g = g
    by (Err e) g = let given = err_from_is_err_and end g in given.1 ∙ ap (λ (x : Refused). Err x) given.2

module _ (text : Bytes) (t : Memory) where
  -- a line was refused
  ends_refused : (s : Stopped) → Stops text s t → Refuses text s.refused
  unfolding beginning
  ends_refused s stops =
      ap (λ (o : Outcome File). finish o (lines_of text).rest (1 + length (lines_of text).complete)) stops.refuses

  module _ (ran : Ran) (passes : Passes text ran t) where
    at_end : Running text ran.line ran.at ran.state t
    at_end = passes.running

    -- bytes are left, and no LF
    ends_stub : ran.at < length text → Refuses text (record { refusal = BadLine; line = ran.line })
    unfolding at_end
    ends_stub h =
        at_end.answer ∙ ap (λ (bs : Bytes). answer_from (place ran.line ran.at) bs at_end.file) left
        ∙ answer_stub (place ran.line ran.at) at_end.file (get_or text ran.at 0) (drop (suc ran.at) text)
        (sym (ap (parts_at line_feed) left) ∙ cut ∙ ap (λ (bs : Bytes). bs ∷ []) left)
      where
        left : drop ran.at text ≡ get_or text ran.at 0 ∷ drop (suc ran.at) text
        left = drop-cons text ran.at 0 h

        cut : parts_at line_feed (drop ran.at text) ≡ drop ran.at text ∷ []
        cut = last_part_lem line_feed text ran.at (omega arith) (omega (arith, passes.all, (next_bounds line_feed text ran.at (omega arith)).1))

    module _ (all : length text ≤ ran.at) where
      whole : answer_from top text no_file ≡ or_no_claim at_end.file.claim ran.line
      whole =
          at_end.answer ∙ ap (λ (bs : Bytes). answer_from (place ran.line ran.at) bs at_end.file) (drop_of_length-le text all)
          ∙ answer_end (place ran.line ran.at) at_end.file

      -- no claim was made
      ends_unclaimed : (ran.state.stage ≡ rank claimed → ⊥) → Refuses text (record { refusal = NoClaim; line = ran.line })
      ends_unclaimed n =
          whole ∙ ap (λ (o : Option Claim). or_no_claim o ran.line)
          (at_end.good.no_claim (omega (arith, n, at_end.stored.stage, below_five at_end.file.stage)))
        where
          below_five : (s : Stage) → rank s ≤ 4
          below_five in_atoms = omega arith
          below_five in_formulas = omega arith
          below_five in_rows = omega arith
          below_five modelled = omega arith
          below_five claimed = omega arith

      -- the claim was made, and the file is stored
      ends_claimed : ran.state.stage ≡ rank claimed → Ends text ran.state t (answer_by false true ran)
      ends_claimed e =
          let stored = at_end.stored in
          let made = at_end.good.claim_made (omega (arith, e, stored.stage)) in
          subst (λ (o : Prelude.Option ℕ). Ends text ran.state t (Ok (record { line = unwrap_or o 0; counts = ran.state.counts })))
          (sym (stored.claim ∙ ap claim_line made.1))
          (record {
            line = whole ∙ ap (λ (o : Option Claim). or_no_claim o ran.line) made.1;
            file = at_end.file;
            is_file =
                at_end.outcome ∙ ap (λ (bs : Bytes). run_from (place ran.line ran.at) bs at_end.file) (drop_of_length-le text all)
                ∙ run_end (place ran.line ran.at) at_end.file;
            lines = at_end.done;
            good = at_end.good;
            stored = stored;
            counts = refl;
          })

    by_tests : (more made : Bool) → ltb ran.at (length text) ≡ more → eqb ran.state.stage (rank claimed) ≡ made → Ends text ran.state t (answer_by more made ran)
    by_tests true made m c = ends_stub (ltb-true ran.at (length text) m)
    by_tests false false m c = ends_unclaimed (ltb-false ran.at (length text) m) (eqb-false ran.state.stage (rank claimed) c)
    by_tests false true m c = ends_claimed (ltb-false ran.at (length text) m) (eqb-true ran.state.stage (rank claimed) c)

  pub ends : (r : Result Ran Stopped) → Runs text r t → Ends text (state_of r) t (finished (length text) r)
  unfolding finished
  ends (Err s) stops = ends_refused s stops
  ends (Ok ran) passes = by_tests ran passes (ltb ran.at (length text)) (eqb ran.state.stage (rank claimed)) refl refl
