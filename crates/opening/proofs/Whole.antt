-- The whole answer of opening: by the lengths of the tables and the text, and then by the run over its lines.
use Prim.Native.Nat.{ℕ, suc, ◌+◌, ◌≤◌, ◌<◌}
use Rattle.std.specs.Prelude.{Result, Ok, Err, is_err, MatchResult}
use native.Mathlib.Omega.{arith}
use mathlib.Core.Path.{◌≡◌, refl, sym, ap, ap₂, subst, ◌∙◌}
use mathlib.Core.Bool.{Bool, true, false}
use mathlib.Core.List.{[], ◌∷◌}
use mathlib.Core.Option.{Option, some}
use lib.Dec.{ltb}
use lib.ListN.{length, get_or, drop, drop_of_length-le}
use lib.Seq.{drop-cons}
use borrow.Author.Tests.{lt-ltb, ltb-true, ltb-false}
use Rattle.format.specs.Text.{Bytes, Lines, line_feed, lines_of}
use Rattle.format.specs.File.{File}
use Rattle.format.specs.Tables.{Contents, Lent, too_short, encode, most_bytes}
use Rattle.format.specs.Tests.{◌when◌, first}
use Rattle.format.specs.Judged.{Outcome, next, refused, step, run, beginning, number_in, line_in, whole_tests}
use Rattle.format.proofs.Stepping.{lines_last}
use Rattle.parts.proofs.PartLaws.{next_bounds, last_part_lem}
use Rattle.counts.specs.Counts.{counts_of}
use Rattle.refusals.specs.Refusals.{number_of}
use Rattle.refusals.specs.declared.Refusal.TheVariants.{TooLong}
use Rattle.state.specs.State.{Memory}
use Rattle.state.specs.declared.Refused.{Refused}
use Rattle.run.specs.Lent.{five, five_of, lengths, clear}
use Rattle.run.specs.Running.{place, Running, Passes, Stops, Runs, stands_at, Fresh, RunOver}
use Rattle.run.specs.declared.Ran.{Ran}
use Rattle.run.specs.declared.Stopped.{Stopped}
use Rattle.answers.specs.Answers.{filled}
use Rattle.answers.specs.declared.Accepted.{Accepted}
use Rattle.judge.specs.Contract.{judged_by}
use Rattle.judge.specs.declared.Judged.{Judged}
use Rattle.judge.proofs.Whole.{kept_lengths, nothing_held, left_by, promised_kept, promised_clear}
use Rattle.open.specs.Files.{closed, or_whole, opened, opening_ruling, opening_contents, opening_counts}
use Rattle.open.proofs.Opened.{opened_lines}
use Rattle.opening.specs.Contract.{closing, closed_by, Opens}

module _ (text : Bytes) (lent : Lent) where
  -- refused as a whole

  by_tests : (n : ℕ) → first (whole_tests lent text) ≡ some n → opened lent text ≡ refused n 0
  unfolding opened
  by_tests n e = ap (λ (o : Option ℕ). or_whole o (closed (beginning text) (lines_of text).rest (length (lines_of text).complete + 1))) e

  pub opened_short : too_short lent ≡ true → opened lent text ≡ refused 1 0
  opened_short e = by_tests 1 (ap (λ (i : Bool). first ((1 when i) ∷ (2 when ltb most_bytes (length text)) ∷ [])) e)

  opened_long : too_short lent ≡ false → most_bytes < length text → opened lent text ≡ refused 2 0
  opened_long e h = by_tests 2 (ap₂ (λ (i j : Bool). first ((1 when i) ∷ (2 when j) ∷ [])) e (lt-ltb most_bytes (length text) h))

  -- a refusal that left every table clear, with no counts
  pub opens_cleared : {t : Contents} (r : Refused) → opened lent text ≡ refused (number_of r.refusal) r.line → t ≡ clear lent
      → Opens text lent t (judged_by (Err r))
  opens_cleared r e cleared =
      record {
        number = sym (ap (λ (o : Outcome File). number_in (opening_ruling o text)) e);
        line = sym (ap (λ (o : Outcome File). line_in (opening_ruling o text)) e);
        counts = sym (ap opening_counts e);
        tables = cleared ∙ nothing_held lent ∙ ap (λ (o : Outcome File). filled lent (opening_contents o)) (sym e);
      }

-- what the run over all complete lines says of opening, by the two kinds of end

pub record Opened (text : Bytes) (lent : Lent) (a : Accepted) (t : Memory) : Type 0 where
  pub file : File
  pub is_file : opened lent text ≡ next file
  pub line : a.line ≡ length (lines_of text).complete
  pub counts : a.counts ≡ counts_of file.body
  pub holds : five_of t ≡ filled (lengths (five_of t)) (encode file)

abbrev pub Ends : Bytes → Lent → Memory → Result Accepted Refused → Type 0
Ends text lent t r = MatchResult r (λ a. Opened text lent a t) (λ e. opened lent text ≡ refused (number_of e.refusal) e.line)

module _ (text : Bytes) (lent : Lent) (t : Memory) (long : too_short lent ≡ false) (short : length text ≤ most_bytes) where
  -- by what the lines come to
  by_lines : (o : Outcome File) (rest : Bytes) (l : ℕ) → beginning text ≡ o → (lines_of text).rest ≡ rest → length (lines_of text).complete + 1 ≡ l
      → opened lent text ≡ closed o rest l
  by_lines o rest l e r k =
      opened_lines lent text long short
      ∙ ap₂ (λ (p : Outcome File) (bs : Bytes). closed p bs (length (lines_of text).complete + 1)) e r
      ∙ ap (closed o rest) k

  -- a line was refused
  opening_refused : (s : Stopped) → Stops text s t → Ends text lent t (Err s.refused)
  opening_refused s stops = by_lines (refused (number_of s.refused.refusal) s.refused.line) _ _ stops.refuses refl refl

  module _ (ran : Ran) (passes : Passes text ran t) (within : ran.at ≤ length text) where
    at_end : Running text ran.line ran.at ran.state t
    at_end = passes.running

    -- no LF is left
    no_more : lines_of (drop ran.at text) ≡ record { complete = []; rest = drop ran.at text }
    no_more =
        lines_last (drop ran.at text) (
        last_part_lem line_feed text ran.at within (omega (arith, passes.all, (next_bounds line_feed text ran.at within).1)))

    all_passed : beginning text ≡ next at_end.file
    unfolding run
    all_passed = at_end.outcome ∙ ap (λ (ls : Lines). run step (place ran.line ran.at) ls.complete at_end.file) no_more

    rest_is : (lines_of text).rest ≡ drop ran.at text
    rest_is = at_end.rest ∙ ap (λ (ls : Lines). ls.rest) no_more

    counted : length (lines_of text).complete + 1 ≡ ran.line
    counted = omega (arith, at_end.counted, ap (λ (ls : Lines). length ls.complete) no_more)

    -- bytes are left
    opening_stub : ran.at < length text → Ends text lent t (closing true ran)
    opening_stub h =
        by_lines (next at_end.file) (get_or text ran.at 0 ∷ drop (suc ran.at) text) ran.line all_passed
        (rest_is ∙ drop-cons text ran.at 0 h) counted

    -- nothing is left
    opening_whole : length text ≤ ran.at → Ends text lent t (closing false ran)
    opening_whole all =
        let stored = at_end.stored in
        record {
          file = at_end.file;
          is_file = by_lines (next at_end.file) [] _ all_passed (rest_is ∙ drop_of_length-le text all) refl;
          line = omega (arith, counted);
          counts = stored.counts;
          holds = λ i. five (stored.names i) (stored.formulas i) (stored.rows i) (stored.left i) (stored.right i);
        }

    by_rest : (more : Bool) → ltb ran.at (length text) ≡ more → Ends text lent t (closing more ran)
    by_rest true m = opening_stub (ltb-true ran.at (length text) m)
    by_rest false m = opening_whole (ltb-false ran.at (length text) m)

  ends : (r : Result Ran Stopped) → Runs text r t → stands_at r ≤ length text → Ends text lent t (closed_by (length text) r)
  unfolding closed_by
  ends (Err s) stops within = opening_refused s stops
  ends (Ok ran) passes within = by_rest ran passes within (ltb ran.at (length text)) refl

-- the run over a text in fresh tables, and what it ends with
module _ {text : Bytes} {ran : Result Ran Stopped} {before after : Memory} (enough : too_short (lengths (five_of before)) ≡ false)
    (fresh : Fresh before) (over : RunOver text ran before after) where
  abbrev lent : Lent
  lent = lengths (five_of before)

  same : lengths (five_of after) ≡ lent
  same = kept_lengths over.lengths

  -- what the definition says of an end
  abbrev Opening : Result Accepted Refused → Type 0
  Opening end = Opens text lent (left_by end (five_of after)) (judged_by end)

  ended : (end : Result Accepted Refused) → Ends text lent after end → Opening end
  ended (Ok a) o =
      record {
        number = sym (ap (λ (z : Outcome File). number_in (opening_ruling z text)) o.is_file);
        line = o.line ∙ sym (ap (λ (z : Outcome File). line_in (opening_ruling z text)) o.is_file);
        counts = o.counts ∙ sym (ap opening_counts o.is_file);
        tables = o.holds ∙ ap₂ filled same (sym (ap opening_contents o.is_file));
      }
  ended (Err e) is = opens_cleared text lent e is (ap clear same)

  -- a text that is too long is refused by the run, any other by its lines
  opens_end : (end : Result Accepted Refused) → end ≡ closed_by (length text) ran → Opening end
  unfolding closed_by
  opens_end end made = subst Opening (sym made) (by_length (ltb most_bytes (length text)) refl)
    where
      by_length : (long : Bool) → ltb most_bytes (length text) ≡ long → Opening (closed_by (length text) ran)
      by_length true e =
          let long = ltb-true most_bytes (length text) e in
          subst (λ (r : Result Ran Stopped). Opening (closed_by (length text) r)) (sym (over.too_long long).0)
          (ended (Err (record { refusal = TooLong; line = 0 })) (opened_long text lent enough long))
      by_length false e =
          let few = ltb-false most_bytes (length text) e in
          ended (closed_by (length text) ran) (ends text lent after enough few ran (over.runs few fresh) over.within)

  -- where the text is refused the tables have been cleared, and else they are as the run left them
  module _ {end : Result Accepted Refused} {t : Contents} {judged : Judged} (made : end ≡ closed_by (length text) ran) (given : judged ≡ judged_by end) where
    pub opens_kept : is_err end ≡ false → t ≡ five_of after → Opens text (lengths (five_of before)) t judged
    opens_kept = promised_kept (Opens text lent) end (five_of after) (opens_end end made) given

    pub opens_again_clear : is_err end ≡ true → t ≡ clear (lengths (five_of after)) → Opens text (lengths (five_of before)) t judged
    opens_again_clear = promised_clear (Opens text lent) end (five_of after) (opens_end end made) given

-- the same promise by equal lengths
pub opens_same : {text : Bytes} {lent lent' : Lent} {t : Contents} {r : Judged} → lent ≡ lent' → Opens text lent t r → Opens text lent' t r
opens_same {text} {t = t} {r = r} e o = subst (λ (l : Lent). Opens text l t r) e o
