-- The run over a text's lines: the invariant holds before the first line, is kept by each line that passes, and says what the
-- run comes to where it stops.
use Prim.Native.Nat.{ℕ, zero, suc, ◌+◌, ◌≤◌, ◌<◌, ◌-◌}
use Rattle.std.specs.Prelude.{Ok, Err}
use native.Mathlib.Nat.{sub-zero}
use native.Mathlib.Omega.{arith}
use mathlib.Core.Path.{◌≡◌, refl, sym, ap, ap₂, subst, ◌∙◌}
use mathlib.Core.List.Memᴰ
use mathlib.Core.List.{List, [], ◌∷◌, ◌++◌}
use lib.ListN.{length, get_or, drop, replicate, length-take, length-drop}
use Rattle.format.specs.Text.{Bytes, Lines, parts_at, line_feed, lines_of}
use Rattle.format.specs.File.{File, no_file}
use Rattle.format.specs.Tables
use Rattle.format.specs.Tables.{padded, most_bytes}
use Rattle.format.specs.Judged.{Place, Outcome, next, refused, step, after, below, run, beginning, run_from, answer_from}
use Rattle.format.proofs.Stepping.{lines_cons, run_line, run_next, answer_next}
use Rattle.format.proofs.Beginnings.{step_good, good_start}
use Rattle.parts.specs.Parts.{next_at, between}
use Rattle.parts.proofs.PartLaws.{next_bounds, next_part}
use Rattle.known.proofs.Indexing.{index_none}
use Rattle.refusals.specs.Refusals.{number_of}
use Rattle.refusals.specs.declared.Refusal.TheVariants.{TooLong}
use Rattle.state.specs.State.{Stepped, Memory, SameLengths, Steps, start}
use Rattle.lines.specs.Stepping.{LineStepped}
use Rattle.lines.proofs.LineLaws.{same_lengths}
use Rattle.state.specs.declared.State.{State}
use Rattle.state.specs.declared.Refused.{Refused}
use Rattle.run.specs.Running.{place, Running, Fresh, RunOver}

-- before the first line, in clear tables
running_start : (text : Bytes) (t : Memory) → Fresh t → Running text 1 0 start t
unfolding beginning
running_start text t fresh =
    record {
      done = [];
      file = no_file;
      good = good_start;
      stored =
          record {
            full = fresh.full;
            counts = refl;
            stage = refl;
            model = tt;
            claim = refl;
            names_in = λ n m. absurd (Memᴰ.not-nil m);
            names = empty t.names (ap (λ (c : Tables.Contents). c.names) fresh.zeros);
            formulas = empty t.formulas (ap (λ (c : Tables.Contents). c.formulas) fresh.zeros);
            known =
                record {
                  atoms = λ i h. absurd (omega arith);
                  index = index_none t.notes (λ i. ap (λ (l : List ℕ). get_or l i 0) fresh.no_notes ∙ all_zero (length t.notes) i);
                };
            rows = empty t.rows (ap (λ (c : Tables.Contents). c.rows) fresh.zeros);
            left = empty t.left (ap (λ (c : Tables.Contents). c.left) fresh.zeros);
            right = empty t.right (ap (λ (c : Tables.Contents). c.right) fresh.zeros);
          };
      answer = refl;
      outcome = refl;
      counted = omega arith;
      rest = refl;
    }
  where
    all_zero : (n i : ℕ) → ◌≡◌ {A = ℕ} (get_or (replicate n 0) i 0) 0
    all_zero zero i = refl
    all_zero (suc n) zero = refl
    all_zero (suc n) (suc i) = all_zero n i

    empty : (xs : List ℕ) → xs ≡ replicate (length xs) 0 → xs ≡ padded (length xs) []
    empty xs e = e ∙ ap (λ (n : ℕ). replicate n 0) (sym (sub-zero (length xs)))

-- the next LF does not stand before
pub up_to : (text : Bytes) (at end : ℕ) → at ≤ length text → end ≡ next_at line_feed text at → at ≤ end
up_to text at end within found = omega (arith, (next_bounds line_feed text at within).0)

module _ (text : Bytes) (line at : ℕ) (s : State) (t : Memory) (within : at ≤ length text) (r : Running text line at s t) where
  -- the line that ends at an LF
  module _ (end : ℕ) (few : length text ≤ most_bytes) (found : end ≡ next_at line_feed text at) (inside : end < length text)
      (stepped : Stepped) (u : Memory) (steps : LineStepped text at end line s stepped t u) where
    from : at ≤ end
    from = up_to text at end within found

    cut : parts_at line_feed (drop at text) ≡ between text at end ∷ parts_at line_feed (drop (end + 1) text)
    cut =
        subst (λ (k : ℕ). parts_at line_feed (drop at text) ≡ between text at k ∷ parts_at line_feed (drop (k + 1) text)) (sym found)
        (next_part line_feed text at within (omega (arith, found)))

    lines : lines_of (drop at text) ≡ record {
      complete = between text at end ∷ (lines_of (drop (end + 1) text)).complete;
      rest = (lines_of (drop (end + 1) text)).rest;
    }
    lines = lines_cons (drop at text) (between text at end) (drop (end + 1) text) cut

    outcome : Steps text (step r.file (place line at) (between text at end)) stepped u
    outcome = (steps.inside from (omega arith)).steps r.file (place line at) r.done r.good r.stored few refl refl

    after_line : below (place line at) (between text at end) ≡ place (line + 1) (end + 1)
    after_line = ap (place (line + 1)) (omega (arith, from, length-take (end - at) (drop at text), length-drop at text))

    -- it passed
    running_next : (after_it : State) → stepped ≡ Ok after_it → Running text (line + 1) (end + 1) after_it u
    running_next after_it e =
        cases (step r.file (place line at) (between text at end)) refl
        (subst (λ (x : Stepped). Steps text (step r.file (place line at) (between text at end)) x u) e outcome)
      where
        cases : (o : Outcome File) → step r.file (place line at) (between text at end) ≡ o → Steps text o (Ok after_it) u
            → Running text (line + 1) (end + 1) after_it u
        cases (next f) q stored =
            record {
              done = r.done ++ between text at end ∷ [];
              file = f;
              good = step_good (place line at) (between text at end) r.good q;
              stored = stored;
              answer =
                  r.answer ∙ answer_next (place line at) r.file (drop at text) (between text at end) (drop (end + 1) text) f cut q
                  ∙ ap (λ (p : Place). answer_from p (drop (end + 1) text) f) after_line;
              outcome =
                  r.outcome ∙ run_next (place line at) r.file (drop at text) (between text at end) (drop (end + 1) text) f cut q
                  ∙ ap (λ (p : Place). run_from p (drop (end + 1) text) f) after_line;
              counted = omega (arith, r.counted, ap (λ (ls : Lines). length ls.complete) lines);
              rest = r.rest ∙ ap (λ (ls : Lines). ls.rest) lines;
            }
        cases (refused n l) q never = absurd never

    -- it was refused
    running_refused : (why : Refused) → stepped ≡ Err why → beginning text ≡ refused (number_of why.refusal) why.line
    running_refused why e =
        cases (step r.file (place line at) (between text at end)) refl
        (subst (λ (x : Stepped). Steps text (step r.file (place line at) (between text at end)) x u) e outcome)
      where
        cases : (o : Outcome File) → step r.file (place line at) (between text at end) ≡ o → Steps text o (Err why) u
            → beginning text ≡ refused (number_of why.refusal) why.line
        cases (next f) q never = absurd never
        cases (refused n l) q k =
            r.outcome ∙ run_line (place line at) r.file (drop at text) (between text at end) (drop (end + 1) text) cut
            ∙ ap (λ (o : Outcome File). after o (run step (below (place line at) (between text at end)) (lines_of (drop (end + 1) text)).complete)) q
            ∙ ap₂ refused (sym k.0) (sym k.1)

-- The loop's invariant, at the line from `at` to `end`: the tables were t when they were lent, and are u now. Only what the lines
-- come to needs that t was fresh.
pub record Reached (text : Bytes) (t : Memory) (line at end : ℕ) (s : State) (u : Memory) : Type 0 where
  pub running : Fresh t → Running text line at s u
  pub found : end ≡ next_at line_feed text at
  pub within : at ≤ length text
  pub few : line ≤ at + 1
  pub lengths : SameLengths t u

-- before the first line
pub reached_start : {text : Bytes} {t : Memory} {end : ℕ} {s : State} → s ≡ start → end ≡ next_at line_feed text 0 → Reached text t 1 0 end s t
reached_start {text} {t} e found =
    record {
      running = λ fresh. subst (λ (z : State). Running text 1 0 z t) (sym e) (running_start text t fresh);
      found = found;
      within = omega arith;
      few = omega arith;
      lengths = same_lengths t;
    }

-- a text that is too long
pub run_unread : {text : Bytes} {t : Memory} {s : State} → most_bytes < length text → s ≡ start
    → RunOver text (Err (record { refused = record { refusal = TooLong; line = 0 }; at = 0; state = s })) t t
run_unread {text} {t} long e =
    record {
      too_long = λ h. (ap (λ (z : State). Err (record { refused = record { refusal = TooLong; line = 0 }; at = 0; state = z })) e, refl);
      runs = λ h. absurd (omega arith);
      within = omega arith;
      lengths = same_lengths t;
    }

module _ {text : Bytes} {t : Memory} {line at end : ℕ} {s : State} {u : Memory} (r : Reached text t line at end s u) (short : length text ≤ most_bytes) where
  -- no LF is left
  pub run_out : length text ≤ end → RunOver text (Ok (record { line = line; at = at; state = s })) t u
  run_out h =
      record {
        too_long = λ long. absurd (omega arith);
        runs = λ few fresh. record { running = r.running fresh; all = omega (arith, r.found) };
        within = r.within;
        lengths = r.lengths;
      }

  -- the line that ends at an LF
  module _ (inside : end < length text) {stepped : Stepped} {v : Memory} (steps : LineStepped text at end line s stepped u v) where
    same : SameLengths t v
    same =
        let line_same = (steps.inside (up_to text at end r.within r.found) (omega arith)).keeps.lengths in
        let so_far = r.lengths in
        record {
          names = line_same.names ∙ so_far.names;
          formulas = line_same.formulas ∙ so_far.formulas;
          notes = line_same.notes ∙ so_far.notes;
          rows = line_same.rows ∙ so_far.rows;
          left = line_same.left ∙ so_far.left;
          right = line_same.right ∙ so_far.right;
        }

    -- it passed
    pub reached_next : {after_it : State} → stepped ≡ Ok after_it → {later : ℕ} → later ≡ next_at line_feed text (end + 1)
        → Reached text t (line + 1) (end + 1) later after_it v
    reached_next {after_it} e found =
        record {
          running = λ fresh. running_next text line at s u r.within (r.running fresh) end short r.found inside stepped v steps after_it e;
          found = found;
          within = omega arith;
          few = omega (arith, r.few, up_to text at end r.within r.found);
          lengths = same;
        }

    -- it was refused
    pub run_refused : {why : Refused} → stepped ≡ Err why → RunOver text (Err (record { refused = why; at = at; state = s })) t v
    run_refused {why} e =
        record {
          too_long = λ long. absurd (omega arith);
          runs =
              λ few fresh.
              record {
                refuses = running_refused text line at s u r.within (r.running fresh) end short r.found inside stepped v steps why e;
                line = line;
                running = subst (Running text line at s) (sym kept) (r.running fresh);
              };
          within = r.within;
          lengths = same;
        }
      where
        kept : v ≡ u
        kept = (steps.inside (up_to text at end r.within r.found) (omega arith)).keeps.kept why e
