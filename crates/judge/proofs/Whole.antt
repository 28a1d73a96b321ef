-- The whole answer: by the lengths of the tables and the text, and then by the run over its lines.
use Prim.Native.Nat.{ℕ, ◌*◌, ◌≤◌, ◌<◌}
use Rattle.std.specs.Prelude.{Result, Ok, Err, is_err}
use native.Mathlib.Nat.{sub-zero}
use native.Mathlib.Omega.{arith}
use mathlib.Core.Path.{◌≡◌, refl, sym, ap, ap₂, subst, ◌∙◌}
use mathlib.Core.Bool.{Bool, true, false, ◌||◌}
use mathlib.Core.List.{List, [], ◌∷◌}
use mathlib.Core.Option.{Option, none, some}
use lib.Dec.{ltb}
use lib.ListN.{length, replicate, length-replicate}
use borrow.Author.Tests.{lt-ltb, le-ltb, ltb-true, ltb-false}
use Rattle.format.specs.Text.{Bytes}
use Rattle.format.specs.File.{no_file}
use Rattle.format.specs.Tests.{Test, ◌when◌, first}
use Rattle.format.specs.Tables.{Lent, least, too_short, padded, Contents, encode, most_formulas, most_bytes}
use Rattle.format.specs.Judged.{Ruling, accepted, turned_down, number_in, line_in, top, beginning, answer_from, whole_tests, or_whole, judged, held_by, contents}
use Rattle.format.proofs.Booleans.{or_false}
use Rattle.format.proofs.Stepping.{first_applies, first_passes}
use Rattle.format.proofs.Accepted.{accepted_holds, accepted_shown}
use Rattle.refusals.specs.Refusals.{number_of}
use Rattle.refusals.specs.declared.Refusal.TheVariants.{TooLong}
use Rattle.refusals.proofs.OneNumber.{number_of-some}
use Rattle.state.specs.State.{Full, Memory, SameLengths}
use Rattle.state.specs.declared.Refused.{Refused}
use Rattle.state.specs.declared.State.{State}
use Rattle.run.specs.Lent.{five, five_of, lengths, clear, Zeros}
use Rattle.run.specs.Running.{Fresh, RunOver}
use Rattle.run.specs.declared.Ran.{Ran}
use Rattle.run.specs.declared.Stopped.{Stopped}
use Rattle.answers.specs.Answers.{finished, filled, Accepts}
use Rattle.answers.specs.declared.Accepted.{Accepted}
use Rattle.answers.proofs.Ends.{Ends, ends}
use Rattle.judge.specs.Contract.{judged_by, JudgesFile}
use Rattle.judge.specs.declared.Judged.{Judged}

-- clear tables hold no file
pub nothing_held : (lent : Lent) → clear lent ≡ filled lent (encode no_file)
nothing_held lent =
    λ i. five (none_in lent.names i) (none_in lent.formulas i) (none_in lent.rows i) (none_in lent.left i) (none_in lent.right i)
  where
    none_in : (len : ℕ) → replicate {A = ℕ} len 0 ≡ padded len []
    none_in len = ap (λ (m : ℕ). replicate m 0) (sym (sub-zero len))

module _ (text : Bytes) (lent : Lent) where
  by_tests : (o : Option ℕ) → first (whole_tests lent text) ≡ o → judged lent text ≡ or_whole o (answer_from top text no_file)
  unfolding judged
  by_tests o e = ap (λ (p : Option ℕ). or_whole p (answer_from top text no_file)) e

  short : Test
  short = 1 when too_short lent

  long : Test
  long = 2 when ltb most_bytes (length text)

  pub judged_short : too_short lent ≡ true → judged lent text ≡ turned_down 1 0
  unfolding short long
  judged_short e = by_tests (some 1) (first_applies short (long ∷ []) e)

  judged_long : too_short lent ≡ false → most_bytes < length text → judged lent text ≡ turned_down 2 0
  unfolding short long
  judged_long e h = by_tests (some 2) (first_passes short (long ∷ []) e ∙ first_applies long [] (lt-ltb most_bytes (length text) h))

  judged_read : too_short lent ≡ false → length text ≤ most_bytes → judged lent text ≡ answer_from top text no_file
  unfolding short long
  judged_read e h = by_tests none (first_passes short (long ∷ []) e ∙ first_passes long [] (le-ltb most_bytes (length text) h))

  contents_by : (a : Ruling) → judged lent text ≡ a → contents lent text ≡ held_by a (beginning text)
  unfolding contents
  contents_by a e = ap (λ (b : Ruling). held_by b (beginning text)) e

  -- a refusal that left every table clear
  pub judges_cleared : {t : Contents} (r : Refused) → judged lent text ≡ turned_down (number_of r.refusal) r.line → t ≡ clear lent
      → JudgesFile text lent t (judged_by (Err r))
  judges_cleared {t} r e cleared =
      record {
        judges =
            record {
              number = sym (ap number_in e);
              line = sym (ap line_in e);
              tables = cleared ∙ nothing_held lent ∙ ap (filled lent) (sym (contents_by (turned_down (number_of r.refusal) r.line) e));
              claim_holds = λ z. absurd (number_of-some r.refusal z);
              claim_shown = λ z. absurd (number_of-some r.refusal z);
            };
        accepts = λ z. absurd (number_of-some r.refusal z);
        filed = λ z. absurd (number_of-some r.refusal z);
        none_filed = λ _. refl;
      }

  -- an acceptance, with the tables that the run left
  pub judges_accepted : {t : Memory} {s : State} {a : Accepted} → judged lent text ≡ answer_from top text no_file → lengths (five_of t) ≡ lent
      → Accepts text s a t → JudgesFile text lent (five_of t) (judged_by (Ok a))
  judges_accepted {t} {s} {a} read same accepts =
      record {
        judges =
            record {
              number = sym (ap number_in whole);
              line = sym (ap line_in whole);
              tables = holds ∙ ap₂ filled same (sym (contents_by (accepted a.line) whole ∙ ap (held_by (accepted a.line)) accepts.is_file));
              claim_holds = λ z bad. accepted_holds lent text a.line whole bad;
              claim_shown = λ z. accepted_shown lent text a.line whole;
            };
        accepts = λ _. whole;
        filed =
            λ _.
            record {
              file = accepts.file;
              is_file = accepts.is_file;
              good = accepts.good.body;
              named = accepts.good.names;
              names_in = accepts.stored.names_in;
              holds = holds;
              counted = accepts.counts ∙ accepts.stored.counts;
            };
        none_filed = λ n. absurd (n refl);
      }
    where
      whole : judged lent text ≡ accepted a.line
      whole = read ∙ accepts.line

      holds : five_of t ≡ filled (lengths (five_of t)) (encode accepts.file)
      holds = let stored = accepts.stored in λ i. five (stored.names i) (stored.formulas i) (stored.rows i) (stored.left i) (stored.right i)

-- the tables after the end of a text: as the run left them, and cleared where it is refused
abbrev pub left_by : Result Accepted Refused → Contents → Contents
left_by (Ok a) t = t
left_by (Err e) t = clear (lengths t)

-- a promise of these tables and of what the end gives, by whether it is a refusal
module _ (P : Contents → Judged → Type 0) {t : Contents} {judged : Judged} where
  pub promised_kept : (end : Result Accepted Refused) (u : Contents) → P (left_by end u) (judged_by end) → judged ≡ judged_by end
      → is_err end ≡ false → t ≡ u → P t judged
  promised_kept (Ok a) u p given passed same = subst (P t) (sym given) (subst (λ (v : Contents). P v (judged_by (Ok a))) (sym same) p)
  promised_kept (Err e) u p given passed same = cc

  pub promised_clear : (end : Result Accepted Refused) (u : Contents) → P (left_by end u) (judged_by end) → judged ≡ judged_by end
      → is_err end ≡ true → t ≡ clear (lengths u) → P t judged
  promised_clear (Ok a) u p given failed same = cc
  promised_clear (Err e) u p given failed same = subst (P t) (sym given) (subst (λ (v : Contents). P v (judged_by (Err e))) (sym same) p)

-- the lengths of the lent tables are kept where those of a memory are
pub kept_lengths : {t u : Memory} → SameLengths t u → lengths (five_of u) ≡ lengths (five_of t)
kept_lengths kept =
    λ i. record { names = kept.names i; formulas = kept.formulas i; rows = kept.rows i; left = kept.left i; right = kept.right i }

-- the run over a text in fresh tables, and what it ends with
module _ {text : Bytes} {ran : Result Ran Stopped} {before after : Memory} (enough : too_short (lengths (five_of before)) ≡ false)
    (fresh : Fresh before) (over : RunOver text ran before after) where
  lent : Lent
  lent = lengths (five_of before)

  same : lengths (five_of after) ≡ lent
  unfolding lent
  same = kept_lengths over.lengths

  -- what the definition says of an end
  abbrev Judging : Result Accepted Refused → Type 0
  Judging end = JudgesFile text (lengths (five_of before)) (left_by end (five_of after)) (judged_by end)

  turned : (e : Refused) → judged lent text ≡ turned_down (number_of e.refusal) e.line → Judging (Err e)
  unfolding lent
  turned e is = judges_cleared text lent e is (ap clear same)

  ended : (s : State) (end : Result Accepted Refused) → judged lent text ≡ answer_from top text no_file → Ends text s after end → Judging end
  unfolding lent
  ended s (Ok a) read accepts = judges_accepted text lent read same accepts
  ended s (Err e) read refuses = turned e (read ∙ refuses)

  -- a text that is too long is refused by the run, any other by its lines
  judges_end : (end : Result Accepted Refused) → end ≡ finished (length text) ran → Judging end
  unfolding lent finished
  judges_end end made = subst Judging (sym made) (by_length (ltb most_bytes (length text)) refl)
    where
      by_length : (long : Bool) → ltb most_bytes (length text) ≡ long → Judging (finished (length text) ran)
      by_length true e =
          let long = ltb-true most_bytes (length text) e in
          subst (λ (r : Result Ran Stopped). Judging (finished (length text) r)) (sym (over.too_long long).0)
          (turned (record { refusal = TooLong; line = 0 }) (judged_long text lent enough long))
      by_length false e =
          let few = ltb-false most_bytes (length text) e in
          ended _ (finished (length text) ran) (judged_read text lent enough few) (ends text after ran (over.runs few fresh))

  -- where the text is refused the tables have been cleared, and else they are as the run left them
  module _ {end : Result Accepted Refused} {t : Contents} {judged : Judged} (made : end ≡ finished (length text) ran) (given : judged ≡ judged_by end) where
    pub judges_kept : is_err end ≡ false → t ≡ five_of after → JudgesFile text (lengths (five_of before)) t judged
    judges_kept = promised_kept (JudgesFile text (lengths (five_of before))) end (five_of after) (judges_end end made) given

    pub judges_again_clear : is_err end ≡ true → t ≡ clear (lengths (five_of after)) → JudgesFile text (lengths (five_of before)) t judged
    judges_again_clear = promised_clear (JudgesFile text (lengths (five_of before))) end (five_of after) (judges_end end made) given

-- the same promise by equal lengths
pub judges_same : {text : Bytes} {lent lent' : Lent} {t : Contents} {r : Judged} → lent ≡ lent' → JudgesFile text lent t r → JudgesFile text lent' t r
judges_same {text} {t = t} {r = r} e j = subst (λ (l : Lent). JudgesFile text l t r) e j

-- tables that are long enough are full
long_enough : (t : Memory) → too_short (lengths (five_of t)) ≡ false → 3 * most_formulas ≤ length t.notes → Full t
unfolding too_short
long_enough t e w =
    let fifth = or_false (names || formulas || rows || left) right e in
    let fourth = or_false (names || formulas || rows) left fifth.0 in
    let third = or_false (names || formulas) rows fourth.0 in
    let second = or_false names formulas third.0 in
    record {
      names = ltb-false (length t.names) least.names second.0;
      formulas = ltb-false (length t.formulas) least.formulas second.1;
      notes = w;
      rows = ltb-false (length t.rows) least.rows third.1;
      left = ltb-false (length t.left) least.left fourth.1;
      right = ltb-false (length t.right) least.right fifth.1;
    }
  where
    names : Bool
    names = ltb (length t.names) least.names

    formulas : Bool
    formulas = ltb (length t.formulas) least.formulas

    rows : Bool
    rows = ltb (length t.rows) least.rows

    left : Bool
    left = ltb (length t.left) least.left

    right : Bool
    right = ltb (length t.right) least.right

-- zeros through a table, by the length that it had
zeros_long : (table : List ℕ) (n : ℕ) → table ≡ replicate n 0 → length table ≡ n
zeros_long table n e = ap length e ∙ length-replicate n 0

-- cleared tables have the lengths that they had
pub clear_lengths : (t : Contents) (lent : Lent) → t ≡ clear lent → lengths t ≡ lent
clear_lengths t lent e =
    λ i.
    record {
      names = zeros_long t.names lent.names (ap (λ (c : Contents). c.names) e) i;
      formulas = zeros_long t.formulas lent.formulas (ap (λ (c : Contents). c.formulas) e) i;
      rows = zeros_long t.rows lent.rows (ap (λ (c : Contents). c.rows) e) i;
      left = zeros_long t.left lent.left (ap (λ (c : Contents). c.left) e) i;
      right = zeros_long t.right lent.right (ap (λ (c : Contents). c.right) e) i;
    }

-- and hold nothing
pub clear_zeros : (t : Contents) (lent : Lent) → t ≡ clear lent → Zeros t
clear_zeros t lent e = e ∙ ap clear (sym (clear_lengths t lent e))

-- clear tables of full length are fresh, beside notes that are new
pub fresh_tables : (t : Memory) → too_short (lengths (five_of t)) ≡ false → Zeros (five_of t) → t.notes ≡ replicate (3 * most_formulas) 0 → Fresh t
fresh_tables t enough zeros new =
    let long = zeros_long t.notes (3 * most_formulas) new in
    record {
      full = long_enough t enough (omega (arith, long));
      zeros = zeros;
      no_notes = new ∙ ap (λ (k : ℕ). replicate k 0) (sym long);
    }
