-- The whole answer: the file's own refusal first, then whether its words fit.
use Prim.Native.Nat.{ℕ, ◌%◌}
use native.Mathlib.Omega.{arith}
use mathlib.Core.Bool.{Bool, true, false, cond}
use mathlib.Core.List.{[]}
use mathlib.Core.Path.{◌≡◌, refl, sym, ap, subst, ◌∙◌}
use borrow.Author.Tests.{leb-true, leb-false}
use lib.ListN.{length}
use Rattle.format.specs.Text.{Bytes}
use Rattle.format.specs.File.{File}
use Rattle.format.specs.Tables.{Contents, Lent, padded}
use Rattle.format.specs.Judged.{Ruling, accepted, turned_down, number_in, line_in, beginning, judged, held_by, contents}
use Rattle.format.proofs.GoodBodies.{good_held}
use Rattle.counts.specs.declared.Counts.{Counts}
use Rattle.tables.proofs.Encoded.{begins_padded}
use Rattle.run.specs.Lent.{clear}
use Rattle.answers.specs.Answers.{filled}
use Rattle.answers.specs.declared.Answer.{Answer}
use Rattle.judge.specs.Contract.{Filed, JudgesFile}
use Rattle.judge.specs.declared.Judged.{Judged}
use Rattle.judge.proofs.Whole.{nothing_held}
use Rattle.writer.specs.Writing.{no_room}
use Rattle.words.specs.Words.{words_in}
use Rattle.words.proofs.Unrolled.{words_of_file}
use Rattle.words.proofs.Call.{file_refused, words_fit, words_too_long}
use Rattle.sentences.specs.Sentences.{table_sentences}
use Rattle.sentences.proofs.Held.{HoldsFile, held_sentences}
use Rattle.tell.specs.Contract.{PutsWords, Tells}

-- ---- the file that the tables hold

module _ {text : Bytes} {t : Contents} {counts : Counts} (filed : Filed text t counts) where
  abbrev file : File
  file = filed.file

  holds_file : HoldsFile text file t.names t.formulas t.rows t.left t.right
  holds_file =
      record {
        good = filed.good;
        named = filed.named;
        names_in = filed.names_in;
        names_table = begins_padded (ap (λ (c : Contents). c.names) filed.holds);
        nodes = record { records = begins_padded (ap (λ (c : Contents). c.formulas) filed.holds) };
        rows =
            record {
              records = begins_padded (ap (λ (c : Contents). c.rows) filed.holds);
              left_pool = begins_padded (ap (λ (c : Contents). c.left) filed.holds);
              right_pool = begins_padded (ap (λ (c : Contents). c.right) filed.holds);
            };
      }

  -- so many rows fit 16 bits
  row_count : {count : ℕ} → count ≡ counts.rows % 65536 → count ≡ length file.body.rows
  row_count e =
      let held = ap (λ (c : Counts). c.rows) filed.counted in
      omega (arith, e, held, (good_held filed.good).few_rows)

  -- what is written out of the tables are the words of the text
  words_written : {count : ℕ} → count ≡ counts.rows % 65536
      → table_sentences text t.names t.formulas t.rows t.left t.right 0 count ≡ words_in text
  words_written e =
      ap (table_sentences text t.names t.formulas t.rows t.left t.right 0) (row_count e)
      ∙ held_sentences holds_file
      ∙ sym (words_of_file text file filed.is_file)

  pub puts_file : {count space : ℕ} {words : Bytes} {fit : Bool} → count ≡ counts.rows % 65536
      → PutsWords (table_sentences text t.names t.formulas t.rows t.left t.right 0 count) space words fit
      → PutsWords (words_in text) space words fit
  puts_file {count} {space} {words} {fit} e p = subst (λ (ws : Bytes). PutsWords ws space words fit) (words_written e) p

-- ---- the answer

module _ {text : Bytes} {lent : Lent} {t : Contents} {r : Judged} (j : JudgesFile text lent t r) (space : ℕ) where
  abbrev answer : Answer
  answer = r.answer

  contents_by : (a : Ruling) → judged lent text ≡ a → contents lent text ≡ held_by a (beginning text)
  unfolding contents
  contents_by a e = ap (λ (b : Ruling). held_by b (beginning text)) e

  -- the file is refused
  pub tells_refused : {words : Bytes} → (answer.number ≡ 0 → ⊥) → words ≡ padded space [] → Tells text lent space t words answer
  tells_refused {words} refusal cleared = by (judged lent text) refl
    where
      by : (a : Ruling) → judged lent text ≡ a → Tells text lent space t words answer
      by (accepted l) e = absurd (refusal (j.judges.number ∙ ap number_in e))
      by (turned_down n l) e =
          let leaves = file_refused lent space text n l e in
          record {
            number = j.judges.number ∙ ap number_in (e ∙ sym leaves.ruled);
            line = j.judges.line ∙ ap line_in (e ∙ sym leaves.ruled);
            words_told = cleared ∙ sym leaves.left;
            tables = j.judges.tables ∙ ap (filled lent) (contents_by (turned_down n l) e ∙ sym leaves.contents);
            claim_holds = j.judges.claim_holds;
            claim_shown = j.judges.claim_shown;
          }

  module _ (fine : answer.number ≡ 0) where
    module _ {words : Bytes} {fit : Bool} (put : PutsWords (words_in text) space words fit) where
      -- its words fit
      pub tells_words : fit ≡ true → Tells text lent space t words answer
      tells_words e =
          let filed = j.filed fine in
          let leaves = words_fit lent space text answer.line filed.file (j.accepts fine) filed.is_file
          (leb-true (length (words_in text)) space (sym put.fits ∙ e)) in
          record {
            number = fine ∙ sym (ap number_in leaves.ruled);
            line = sym (ap line_in leaves.ruled);
            words_told = put.left ∙ ap (λ (b : Bool). padded space (cond b (words_in text) [])) e ∙ sym leaves.left;
            tables =
                j.judges.tables
                ∙ ap (filled lent) (contents_by (accepted answer.line) (j.accepts fine)
                ∙ ap (held_by (accepted answer.line)) filed.is_file ∙ sym leaves.contents);
            claim_holds = j.judges.claim_holds;
            claim_shown = j.judges.claim_shown;
          }

      -- they do not, and the tables were cleared
      pub tells_no_room : {n : ℕ} {u : Contents} → n ≡ no_room → fit ≡ false → u ≡ clear lent → Tells text lent space u words (record { number = n; line = 0 })
      tells_no_room f e cleared =
          let leaves = words_too_long lent space text answer.line (j.accepts fine) (leb-false (length (words_in text)) space (sym put.fits ∙ e)) in
          record {
            number = f ∙ sym (ap number_in leaves.ruled);
            line = sym (ap line_in leaves.ruled);
            words_told = put.left ∙ ap (λ (b : Bool). padded space (cond b (words_in text) [])) e ∙ sym leaves.left;
            tables = cleared ∙ nothing_held lent ∙ ap (filled lent) (sym leaves.contents);
            claim_holds = λ z. absurd (omega (arith, f, z));
            claim_shown = λ z. absurd (omega (arith, f, z));
          }
