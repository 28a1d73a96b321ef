-- The sentence of a row from what was read of it, and sentences written one after the other.
use Prim.Native.Nat.{ℕ, suc, ◌+◌, ◌-◌, ◌≤◌, ◌<◌}
use native.Mathlib.Omega.{arith}
use mathlib.Core.List.{List, [], ◌++◌, append-nil, append_assoc}
use mathlib.Core.Path.{◌≡◌, refl, sym, ap, ap₂, subst, ◌∙◌}
use Rattle.std.specs.Prelude.{Option as Reach, Some, None}
use Rattle.elk.specs.Sequent.{Kind}
use Rattle.format.specs.Text.{Bytes}
use Rattle.format.specs.Tables.{row_at}
use Rattle.tables.specs.Records.{row_from}
use Rattle.tables.specs.declared.records.RowRecord.{RowRecord}
use Rattle.writer.specs.Writing.{Writes}
use Rattle.writer.proofs.Writing.{none_writes, writes_as, writes_then, writes_start}
use Rattle.phrases.specs.Rows.{kind_by}
use Rattle.sentences.specs.Sentences.{elk_rule, heading_words, ground_words, sequent_words, table_sentence, table_sentences}

module _ (text : Bytes) (names formulas rows left right : List ℕ) where
  -- by the record that was read, and the calculus of its rule
  pub sentence_read : (number at : ℕ) (held : RowRecord) (kind : Kind) → at ≡ number → held ≡ row_from (row_at rows at)
      → kind ≡ kind_by (elk_rule held.rule)
      → table_sentence text names formulas rows left right number
      ≡ heading_words number held.rule
      ++ (ground_words text names formulas held.principal held.first held.second ++ sequent_words text names formulas rows left right kind at)
  unfolding table_sentence
  sentence_read number at held kind e f g =
      ap by (ap (λ (n : ℕ). row_from (row_at rows n)) (sym e) ∙ sym f)
      ∙ ap₂ (λ (k : Kind) (n : ℕ). heading_words number held.rule
      ++ (ground_words text names formulas held.principal held.first held.second ++ sequent_words text names formulas rows left right k n))
      (sym g) (sym e)
    where
      by : RowRecord → Bytes
      by r =
          heading_words number r.rule
          ++ (ground_words text names formulas r.principal r.first r.second
          ++ sequent_words text names formulas rows left right (kind_by (elk_rule r.rule)) number)

  module _ (count : ℕ) where
    -- those of the rows from `number` on
    abbrev ahead : ℕ → Bytes
    ahead number = table_sentences text names formulas rows left right number (count - number)

    sentence_first : (number : ℕ) → number < count → ahead number ≡ table_sentence text names formulas rows left right number ++ ahead (number + 1)
    unfolding table_sentences
    sentence_first number h =
        let more : count - number ≡ suc (count - (number + 1)) = omega arith in
        ap (table_sentences text names formulas rows left right number) more

    sentences_end : (number : ℕ) → count ≤ number → ahead number ≡ []
    unfolding table_sentences
    sentences_end number h = let none : count - number ≡ 0 = omega arith in ap (table_sentences text names formulas rows left right number) none

    all_ahead : ahead 0 ≡ table_sentences text names formulas rows left right 0 count
    all_ahead = let all : count - 0 ≡ count = omega arith in ap (table_sentences text names formulas rows left right 0) all

    -- the rows before `number` are told
    pub record Begun (number at : ℕ) (text₀ text₁ : Bytes) : Type 0 where
      pub words : Bytes
      pub writes : Writes words text₀ (Some 0) text₁ (Some at)
      pub rest : words ++ ahead number ≡ ahead 0

    pub begun_none : (out : Bytes) → Begun 0 0 out out
    begun_none out = record { words = []; writes = writes_start out; rest = refl }

    module _ {number at : ℕ} {text₀ text₁ : Bytes} (b : Begun number at text₀ text₁) where
      one_more : number < count → b.words ++ (table_sentence text names formulas rows left right number ++ ahead (number + 1)) ≡ ahead 0
      one_more h = ap (λ (more : Bytes). b.words ++ more) (sym (sentence_first number h)) ∙ b.rest

      pub begun_more : {end : ℕ} {text₂ : Bytes} → number < count
          → Writes (table_sentence text names formulas rows left right number) text₁ (Some at) text₂ (Some end)
          → Begun (number + 1) end text₀ text₂
      begun_more h p =
          record {
            words = b.words ++ table_sentence text names formulas rows left right number;
            writes = writes_then b.writes p;
            rest = append_assoc b.words (table_sentence text names formulas rows left right number) (ahead (number + 1)) ∙ one_more h;
          }

      -- there is no room for the sentence of the next row
      pub begun_full : {text₂ : Bytes} {end : Reach ℕ} → number < count
          → Writes (table_sentence text names formulas rows left right number) text₁ (Some at) text₂ None → end ≡ None
          → Writes (table_sentences text names formulas rows left right 0 count) text₀ (Some 0) text₂ end
      begun_full {text₂} h p e =
          subst (λ (v : Reach ℕ). Writes (table_sentences text names formulas rows left right 0 count) text₀ (Some 0) text₂ v) (sym e)
          (writes_as (sym all_ahead ∙ sym (one_more h)) (writes_then b.writes (writes_then p (none_writes (ahead (number + 1)) text₂))))

    pub begun_all : {number at : ℕ} {text₀ text₁ : Bytes} → Begun number at text₀ text₁ → count ≤ number
        → Writes (table_sentences text names formulas rows left right 0 count) text₀ (Some 0) text₁ (Some at)
    begun_all {number} b h =
        writes_as (sym all_ahead ∙ sym b.rest ∙ ap (λ (more : Bytes). b.words ++ more) (sentences_end number h) ∙ append-nil b.words) b.writes
