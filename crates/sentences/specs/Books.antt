-- What a book tells, by the tables that it has.
use Rattle.std.specs.Prelude.{ℕ}
use Rattle.elk.specs.Sequent.{Kind}
use Rattle.format.specs.Text.{Bytes}
use Rattle.tables.specs.declared.records.RowRecord.{RowRecord}
use Rattle.sentences.specs.Sentences.{ground_words, sequent_words, table_sentence, table_sentences}
use Rattle.sentences.specs.declared.Book.{Book}

module _ (b : Book) where
  abbrev pub grounds_in : RowRecord → Bytes
  grounds_in r = ground_words b.sheet.text.now b.sheet.names.now b.sheet.formulas.now r.principal r.first r.second

  abbrev pub sequent_in : Kind → ℕ → Bytes
  sequent_in kind row =
      sequent_words b.sheet.text.now b.sheet.names.now b.sheet.formulas.now b.rows.now b.left.now b.right.now kind row

  abbrev pub sentence_in : ℕ → Bytes
  sentence_in row = table_sentence b.sheet.text.now b.sheet.names.now b.sheet.formulas.now b.rows.now b.left.now b.right.now row

  abbrev pub sentences_in : ℕ → ℕ → Bytes
  sentences_in row count =
      table_sentences b.sheet.text.now b.sheet.names.now b.sheet.formulas.now b.rows.now b.left.now b.right.now row count
