-- The sentence of a row as tables tell it, whatever they hold. Where they hold a file it is that of the file's row (proofs/Held).
use Rattle.std.specs.Prelude.{ℕ, zero, suc, ◌+◌, Bool, List, [], ◌∷◌, ◌++◌, eqb}
use Rattle.elk.specs.Sequent.{Kind}
use Rattle.format.specs.Text.{Bytes, bytes}
use Rattle.format.specs.Tables.{Side, row_at, fetched}
use Rattle.format.specs.Written.{decimal}
use Rattle.rules.specs.RuleTable.{rule_number}
use Rattle.tables.specs.Records.{row_from}
use Rattle.tables.specs.declared.records.RowRecord.{RowRecord}
use Rattle.words.specs.Meanings.{meaning_at}
use Rattle.words.specs.Words.{joined, principal_words, premise_words}
use Rattle.phrases.specs.Rows.{kind_by, premises_from, table_principal, table_side}

-- whether a rule is ELK, by its code
unfoldable pub elk_rule : ℕ → Bool
elk_rule code = eqb (rule_number code 1) 0

-- number and meaning
unfoldable pub heading_words : ℕ → ℕ → Bytes
heading_words row rule = joined (bytes "Row " ∷ decimal row ∷ bytes ": " ∷ meaning_at rule ∷ bytes "; " ∷ [])

module _ (text : Bytes) (names formulas : List ℕ) where
  -- principal formula and premises
  unfoldable pub ground_words : ℕ → ℕ → ℕ → Bytes
  ground_words principal first second =
      joined (principal_words (table_principal text names formulas principal) ∷ bytes "; " ∷ premise_words (premises_from first second) ∷ bytes "; " ∷ [])

  module _ (rows left right : List ℕ) where
    -- both sides
    unfoldable pub sequent_words : Kind → ℕ → Bytes
    sequent_words kind row =
        joined (
        table_side text names formulas kind Side.left (fetched rows left right Side.left row) ∷ bytes "; "
        ∷ table_side text names formulas kind Side.right (fetched rows left right Side.right row) ∷ bytes ".\n" ∷ [])

    -- the sentence of a row with this record
    abbrev pub sentence_by : ℕ → RowRecord → Bytes
    sentence_by row r = heading_words row r.rule ++ (ground_words r.principal r.first r.second ++ sequent_words (kind_by (elk_rule r.rule)) row)

    -- the sentence of a row
    unfoldable pub table_sentence : ℕ → Bytes
    table_sentence row = sentence_by row (row_from (row_at rows row))

    -- the sentences of so many rows from one on
    unfoldable pub table_sentences : ℕ → ℕ → Bytes
    table_sentences row zero = []
    table_sentences row (suc count) = table_sentence row ++ table_sentences (row + 1) count
