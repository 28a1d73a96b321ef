-- A formula as tables tell it, whatever they hold. Where they hold the formulas of a body and the names of its atoms it is the
-- body's formula (proofs/HeldFormulas).
use Rattle.std.specs.Prelude.{ℕ, zero, suc, cond, List, eqb, ltb, leb}
use Rattle.format.specs.Text.{Bytes, bytes}
use Rattle.tables.specs.Records.{node_at, record_from}
use Rattle.tables.specs.declared.records.NodeRecord.{NodeRecord}
use Rattle.words.specs.Told.{Named, falsum, atom, neg, conj, disj, imp}
use Rattle.writer.specs.Names.{spelling}

-- the word of a record whose parts are formulas before i; that of falsum for any other
unfoldable pub word_before : NodeRecord → ℕ → ℕ
word_before n i =
    cond (eqb n.word 1) 1 (cond (ltb 5 n.word) 0 (cond (leb i n.first) 0
    (cond (eqb n.word 2) 2 (cond (leb i n.second) 0 n.word))))

-- the formula of a word, an atom and two parts
abbrev pub formula_by : ℕ → Bytes → Named → Named → Named
formula_by zero name A B = falsum
formula_by (suc zero) name A B = atom name
formula_by (suc (suc zero)) name A B = neg A
formula_by (suc (suc (suc zero))) name A B = conj A B
formula_by (suc (suc (suc (suc zero)))) name A B = disj A B
formula_by (suc (suc (suc (suc (suc zero))))) name A B = imp A B
formula_by (suc (suc (suc (suc (suc (suc k)))))) name A B = falsum

-- formula i, where so many steps down to its parts are enough
unfoldable pub formula_within : ℕ → Bytes → (names formulas : List ℕ) → ℕ → Named
formula_within zero text names formulas i = falsum
formula_within (suc steps) text names formulas i =
    formula_by (word_before (record_from (node_at formulas i)) i) (spelling text names (record_from (node_at formulas i)).first)
    (formula_within steps text names formulas (record_from (node_at formulas i)).first)
    (formula_within steps text names formulas (record_from (node_at formulas i)).second)

-- formula i: its parts come before it, so that i steps are enough
abbrev pub table_formula : Bytes → (names formulas : List ℕ) → ℕ → Named
table_formula text names formulas i = formula_within (suc i) text names formulas i

-- the bracket before a formula of two parts, with the word before the first part
unfoldable pub bracket_of : ℕ → Bytes
bracket_of word = cond (eqb word 5) (bytes "(if ") (bytes "(")

-- the word between its parts
unfoldable pub connective_of : ℕ → Bytes
connective_of word = cond (eqb word 3) (bytes " and ") (cond (eqb word 4) (bytes " or ") (bytes " then "))
