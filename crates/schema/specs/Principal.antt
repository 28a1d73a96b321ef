-- A principal formula taken apart by the records of the formulas table, whatever it holds. That these are the parts of the formula
-- where the table holds a body is a law (proofs, Apart).
use Rattle.std.specs.Prelude.{ℕ, ◌-◌, Bool, true, false, cond, List, Option, None, Some, eqb, ltb}
use Rattle.tables.specs.declared.records.NodeRecord.{NodeRecord}
use Rattle.tables.specs.Records.{node_at, record_from}
use Rattle.schema.specs.declared.parts.Parts.{Parts}

-- the record of formula i
abbrev pub record_at : List ℕ → ℕ → NodeRecord
record_at formulas i = record_from (node_at formulas i)

-- whether a formula is of the form that the rule asks for; the formula, and its parts A and B
pub record Apart : Type 0 where
  pub fits : Bool
  pub whole : ℕ
  pub first : ℕ
  pub second : ℕ

-- a formula of the form, with its parts
abbrev pub fitting : ℕ → ℕ → ℕ → Apart
fitting whole first second = record { fits = true; whole = whole; first = first; second = second }

-- a formula of another form
abbrev pub misfitting : ℕ → Apart
misfitting whole = record { fits = false; whole = whole; first = whole; second = whole }

-- formula `at` taken apart, if this is its word: `#` into itself, `~A` into A as both parts, the others into two
unfoldable pub split_in : List ℕ → ℕ → ℕ → ℕ → Apart
split_in formulas whole at word =
    let n = record_at formulas at in
    cond (eqb n.word word)
    (cond (eqb word 0) (fitting whole at at) (cond (eqb word 2) (fitting whole n.first n.first) (fitting whole n.first n.second)))
    (misfitting whole)

-- the parts of formula p, if it is of the form that has this number: any, one word, or a negation of one word
unfoldable pub parts_in : List ℕ → ℕ → ℕ → Apart
parts_in formulas form p =
    let n = record_at formulas p in
    cond (eqb form 1) (fitting p p p)
    (cond (ltb form 6) (split_in formulas p p form) (cond (eqb n.word 2) (split_in formulas p n.first (form - 4)) (misfitting p)))

-- the parts of a formula of the form, none of another
abbrev pub parts_if : Apart → Option Parts
parts_if a = cond a.fits (Some (record { whole = a.whole; first = a.first; second = a.second })) None

-- parts are those of a formula of the form
abbrev pub apart : Parts → Apart
apart p = fitting p.whole p.first p.second
