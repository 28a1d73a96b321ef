-- The number that entering a formula stands for, where the table holds formulas with their index. Assumes nothing.
use Prim.Native.Nat.{ℕ, zero, suc, ◌<◌}
use native.Mathlib.Omega.{arith}
use mathlib.Core.Bool.{Bool, true, ◌||◌, or-true}
use mathlib.Core.List.{List, [], ◌∷◌}
use mathlib.Core.Option.{Option, some}
use mathlib.Core.Path.{◌≡◌, refl, sym, ap, ap₂, subst, ◌∙◌}
use borrow.Author.Tests.{le-leb, lt-leb}
use lib.Dec.{leb}
use lib.ListN.{length, get_or}
use Rattle.format.specs.Text.{any, same_list}
use Rattle.format.specs.File.{Node}
use Rattle.format.specs.Tables.{node_record, most_formulas}
use Rattle.format.specs.Tests.{◌when◌, first}
use Rattle.format.proofs.Booleans.{list_same}
use Rattle.tables.specs.Records.{record_numbers}
use Rattle.tables.specs.Holding.{HoldsNodes}
use Rattle.tables.specs.declared.records.NodeRecord.{NodeRecord}
use Rattle.known.specs.Index.{Indexed, NodeFound}
use Rattle.known.specs.Entering.{Entry, entry_refusal, with_new, Enters, FormulaEntered, full, held, new}
use Rattle.known.proofs.Indexing.{record_there}

any_at : {A : Type 0} (test : A → Bool) (xs : List A) (i : ℕ) (d : A) → i < length xs → test (get_or xs i d) ≡ true → any test xs ≡ true
any_at test [] i d h e = absurd (omega arith)
any_at test (x ∷ xs) zero d h e = ap (λ (b : Bool). b || any test xs) e
any_at test (x ∷ xs) (suc i) d h e = ap (λ (b : Bool). test x || b) (any_at test xs i d (omega arith) e) ∙ or-true (test x)

-- the formula of a record is held
abbrev again : List Node → NodeRecord → Bool
again nodes key = any (λ m. same_list (node_record m) (record_numbers key)) nodes

abbrev number : Bool → Bool → Option ℕ
number over same = first ((5 when over) ∷ (8 when same) ∷ [])

module _ {formulas notes : List ℕ} (nodes : List Node) (holds : HoldsNodes nodes formulas) (index : Indexed nodes notes) where
  found_again : (key : NodeRecord) (i : ℕ) → NodeFound formulas notes (record_numbers key) (some i) → again nodes key ≡ true
  found_again key i found =
      let inside = found.within nodes holds index i refl in
      let same : node_record (get_or nodes i Node.bot) ≡ record_numbers key = sym (record_there holds i inside) ∙ found.there i refl in
      any_at (λ m. same_list (node_record m) (record_numbers key)) nodes i Node.bot inside
      (ap (λ (l : List ℕ). same_list l (record_numbers key)) same ∙ list_same (record_numbers key))

  refusal_is : {count : ℕ} {key : NodeRecord} {formulas' notes' : List ℕ} {r : Entry} → Enters formulas notes count key formulas' notes' r
      → entry_refusal r ≡ number (leb most_formulas count) (again nodes key)
  refusal_is {key} (full most f w) = sym (ap (λ (b : Bool). number b (again nodes key)) (le-leb _ _ most))
  refusal_is {key} (held i few found f w) = sym (ap₂ number (lt-leb _ _ few) (found_again key i found))
  refusal_is (new few found more) = sym (ap₂ number (lt-leb _ _ few) (found.missing nodes holds index refl))

pub formula_entered : {formulas notes : List ℕ} {count : ℕ} {key : NodeRecord} {formulas' notes' : List ℕ} {r : Entry}
    → Enters formulas notes count key formulas' notes' r → FormulaEntered formulas notes count key formulas' notes' r
formula_entered entry = record { entry = entry; refusal = λ nodes holds index. refusal_is nodes holds index entry }

-- the table that a formula was put into, or that stayed as it was, is the one that the answer says
pub entered_by : {formulas notes : List ℕ} {count : ℕ} {key : NodeRecord} {formulas' notes' : List ℕ} {r : Entry}
    → FormulaEntered formulas notes count key (with_new formulas count key r) notes' r → (q : Entry) → r ≡ q → formulas' ≡ with_new formulas count key q
    → FormulaEntered formulas notes count key formulas' notes' r
entered_by {formulas} {notes} {count} {key} {formulas'} {notes'} {r} h q e put =
    subst (λ (l : List ℕ). FormulaEntered formulas notes count key l notes' r) (ap (with_new formulas count key) e ∙ sym put) h
