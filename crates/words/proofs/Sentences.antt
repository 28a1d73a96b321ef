-- The words of rows determine the rows, formula for formula.
use Prim.Native.Nat.{ℕ, ◌+◌}
use Prim.Native.String.{String}
use mathlib.Core.Path.{◌≡◌, refl, sym, ap, ap₂, ◌∙◌}
use mathlib.Core.List.{List, [], ◌∷◌, ◌++◌, append-nil, append_assoc, append_cancel_left}
use mathlib.Core.Option.{Option, none, some}
use native.Mathlib.Omega.{arith}
use lib.ListN.{get_or}
use Rattle.elk.specs.Sequent.{Kind, elk, refutation}
use Rattle.elk.specs.Rules.{Rule, entry, kind_of}
use Rattle.format.specs.Text.{Bytes, bytes}
use Rattle.format.specs.Tables.{Side}
use Rattle.format.specs.Written.{Each, decimal, Small}
use Rattle.words.specs.Told.{Named, Told}
use Rattle.words.specs.Words.{formula_words, principal_words, premise_words, side_words, kind_in, joined, pieces, sentence, sentences}
use Rattle.words.proofs.Reading.{differ}
use Rattle.words.proofs.Formulas.{Spelled, told_formula}
use Rattle.words.proofs.Lists.{Marks, numbers_tell, formulas_tell, told_listing}
use Rattle.words.proofs.Meanings.{told_rule}

-- a row that words tell: names of 01's bytes, and premises that are written in full
pub record Tellable (t : Told) : Type 0 where
  pub principal : (A : Named) → t.principal ≡ some A → Spelled A
  pub premises : Each Small t.premises
  pub left : Each Spelled t.left
  pub right : Each Spelled t.right

-- ---- the parts of a sentence

told_principal : (o p : Option Named) → ((A : Named) → o ≡ some A → Spelled A) → ((A : Named) → p ≡ some A → Spelled A) → (r s : Bytes)
    → principal_words o ++ (bytes "; " ++ r) ≡ principal_words p ++ (bytes "; " ++ s) → (o ≡ p) × (r ≡ s)
unfolding principal_words
told_principal none none h k r s e = (refl, append_cancel_left (bytes "about no single formula; ") r s e)
told_principal none (some B) h k r s e = absurd (differ (bytes "about no single formula") (bytes "about the formula ") refl _ _ e)
told_principal (some A) none h k r s e = absurd (differ (bytes "about the formula ") (bytes "about no single formula") refl _ _ e)
told_principal (some A) (some B) h k r s e =
    let formulas = sym (whole A (bytes "; " ++ r)) ∙ append_cancel_left (bytes "about the formula ") _ _ e ∙ whole B (bytes "; " ++ s) in
    let t = told_formula A B (h A refl) (k B refl) (bytes "; " ++ r) (bytes "; " ++ s) formulas in
    (ap some t.0, append_cancel_left (bytes "; ") r s t.1)
  where
    whole : (C : Named) (bs : Bytes) → (formula_words C ++ []) ++ bs ≡ formula_words C ++ bs
    whole C bs = ap (λ (cs : Bytes). cs ++ bs) (append-nil (formula_words C))

told_premises : (ms ns : List ℕ) → Each Small ms → Each Small ns → (r s : Bytes)
    → premise_words ms ++ (bytes "; " ++ r) ≡ premise_words ns ++ (bytes "; " ++ s) → (ms ≡ ns) × (r ≡ s)
told_premises = told_listing decimal Small numbers_tell _ "; " (record { between_first = λ r. refl; ending_first = λ r. refl; differ_so = refl }) _ _ refl

-- formulas parted by commas, up to the end of their side
module _ (ending : String) (marks : Marks ", " ending) (As Bs : List Named) (h : Each Spelled As) (k : Each Spelled Bs) (r s : Bytes) where
  told_side : (kind : Kind) (side : Side) → side_words kind side As ++ (bytes ending ++ r) ≡ side_words kind side Bs ++ (bytes ending ++ s)
      → (As ≡ Bs) × (r ≡ s)
  told_side elk Side.left e = told_listing formula_words Spelled formulas_tell ", " ending marks _ _ refl As Bs h k r s e
  told_side elk Side.right e = told_listing formula_words Spelled formulas_tell ", " ending marks _ _ refl As Bs h k r s e
  told_side refutation Side.left e = told_listing formula_words Spelled formulas_tell ", " ending marks _ _ refl As Bs h k r s e
  told_side refutation Side.right e = told_listing formula_words Spelled formulas_tell ", " ending marks _ _ refl As Bs h k r s e

-- ---- sentences

-- pieces, and what follows them
abbrev followed : List Bytes → Bytes → Bytes
followed [] x = x
followed (p ∷ ps) x = p ++ followed ps x

joined_followed : (ps : List Bytes) (x : Bytes) → joined ps ++ x ≡ followed ps x
joined_followed [] x = refl
joined_followed (p ∷ ps) x = append_assoc p (joined ps) x ∙ ap (λ l. p ++ l) (joined_followed ps x)

same_row : (t u : Told) → t.rule ≡ u.rule → t.principal ≡ u.principal → t.premises ≡ u.premises → t.left ≡ u.left → t.right ≡ u.right → t ≡ u
same_row t u rule principal premises left right = λ i. record { rule = rule i; principal = principal i; premises = premises i; left = left i; right = right i }

-- both sides of a row by this rule, and what follows them
abbrev sides_by : Rule → Told → Bytes → Bytes
sides_by r t x = side_words (kind_of (entry r)) Side.left t.left ++ (bytes "; " ++ (side_words (kind_of (entry r)) Side.right t.right ++ (bytes ".\n" ++ x)))

told_sentence : (n : ℕ) (t u : Told) → Tellable t → Tellable u → (x y : Bytes) → sentence n t ++ x ≡ sentence n u ++ y → (t ≡ u) × (x ≡ y)
unfolding sentence
told_sentence n t u ht hu x y e =
    let words : followed (pieces n t) x ≡ followed (pieces n u) y = sym (joined_followed (pieces n t) x) ∙ e ∙ joined_followed (pieces n u) y in
    let meaning = append_cancel_left (bytes ": ") _ _ (append_cancel_left (decimal n) _ _ (append_cancel_left (bytes "Row ") _ _ words)) in
    let rule = told_rule t.rule u.rule _ _ meaning in
    let principal = told_principal t.principal u.principal ht.principal hu.principal _ _ rule.1 in
    let premises = told_premises t.premises u.premises ht.premises hu.premises _ _ principal.1 in
    let sides : sides_by t.rule t x ≡ sides_by t.rule u y = premises.1 ∙ ap (λ (r : Rule). sides_by r u y) (sym rule.0) in
    let left = told_side "; " semicolon t.left u.left ht.left hu.left _ _ (kind_in t) Side.left sides in
    let right = told_side ".\n" full_stop t.right u.right ht.right hu.right _ _ (kind_in t) Side.right left.1 in
    (same_row t u rule.0 principal.0 premises.0 left.0 right.0, right.1)
  where
    semicolon : Marks ", " "; "
    semicolon = record { between_first = λ r. refl; ending_first = λ r. refl; differ_so = refl }

    full_stop : Marks ", " ".\n"
    full_stop = record { between_first = λ r. refl; ending_first = λ r. refl; differ_so = refl }

-- rows are told by their sentences
pub told_rows : (n : ℕ) (ts us : List Told) → Each Tellable ts → Each Tellable us → sentences n ts ≡ sentences n us → ts ≡ us
unfolding sentences sentence
told_rows n [] [] h k e = refl
told_rows n [] (u ∷ us) h k e = let none_left : ◌≡◌ {A = ℕ} 0 82 = ap (λ (bs : Bytes). get_or bs 0 0) e in absurd (omega arith)
told_rows n (t ∷ ts) [] h k e = let none_left : ◌≡◌ {A = ℕ} 82 0 = ap (λ (bs : Bytes). get_or bs 0 0) e in absurd (omega arith)
told_rows n (t ∷ ts) (u ∷ us) h k e =
    let s = told_sentence n t u h.0 k.0 (sentences (n + 1) ts) (sentences (n + 1) us) e in
    ap₂ (λ v vs. v ∷ vs) s.0 (told_rows (n + 1) ts us h.1 k.1 s.1)
