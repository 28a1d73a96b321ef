-- Words by computation: 01's whole file, a row of refutation, and rows that agree in all but one thing.
use mathlib.Core.Path.{◌≡◌, refl}
use mathlib.Core.Bool.{false}
use mathlib.Core.List.{List, [], ◌∷◌}
use mathlib.Core.Option.{some}
use Rattle.elk.specs.Rules.{Rule, def, same, andl, notl, notr, impl, wr, bot, xandr1, xandr2, ximpl2, ximpl3, xini, swap}
use Rattle.format.specs.Text.{bytes, same_list, any}
use Rattle.format.specs.File.{formulas}
use Rattle.format.specs.Written.{digits, decimal}
use Rattle.format.specs.Document.{file_of}
use Rattle.format.proofs.WrittenExamples.{whole}
use Rattle.words.specs.Told.{Named, falsum, atom, neg, conj, imp, Told, told_file}
use Rattle.words.specs.Meanings.{meaning_of}
use Rattle.words.specs.Words.{formula_words, items, listing, principal_words, joined, sentence, sentences}

-- one sentence a row
pub whole_words : sentences 0 (told_file (file_of whole))
    ≡ joined (
    bytes "Row 0: " ∷ bytes (meaning_of same)
    ∷ bytes "; about the formula \"p\"; from no other row; if these are all that is given: \"p\""
    ∷ bytes "; then in every equilibrium model at least one of these alternatives holds: \"p\", contradiction.\n"
    ∷ bytes "Row 1: " ∷ bytes (meaning_of notl)
    ∷ bytes "; about the formula not \"p\"; from row 0; if these are all that is given: \"p\", not \"p\""
    ∷ bytes "; then in every equilibrium model at least one of these alternatives holds: contradiction.\n"
    ∷ bytes "Row 2: " ∷ bytes (meaning_of notr)
    ∷ bytes "; about the formula not not \"p\"; from row 1; if these are all that is given: \"p\""
    ∷ bytes "; then in every equilibrium model at least one of these alternatives holds: contradiction, not not \"p\".\n"
    ∷ bytes "Row 3: " ∷ bytes (meaning_of def)
    ∷ bytes "; about the formula not \"p\"; from no other row; if nothing is given"
    ∷ bytes "; then in every equilibrium model at least one of these alternatives holds: not \"p\", contradiction.\n"
    ∷ bytes "Row 4: " ∷ bytes (meaning_of impl)
    ∷ bytes "; about the formula (if not \"p\" then \"p\"); from row 2 and row 3; if these are all that is given: (if not \"p\" then \"p\")"
    ∷ bytes "; then in every equilibrium model at least one of these alternatives holds: contradiction.\n"
    ∷ [])
unfolding formulas decimal digits meaning_of formula_words items listing principal_words sentence sentences
whole_words = refl

abbrev p : Named
p = atom (bytes "p")

-- a row by this rule with one premise, whose principal formula is on the right
abbrev right_row : Rule → Named → Told
right_row rule A = record { rule = rule; principal = some A; premises = 0 ∷ []; left = p ∷ []; right = A ∷ [] }

-- and one whose principal formula is on the left
abbrev left_row : Rule → Named → Told
left_row rule A = record { rule = rule; principal = some A; premises = 0 ∷ []; left = A ∷ []; right = p ∷ [] }

-- a row of refutation
pub refuted_words : sentence 1 (right_row xandr1 (conj p p))
    ≡ joined (
    bytes "Row 1: " ∷ bytes (meaning_of xandr1)
    ∷ bytes "; about the formula (\"p\" and \"p\"); from row 0; there is a counter-case in here-and-there where all of these hold: \"p\""
    ∷ bytes "; and none of these holds: (\"p\" and \"p\").\n"
    ∷ [])
unfolding decimal digits meaning_of formula_words items listing principal_words sentence
refuted_words = refl

-- two rows to be told apart
pub record Pair : Type 0 where
  pub one : Told
  pub other : Told

-- rows that agree in all but the rule: `wr` and `bot` on falsum, `xandr1` and `xandr2` on A and A, `ximpl2` and `ximpl3` on A -> ~A, an ELK
-- row with a row of refutation, and `andl` and `swap` on A and A
abbrev pub pairs : List Pair
pairs =
    record { one = right_row wr falsum; other = right_row bot falsum }
    ∷ record { one = right_row xandr1 (conj p p); other = right_row xandr2 (conj p p) }
    ∷ record { one = right_row ximpl2 (imp p (neg p)); other = right_row ximpl3 (imp p (neg p)) }
    ∷ record { one = right_row same p; other = right_row xini p }
    ∷ record { one = left_row andl (conj p p); other = left_row swap (conj p p) }
    ∷ []

pub pairs_differ : any (λ x. same_list (sentence 0 x.one) (sentence 0 x.other)) pairs ≡ false
unfolding decimal digits meaning_of formula_words items listing principal_words sentence same_list
pairs_differ = refl
