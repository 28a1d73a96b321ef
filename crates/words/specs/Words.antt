-- The words of a formula, of a row and of a file, as bytes (paper 02, M-100). Each row is one sentence, which ends in LF.
use Rattle.std.specs.Prelude.{ℕ, ◌+◌, List, [], ◌∷◌, ◌++◌}
use Prim.Native.String.{String}
use Rattle.std.proofs.Math.Option.{Option, none, some}
use Rattle.elk.specs.Sequent.{Kind, elk, refutation}
use Rattle.elk.specs.Rules.{entry, kind_of}
use Rattle.format.specs.Text.{Bytes, bytes}
use Rattle.format.specs.Tables.{Side}
use Rattle.format.specs.Written.{decimal}
use Rattle.format.specs.Judged.{beginning}
use Rattle.words.specs.Told.{Named, falsum, atom, neg, conj, disj, imp, Told, told_in}
use Rattle.words.specs.Meanings.{meaning_of}

-- parts, one behind the other
abbrev pub joined : List Bytes → Bytes
joined [] = []
joined (p ∷ ps) = p ++ joined ps

-- full brackets, and names in quotes
unfoldable pub formula_words : Named → Bytes
formula_words falsum = bytes "contradiction"
formula_words (atom name) = joined (bytes "\"" ∷ name ∷ bytes "\"" ∷ [])
formula_words (neg A) = joined (bytes "not " ∷ formula_words A ∷ [])
formula_words (conj A B) = joined (bytes "(" ∷ formula_words A ∷ bytes " and " ∷ formula_words B ∷ bytes ")" ∷ [])
formula_words (disj A B) = joined (bytes "(" ∷ formula_words A ∷ bytes " or " ∷ formula_words B ∷ bytes ")" ∷ [])
formula_words (imp A B) = joined (bytes "(if " ∷ formula_words A ∷ bytes " then " ∷ formula_words B ∷ bytes ")" ∷ [])

-- the further ones of a list, each after the words between
unfoldable pub items : {X : Type 0} → String → (X → Bytes) → List X → Bytes
items between word [] = []
items between word (x ∷ xs) = bytes between ++ (word x ++ items between word xs)

-- the words of a list: an opening and then the words of each, with others between; words of its own where there is none
unfoldable pub listing : {X : Type 0} → (empty opening between : String) → (X → Bytes) → List X → Bytes
listing empty opening between word [] = bytes empty
listing empty opening between word (x ∷ xs) = bytes opening ++ (word x ++ items between word xs)

-- the principal formula
unfoldable pub principal_words : Option Named → Bytes
principal_words none = bytes "about no single formula"
principal_words (some A) = joined (bytes "about the formula " ∷ formula_words A ∷ [])

-- the premises, by their row numbers
abbrev pub premise_words : List ℕ → Bytes
premise_words = listing "from no other row" "from row " " and row " decimal

-- the words of an empty side, as each calculus means it
abbrev pub empty_side : Kind → Side → String
empty_side elk Side.left = "if nothing is given"
empty_side elk Side.right = "then there is no equilibrium model"
empty_side refutation Side.left = "there is a counter-case in here-and-there where nothing need hold"
empty_side refutation Side.right = "and nothing need fail"

-- the words before the formulas of a side
abbrev pub side_opening : Kind → Side → String
side_opening elk Side.left = "if these are all that is given: "
side_opening elk Side.right = "then in every equilibrium model at least one of these alternatives holds: "
side_opening refutation Side.left = "there is a counter-case in here-and-there where all of these hold: "
side_opening refutation Side.right = "and none of these holds: "

-- a side
abbrev pub side_words : Kind → Side → List Named → Bytes
side_words kind side = listing (empty_side kind side) (side_opening kind side) ", " formula_words

-- the calculus of a row
abbrev pub kind_in : Told → Kind
kind_in t = kind_of (entry t.rule)

-- row number, the rule's meaning, principal, premises, left, right
abbrev pub pieces : ℕ → Told → List Bytes
pieces n t =
    bytes "Row " ∷ decimal n ∷ bytes ": " ∷ bytes (meaning_of t.rule)
    ∷ bytes "; " ∷ principal_words t.principal
    ∷ bytes "; " ∷ premise_words t.premises
    ∷ bytes "; " ∷ side_words (kind_in t) Side.left t.left
    ∷ bytes "; " ∷ side_words (kind_in t) Side.right t.right
    ∷ bytes ".\n" ∷ []

-- the sentence of row n
unfoldable pub sentence : ℕ → Told → Bytes
sentence n t = joined (pieces n t)

-- the sentences of rows that are numbered from n on
unfoldable pub sentences : ℕ → List Told → Bytes
sentences n [] = []
sentences n (t ∷ ts) = sentence n t ++ sentences (n + 1) ts

-- the words of a text
abbrev pub words_in : Bytes → Bytes
words_in text = sentences 0 (told_in (beginning text))
