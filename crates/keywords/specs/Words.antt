-- The words of a text as numbers: the kinds of line, the words of formulas, and the rules.
use Rattle.std.specs.Prelude.{ℕ, ◌+◌, ◌*◌, ◌≡◌, Bool, true, cond, ◌&&◌, ◌||◌, [], ◌∷◌, eqb, leb, ltb, length, Option, None, Some}
use Rattle.std.proofs.Math.Option as Math
use Rattle.elk.specs.Rules.{Rule, code_of}
use Rattle.format.specs.Text.{Bytes, is, all, same_list}
use Rattle.parts.specs.Refusals.{bad_unless, bad_if_none, refusal_of}
use Rattle.keywords.specs.declared.Kind.{Kind}
use Rattle.keywords.specs.declared.Kind.TheVariants.{Atom, Formula, Row, Model, Claim}
use Rattle.keywords.specs.declared.Word.{Word}

-- the kind of line that a first field names
unfoldable pub kind_named : Bytes → Option Kind
kind_named field =
    cond (is "A" field) (Some Atom) (
    cond (is "F" field) (Some Formula) (
    cond (is "N" field) (Some Row) (cond (is "M" field) (Some Model) (cond (is "C" field) (Some Claim) None))))

abbrev pub is_kind : Bytes → Bool
is_kind field = is "A" field || is "F" field || is "N" field || is "M" field || is "C" field

pub record KindRead (field : Bytes) (r : Option Kind) : Type 0 where
  pub answer : r ≡ kind_named field
  pub refusal : refusal_of r ≡ bad_unless (is_kind field)

-- 0 to 5 for the words of an F line, in the order of the formulas table
abbrev pub word_code : Word → ℕ
word_code Word.Bot = 0
word_code Word.Atom = 1
word_code Word.Not = 2
word_code Word.And = 3
word_code Word.Or = 4
word_code Word.Imp = 5

-- the word of an F line that a field is
unfoldable pub formula_word : Bytes → Option Word
formula_word field =
    cond (is "bot" field) (Some Word.Bot) (
    cond (is "atom" field) (Some Word.Atom) (
    cond (is "not" field) (Some Word.Not) (
    cond (is "and" field) (Some Word.And) (
    cond (is "or" field) (Some Word.Or) (cond (is "imp" field) (Some Word.Imp) None)))))

abbrev pub is_formula_word : Bytes → Bool
is_formula_word field = is "bot" field || is "atom" field || is "not" field || is "and" field || is "or" field || is "imp" field

pub record WordRead (field : Bytes) (r : Option Word) : Type 0 where
  pub answer : r ≡ formula_word field
  pub refusal : refusal_of r ≡ bad_unless (is_formula_word field)

-- the code of a rule
abbrev pub rule_code : Math.Option Rule → Option ℕ
rule_code Math.none = None
rule_code (Math.some r) = Some (code_of r)

pub record RuleRead (rule : Math.Option Rule) (r : Option ℕ) : Type 0 where
  pub answer : r ≡ rule_code rule
  pub refusal : refusal_of r ≡ bad_if_none rule

-- ---- keys

-- a word as one number: its bytes as digits to the base 256, the first byte the lowest, and a last digit 1
unfoldable pub key_of : Bytes → ℕ
key_of [] = 1
key_of (b ∷ bs) = key_of bs * 256 + b

-- a word whose key is a 64-bit number
abbrev pub is_short : Bytes → Bool
is_short word = leb (length word) 7 && all (λ b. ltb b 256) word

-- a number that is the key of a short word exactly if the field is that word
abbrev pub IsKey : Bytes → ℕ → Type 0
IsKey field key = (word : Bytes) → is_short word ≡ true → eqb key (key_of word) ≡ same_list field word
