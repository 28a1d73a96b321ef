-- The bytes of numbers, lists and lines in the plain form of paper 01 ("The text"): what Text and Line read, as it is
-- written. WrittenNumbers and WrittenLines prove that each is read back.
use Rattle.std.specs.Prelude.{ℕ, zero, suc, ◌+◌, ◌/◌, ◌%◌, ◌<◌, ◌≡◌, true, cond, List, [], ◌∷◌, ◌++◌, map, ltb}
use Rattle.std.proofs.Math.Option.{Option, none, some}
use Rattle.elk.specs.Rules.{word_of}
use Rattle.format.specs.Text.{Bytes, bytes, tab, line_feed, comma, is_name}
use Rattle.format.specs.File.{Node, Row}
use Rattle.format.specs.Line.{Line, atom_line, formula_line, row_line, model_line, claim_line}
use Rattle.format.specs.Tests.{listed}

-- parts with one separator between any two
unfoldable pub parted : ℕ → List Bytes → Bytes
parted separator [] = []
parted separator (p ∷ []) = p
parted separator (p ∷ q ∷ ps) = p ++ separator ∷ parted separator (q ∷ ps)

-- lines, each with its LF
unfoldable pub ended : List Bytes → Bytes
ended [] = []
ended (l ∷ ls) = l ++ line_feed ∷ ended ls

-- the byte of a digit
abbrev pub digit : ℕ → ℕ
digit d = 48 + d

-- a number in decimal, where so many digits are enough
unfoldable pub digits : ℕ → ℕ → Bytes
digits zero n = []
digits (suc k) n = cond (ltb n 10) (digit n ∷ []) (digits k (n / 10) ++ digit (n % 10) ∷ [])

-- a number as 01 writes it
unfoldable pub decimal : ℕ → Bytes
decimal n = digits 5 n

-- a number that 5 digits can write
abbrev pub Small : ℕ → Type 0
Small n = n < 100000

-- an absent field, or an empty list
abbrev pub dash : Bytes
dash = bytes "-"

-- numbers parted by commas, or `-` if there is none
unfoldable pub list_bytes : List ℕ → Bytes
list_bytes [] = dash
list_bytes (n ∷ ns) = parted comma (map decimal (n ∷ ns))

-- a formula number, or `-` if absent
unfoldable pub principal_bytes : Option ℕ → Bytes
principal_bytes none = dash
principal_bytes (some n) = decimal n

-- word, first, second
abbrev pub node_bytes : Node → List Bytes
node_bytes Node.bot = bytes "bot" ∷ dash ∷ dash ∷ []
node_bytes (Node.atom k) = bytes "atom" ∷ decimal k ∷ dash ∷ []
node_bytes (Node.not i) = bytes "not" ∷ decimal i ∷ dash ∷ []
node_bytes (Node.and i j) = bytes "and" ∷ decimal i ∷ decimal j ∷ []
node_bytes (Node.or i j) = bytes "or" ∷ decimal i ∷ decimal j ∷ []
node_bytes (Node.imp i j) = bytes "imp" ∷ decimal i ∷ decimal j ∷ []

-- rule, principal, premises, left, right
abbrev pub row_bytes : Row → List Bytes
row_bytes r = bytes (word_of r.rule) ∷ principal_bytes r.principal ∷ list_bytes r.premises ∷ list_bytes r.left ∷ list_bytes r.right ∷ []

-- the fields of a line, the kind first
abbrev pub field_bytes : Line → List Bytes
field_bytes (atom_line n name) = bytes "A" ∷ decimal n ∷ name ∷ []
field_bytes (formula_line n node) = bytes "F" ∷ decimal n ∷ node_bytes node
field_bytes (row_line n r) = bytes "N" ∷ decimal n ∷ row_bytes r
field_bytes (model_line atoms) = bytes "M" ∷ list_bytes atoms ∷ []
field_bytes (claim_line left right) = bytes "C" ∷ list_bytes left ∷ list_bytes right ∷ []

-- the bytes of a line, without its LF
unfoldable pub bytes_of : Line → Bytes
bytes_of l = parted tab (field_bytes l)

-- the text of some lines
abbrev pub text_of : List Line → Bytes
text_of ls = ended (map bytes_of ls)

-- every one has the property
abbrev pub Each : {X : Type 0} → (X → Type 0) → List X → Type 0
Each P [] = Unit {0}
Each P (x ∷ xs) = P x × Each P xs

-- the numbers that a formula names
abbrev pub node_numbers : Node → List ℕ
node_numbers Node.bot = []
node_numbers (Node.atom k) = k ∷ []
node_numbers (Node.not i) = i ∷ []
node_numbers (Node.and i j) = i ∷ j ∷ []
node_numbers (Node.or i j) = i ∷ j ∷ []
node_numbers (Node.imp i j) = i ∷ j ∷ []

-- a line that can be written: its numbers are small, and a name is of 01's form
abbrev pub Writable : Line → Type 0
Writable (atom_line n name) = Small n × (is_name name ≡ true)
Writable (formula_line n node) = Small n × Each Small (node_numbers node)
Writable (row_line n r) = Small n × Each Small (listed r.principal) × Each Small r.premises × Each Small r.left × Each Small r.right
Writable (model_line atoms) = Each Small atoms
Writable (claim_line left right) = Each Small left × Each Small right
