-- A line is read back as it was written, and the lines of a text are those that were written.
use Prim.Native.Nat.{ℕ, ◌≤◌}
use mathlib.Core.Path.{◌≡◌, refl, sym, ap, ◌∙◌}
use mathlib.Core.Bool.{Bool, true, false, ◌&&◌, ◌||◌, false≢true}
use mathlib.Core.List.{List, [], ◌∷◌, map}
use mathlib.Core.Option.{Option, none, some}
use native.Mathlib.Omega.{arith}
use lib.Dec.{eqb, leb}
use lib.ListN.{length}
use borrow.Author.Tests.{leb-true, leb-false, lt-leb, ne_eqb}
use Rattle.elk.specs.Rules.{Rule, word_of, def, same, andl, andr, wr, bot, orr, orl, notl, impr, impl, notr, rcut, unst}
use Rattle.elk.specs.Rules.{xini, xnnl, xnnr, xandl, xandr1, xandr2, xorr, xorl1, xorl2}
use Rattle.elk.specs.Rules.{ximpl1, ximpl2, ximpl3, ximpr1, ximpr2, xnimpl, xnimpr1, xnimpr2, xnandl1, xnandl2, xnandr, xnorl, xnorr1, xnorr2, swap}
use Rattle.format.specs.Text.{Bytes, bytes, tab, line_feed, comma, all, is_digit, is_letter, starts_with_letter, is_name, same_list, fields_of, lines_of}
use Rattle.format.specs.File.{Node, Row}
use Rattle.format.specs.Line.{Line, atom_line, formula_line, row_line, model_line, claim_line, line_of}
use Rattle.format.specs.Line.{rule_of, node_of, atom_fields, formula_fields, row_fields, model_fields, claim_fields, of_kind}
use Rattle.format.specs.Written.{Each, parted, decimal, Small, list_bytes, principal_bytes, node_bytes, row_bytes, field_bytes, bytes_of, text_of}
use Rattle.format.specs.Written.{node_numbers, Writable}
use Rattle.format.proofs.Booleans.{and_true}
use Rattle.format.proofs.Joined.{Without, each_append, each_weaker, parted_without, fields_parted, lines_ended}
use Rattle.format.proofs.WrittenNumbers.{decimal_digits, number_back, list_back, side_back, principal_back}

-- ---- no field holds a tab or an LF: all its bytes are visible

abbrev Visible : Bytes → Type 0
Visible bs = Each (λ b. leb 33 b ≡ true) bs

visible_without : (s : ℕ) → s ≤ 32 → (bs : Bytes) → Visible bs → Without s bs
visible_without s l = each_weaker _ _ (λ b h. ne_eqb b s (λ k. omega (arith, leb-true 33 b h)))

-- a byte that is not visible is neither digit nor letter nor `_`
low_byte : (b : ℕ) → leb 33 b ≡ false → (is_digit b ≡ false) × ((is_letter b || is_digit b || eqb b 95) ≡ false)
low_byte b e =
    let low = leb-false 33 b e in
    let no_digit : is_digit b ≡ false = rw (lt-leb 48 b (omega arith)) in
    (no_digit, rw (lt-leb 97 b (omega arith), no_digit, ne_eqb b 95 (λ k. omega arith)))

contrapositive : (s t : Bool) → (t ≡ false → s ≡ false) → s ≡ true → t ≡ true
contrapositive s true h e = refl
contrapositive s false h e = absurd (false≢true (sym (h refl) ∙ e))

digit_visible : (b : ℕ) → is_digit b ≡ true → leb 33 b ≡ true
digit_visible b = contrapositive (is_digit b) (leb 33 b) (λ e. (low_byte b e).0)

name_byte_visible : (b : ℕ) → (is_letter b || is_digit b || eqb b 95) ≡ true → leb 33 b ≡ true
name_byte_visible b = contrapositive (is_letter b || is_digit b || eqb b 95) (leb 33 b) (λ e. (low_byte b e).1)

all_each : (test : ℕ → Bool) (bs : Bytes) → all test bs ≡ true → Each (λ b. test b ≡ true) bs
all_each test [] e = tt
all_each test (b ∷ bs) e = let parts = and_true (test b) (all test bs) e in (parts.0, all_each test bs parts.1)

name_visible : (name : Bytes) → is_name name ≡ true → Visible name
unfolding is_name
name_visible name e = each_weaker _ _ name_byte_visible name (all_each _ name (and_true (starts_with_letter name && leb (length name) 24) _ e).1)

decimal_visible : (n : ℕ) → Visible (decimal n)
decimal_visible n = each_weaker _ _ digit_visible (decimal n) (decimal_digits n)

list_visible : (ns : List ℕ) → Visible (list_bytes ns)
unfolding list_bytes parted
list_visible [] = (refl, tt)
list_visible (n ∷ ns) = more n ns
  where
    more : (n : ℕ) (ns : List ℕ) → Visible (parted comma (map decimal (n ∷ ns)))
    more n [] = decimal_visible n
    more n (m ∷ ms) = each_append _ (decimal n) (comma ∷ parted comma (map decimal (m ∷ ms))) (decimal_visible n) (refl, more m ms)

principal_visible : (o : Option ℕ) → Visible (principal_bytes o)
unfolding principal_bytes
principal_visible none = (refl, tt)
principal_visible (some n) = decimal_visible n

-- a rule's word is read back, and is visible
pub rule_word : (r : Rule) → (rule_of (bytes (word_of r)) ≡ some r) × (all (leb 33) (bytes (word_of r)) ≡ true)
unfolding rule_of same_list
rule_word = elim [
  | def ↦ (refl, refl)
  | same ↦ (refl, refl)
  | andl ↦ (refl, refl)
  | andr ↦ (refl, refl)
  | wr ↦ (refl, refl)
  | bot ↦ (refl, refl)
  | orr ↦ (refl, refl)
  | orl ↦ (refl, refl)
  | notl ↦ (refl, refl)
  | impr ↦ (refl, refl)
  | impl ↦ (refl, refl)
  | notr ↦ (refl, refl)
  | rcut ↦ (refl, refl)
  | unst ↦ (refl, refl)
  | xini ↦ (refl, refl)
  | xnnl ↦ (refl, refl)
  | xnnr ↦ (refl, refl)
  | xandl ↦ (refl, refl)
  | xandr1 ↦ (refl, refl)
  | xandr2 ↦ (refl, refl)
  | xorr ↦ (refl, refl)
  | xorl1 ↦ (refl, refl)
  | xorl2 ↦ (refl, refl)
  | ximpl1 ↦ (refl, refl)
  | ximpl2 ↦ (refl, refl)
  | ximpl3 ↦ (refl, refl)
  | ximpr1 ↦ (refl, refl)
  | ximpr2 ↦ (refl, refl)
  | xnimpl ↦ (refl, refl)
  | xnimpr1 ↦ (refl, refl)
  | xnimpr2 ↦ (refl, refl)
  | xnandl1 ↦ (refl, refl)
  | xnandl2 ↦ (refl, refl)
  | xnandr ↦ (refl, refl)
  | xnorl ↦ (refl, refl)
  | xnorr1 ↦ (refl, refl)
  | xnorr2 ↦ (refl, refl)
  | swap ↦ (refl, refl)
]

word_visible : (r : Rule) → Visible (bytes (word_of r))
word_visible r = all_each (leb 33) (bytes (word_of r)) (rule_word r).1

node_visible : (n : Node) → Each Visible (node_bytes n)
node_visible Node.bot = ((refl, (refl, (refl, tt))), ((refl, tt), ((refl, tt), tt)))
node_visible (Node.atom k) = ((refl, (refl, (refl, (refl, tt)))), (decimal_visible k, ((refl, tt), tt)))
node_visible (Node.not i) = ((refl, (refl, (refl, tt))), (decimal_visible i, ((refl, tt), tt)))
node_visible (Node.and i j) = ((refl, (refl, (refl, tt))), (decimal_visible i, (decimal_visible j, tt)))
node_visible (Node.or i j) = ((refl, (refl, tt)), (decimal_visible i, (decimal_visible j, tt)))
node_visible (Node.imp i j) = ((refl, (refl, (refl, tt))), (decimal_visible i, (decimal_visible j, tt)))

row_visible : (r : Row) → Each Visible (row_bytes r)
row_visible r =
    let sides : Each Visible (list_bytes r.left ∷ list_bytes r.right ∷ []) = (list_visible r.left, (list_visible r.right, tt)) in
    (word_visible r.rule, (principal_visible r.principal, (list_visible r.premises, sides)))

fields_visible : (l : Line) → Writable l → Each Visible (field_bytes l)
fields_visible (atom_line n name) w = ((refl, tt), (decimal_visible n, (name_visible name w.1, tt)))
fields_visible (formula_line n node) w = ((refl, tt), (decimal_visible n, node_visible node))
fields_visible (row_line n r) w = ((refl, tt), (decimal_visible n, row_visible r))
fields_visible (model_line atoms) w = ((refl, tt), (list_visible atoms, tt))
fields_visible (claim_line left right) w = ((refl, tt), (list_visible left, (list_visible right, tt)))

fields_without : (s : ℕ) → s ≤ 32 → (l : Line) → Writable l → Each (Without s) (field_bytes l)
fields_without s h l w = each_weaker Visible (Without s) (visible_without s h) (field_bytes l) (fields_visible l w)

-- ---- a line is read back

formula_fields_back : (n : ℕ) → Small n → (node : Node) → Each Small (node_numbers node)
    → formula_fields (decimal n ∷ node_bytes node) ≡ some (formula_line n node)
unfolding formula_fields node_of same_list
formula_fields_back n k Node.bot h = rw (number_back n k)
formula_fields_back n k (Node.atom i) h = rw (number_back n k, number_back i h.0)
formula_fields_back n k (Node.not i) h = rw (number_back n k, number_back i h.0)
formula_fields_back n k (Node.and i j) h = rw (number_back n k, number_back i h.0, number_back j h.1.0)
formula_fields_back n k (Node.or i j) h = rw (number_back n k, number_back i h.0, number_back j h.1.0)
formula_fields_back n k (Node.imp i j) h = rw (number_back n k, number_back i h.0, number_back j h.1.0)

row_fields_back : (n : ℕ) (r : Row) → Writable (row_line n r) → row_fields (decimal n ∷ row_bytes r) ≡ some (row_line n r)
unfolding row_fields
row_fields_back n r w =
    let principal = principal_back r.principal w.1 in
    let premises = list_back r.premises w.2 in
    rw (number_back n w.0, (rule_word r.rule).0, principal, premises, side_back r.left w.3, side_back r.right w.4)

kind_back : (l : Line) → Writable l → of_kind (field_bytes l) ≡ some l
unfolding atom_fields model_fields claim_fields same_list
kind_back (atom_line n name) w = rw (number_back n w.0)
kind_back (formula_line n node) w = formula_fields_back n w.0 node w.1
kind_back (row_line n r) w = row_fields_back n r w
kind_back (model_line atoms) w = rw (side_back atoms w)
kind_back (claim_line left right) w = rw (side_back left w.0, side_back right w.1)

-- the fields of a line are those that were written
pub fields_back : (l : Line) → Writable l → fields_of (bytes_of l) ≡ field_bytes l
unfolding bytes_of
fields_back (atom_line n name) w = fields_parted _ _ (fields_without tab (omega arith) (atom_line n name) w)
fields_back (formula_line n node) w = fields_parted _ _ (fields_without tab (omega arith) (formula_line n node) w)
fields_back (row_line n r) w = fields_parted _ _ (fields_without tab (omega arith) (row_line n r) w)
fields_back (model_line atoms) w = fields_parted _ _ (fields_without tab (omega arith) (model_line atoms) w)
fields_back (claim_line left right) w = fields_parted _ _ (fields_without tab (omega arith) (claim_line left right) w)

-- what is written of a line is read as that line
pub line_back : (l : Line) → Writable l → line_of (bytes_of l) ≡ some l
unfolding line_of
line_back l w = ap of_kind (fields_back l w) ∙ kind_back l w

-- ---- the lines of a text are those that were written

line_whole : (l : Line) → Writable l → Without line_feed (bytes_of l)
unfolding bytes_of
line_whole l w = parted_without line_feed tab refl (field_bytes l) (fields_without line_feed (omega arith) l w)

lines_whole : (ls : List Line) → Each Writable ls → Each (Without line_feed) (map bytes_of ls)
lines_whole [] w = tt
lines_whole (l ∷ ls) w = (line_whole l w.0, lines_whole ls w.1)

pub lines_back : (ls : List Line) → Each Writable ls → lines_of (text_of ls) ≡ record { complete = map bytes_of ls; rest = [] }
lines_back ls w = lines_ended (map bytes_of ls) (lines_whole ls w)
