-- The rows of every accepted text are told by its words: the theorem of M-100. And no byte of its words is zero.
use Prim.Native.Nat.{ℕ, zero, suc}
use mathlib.Core.Path.{◌≡◌, refl, sym, subst}
use mathlib.Core.Bool.{true, ◌&&◌}
use mathlib.Core.List.Memᴰ
use mathlib.Core.List.{List, [], ◌∷◌, map}
use mathlib.Core.Option.{Option, none, some}
use native.Mathlib.Omega.{arith}
use lib.Dec.{leb}
use lib.ListN.{length, get_or}
use Rattle.equilibrium.specs.Meaning.{◌∈◌}
use Rattle.equilibrium.specs.Formula.{Formula}
use Rattle.format.specs.Text.{Bytes, all, is_name, starts_with_letter, ◌<$>◌}
use Rattle.format.specs.File.{Row, Body, File, decoded_at}
use Rattle.format.specs.Tables.{Lent}
use Rattle.format.specs.Judged.{Outcome, beginning, judged, accepted}
use Rattle.format.specs.Good.{GoodBody, atoms, formula, Good}
use Rattle.format.specs.Written.{Each, Small}
use Rattle.format.proofs.Booleans.{and_true}
use Rattle.format.proofs.Tested.{passed_row}
use Rattle.format.proofs.GoodBodies.{good_held}
use Rattle.format.proofs.Accepted.{accepted_file, accepted_good}
use Rattle.format.proofs.Joined.{each_append}
use Rattle.format.proofs.WrittenBodies.{row_writable}
use Rattle.words.specs.Told.{Named, named, names_of, named_at, told_row, told_file, told_in}
use Rattle.words.specs.Words.{words_in}
use Rattle.words.proofs.Formulas.{name_byte, Spelled}
use Rattle.words.proofs.Sentences.{Tellable, told_rows}
use Rattle.words.proofs.NoZero.{NoZero, words_shown}

-- ---- what a good file's rows are

-- the premises of a good body's rows are earlier rows, so they are written in full
small_premises : {b : Body} → GoodBody b → Each (λ (r : Row). Each Small r.premises) b.rows
small_premises (atoms n h) = tt
small_premises (formula {b} g rows node ok) = small_premises g
small_premises (GoodBody.row {b} g r ok) =
    let own = row_writable b r (good_held g).few_nodes (passed_row b r ok) in
    each_append (λ (q : Row). Each Small q.premises) b.rows (r ∷ []) (small_premises g) (own.2, tt)

name_bytes : (name : Bytes) → is_name name ≡ true → all name_byte name ≡ true
unfolding is_name
name_bytes name e = (and_true (starts_with_letter name && leb (length name) 24) (all name_byte name) e).1

module _ {done : List Bytes} {f : File} (good : Good done f) where
  spelled_name : (k : ℕ) → all name_byte (get_or (names_of f) k []) ≡ true
  spelled_name k = among (names_of f) good.names.form k
    where
      among : (names : List Bytes) → ((name : Bytes) → name ∈ names → is_name name ≡ true) → (i : ℕ) → all name_byte (get_or names i []) ≡ true
      among [] h i = refl
      among (n ∷ ns) h zero = name_bytes n (h n (Memᴰ.head refl))
      among (n ∷ ns) h (suc i) = among ns (λ name m. h name (Memᴰ.tail m)) i

  spelled : (A : Formula) → Spelled (named (names_of f) A)
  spelled Formula.falsum = tt
  spelled (Formula.atom k) = spelled_name k
  spelled (Formula.neg A) = spelled A
  spelled (Formula.conj A B) = (spelled A, spelled B)
  spelled (Formula.disj A B) = (spelled A, spelled B)
  spelled (Formula.imp A B) = (spelled A, spelled B)

  spelled_side : (is : List ℕ) → Each Spelled (map (named_at (names_of f) f.body.nodes) is)
  spelled_side [] = tt
  spelled_side (i ∷ is) = (spelled (decoded_at f.body.nodes i), spelled_side is)

  spelled_principal : (o : Option ℕ) (A : Named) → named_at (names_of f) f.body.nodes <$> o ≡ some A → Spelled A
  spelled_principal none A e = let z : ◌≡◌ {A = ℕ} 0 1 = cc in absurd (omega arith)
  spelled_principal (some i) A e =
      let same : named_at (names_of f) f.body.nodes i ≡ A = cc in
      subst Spelled same (spelled (decoded_at f.body.nodes i))

  rows_tellable : (rows : List Row) → Each (λ (r : Row). Each Small r.premises) rows → Each Tellable (map (told_row (names_of f) f.body.nodes) rows)
  rows_tellable [] h = tt
  rows_tellable (r ∷ rs) h =
      let own : Tellable (told_row (names_of f) f.body.nodes r) =
      record { principal = spelled_principal r.principal; premises = h.0; left = spelled_side r.left; right = spelled_side r.right } in
      (own, rows_tellable rs h.1)

  tellable : Each Tellable (told_file f)
  tellable = rows_tellable f.body.rows (small_premises good.body)

accepted_tellable : (lent : Lent) (text : Bytes) (line : ℕ) → judged lent text ≡ accepted line → Each Tellable (told_in (beginning text))
accepted_tellable lent text line e =
    let a = accepted_file lent text line e in
    subst (λ (o : Outcome File). Each Tellable (told_in o)) (sym a.is_beginning) (tellable (accepted_good a))

-- ---- the theorem

-- two accepted texts with equal words have the same rows: rule, principal, premises and sides, with names for atoms
pub words_tell_rows : (lent : Lent) (text : Bytes) (line : ℕ) → judged lent text ≡ accepted line
    → (lent' : Lent) (text' : Bytes) (line' : ℕ) → judged lent' text' ≡ accepted line'
    → words_in text ≡ words_in text' → told_in (beginning text) ≡ told_in (beginning text')
words_tell_rows lent text line e lent' text' line' e' same =
    told_rows 0 _ _ (accepted_tellable lent text line e) (accepted_tellable lent' text' line' e') same

-- no byte of the words of an accepted text is zero
pub words_without_zero : (lent : Lent) (text : Bytes) (line : ℕ) → judged lent text ≡ accepted line → NoZero (words_in text)
words_without_zero lent text line e = words_shown 0 (told_in (beginning text)) (accepted_tellable lent text line e)
