-- What adding a row answers: 4 and line 0 exactly if the tables and counts are those of no body, a refusal leaves all as it was,
-- an accepted row leaves an open file again, and a preview answers as adding does.
use Prim.Native.Nat.{ℕ, ◌≤◌}
use native.Mathlib.Omega.{arith}
use mathlib.Core.Path.{◌≡◌, refl, sym, ap, subst, ◌∙◌}
use mathlib.Core.Bool.{Bool, true, false, cond, ◌||◌}
use mathlib.Core.List.{[]}
use mathlib.Core.Option.{Option, none, some}
use mathlib.Core.Logic.{◌↔◌}
use lib.Dec.{ltb}
use lib.ListN.{length}
use borrow.Author.Tests.{ltb-false}
use Rattle.format.specs.Text.{Bytes}
use Rattle.format.specs.File.{Row, Body, add_row}
use Rattle.format.specs.Line.{Line, atom_line, formula_line, row_line, model_line, claim_line}
use Rattle.format.specs.Tables.{Lent, too_short, least, most_bytes, encode_body}
use Rattle.format.specs.Tests.{first, body_tests}
use Rattle.format.specs.Judged.{Outcome, next, refused, accepted, turned_down, number_in}
use Rattle.format.specs.Good.{GoodBody, row}
use Rattle.format.proofs.Booleans.{or_false, or_false₄}
use Rattle.format.proofs.Stepping.{numbered, first_passes}
use Rattle.format.proofs.Tested.{passes}
use Rattle.format.proofs.GoodBodies.{good_held}
use Rattle.counts.specs.Counts.{counts_of}
use Rattle.counts.specs.declared.Counts.{Counts}
use Rattle.tables.proofs.Placed.{length_padded}
use Rattle.tables.proofs.Encoded.{nodes_length, rows_length}
use Rattle.bodies.specs.Open.{Tables, lent_of, filled, IsOpen}
use Rattle.bodies.proofs.Walking.{one_body, open?}
use Rattle.open.specs.Adding.{said_in, open_tests, entered, with_line, with_text, in_body, tried, ruling_of, counts_after, tables_after, added, previewed}

-- in tables that are long enough the body decides
tried_long : (t : Tables) (c : Counts) (text : Bytes) → too_short (lent_of t) ≡ false → tried t c text ≡ in_body (open? t c) (with_text text)
unfolding tried
tried_long t c text long = ap (λ (i : Bool). cond i (refused 1 0) (in_body (open? t c) (with_text text))) long

-- tables that are too short are refused first
pub tried_short : (t : Tables) (c : Counts) (text : Bytes) → too_short (lent_of t) ≡ true → tried t c text ≡ refused 1 0
unfolding tried
tried_short t c text short = ap (λ (i : Bool). cond i (refused 1 0) (in_body (open? t c) (with_text text))) short

-- in an open file, the row is judged by its body
pub tried_open : (t : Tables) (c : Counts) (b : Body) (text : Bytes) → too_short (lent_of t) ≡ false → IsOpen t c b → tried t c text ≡ with_text text b
tried_open t c b text long o = tried_long t c text long ∙ decided (open? t c)
  where
    decided : (d : Dec ((b : Body) × IsOpen t c b)) → in_body d (with_text text) ≡ with_text text b
    decided (yes p) = ap (with_text text) (one_body t c p.0 b p.1 o)
    decided (no n) = absurd (n (b, o))

-- and otherwise 4 is given
pub tried_none : (t : Tables) (c : Counts) (text : Bytes) → too_short (lent_of t) ≡ false → ((b : Body) → IsOpen t c b → ⊥) → tried t c text ≡ refused 4 0
tried_none t c text long h = tried_long t c text long ∙ decided (open? t c)
  where
    decided : (d : Dec ((b : Body) × IsOpen t c b)) → in_body d (with_text text) ≡ refused 4 0
    decided (yes p) = absurd (h p.0 p.1)
    decided (no n) = refl

-- a line is refused with 3 or more, and with line 1
pub line_refused : (o : Option Line) (b : Body) (n l : ℕ) → with_line o b ≡ refused n l → (3 ≤ n) × (l ≡ 1)
line_refused none b n l e = let same : 3 ≡ n = cc in (omega arith, cc)
line_refused (some (atom_line m name)) b n l e = let same : 3 ≡ n = cc in (omega arith, cc)
line_refused (some (formula_line m node)) b n l e = let same : 3 ≡ n = cc in (omega arith, cc)
line_refused (some (row_line m r)) b n l e = by_tests (first (open_tests b m r)) refl e
  where
    by_tests : (o : Option ℕ) → first (open_tests b m r) ≡ o → entered o (add_row b r) ≡ refused n l → (3 ≤ n) × (l ≡ 1)
    by_tests none q k = let z : ◌≡◌ {A = ℕ} 0 1 = cc in absurd (omega arith)
    by_tests (some i) q k = let same : i ≡ n = cc in (omega (arith, numbered (open_tests b m r) i (omega arith) q), cc)
line_refused (some (model_line atoms)) b n l e = let same : 3 ≡ n = cc in (omega arith, cc)
line_refused (some (claim_line left right)) b n l e = let same : 3 ≡ n = cc in (omega arith, cc)

ruled : (o : Outcome Body) (n l : ℕ) → ruling_of o ≡ turned_down n l → o ≡ refused n l
ruled (next b) n l e = let z : ◌≡◌ {A = ℕ} 0 1 = cc in absurd (omega arith)
ruled (refused m k) n l e = cc

-- in an open file: 2 and line 0 exactly if the text is too long
pub two_exactly : (t : Tables) (c : Counts) (b : Body) (text : Bytes) → too_short (lent_of t) ≡ false → IsOpen t c b
    → ((added t c text).ruling ≡ turned_down 2 0) ↔ (ltb most_bytes (length text) ≡ true)
unfolding with_text
two_exactly t c b text long o = (
  λ e. to (ltb most_bytes (length text)) (sym (tried_open t c b text long o) ∙ ruled (tried t c text) 2 0 e),
  λ h. ap ruling_of (tried_open t c b text long o ∙ ap (λ (i : Bool). cond i (refused 2 0) (with_line (said_in text) b)) h),
)
  where
    to : (i : Bool) → cond i (refused 2 0) (with_line (said_in text) b) ≡ refused 2 0 → i ≡ true
    to true k = refl
    to false k = let one : ◌≡◌ {A = ℕ} 0 1 = (line_refused (said_in text) b 2 0 k).1 in absurd (omega arith)

-- a text is refused with 2 if with line 0
text_refused : (text : Bytes) (b : Body) (n : ℕ) → with_text text b ≡ refused n 0 → n ≡ 2
unfolding with_text
text_refused text b n e = long (ltb most_bytes (length text)) e
  where
    long : (i : Bool) → cond i (refused 2 0) (with_line (said_in text) b) ≡ refused n 0 → n ≡ 2
    long true k = cc
    long false k = let one : ◌≡◌ {A = ℕ} 0 1 = (line_refused (said_in text) b n 0 k).1 in absurd (omega arith)

-- in tables that are long enough: 4 and line 0 exactly if there is no such body
pub four_exactly : (t : Tables) (c : Counts) (text : Bytes) → too_short (lent_of t) ≡ false
    → ((added t c text).ruling ≡ turned_down 4 0) ↔ ((b : Body) → IsOpen t c b → ⊥)
four_exactly t c text long = (
  λ e b o. let two : ◌≡◌ {A = ℕ} 4 2 = text_refused text b 4 (sym (tried_open t c b text long o) ∙ ruled (tried t c text) 4 0 e) in omega arith,
  λ h. ap ruling_of (tried_none t c text long h),
)

-- a refusal has a number
tried_refused : (t : Tables) (c : Counts) (text : Bytes) (n l : ℕ) → tried t c text ≡ refused n l → 1 ≤ n
unfolding tried with_text
tried_refused t c text n l e = lent (too_short (lent_of t)) e
  where
    size : (b : Body) (long : Bool) → cond long (refused 2 0) (with_line (said_in text) b) ≡ refused n l → 1 ≤ n
    size b true k = let same : 2 ≡ n = cc in omega arith
    size b false k = omega (arith, (line_refused (said_in text) b n l k).0)

    body : (d : Dec ((b : Body) × IsOpen t c b)) → in_body d (with_text text) ≡ refused n l → 1 ≤ n
    body (yes p) k = size p.0 (ltb most_bytes (length text)) k
    body (no h) k = let same : 4 ≡ n = cc in omega arith

    lent : (short : Bool) → cond short (refused 1 0) (in_body (open? t c) (with_text text)) ≡ refused n l → 1 ≤ n
    lent true k = let same : 1 ≡ n = cc in omega arith
    lent false k = body (open? t c) k

-- so number 0 says that the row is added, with line 1
pub added_zero : (t : Tables) (c : Counts) (text : Bytes) → number_in (added t c text).ruling ≡ 0 → (added t c text).ruling ≡ accepted 1
added_zero t c text e = by_outcome (tried t c text) refl e
  where
    by_outcome : (o : Outcome Body) → tried t c text ≡ o → number_in (ruling_of o) ≡ 0 → ruling_of o ≡ accepted 1
    by_outcome (next b) k h = refl
    by_outcome (refused n l) k h = absurd (omega (arith, h, tried_refused t c text n l k))

-- a refusal leaves counts and tables as they were
pub refused_unchanged : (t : Tables) (c : Counts) (text : Bytes) (n l : ℕ) → (added t c text).ruling ≡ turned_down n l
    → ((added t c text).counts ≡ c) × ((added t c text).tables ≡ t)
refused_unchanged t c text n l e = let o = ruled (tried t c text) n l e in (ap (counts_after c) o, ap (tables_after t) o)

-- a preview answers as adding does
pub preview_as_adding : (t : Tables) (c : Counts) (text : Bytes) → previewed t c text ≡ (added t c text).ruling
preview_as_adding t c text = refl

-- tables that are long enough for a body keep their lengths when they are filled with it

-- the lengths with that of the names table, which is lent when a file is opened
abbrev pub lent_with : ℕ → Tables → Lent
lent_with names t =
    record { names = names; formulas = length t.formulas; rows = length t.rows; left = length t.left; right = length t.right }

-- the same lengths
pub record Lengths (t u : Tables) : Type 0 where
  pub formulas : length u.formulas ≡ length t.formulas
  pub rows : length u.rows ≡ length t.rows
  pub left : length u.left ≡ length t.left
  pub right : length u.right ≡ length t.right

-- the four after the first
others_false : (a b c d e : Bool) → (a || b || c || d || e) ≡ false → (b ≡ false) × (c ≡ false) × (d ≡ false) × (e ≡ false)
others_false a b c d e k =
    let last = or_false (a || b || c || d) e k in
    let others = or_false₄ a b c d last.0 in
    (others.1, others.2, others.3, last.1)

module _ (names : ℕ) (t : Tables) (long : too_short (lent_with names t) ≡ false) where
  each_long :
      (ltb (length t.formulas) least.formulas ≡ false) × (ltb (length t.rows) least.rows ≡ false)
      × (ltb (length t.left) least.left ≡ false) × (ltb (length t.right) least.right ≡ false)
  unfolding too_short
  each_long =
      others_false (ltb names least.names) (ltb (length t.formulas) least.formulas) (ltb (length t.rows) least.rows)
      (ltb (length t.left) least.left) (ltb (length t.right) least.right) long

  -- tables that were long enough together with the names are so without them
  pub four_long : too_short (lent_of t) ≡ false
  unfolding too_short
  four_long = rw (each_long.0, each_long.1, each_long.2, each_long.3)

  -- and there is room for the most of each
  pub room_each :
      (least.formulas ≤ length t.formulas) × (least.rows ≤ length t.rows)
      × (least.left ≤ length t.left) × (least.right ≤ length t.right)
  room_each = (ltb-false _ _ each_long.0, ltb-false _ _ each_long.1, ltb-false _ _ each_long.2, ltb-false _ _ each_long.3)

pub filled_lengths : (t : Tables) (b : Body) → too_short (lent_of t) ≡ false → GoodBody b → Lengths t (filled t b)
filled_lengths t b long g =
    let few = good_held g in
    let room = room_each least.names t long in
    record {
      formulas = length_padded _ (encode_body [] b).formulas (omega (arith, room.0, nodes_length b.nodes, few.few_nodes));
      rows = length_padded _ (encode_body [] b).rows (omega (arith, room.1, rows_length b.rows, few.few_rows));
      left = length_padded _ (encode_body [] b).left (omega (arith, room.2, few.few_left));
      right = length_padded _ (encode_body [] b).right (omega (arith, room.3, few.few_right));
    }

-- only the lengths of the tables count when they are filled
pub filled_again : (t u : Tables) (b : Body) → Lengths t u → filled u b ≡ filled t b
filled_again t u b l = rw (l.formulas, l.rows, l.left, l.right)

pub still_long : (t u : Tables) → Lengths t u → too_short (lent_of t) ≡ false → too_short (lent_of u) ≡ false
still_long t u l e = rw (l.formulas, l.rows, l.left, l.right) e

-- tables filled with a good body, with its counts, are an open file
pub filled_open : (t : Tables) (b : Body) → too_short (lent_of t) ≡ false → GoodBody b → IsOpen (filled t b) (counts_of b) b
filled_open t b long g = record { good = g; counts = refl; tables = sym (filled_again t (filled t b) b (filled_lengths t b long g)) }

-- an accepted row passed its tests over the body of an open file, and leaves the open file of the body with the row

pub record RowAdded (t : Tables) (c : Counts) (text : Bytes) : Type 0 where
  pub body : Body
  pub number : ℕ
  pub new : Row
  pub written : said_in text ≡ some (row_line number new)
  pub passed : first (open_tests body number new) ≡ none
  pub before : IsOpen t c body
  pub after : IsOpen (added t c text).tables (added t c text).counts (add_row body new)

pub accepted_open : (t : Tables) (c : Counts) (text : Bytes) (l : ℕ) → (added t c text).ruling ≡ accepted l → RowAdded t c text
unfolding tried with_text
accepted_open t c text l e = long (too_short (lent_of t)) refl (gone (tried t c text) e).1
  where
    gone : (o : Outcome Body) → ruling_of o ≡ accepted l → (u : Body) × (o ≡ next u)
    gone (next u) k = (u, refl)
    gone (refused n m) k = let z : ◌≡◌ {A = ℕ} 0 1 = cc in absurd (omega arith)

    u : Body
    u = (gone (tried t c text) e).0

    result : tried t c text ≡ next u
    result = (gone (tried t c text) e).1

    row_tests_lem : (o : Option ℕ) (d : Body) → entered o d ≡ next u → (o ≡ none) × (d ≡ u)
    row_tests_lem none d k = (refl, cc)
    row_tests_lem (some m) d k = let z : ◌≡◌ {A = ℕ} 0 1 = cc in absurd (omega arith)

    line : (b : Body) → IsOpen t c b → too_short (lent_of t) ≡ false → (o : Option Line) → said_in text ≡ o → with_line o b ≡ next u → RowAdded t c text
    line b o i none w k = let z : ◌≡◌ {A = ℕ} 0 1 = cc in absurd (omega arith)
    line b o i (some (atom_line m name)) w k = let z : ◌≡◌ {A = ℕ} 0 1 = cc in absurd (omega arith)
    line b o i (some (formula_line m node)) w k = let z : ◌≡◌ {A = ℕ} 0 1 = cc in absurd (omega arith)
    line b o i (some (model_line atoms)) w k = let z : ◌≡◌ {A = ℕ} 0 1 = cc in absurd (omega arith)
    line b o i (some (claim_line p q)) w k = let z : ◌≡◌ {A = ℕ} 0 1 = cc in absurd (omega arith)
    line b o i (some (row_line n r)) w k =
        let s = row_tests_lem (first (open_tests b n r)) (add_row b r) k in
        let whole : tried t c text ≡ next (add_row b r) = result ∙ ap (λ (d : Body). next d) (sym s.1) in
        let good : GoodBody (add_row b r) = row o.good r
        (sym (first_passes _ (body_tests b r) (passes 4 (open_tests b n r) s.0)) ∙ s.0) in
        record {
          body = b;
          number = n;
          new = r;
          written = w;
          passed = s.0;
          before = o;
          after = subst (λ (q : Outcome Body). IsOpen (tables_after t q) (counts_after c q) (add_row b r)) (sym whole) (filled_open t (add_row b r) i good);
        }

    short : (b : Body) → IsOpen t c b → too_short (lent_of t) ≡ false → (j : Bool) → cond j (refused 2 0) (with_line (said_in text) b) ≡ next u
        → RowAdded t c text
    short b o i true k = let z : ◌≡◌ {A = ℕ} 0 1 = cc in absurd (omega arith)
    short b o i false k = line b o i (said_in text) refl k

    found : too_short (lent_of t) ≡ false → (d : Dec ((b : Body) × IsOpen t c b)) → in_body d (with_text text) ≡ next u → RowAdded t c text
    found i (no n) k = let z : ◌≡◌ {A = ℕ} 0 1 = cc in absurd (omega arith)
    found i (yes p) k = short p.0 p.1 i (ltb most_bytes (length text)) k

    long : (i : Bool) → too_short (lent_of t) ≡ i → cond i (refused 1 0) (in_body (open? t c) (with_text text)) ≡ next u → RowAdded t c text
    long true i k = let z : ◌≡◌ {A = ℕ} 0 1 = cc in absurd (omega arith)
    long false i k = found i (open? t c) k
