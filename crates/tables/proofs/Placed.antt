-- A part of a table, and numbers written at a place of it, where they lie inside and where they do not. Any lists. Assumes nothing.
use Prim.Native.Nat.{ℕ, zero, suc, ◌+◌, ◌-◌, ◌≤◌, ◌<◌}
use native.Mathlib.Nat.{add-zero}
use native.Mathlib.Omega.{arith}
use mathlib.Core.Bool.{Bool, cond}
use mathlib.Core.List.{List, [], ◌∷◌, ◌++◌}
use mathlib.Core.Path.{◌≡◌, refl, sym, ap, ◌∙◌}
use borrow.Author.Tests.{le-leb, lt-leb}
use lib.ListN.{length, get_or, take, drop, replicate, length-append, length-replicate, replicate-append-replicate}
use lib.Seq.{take_at, drop_at, drop-append-add, get_or-take, get_or-drop}
use Rattle.format.specs.Tables.{part, padded}
use Rattle.tables.specs.Records.{written}

module _ (table : List ℕ) (start len : ℕ) where
  pub part_inside : start + len ≤ length table → part table start len ≡ take len (drop start table)
  part_inside h = ap (λ (b : Bool). cond b (take len (drop start table)) []) (le-leb (start + len) (length table) h)

  pub part_outside : length table < start + len → part table start len ≡ []
  part_outside h = ap (λ (b : Bool). cond b (take len (drop start table)) []) (lt-leb (start + len) (length table) h)

-- inside a list the default does not count
pub get_d_inside : (xs : List ℕ) (k d e : ℕ) → k < length xs → get_or xs k d ≡ get_or xs k e
get_d_inside [] k d e h = omega arith
get_d_inside (x ∷ xs) zero d e h = refl
get_d_inside (x ∷ xs) (suc k) d e h = get_d_inside xs k d e (omega arith)

-- a number of the part is one of the table
pub part_at : (table : List ℕ) (start len k d e : ℕ) → start + len ≤ length table → k < len → get_or (part table start len) k d ≡ get_or table (start + k) e
part_at table start len k d e h l =
    ap (λ (xs : List ℕ). get_or xs k d) (part_inside table start len h)
    ∙ get_or-take len (drop start table) k d l
    ∙ get_or-drop start table k d
    ∙ get_d_inside table (start + k) d e (omega arith)

pub part_first : (table : List ℕ) (start len d e : ℕ) → start + len ≤ length table → 0 < len → get_or (part table start len) 0 d ≡ get_or table start e
part_first table start len d e h l = part_at table start len 0 d e h l ∙ ap (λ (k : ℕ). get_or table k e) (add-zero start)

-- what stands between two lists is the part there
pub part_between : (before between after : List ℕ) (start len : ℕ) → length before ≡ start → length between ≡ len
    → part (before ++ (between ++ after)) start len ≡ between
part_between before between after start len s l =
    part_inside (before ++ (between ++ after)) start len (simp length-append (omega arith))
    ∙ ap (take len) (drop_at before (between ++ after) start s)
    ∙ take_at between after len l

module _ (table : List ℕ) (at : ℕ) (numbers : List ℕ) where
  placed : List ℕ
  placed = take at table ++ numbers ++ drop (at + length numbers) table

  pub written_inside : at + length numbers ≤ length table → written table at numbers ≡ take at table ++ numbers ++ drop (at + length numbers) table
  unfolding written placed
  written_inside h = ap (λ (b : Bool). cond b placed table) (le-leb (at + length numbers) (length table) h)

  pub written_outside : length table < at + length numbers → written table at numbers ≡ table
  unfolding written placed
  written_outside h = ap (λ (b : Bool). cond b placed table) (lt-leb (at + length numbers) (length table) h)

pub length_padded : (n : ℕ) (held : List ℕ) → length held ≤ n → length (padded n held) ≡ n
length_padded n held h = simp (length-append, length-replicate) (omega arith)

drop-replicate : (k m : ℕ) → k ≤ m → drop k (replicate m 0) ≡ replicate {A = ℕ} (m - k) 0
drop-replicate k m h =
    ap (λ (n : ℕ). drop k (replicate n 0)) e
    ∙ ap (drop k) (sym (replicate-append-replicate k (m - k) 0))
    ∙ drop_at (replicate k 0) (replicate (m - k) 0) k (length-replicate k 0)
  where
    e : m ≡ k + (m - k)
    e = omega arith

-- Numbers written right after what a table holds are held next: where there is room, zeros follow them.
pub written_padded : (n : ℕ) (held numbers : List ℕ) (at : ℕ) → length held ≡ at → at + length numbers ≤ n
    → written (padded n held) at numbers ≡ padded n (held ++ numbers)
written_padded n held numbers at e room =
    written_inside (padded n held) at numbers (rw (length_padded n held (omega arith)) room)
    ∙ ap (λ (front : List ℕ). front ++ numbers ++ drop (at + length numbers) (padded n held)) (take_at held (replicate (n - length held) 0) at e)
    ∙ ap (λ (rest : List ℕ). held ++ numbers ++ rest) zeros
  where
    left : n - length held - length numbers ≡ n - length (held ++ numbers)
    left = simp length-append (omega arith)

    zeros : drop (at + length numbers) (padded n held) ≡ replicate (n - length (held ++ numbers)) 0
    zeros =
        ap (λ (k : ℕ). drop (k + length numbers) (padded n held)) (sym e)
        ∙ drop-append-add held (replicate (n - length held) 0) (length numbers)
        ∙ drop-replicate (length numbers) (n - length held) (omega arith)
        ∙ ap (λ (k : ℕ). replicate k 0) left
