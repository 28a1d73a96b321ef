-- What a writer leaves, by whether there is room; writers one after the other; words written in the rest of a lent text.
-- Assumes nothing.
use Prim.Native.Nat.{ℕ, ◌+◌, ◌-◌, ◌≤◌, ◌<◌}
use native.Mathlib.Omega.{arith}
use mathlib.Core.Bool.{Bool, true, false, cond, false≢true}
use mathlib.Core.List.{[], ◌∷◌, ◌++◌, append_assoc, append-nil}
use mathlib.Core.Option.{none, some}
use mathlib.Core.Path.{◌≡◌, refl, sym, ap, subst, ◌∙◌}
use borrow.Author.Tests.{lt-ltb, le-ltb, ltb-true, ltb-false}
use lib.Dec.{ltb}
use lib.ListN.{length, take, drop, length-append, length-drop}
use lib.Seq.{take_at, length-take-le, take-append-add, take-append-le}
use Rattle.format.specs.Text.{Bytes}
use Rattle.format.specs.Tests.{◌when◌, first}
use Rattle.std.specs.Prelude.{Option as Reach, Some, None}
use Rattle.writer.specs.declared.Writer.{Writer}
use Rattle.writer.specs.Putting.{Puts}
use Rattle.writer.specs.Writing.{no_room, written_as, written_refusal, after, Writes}

module _ (space at count : ℕ) where
  reach : Bool → Reach ℕ
  reach full = written_as (cond full (some no_room) none) (at + count)

  pub after_fits : at + count ≤ space → after space (Some at) count ≡ Some (at + count)
  unfolding reach
  after_fits h = ap reach (le-ltb space (at + count) h)

  pub after_full : space < at + count → after space (Some at) count ≡ None
  unfolding reach
  after_full h = ap reach (lt-ltb space (at + count) h)

-- the number of an answer, where something was written before
numbered : (space count : ℕ) (before : Reach ℕ) {after' : Reach ℕ} → after' ≡ after space before count
    → (at : ℕ) → before ≡ Some at → written_refusal after' ≡ first ((no_room when ltb space (at + count)) ∷ [])
numbered space count before e at f =
    ap written_refusal (e ∙ ap (λ (w : Reach ℕ). after space w count) f) ∙ by (ltb space (at + count))
  where
    by : (full : Bool) → written_refusal (written_as (cond full (some no_room) none) (at + count)) ≡ cond full (some no_room) none
    by true = refl
    by false = refl

-- so many bytes and then so many are so many together
after_after : (space : ℕ) (w : Reach ℕ) (m n : ℕ) → after space (after space w m) n ≡ after space w (m + n)
after_after space None m n = refl
after_after space (Some at) m n = by (ltb space (at + m)) refl
  where
    together : at + m + n ≡ at + (m + n)
    together = omega arith

    by : (full : Bool) → ltb space (at + m) ≡ full → after space (after space (Some at) m) n ≡ after space (Some at) (m + n)
    by true e =
        let full = ltb-true space (at + m) e in
        ap (λ (w : Reach ℕ). after space w n) (after_full space at m full) ∙ sym (after_full space at (m + n) (omega (arith, full)))
    by false e =
        ap (λ (w : Reach ℕ). after space w n) (after_fits space at m (ltb-false space (at + m) e))
        ∙ ap (λ (k : ℕ). written_as (cond (ltb space k) (some no_room) none) k) together

-- words in the place of as many bytes of a text
pub placed_writes : (words text text' : Bytes) (at : ℕ) → at + length words ≤ length text
    → text' ≡ take at text ++ words ++ drop (at + length words) text → length text' ≡ length text
    → Writes words text (Some at) text' (Some (at + length words))
placed_writes words text text' at h e l =
    let far = sym (after_fits (length text) at (length words) h) in
    record { length_kept = l; reached = far; refusal = numbered (length text) (length words) (Some at) far; in_front = front }
  where
    long : length (take at text ++ words) ≡ at + length words
    long = length-append (take at text) words ∙ ap (λ (k : ℕ). k + length words) (length-take-le at text (omega arith))

    front : (a : ℕ) → Some at ≡ Some a → a + length words ≤ length text → take (a + length words) text' ≡ take a text ++ words
    front a same _ =
        subst (λ (k : ℕ). take (k + length words) text' ≡ take k text ++ words) (cc same)
        (ap (take (at + length words)) e ∙ take_at (take at text ++ words) (drop (at + length words) text) (at + length words) long)

abbrev reaches : Reach ℕ → Bool
reaches (Some at) = true
reaches None = false

-- no room before
pub none_writes : (words text : Bytes) → Writes words text None text None
none_writes words text =
    record {
      length_kept = refl;
      reached = refl;
      refusal = λ a e. absurd (false≢true (ap reaches e));
      in_front = λ a e h. absurd (false≢true (ap reaches e));
    }

module _ {words text text' : Bytes} {w r : Reach ℕ} where
  -- the words by another name
  pub writes_as : {others : Bytes} → others ≡ words → Writes words text w text' r → Writes others text w text' r
  writes_as e h = subst (λ (ws : Bytes). Writes ws text w text' r) (sym e) h

-- words, and then more words
pub writes_then : {first second text text₁ text₂ : Bytes} {w w₁ w₂ : Reach ℕ}
    → Writes first text w text₁ w₁ → Writes second text₁ w₁ text₂ w₂ → Writes (first ++ second) text w text₂ w₂
writes_then {first} {second} {text} {text₁} {text₂} {w} {w₁} {w₂} p q =
    record {
      length_kept = q.length_kept ∙ p.length_kept;
      reached = far;
      refusal = numbered (length text) (length (first ++ second)) w far;
      in_front = front;
    }
  where
    both : length (first ++ second) ≡ length first + length second
    both = length-append first second

    far : w₂ ≡ after (length text) w (length (first ++ second))
    far =
        q.reached
        ∙ ap (λ (n : ℕ). after n w₁ (length second)) p.length_kept
        ∙ ap (λ (v : Reach ℕ). after (length text) v (length second)) p.reached
        ∙ after_after (length text) w (length first) (length second)
        ∙ ap (after (length text) w) (sym both)

    front : (a : ℕ) → w ≡ Some a → a + length (first ++ second) ≤ length text
        → take (a + length (first ++ second)) text₂ ≡ take a text ++ (first ++ second)
    front a e h =
        ap (λ (k : ℕ). take k text₂) far_off
        ∙ q.in_front (a + length first) at_second (omega (arith, both, p.length_kept, h))
        ∙ ap (λ (t : Bytes). t ++ second) (p.in_front a e (omega (arith, both, h)))
        ∙ append_assoc (take a text) first second
      where
        far_off : a + length (first ++ second) ≡ a + length first + length second
        far_off = omega (arith, both)

        at_second : w₁ ≡ Some (a + length first)
        at_second =
            p.reached ∙ ap (λ (v : Reach ℕ). after (length text) v (length first)) e
            ∙ after_fits (length text) a (length first) (omega (arith, both, h))

-- after words that were written, nothing more is written as it stands
pub writes_nothing : {words text text' : Bytes} {w r : Reach ℕ} → Writes words text w text' r → Writes [] text' r text' r
writes_nothing {words} {text} {text'} {w} {r} p =
    record { length_kept = refl; reached = far; refusal = numbered (length text') 0 r far; in_front = front }
  where
    none_more : length words + 0 ≡ length words
    none_more = omega arith

    far : r ≡ after (length text') r 0
    far =
        p.reached
        ∙ ap (after (length text) w) (sym none_more)
        ∙ sym (after_after (length text) w (length words) 0)
        ∙ ap (λ (v : Reach ℕ). after (length text) v 0) (sym p.reached)
        ∙ ap (λ (n : ℕ). after n r 0) (sym p.length_kept)

    front : (a : ℕ) → r ≡ Some a → a + 0 ≤ length text' → take (a + 0) text' ≡ take a text' ++ []
    front a e h = let same : a + 0 ≡ a = omega arith in ap (λ (k : ℕ). take k text') same ∙ sym (append-nil (take a text'))

-- nothing is written at the start
pub writes_start : (text : Bytes) → Writes [] text (Some 0) text (Some 0)
writes_start text = placed_writes [] text text 0 (omega arith) refl refl

-- what is written ends inside
pub writes_within : {words text text' : Bytes} {w : Reach ℕ} {end : ℕ} → Writes words text w text' (Some end) → end ≤ length text
writes_within {words} {text} {text'} {w} {end} p = by w p.reached
  where
    to : (at : ℕ) (full : Bool) → ltb (length text) (at + length words) ≡ full
        → Some end ≡ written_as (cond full (some no_room) none) (at + length words) → end ≤ length text
    to at false f e = let same : end ≡ at + length words = cc e in omega (arith, ltb-false (length text) (at + length words) f)
    to at true f e = absurd (false≢true (ap reaches (sym e)))

    by : (v : Reach ℕ) → Some end ≡ after (length text) v (length words) → end ≤ length text
    by (Some at) e = to at (ltb (length text) (at + length words)) refl e
    by None e = absurd (false≢true (ap reaches (sym e)))

-- ---- the rest of a lent text

-- so many bytes further on
abbrev pub further_on : ℕ → Reach ℕ → Reach ℕ
further_on start (Some n) = Some (start + n)
further_on start None = None

-- a text whose bytes from `start` on were lent, and came back as `part`
abbrev pub back_from : Bytes → ℕ → Bytes → Bytes
back_from text start part = take start text ++ (part ++ drop (length text - start) (drop start text))

module _ (text : Bytes) (start : ℕ) (inside : start ≤ length text) where
  abbrev lent : Bytes
  lent = take (length text - start) (drop start text)

  lent_length : length lent ≡ length text - start
  lent_length = length-take-le (length text - start) (drop start text) (omega (arith, length-drop start text))

  abbrev behind : Bytes
  behind = drop (length text - start) (drop start text)

  front_length : length (take start text) ≡ start
  front_length = length-take-le start text inside

  reach_on : (count : ℕ) → further_on start (after (length text - start) (Some 0) count) ≡ after (length text) (Some start) count
  reach_on count = by (ltb (length text - start) (0 + count)) refl
    where
      by : (full : Bool) → ltb (length text - start) (0 + count) ≡ full
          → further_on start (after (length text - start) (Some 0) count) ≡ after (length text) (Some start) count
      by false e =
          let h = ltb-false (length text - start) (0 + count) e in
          let same : start + (0 + count) ≡ start + count = omega arith in
          ap (further_on start) (after_fits (length text - start) 0 count h)
          ∙ ap Some same
          ∙ sym (after_fits (length text) start count (omega (arith, h, inside)))
      by true e =
          let h = ltb-true (length text - start) (0 + count) e in
          ap (further_on start) (after_full (length text - start) 0 count h) ∙ sym (after_full (length text) start count (omega (arith, h, inside)))

  -- what is written at the start of the rest is written after what stands before it
  pub writes_rest : {words part : Bytes} {r : Reach ℕ} → Writes words lent (Some 0) part r
      → Writes words text (Some start) (back_from text start part) (further_on start r)
  writes_rest {words} {part} {r} p =
      record { length_kept = kept; reached = far; refusal = numbered (length text) (length words) (Some start) far; in_front = front }
    where
      part_length : length part ≡ length text - start
      part_length = p.length_kept ∙ lent_length

      kept : length (back_from text start part) ≡ length text
      kept =
          let none : length behind ≡ 0 = omega (arith, length-drop (length text - start) (drop start text), length-drop start text) in
          simp length-append (omega (arith, front_length, part_length, none, inside))

      far : further_on start r ≡ after (length text) (Some start) (length words)
      far =
          ap (further_on start) (p.reached ∙ ap (λ (n : ℕ). after n (Some 0) (length words)) lent_length) ∙ reach_on (length words)

      front : (a : ℕ) → Some start ≡ Some a → a + length words ≤ length text
          → take (a + length words) (back_from text start part) ≡ take a text ++ words
      front a same h =
          let e : start ≡ a = cc same in
          let room : 0 + length words ≤ length lent = omega (arith, lent_length, h, e) in
          let none : 0 + length words ≡ length words = omega arith in
          let short : length words ≤ length part = omega (arith, part_length, h, e) in
          subst (λ (k : ℕ). take (k + length words) (back_from text start part) ≡ take k text ++ words) e
          (ap (λ (k : ℕ). take (k + length words) (back_from text start part)) (sym front_length)
          ∙ take-append-add (take start text) (part ++ behind) (length words)
          ∙ ap (λ (bs : Bytes). take start text ++ bs)
          (take-append-le (length words) part behind short ∙ ap (λ (k : ℕ). take k part) (sym none) ∙ p.in_front 0 refl room))

  module _ {words part : Bytes} {r : Reach ℕ} (p : Writes words lent (Some 0) part r) where
    -- the same, where it is known how much was written
    pub rest_told : {n : ℕ} → r ≡ Some n → Writes words text (Some start) (back_from text start part) (Some (start + n))
    rest_told e = subst (λ (v : Reach ℕ). Writes words text (Some start) (back_from text start part) (further_on start v)) e (writes_rest p)

    pub rest_full : r ≡ None → Writes words text (Some start) (back_from text start part) None
    rest_full e = subst (λ (v : Reach ℕ). Writes words text (Some start) (back_from text start part) (further_on start v)) e (writes_rest p)

-- ---- the same of a writer

module _ {words : Bytes} {w r : Writer} where
  -- the words, and the writer before, by other names
  pub puts_as : {others : Bytes} → others ≡ words → Puts words w r → Puts others w r
  puts_as e p = subst (λ (ws : Bytes). Puts ws w r) (sym e) p

  pub puts_from : {v : Writer} → v ≡ w → Puts words v r → Puts words w r
  puts_from e p = subst (λ (v : Writer). Puts words v r) e p

-- words, and then more words
pub puts_then : {first second : Bytes} {w₀ w₁ w₂ : Writer} → Puts first w₀ w₁ → Puts second w₁ w₂ → Puts (first ++ second) w₀ w₂
puts_then p q = record { same_text = q.same_text ∙ p.same_text; writes = writes_then p.writes q.writes }

-- some words of which those ahead are not written yet
pub record Begun (all ahead : Bytes) (w r : Writer) : Type 0 where
  pub words : Bytes
  pub puts : Puts words w r
  pub rest : words ++ ahead ≡ all

-- where something was written before
pub begun_after : {before all : Bytes} {w r : Writer} → Puts before w r → Begun all all r r
begun_after p = record { words = []; puts = record { same_text = refl; writes = writes_nothing p.writes }; rest = refl }

module _ {all ahead : Bytes} {w r : Writer} (b : Begun all ahead w r) where
  pub begun_more : {next further : Bytes} {s : Writer} → ahead ≡ next ++ further → Puts next r s → Begun all further w s
  begun_more {next} {further} e p =
      record {
        words = b.words ++ next;
        puts = puts_then b.puts p;
        rest = append_assoc b.words next further ∙ ap (λ (more : Bytes). b.words ++ more) (sym e) ∙ b.rest;
      }

  -- all of them are written
  pub begun_all : ahead ≡ [] → Puts all w r
  begun_all e = puts_as (sym b.rest ∙ ap (λ (more : Bytes). b.words ++ more) e ∙ append-nil b.words) b.puts

-- words written by a writer of a whole text
pub puts_whole : {words text text' : Bytes} {w r : Writer} {end : Reach ℕ}
    → Puts words w r → w.out.now ≡ text → w.end ≡ Some 0 → r.out.now ≡ text' → end ≡ r.end → Writes words text (Some 0) text' end
puts_whole {words} {text} {text'} {w} {r} {end} p e f g h =
    subst (λ (v : Reach ℕ). Writes words text (Some 0) text' v) (sym h)
    (subst (λ (t : Bytes). Writes words text (Some 0) t r.end) g
    (subst (λ (v : Reach ℕ). Writes words text v r.out.now r.end) f (subst (λ (t : Bytes). Writes words t w.end r.out.now r.end) e p.writes)))
