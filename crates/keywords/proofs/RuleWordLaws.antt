-- The rule of a word: the one that a field can be is found by its place among 64, and its word stands among all words from its
-- start to the next one, or to the end. Assumes nothing.
use Prim.Native.Nat.{ℕ, ◌+◌, ◌-◌, ◌*◌, ◌/◌, ◌%◌, ◌≤◌, ◌<◌}
use native.Mathlib.Omega.{arith}
use mathlib.Core.Bool.{Bool, true, false, cond, ◌&&◌, true≢false}
use mathlib.Core.List.{List, [], ◌∷◌, map}
use mathlib.Core.Option.{Option, none, some}
use mathlib.Core.Path.{◌≡◌, refl, sym, ap, ◌∙◌}
use lib.Dec.{leb, ltb, lit<}
use lib.ListN.{length, get_or, take, drop, length-take, get_or-eq_default}
use borrow.Author.Tests.{ltb-true, ltb-false, leb-true}
use Rattle.elk.specs.Rules.{Rule, rules, code_of, word_of, def}
use Rattle.elk.proofs.RuleCodes.{at_code, agree_on_each, code_at}
use Rattle.format.specs.Text.{Bytes, bytes, is, all, same_list}
use Rattle.format.specs.Line.{rule_among, rule_of}
use Rattle.format.specs.Tables.{part, join_all}
use Rattle.format.proofs.Booleans.{and_true as both, same_list_lem}
use Rattle.format.proofs.WrittenLines.{rule_word}
use Rattle.parts.specs.Refusals.{bad_if_none, refusal_of}
use Rattle.keywords.specs.Words.{rule_code, RuleRead}
use Rattle.std.specs.Prelude.{Option as Answer, None, Some}
use Rattle.keywords.specs.RuleWords.{start_in, word_in, WordsStand, word_at, place_of, CodesPlaced, Candidate}
use Rattle.keywords.proofs.WordLaws.{all_below}

-- ---- the one rule whose word a field can be

-- a table of codes that two computed tests pass
pub codes_placed : (codes : Bytes) → length codes ≡ 64 → all (λ code. ltb code (length rules)) codes ≡ true
    → map (λ r. get_or codes (place_of (bytes (word_of r))) 0) rules ≡ map code_of rules → CodesPlaced codes
codes_placed codes count below each =
    record {
      count = count;
      held = all_below (length rules) (lit< tt) codes below;
      each = agree_on_each (λ r. get_or codes (place_of (bytes (word_of r))) 0) code_of each;
    }

abbrev word_length : Rule → ℕ
word_length r = length (bytes (word_of r))

-- no word is shorter than 2 bytes or longer than 7
word_length_lem : (r : Rule) → (2 ≤ word_length r) × (word_length r ≤ 7)
word_length_lem r =
    let within = both (leb 2 (word_length r)) (leb (word_length r) 7) (agree_on_each (λ q. leb 2 (word_length q) && leb (word_length q) 7) (λ q. true) refl r) in
    (leb-true 2 (word_length r) within.0, leb-true (word_length r) 7 within.1)

module _ (field : Bytes) where
  fits : (r : Rule) → is (word_of r) field ≡ true → (2 ≤ length field) × (length field ≤ 7)
  fits r e =
      let same = ap length (same_list_lem field (bytes (word_of r)) e) in
      let within = word_length_lem r in (omega (arith, same, within.0), omega (arith, same, within.1))

  pub too_short_lem : length field < 2 → Candidate field 0
  too_short_lem h = record { held = lit< tt; only = λ r e. absurd (omega (arith, (fits r e).0)) }

  pub too_long : 7 < length field → Candidate field 0
  too_long h = record { held = lit< tt; only = λ r e. absurd (omega (arith, (fits r e).1)) }

  found : (codes : Bytes) → CodesPlaced codes → Candidate field (get_or codes (place_of field) 0)
  found codes placed =
      record {
        held = placed.held (place_of field);
        only = λ r e. ap (λ word. get_or codes (place_of word) 0) (same_list_lem field (bytes (word_of r)) e) ∙ placed.each r;
      }

-- the same, where the bytes are known by equations
pub found_by : (field codes : Bytes) (second before_last last : ℕ) → CodesPlaced codes
    → second ≡ get_or field 1 0 → before_last ≡ get_or field (length field - 2) 0 → last ≡ get_or field (length field - 1) 0
    → Candidate field (get_or codes ((17 * length field + 2 * second + 3 * before_last / 2 + last) % 64) 0)
found_by field codes second before_last last placed e f g = rw (e, f, g) (found field codes placed)

-- ---- the word of a code

-- bytes and starts that one computed test of all rules passes
pub words_stand : (words starts : Bytes) → length words ≡ 184 → words ≡ join_all (λ r. bytes (word_of r)) rules → length starts ≡ length rules
    → map (λ r. word_in words starts (code_of r)) rules ≡ map (λ r. bytes (word_of r)) rules → WordsStand words starts
words_stand words starts whole end_to_end count each =
    record {
      whole = whole;
      end_to_end = end_to_end;
      count = count;
      each = agree_on_each (λ r. word_in words starts (code_of r)) (λ r. bytes (word_of r)) each;
    }

-- where the word of a code stands among all words: a part that lies inside, and is that word
pub record StandsAt (words : Bytes) (code from to : ℕ) : Type 0 where
  pub ordered : from ≤ to
  pub inside : to ≤ length words
  pub there : take (to - from) (drop from words) ≡ word_at code

word_at_lem : (code : ℕ) (r : Rule) → code_of r ≡ code → word_at code ≡ bytes (word_of r)
word_at_lem code r e = ap word_at (sym e) ∙ at_code (λ q. bytes (word_of q)) [] r

-- a part that is not empty lies inside
part_full : (table : List ℕ) (start len : ℕ) (word : List ℕ) → 0 < length word → part table start len ≡ word
    → (start + len ≤ length table) × (take len (drop start table) ≡ word)
part_full table start len word h e = by (leb (start + len) (length table)) refl e
  where
    by : (t : Bool) → leb (start + len) (length table) ≡ t → cond t (take len (drop start table)) [] ≡ word
        → (start + len ≤ length table) × (take len (drop start table) ≡ word)
    by true t e = (leb-true (start + len) (length table) t, e)
    by false t e = absurd (omega (arith, h, ap length e))

module _ (words starts : Bytes) (stand : WordsStand words starts) (code : ℕ) where
  of_rule : (r : Rule) → code_of r ≡ code → StandsAt words code (start_in words starts code) (start_in words starts (code + 1))
  of_rule r e =
      let from = start_in words starts code in
      let len = start_in words starts (code + 1) - from in
      let long = (word_length_lem r).0 in
      let full = part_full words from len (bytes (word_of r)) (omega (arith, long)) (ap (word_in words starts) (sym e) ∙ stand.each r) in
      let longer : 2 ≤ len = omega (arith, long, ap length full.1, length-take len (drop from words)) in
      record { ordered = omega (arith, longer); inside = omega (arith, full.0, longer); there = full.1 ∙ sym (word_at_lem code r e) }

  -- past the last rule there is no word, and nothing after it
  past : length rules ≤ code → StandsAt words code (start_in words starts code) (start_in words starts (code + 1))
  past h =
      let end = length words in
      let from : start_in words starts code ≡ end = get_or-eq_default starts end (omega (arith, h, stand.count)) in
      let to : start_in words starts (code + 1) ≡ end = get_or-eq_default starts end (omega (arith, h, stand.count)) in
      let none : start_in words starts (code + 1) - start_in words starts code ≡ 0 = omega (arith, from, to) in
      record {
        ordered = omega (arith, from, to);
        inside = omega (arith, to);
        there =
            ap (λ len. take len (drop (start_in words starts code) words)) none
            ∙ sym (get_or-eq_default (map (λ q. bytes (word_of q)) rules) [] h);
      }

  stands_at : StandsAt words code (start_in words starts code) (start_in words starts (code + 1))
  stands_at = by (ltb code (length rules)) refl
    where
      by : (t : Bool) → ltb code (length rules) ≡ t → StandsAt words code (start_in words starts code) (start_in words starts (code + 1))
      by true e = of_rule (get_or rules code def) (code_at code (ltb-true code (length rules) e))
      by false e = past (ltb-false code (length rules) e)

-- the same, where the places are known by equations
pub stands_by : (words starts : Bytes) (code at from to : ℕ) → WordsStand words starts → at ≡ code
    → from ≡ start_in words starts at → to ≡ start_in words starts (at + 1) → StandsAt words code from to
stands_by words starts code at from to stand e f g = rw (f, g, e) (stands_at words starts stand code)

-- ---- the rule of a field

-- the word of the rule that is found is the field
told : (rs : List Rule) (field : Bytes) (r : Rule) → rule_among rs field ≡ some r → is (word_of r) field ≡ true
told [] field r e = let z : ◌≡◌ {A = Bool} true false = cc in absurd (true≢false z)
told (q ∷ qs) field r e = by (is (word_of q) field) refl e (told qs field r)
  where
    by : (t : Bool) → is (word_of q) field ≡ t → cond t (some q) (rule_among qs field) ≡ some r → (rule_among qs field ≡ some r → is (word_of r) field ≡ true)
        → is (word_of r) field ≡ true
    by true t e later = let same : q ≡ r = cc in ap (λ s. is (word_of s) field) (sym same) ∙ t
    by false t e later = later e

module _ (field : Bytes) (code : ℕ) (candidate : Candidate field code) where
  pub is_rule : same_list field (word_at code) ≡ true → Some code ≡ rule_code (rule_of field)
  is_rule e =
      let r = get_or rules code def in
      let coded = code_at code candidate.held in
      let same : field ≡ bytes (word_of r) = same_list_lem field (word_at code) e ∙ word_at_lem code r coded in
      sym (ap (λ word. rule_code (rule_of word)) same ∙ ap rule_code (rule_word r).0 ∙ ap (λ n. Some n) coded)

  pub is_no_rule : same_list field (word_at code) ≡ false → None ≡ rule_code (rule_of field)
  unfolding rule_of
  is_no_rule e = by (rule_among rules field) refl
    where
      by : (o : Option Rule) → rule_among rules field ≡ o → None ≡ rule_code o
      by none o = refl
      by (some r) o =
          let this = told rules field r o in
          let word = word_at_lem code r (sym (candidate.only r this)) in
          absurd (true≢false (sym this ∙ ap (same_list field) (sym word) ∙ e))

-- ---- what is told of a field

code_refusal : (o : Option Rule) → refusal_of (rule_code o) ≡ bad_if_none o
code_refusal none = refl
code_refusal (some r) = refl

pub rule_answered : (o : Option Rule) {r : Answer ℕ} → r ≡ rule_code o → RuleRead o r
rule_answered o e = record { answer = e; refusal = ap refusal_of e ∙ code_refusal o }
