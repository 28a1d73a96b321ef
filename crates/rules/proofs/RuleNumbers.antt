-- The rule table as one list, each rule where its code says, and the numbers of a rule as digits of one number.
use Prim.Native.Nat.{ℕ, zero, suc, ◌+◌, ◌*◌, ◌-◌, ◌/◌, ◌%◌, ◌^◌, ◌≤◌, ◌<◌}
use native.Mathlib.Decide.{dec_lt}
use native.Mathlib.Nat.{pow-succ', div-div-eq-div-mul, zero-div}
use native.Mathlib.Omega.{arith}
use mathlib.Core.Bool.{Bool, true, false, ◌&&◌, false≢true}
use mathlib.Core.List.{List, [], ◌∷◌, map}
use mathlib.Core.Logic.{◌⊎◌, inl, inr}
use mathlib.Core.Path.{◌≡◌, refl, sym, ap, ◌∙◌}
use lib.Dec.{eqb, ltb}
use lib.ListN.{length, get_or, drop}
use borrow.Author.Tests.{eqb-true, ltb-true, le-leb, lt-leb}
use Rattle.equilibrium.proofs.Sets.{dec_all, from_yes}
use Rattle.format.specs.Text.{all}
use Rattle.format.proofs.Booleans.{and_true}
use Rattle.elk.specs.Rules.{Rule, rules, code_of, entry}
use Rattle.elk.proofs.RuleCodes.{at_code, every_rule}
use Rattle.rules.specs.RuleTable.{step_number, rule_numbers, packed_from, packed_rules, count_of_numbers, rule_number}

-- the numbers of a code: those of a rule, or none
abbrev numbers_at : ℕ → List ℕ
numbers_at code = get_or (map rule_numbers rules) code []

-- the line of a code is its numbers as digits
pub packed_at : (code : ℕ) → get_or packed_rules code 0 ≡ packed_from 0 (numbers_at code)
packed_at code = line rules code
  where
    line : (rs : List Rule) (i : ℕ) → get_or (map (λ (r : Rule). packed_from 0 (rule_numbers r)) rs) i 0 ≡ packed_from 0 (get_or (map rule_numbers rs) i [])
    line [] i = refl
    line (r ∷ rs) zero = refl
    line (r ∷ rs) (suc i) = line rs i

-- no numbers, or those of a rule
abbrev NoneOrRule : List ℕ → Type 0
NoneOrRule numbers = (numbers ≡ []) ⊎ ((s : Rule) × (numbers ≡ rule_numbers s))

none_or_rule : (code : ℕ) → NoneOrRule (numbers_at code)
none_or_rule code = among rules code
  where
    among : (rs : List Rule) (i : ℕ) → NoneOrRule (get_or (map rule_numbers rs) i [])
    among [] i = inl refl
    among (r ∷ rs) zero = inr (r, refl)
    among (r ∷ rs) (suc i) = among rs i

-- the numbers of a rule stand at its code
rule_at_lem : (s : Rule) → numbers_at (code_of s) ≡ rule_numbers s
rule_at_lem s = at_code rule_numbers [] s

-- for a rule's code the number is the rule's
pub rule_number_lem : (s : Rule) (at : ℕ) → at < count_of_numbers → rule_number (code_of s) at ≡ get_or (rule_numbers s) at 0
unfolding rule_number
rule_number_lem s at h = rw (lt-leb count_of_numbers at h, rule_at_lem s)

-- what is left of a `match` on the numbers below k: none of them is n
abbrev NoneBelow : ℕ → ℕ → Type 0
NoneBelow zero n = Unit {0}
NoneBelow (suc k) n = NoneBelow k n × (n ≡ k → ⊥)

pub past_all : (k n : ℕ) → NoneBelow k n → k ≤ n
past_all zero n none = omega arith
past_all (suc k) n none = let before = past_all k n none.0 in let other = none.1 in omega arith

-- by one computed test of all rules
pub code_below : (s : Rule) → code_of s < 38
unfolding dec_all dec_lt
code_below s = from_yes (dec_all (λ r. dec_lt (code_of r) 38) rules) tt s (every_rule s)

-- each is an octal digit
abbrev all_octal : List ℕ → Bool
all_octal = all (λ (x : ℕ). ltb x 8)

octal_more : (l : ℕ) → 2 ^ (3 * suc l) ≡ 2 ^ (3 * l) * 8
octal_more l =
    let more : 3 * suc l ≡ suc (suc (suc (3 * l))) = omega arith in
    let once = pow-succ' 2 (suc (suc (3 * l))) in
    let twice = pow-succ' 2 (suc (3 * l)) in
    let thrice = pow-succ' 2 (3 * l) in
    ap (λ (k : ℕ). 2 ^ k) more ∙ omega (arith, once, twice, thrice)

-- what stands before the digits of a list
before_digits : (n : ℕ) (xs : List ℕ) → all_octal xs ≡ true → packed_from n xs / 2 ^ (3 * length xs) ≡ n
before_digits n [] e = omega arith
before_digits n (x ∷ xs) e =
    let parts = and_true (ltb x 8) (all_octal xs) e in
    let small = ltb-true x 8 parts.0 in
    ap (λ (k : ℕ). packed_from (n * 8 + x) xs / k) (octal_more (length xs))
    ∙ sym (div-div-eq-div-mul (packed_from (n * 8 + x) xs) (2 ^ (3 * length xs)) 8)
    ∙ ap (λ (m : ℕ). m / 8) (before_digits (n * 8 + x) xs parts.1)
    ∙ omega arith

digit_at : (n : ℕ) (xs : List ℕ) (i : ℕ) → all_octal xs ≡ true → i < length xs → packed_from n xs / 2 ^ (3 * (length xs - suc i)) % 8 ≡ get_or xs i 0
digit_at n [] i e h = absurd (omega arith)
digit_at n (x ∷ xs) zero e h =
    let parts = and_true (ltb x 8) (all_octal xs) e in
    let small = ltb-true x 8 parts.0 in
    let rest : suc (length xs) - 1 ≡ length xs = omega arith in
    ap (λ (l : ℕ). packed_from (n * 8 + x) xs / 2 ^ (3 * l) % 8) rest ∙ ap (λ (m : ℕ). m % 8) (before_digits (n * 8 + x) xs parts.1) ∙ omega arith
digit_at n (x ∷ xs) (suc i) e h =
    let rest : suc (length xs) - suc (suc i) ≡ length xs - suc i = omega arith in
    ap (λ (l : ℕ). packed_from (n * 8 + x) xs / 2 ^ (3 * l) % 8) rest ∙ digit_at (n * 8 + x) xs i (and_true (ltb x 8) (all_octal xs) e).1 (omega arith)

abbrev first : Rule → ℕ
first r = step_number (entry r)

abbrev others : Rule → List ℕ
others r = drop 1 (rule_numbers r)

dec_true : (b : Bool) → Dec (b ≡ true)
dec_true true = yes refl
dec_true false = no false≢true

-- by one computed test of all rules
fit_digits : (s : Rule) → (ltb (first s) 256 && eqb (length (others s)) 17 && all_octal (others s)) ≡ true
unfolding dec_all dec_true
fit_digits s = from_yes (dec_all (λ r. dec_true (ltb (first r) 256 && eqb (length (others r)) 17 && all_octal (others r))) rules) tt s (every_rule s)

module _ (s : Rule) where
  two_tests : ((ltb (first s) 256 && eqb (length (others s)) 17) ≡ true) × (all_octal (others s) ≡ true)
  two_tests = and_true (ltb (first s) 256 && eqb (length (others s)) 17) (all_octal (others s)) (fit_digits s)

  first_fits : first s < 256
  first_fits = ltb-true (first s) 256 (and_true (ltb (first s) 256) (eqb (length (others s)) 17) two_tests.0).0

  seventeen : length (others s) ≡ 17
  seventeen = eqb-true (length (others s)) 17 (and_true (ltb (first s) 256) (eqb (length (others s)) 17) two_tests.0).1

  others_octal : all_octal (others s) ≡ true
  others_octal = two_tests.1

  first_number : packed_from 0 (rule_numbers s) / 2 ^ (3 * 17) % 256 ≡ get_or (rule_numbers s) 0 0
  first_number =
      let n = 0 * 8 + first s in
      ap (λ (l : ℕ). packed_from n (others s) / 2 ^ (3 * l) % 256) (sym seventeen)
      ∙ ap (λ (m : ℕ). m % 256) (before_digits n (others s) others_octal)
      ∙ omega (arith, first_fits)

  later_number : (i : ℕ) → i < 17 → packed_from 0 (rule_numbers s) / 2 ^ (3 * (17 - suc i)) % 8 ≡ get_or (rule_numbers s) (suc i) 0
  later_number i h =
      let n = 0 * 8 + first s in
      ap (λ (l : ℕ). packed_from n (others s) / 2 ^ (3 * (l - suc i)) % 8) (sym seventeen)
      ∙ digit_at n (others s) i others_octal (omega (arith, seventeen))

-- the digits of a code's line are its numbers
module _ (code : ℕ) where
  pub first_read : get_or packed_rules code 0 / 2 ^ (3 * 17) % 256 ≡ rule_number code 0
  unfolding rule_number
  first_read = ap (λ (n : ℕ). n / 2 ^ (3 * 17) % 256) (packed_at code) ∙ by (none_or_rule code)
    where
      by : NoneOrRule (numbers_at code) → packed_from 0 (numbers_at code) / 2 ^ (3 * 17) % 256 ≡ get_or (numbers_at code) 0 0
      by (inl e) = rw e (omega (arith, zero-div (2 ^ (3 * 17))))
      by (inr (s, e)) = rw e (first_number s)

  pub later_read : (at : ℕ) → at < count_of_numbers → (at ≡ 0 → ⊥) → get_or packed_rules code 0 / 2 ^ (3 * (17 - at)) % 8 ≡ rule_number code at
  unfolding rule_number
  later_read at h n = ap (λ (k : ℕ). k / 2 ^ (3 * (17 - at)) % 8) (packed_at code) ∙ by at h n (none_or_rule code) ∙ rw (lt-leb count_of_numbers at h)
    where
      by :
          (i : ℕ) → i < count_of_numbers → (i ≡ 0 → ⊥) → NoneOrRule (numbers_at code)
          → packed_from 0 (numbers_at code) / 2 ^ (3 * (17 - i)) % 8 ≡ get_or (numbers_at code) i 0
      by i h n (inl e) = rw e (omega (arith, zero-div (2 ^ (3 * (17 - i)))))
      by zero h n (inr (s, e)) = absurd (n refl)
      by (suc i) h n (inr (s, e)) = rw e (later_number s i (omega arith))

  -- past the table's width
  pub no_place : (at : ℕ) → count_of_numbers ≤ at → rule_number code at ≡ 255
  unfolding rule_number
  no_place at h = rw (le-leb count_of_numbers at h)
