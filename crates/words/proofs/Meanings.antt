-- A meaning stands at its rule's code. By one computed test of all rules each, no two share one, and none holds a semicolon or a
-- zero.
use Prim.Native.Nat.{ℕ, suc, ◌≤◌}
use mathlib.Core.Path.{◌≡◌, refl, sym, ap, ◌∙◌}
use mathlib.Core.Bool.{false, cond}
use mathlib.Core.List.{List, [], ◌∷◌, ◌++◌, map, append_cancel_left}
use lib.Dec.{eqb}
use lib.ListN.{get_or-eq_default}
use Rattle.elk.specs.Rules.{Rule, rules, code_of}
use Rattle.elk.proofs.RuleCodes.{at_code, agree_on_each, every_rule, rule_at_code}
use Rattle.format.specs.Text.{Bytes, bytes, any, is, same_list}
use Rattle.format.proofs.Booleans.{any_false}
use Rattle.words.specs.Meanings.{meaning_of, meaning_at}
use Rattle.words.proofs.Reading.{Lacks, span}

pub meaning_at_lem : (r : Rule) → meaning_at (code_of r) ≡ bytes (meaning_of r)
unfolding meaning_at
meaning_at_lem r = at_code (λ q. bytes (meaning_of q)) [] r

-- no rule has a code past the table
pub meaning_past : (code : ℕ) → 38 ≤ code → meaning_at code ≡ []
unfolding meaning_at
meaning_past code past = get_or-eq_default (map (λ q. bytes (meaning_of q)) rules) [] past

-- how many of the rules stand before the first with this meaning
abbrev place_in : List Rule → Bytes → ℕ
place_in [] words = 0
place_in (r ∷ rs) words = cond (is (meaning_of r) words) 0 (suc (place_in rs words))

-- each meaning is first found at its rule's code
meanings_differ : map (λ r. place_in rules (bytes (meaning_of r))) rules ≡ map code_of rules
unfolding meaning_of same_list
meanings_differ = refl

no_semicolon : any (λ r. any (λ b. eqb b 59) (bytes (meaning_of r))) rules ≡ false
unfolding meaning_of
no_semicolon = refl

no_zero : any (λ r. any (λ b. eqb b 0) (bytes (meaning_of r))) rules ≡ false
unfolding meaning_of
no_zero = refl

pub meaning_no_zero : (r : Rule) → Lacks 0 (bytes (meaning_of r))
meaning_no_zero r = any_false (λ q. any (λ b. eqb b 0) (bytes (meaning_of q))) rules no_zero r (every_rule r)

-- the place of a rule's meaning is its code
found_at_code : (r : Rule) → place_in rules (bytes (meaning_of r)) ≡ code_of r
found_at_code r = agree_on_each (λ q. place_in rules (bytes (meaning_of q))) code_of meanings_differ r

pub same_meaning : (q r : Rule) → bytes (meaning_of q) ≡ bytes (meaning_of r) → q ≡ r
same_meaning q r e =
    let code : code_of q ≡ code_of r = sym (found_at_code q) ∙ ap (place_in rules) e ∙ found_at_code r in
    cc (rule_at_code q, rule_at_code r)

-- a rule is told by its meaning, up to the semicolon
pub told_rule : (q r : Rule) (x y : Bytes) → bytes (meaning_of q) ++ (bytes "; " ++ x) ≡ bytes (meaning_of r) ++ (bytes "; " ++ y) → (q ≡ r) × (x ≡ y)
told_rule q r x y e =
    let t = span (λ b. eqb b 59) (bytes (meaning_of q)) (bytes (meaning_of r)) (bytes "; " ++ x) (bytes "; " ++ y) (lacks q) (lacks r) refl refl e in
    (same_meaning q r t.0, append_cancel_left (bytes "; ") x y t.1)
  where
    lacks : (s : Rule) → Lacks 59 (bytes (meaning_of s))
    lacks s = any_false (λ p. any (λ b. eqb b 59) (bytes (meaning_of p))) rules no_semicolon s (every_rule s)
