-- The numbers of what a rule adds to a side, by the records of the formulas table, whatever it holds.
use Rattle.std.specs.Prelude.{ℕ, zero, suc, ◌+◌, ◌*◌, cond, ◌&&◌, List, [], ◌∷◌, eqb, take}
use Rattle.elk.specs.CommonSets.{Side}
use Rattle.rules.specs.RuleTable.{parts_from, rule_number}
use Rattle.sides.specs.Numbers.{no_number, missing, number_side}
use Rattle.sides.specs.declared.numbers.Numbers.{Numbers}
use Rattle.schema.specs.Principal.{Apart, record_at}

-- the number of ~A on a side, where a is the number of A
unfoldable pub negation_in : List ℕ → List ℕ → ℕ → ℕ
negation_in formulas [] a = missing
negation_in formulas (x ∷ xs) a = cond (eqb (record_at formulas x).word 2 && eqb (record_at formulas x).first a) x (negation_in formulas xs a)

-- the number of one part on a side: of nothing, the principal formula, A, B, ~A and, for any other number, ~B
unfoldable pub part_in : List ℕ → List ℕ → Apart → ℕ → ℕ
part_in formulas side p zero = no_number
part_in formulas side p (suc zero) = p.whole
part_in formulas side p (suc (suc zero)) = p.first
part_in formulas side p (suc (suc (suc zero))) = p.second
part_in formulas side p (suc (suc (suc (suc zero)))) = negation_in formulas side p.first
part_in formulas side p (suc (suc (suc (suc (suc k))))) = negation_in formulas side p.second

-- the numbers of what the rule adds at a place (0 to 5: left and right of the conclusion, the first and the second premise)
abbrev pub added_in : List ℕ → List ℕ → Apart → ℕ → ℕ → Numbers
added_in formulas side p rule place =
    record {
      x = part_in formulas side p (rule_number rule (parts_from + 2 * place));
      y = part_in formulas side p (rule_number rule (parts_from + 2 * place + 1));
    }

-- a side with what the rule adds at a place
abbrev pub side_in : List ℕ → Apart → ℕ → ℕ → List ℕ → Side ℕ
side_in formulas p rule place side = number_side side (added_in formulas side p rule place)

-- the one side, left or right, of a row and of as many premises as there are; its place is that of the row's
abbrev pub sides_in : List ℕ → Apart → ℕ → ℕ → ℕ → List ℕ → List ℕ → List ℕ → List (Side ℕ)
sides_in formulas p rule premises place side one two =
    side_in formulas p rule place side ∷ take premises (side_in formulas p rule (place + 2) one ∷ side_in formulas p rule (place + 4) two ∷ [])
