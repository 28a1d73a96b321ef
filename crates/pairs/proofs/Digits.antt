-- Truths as digits: what the bit operations make of them, and how a note is read. Assumes nothing.
use Prim.Native.Nat.{ℕ}
use mathlib.Core.Bool.{Bool, true, false, not, ◌&&◌, ◌||◌}
use mathlib.Core.List.{List, map}
use mathlib.Core.Path.{◌≡◌, refl, ap, ◌∙◌}
use lib.Bits.{bit_and, bit_or, bit_xor}
use lib.ListN.{get_or, get_or-map}
use Rattle.pairs.specs.Truths.{truth_of, digit}

-- `&`
pub digit_and : (x y : Bool) → bit_and (digit x) (digit y) ≡ digit (x && y)
digit_and true true = refl
digit_and true false = refl
digit_and false true = refl
digit_and false false = refl

-- `|`
pub digit_or : (x y : Bool) → bit_or (digit x) (digit y) ≡ digit (x || y)
digit_or true true = refl
digit_or true false = refl
digit_or false true = refl
digit_or false false = refl

-- `^ 1`
pub digit_not : (x : Bool) → bit_xor (digit x) 1 ≡ digit (not x)
digit_not true = refl
digit_not false = refl

-- an implication
pub digit_implies : (a x y : Bool) → bit_and (digit a) (bit_or (bit_xor (digit x) 1) (digit y)) ≡ digit (a && (not x || y))
digit_implies a x y =
    ap (λ (d : ℕ). bit_and (digit a) (bit_or d (digit y))) (digit_not x) ∙ ap (bit_and (digit a)) (digit_or (not x) y) ∙ digit_and a (not x || y)

-- the note of a formula, among truths that are noted
pub note_read : (notes : List ℕ) (ts : List Bool) (i : ℕ) → notes ≡ map digit ts → get_or notes i 0 ≡ digit (truth_of ts i)
note_read notes ts i e = ap (λ (l : List ℕ). get_or l i 0) e ∙ get_or-map digit ts i false
