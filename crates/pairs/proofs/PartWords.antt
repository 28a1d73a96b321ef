-- A part of a set as a word, put together atom by atom. Assumes nothing.
use Prim.Native.Nat.{ℕ, zero, suc, ◌+◌, ◌/◌, ◌^◌, ◌<◌}
use native.Mathlib.Omega.{arith}
use mathlib.Core.Bool.{Bool, true, false, ◌&&◌, ◌||◌, and-true, or_assoc, or-false}
use mathlib.Core.List.Memᴰ
use mathlib.Core.List.{List, [], ◌∷◌}
use mathlib.Core.Logic.{⊎_elim}
use mathlib.Core.Path.{◌≡◌, refl, sym, ap, subst, ◌∙◌}
use borrow.Author.Tests.{lt-ltb}
use lib.Dec.{eqb, ltb}
use Rattle.equilibrium.specs.Meaning.{◌∈◌}
use Rattle.atomset.specs.AtomSet.{has, cons_if, members_from, members, set_of}
use Rattle.atomset.proofs.Digits.{has_or, has_power, has_zero, same_members}
use Rattle.atomset.proofs.SetOf.{set_of_lt}
use Rattle.pairs.specs.Parts.{part}
use Rattle.pairs.proofs.Parts.{part_inside}

-- a word's members are below 64
below_from : (set i n z : ℕ) → z ∈ members_from set i n → z < i + n
unfolding members_from
below_from set i zero z m = absurd (Memᴰ.not-nil m)
below_from set i (suc n) z m = by (has set i) (λ k. omega (arith, below_from set (suc i) n z k)) m
  where
    by : (b : Bool) → (z ∈ members_from set (suc i) n → z < i + suc n) → z ∈ cons_if b i (members_from set (suc i) n) → z < i + suc n
    by true later k = ⊎_elim (λ (e : z ≡ i). omega arith) later (Memᴰ.cases_cons k)
    by false later k = later k

member_small : (set i : ℕ) → i ∈ members set → i < 64
unfolding members
member_small set i m = below_from set 0 64 i m

-- the lowest atom is in a part if the lowest digit is 1, and the others are as the other digits say
part_cons : (n p : ℕ) (ps : List ℕ) (i : ℕ) → has (set_of (part n (p ∷ ps))) i ≡ ((has n 0 && eqb i p) || has (set_of (part (n / 2) ps)) i)
unfolding part set_of
part_cons n p ps i = by (has n 0)
  where
    by : (b : Bool) → has (set_of (cons_if b p (part (n / 2) ps))) i ≡ ((b && eqb i p) || has (set_of (part (n / 2) ps)) i)
    by true = has_or (2 ^ p) (set_of (part (n / 2) ps)) i ∙ ap (λ (x : Bool). x || has (set_of (part (n / 2) ps)) i) (has_power p i)
    by false = refl

-- the set has what part n of the model takes of the atoms passed; the other digits say what it takes of the rest
abbrev pub Taken : ℕ → ℕ → ℕ → ℕ → ℕ → Type 0
Taken model n set rest digits = (i : ℕ) → has (set_of (part n (members model))) i ≡ (has set i || has (set_of (part digits (members rest))) i)

-- at the start none is passed
pub taken_none : (model n rest : ℕ) → members rest ≡ members model → Taken model n 0 rest n
taken_none model n rest e i =
    ap (λ (x : Bool). x || has (set_of (part n (members model))) i) (sym (has_zero i))
    ∙ ap (λ (ps : List ℕ). has 0 i || has (set_of (part n ps)) i) (sym e)

-- one atom more
pub taken_next : (model n set set' rest rest' digits p : ℕ) → members rest ≡ p ∷ members rest'
    → ((i : ℕ) → has set' i ≡ (has set i || (has digits 0 && (eqb i p && ltb p 64)))) → Taken model n set rest digits → Taken model n set' rest' (digits / 2)
taken_next model n set set' rest rest' digits p walk more taken i =
    taken i
    ∙ ap (λ (ps : List ℕ). has set i || has (set_of (part digits ps)) i) walk
    ∙ ap (λ (x : Bool). has set i || x) (part_cons digits p (members rest') i)
    ∙ sym (or_assoc (has set i) (has digits 0 && eqb i p) later)
    ∙ ap (λ (x : Bool). x || later) (ap (λ (x : Bool). has set i || (has digits 0 && x)) (sym inside) ∙ sym (more i))
  where
    later : Bool
    later = has (set_of (part (digits / 2) (members rest'))) i

    below : p < 64
    below = member_small rest p (subst (λ (ps : List ℕ). p ∈ ps) (sym walk) (Memᴰ.head refl))

    inside : (eqb i p && ltb p 64) ≡ eqb i p
    inside = ap (λ (x : Bool). eqb i p && x) (lt-ltb p 64 below) ∙ and-true (eqb i p)

-- no atom is left
pub taken_all : (model n set rest digits : ℕ) → set < 2 ^ 64 → members rest ≡ [] → Taken model n set rest digits
    → set ≡ set_of (part n (members model))
unfolding part set_of
taken_all model n set rest digits fits none taken =
    same_members 64 set (set_of (part n (members model))) fits
    (set_of_lt 64 (part n (members model)) (λ i m. member_small model i (part_inside n (members model) i m)))
    (λ i l. sym (taken i
    ∙ ap (λ (ps : List ℕ). has set i || has (set_of (part digits ps)) i) none
    ∙ ap (λ (x : Bool). has set i || x) (has_zero i)
    ∙ or-false (has set i)))
