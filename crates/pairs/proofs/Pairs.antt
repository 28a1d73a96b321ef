-- The computed truth of a formula in a pair of words is its truth in the pair of sets. Assumes nothing.
use Prim.Native.Nat.{ℕ}
use mathlib.Core.Path.{◌≡◌, refl}
use mathlib.Core.Bool.{Bool, true, false, not, ◌&&◌, ◌||◌, false≢true}
use mathlib.Core.List.{List}
use mathlib.Core.Logic.{◌⊎◌, inl, inr, ⊎_elim, ◌↔◌}
use Rattle.equilibrium.specs.Formula.{Formula, falsum, atom, neg, conj, disj, imp}
use Rattle.equilibrium.specs.Meaning.{◌∈◌, Holds}
use Rattle.atomset.specs.AtomSet.{Member}
use Rattle.pairs.specs.Pairs.{holds_in}

-- a test says whether a statement is so
abbrev pub Says : Bool → Type 0 → Type 0
Says b X = (b ≡ true) ↔ X

-- tests joined say it of the statements joined
pub says_not : {X : Type 0} (a : Bool) → Says a X → Says (not a) (X → ⊥)
says_not true s = (λ e. absurd (false≢true e), λ n. absurd (n (s.0 refl)))
says_not false s = (λ e x. false≢true (s.1 x), λ n. refl)

pub says_and : {X Y : Type 0} (a b : Bool) → Says a X → Says b Y → Says (a && b) (X × Y)
says_and true b s t = (λ e. (s.0 refl, t.0 e), λ h. t.1 h.1)
says_and false b s t = (λ e. absurd (false≢true e), λ h. s.1 h.0)

pub says_or : {X Y : Type 0} (a b : Bool) → Says a X → Says b Y → Says (a || b) (X ⊎ Y)
says_or true b s t = (λ e. inl (s.0 refl), λ h. refl)
says_or false b s t = (λ e. inr (t.0 e), λ h. ⊎_elim (λ x. absurd (false≢true (s.1 x))) t.1 h)

says_implies : {X Y : Type 0} (a b : Bool) → Says a X → Says b Y → Says (not a || b) (X → Y)
says_implies true b s t = (λ e x. t.0 e, λ f. t.1 (f (s.0 refl)))
says_implies false b s t = (λ e x. absurd (false≢true (s.1 x)), λ f. refl)

-- the word has just the atoms of the list
abbrev pub Names : ℕ → List ℕ → Type 0
Names set X = (p : ℕ) → Member p set ↔ (p ∈ X)

-- computed truth says whether the formula holds
pub holds_in_iff : (A : Formula) (h t : ℕ) {H T : List ℕ} → Names h H → Names t T → (holds_in h t A ≡ true) ↔ Holds H T A
unfolding holds_in
holds_in_iff falsum h t n m = (λ e. false≢true e, λ x. absurd x)
holds_in_iff (atom p) h t n m = n p
holds_in_iff (neg A) h t n m = says_not (holds_in t t A) (holds_in_iff A t t m m)
holds_in_iff (conj A B) h t n m = says_and (holds_in h t A) (holds_in h t B) (holds_in_iff A h t n m) (holds_in_iff B h t n m)
holds_in_iff (disj A B) h t n m = says_or (holds_in h t A) (holds_in h t B) (holds_in_iff A h t n m) (holds_in_iff B h t n m)
holds_in_iff (imp A B) h t n m =
    let there = says_implies (holds_in t t A) (holds_in t t B) (holds_in_iff A t t m m) (holds_in_iff B t t m m) in
    let here = says_implies (holds_in h t A) (holds_in h t B) (holds_in_iff A h t n m) (holds_in_iff B h t n m) in
    says_and (not (holds_in t t A) || holds_in t t B) (not (holds_in h t A) || holds_in h t B) there here
