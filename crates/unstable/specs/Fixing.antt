-- The formulas that fix a choice of S in `unst`, by their shapes in any table: ~~p for p in S, and ~p for p in the rest. S and its
-- rest are words.
use Rattle.std.specs.Prelude.{ℕ, Bool, true, false, ◌&&◌, List, ◌≡◌, ◌⊎◌, eqb}
use Rattle.equilibrium.specs.Meaning.{◌∈◌}
use Rattle.atomset.specs.AtomSet.{has, Member}
use Rattle.shapes.specs.Shapes.{shape_in}
use Rattle.shapes.specs.declared.Shape.{Shape}
use Rattle.shapes.specs.declared.Shape.TheVariants.{Falsum, Atom, Verum, Negated, Doubled, Conjunction, Disjunction, Other}

-- a formula of this shape fixes atom i: it is ~~i for i in S, or ~i for i in the rest
abbrev pub fixes_atom : ℕ → ℕ → ℕ → Shape → Bool
fixes_atom set others i Falsum = false
fixes_atom set others i (Atom p) = false
fixes_atom set others i Verum = false
fixes_atom set others i (Negated p) = eqb i p && has others p
fixes_atom set others i (Doubled p) = eqb i p && has set p
fixes_atom set others i (Conjunction j k) = false
fixes_atom set others i (Disjunction j k) = false
fixes_atom set others i Other = false

-- formula x fixes atom i
abbrev pub FixedBy : List ℕ → ℕ → ℕ → ℕ → ℕ → Type 0
FixedBy formulas set others x i = fixes_atom set others i (shape_in formulas x) ≡ true

-- the side is l with ~~p for p in S and ~p for p in the rest, where S and the rest are apart
pub record Fixes (formulas side l : List ℕ) (set others : ℕ) : Type 0 where
  pub part : (x : ℕ) → x ∈ l → x ∈ side
  pub fixed : (p : ℕ) → Member p set ⊎ Member p others → (x : ℕ) × (x ∈ side) × FixedBy formulas set others x p
  pub rest : (x : ℕ) → x ∈ side → (x ∈ l) ⊎ ((p : ℕ) × FixedBy formulas set others x p)
