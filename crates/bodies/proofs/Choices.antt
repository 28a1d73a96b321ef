-- What goes through says of its parts: tests, chains of steps, and steps that are repeated. What stops a step stops all that would
-- come after it. Of any states.
use Prim.Native.Nat.{ℕ, zero, suc, ◌+◌, ◌<◌}
use native.Mathlib.Omega.{arith}
use mathlib.Core.Path.{◌≡◌, refl, ap, ◌∙◌}
use mathlib.Core.Option.{Option, none, some}
use Rattle.format.specs.Text.{◌<$>◌, ◌<*>◌}
use Rattle.bodies.specs.Walk.{and_then, repeated, unless}
-- a test that came out, and what it let through
pub use Rattle.format.proofs.Sides.{only_some}

-- no test applied
pub unless_some : {A : Type 0} (o : Option ℕ) (x : A) {a : A} → unless o x ≡ some a → (o ≡ none) × (x ≡ a)
unless_some none x e = (refl, cc)
unless_some (some n) x e = let z : ◌≡◌ {A = ℕ} 0 1 = cc in absurd (omega arith)

-- both went through
pub then_some : {A B : Type 0} (o : Option A) (k : A → Option B) {b : B} → and_then o k ≡ some b → (a : A) × (o ≡ some a) × (k a ≡ some b)
then_some none k e = let z : ◌≡◌ {A = ℕ} 0 1 = cc in absurd (omega arith)
then_some (some a) k e = (a, refl, e)

-- both are there
pub both_some : {A B C : Type 0} (f : A → B → C) (o : Option A) (p : Option B) {c : C} → f <$> o <*> p ≡ some c
    → (a : A) × (b : B) × (o ≡ some a) × (p ≡ some b) × (f a b ≡ c)
both_some f none p e = let z : ◌≡◌ {A = ℕ} 0 1 = cc in absurd (omega arith)
both_some f (some a) none e = let z : ◌≡◌ {A = ℕ} 0 1 = cc in absurd (omega arith)
both_some f (some a) (some b) e = (a, b, refl, refl, cc)

module _ {S : Type 0} (step : S → Option S) where
  -- what a step keeps, steps keep
  pub repeated_keeps : (P : S → Type 0) → ((s u : S) → P s → step s ≡ some u → P u) → (n : ℕ) (s : S) {u : S} → P s → repeated step n s ≡ some u → P u
  repeated_keeps P keeps zero s {u} p e = let same : s ≡ u = cc in rw same at p
  repeated_keeps P keeps (suc n) s p e =
      let first = then_some (step s) (repeated step n) e in repeated_keeps P keeps n first.0 (keeps s first.0 p first.1) first.2

  -- the last step apart
  pub repeated_last : (n : ℕ) (s u : S) → repeated step n s ≡ some u → repeated step (suc n) s ≡ step u
  repeated_last zero s u e = let same : s ≡ u = cc in alone (step s) ∙ ap step same
    where
      alone : (o : Option S) → and_then o (λ t. some t) ≡ o
      alone none = refl
      alone (some t) = refl
  repeated_last (suc n) s u e =
      let first = then_some (step s) (repeated step n) e in
      ap (λ (o : Option S). and_then o (repeated step (suc n))) first.1 ∙ repeated_last n first.0 u first.2

  -- what grows by one with a step is a count of the steps
  pub repeated_counts : (size : S → ℕ) → ((s u : S) → step s ≡ some u → size u ≡ size s + 1) → (n : ℕ) (s : S) {u : S} → repeated step n s ≡ some u
      → size u ≡ size s + n
  repeated_counts size grows zero s {u} e = let same : s ≡ u = cc in omega (arith, ap size same)
  repeated_counts size grows (suc n) s e =
      let first = then_some (step s) (repeated step n) e in
      omega (arith, grows s first.0 first.1, repeated_counts size grows n first.0 first.2)

  -- where one of the steps does not go through, they do not all
  pub repeated_fails : (i n : ℕ) (s u : S) → repeated step i s ≡ some u → step u ≡ none → i < n → repeated step n s ≡ none
  repeated_fails zero zero s u e stops h = absurd (omega arith)
  repeated_fails zero (suc n) s u e stops h =
      let same : s ≡ u = cc in ap (λ (o : Option S). and_then o (repeated step n)) (ap step same ∙ stops)
  repeated_fails (suc i) zero s u e stops h = absurd (omega arith)
  repeated_fails (suc i) (suc n) s u e stops h =
      let first = then_some (step s) (repeated step i) e in
      ap (λ (o : Option S). and_then o (repeated step n)) first.1 ∙ repeated_fails i n first.0 u first.2 stops (omega arith)
