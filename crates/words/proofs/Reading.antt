-- Where words end: bytes up to the first that passes a test, bytes that lack a byte, and words of which neither begins the other.
use Prim.Native.Nat.{ℕ}
use mathlib.Core.Path.{◌≡◌, refl, sym, ap, ◌∙◌}
use mathlib.Core.Bool.{Bool, true, false, not, cond, ◌||◌, true≢false, false≢true}
use mathlib.Core.List.{[], ◌∷◌, ◌++◌}
use lib.Dec.{eqb}
use lib.ListN.{get_or}
use borrow.Author.Tests.{eq-eqb, eqb-true}
use Rattle.format.specs.Text.{Bytes, all, any}
use Rattle.format.proofs.Booleans.{or_false, and_true}

-- ---- no byte passes a test

-- no byte is s
abbrev pub Lacks : ℕ → Bytes → Type 0
Lacks s bs = any (λ b. eqb b s) bs ≡ false

module _ (test : ℕ → Bool) where
  pub any_append : (bs cs : Bytes) → any test bs ≡ false → any test cs ≡ false → any test (bs ++ cs) ≡ false
  any_append [] cs h k = k
  any_append (b ∷ bs) cs h k = let parts = or_false (test b) (any test bs) h in rw (parts.0, any_append bs cs parts.1 k)

  -- bytes that all pass a test lack each byte that does not
  pub all_lack : (s : ℕ) → test s ≡ false → (bs : Bytes) → all test bs ≡ true → Lacks s bs
  all_lack s fails [] h = refl
  all_lack s fails (b ∷ bs) h = let parts = and_true (test b) (all test bs) h in rw (other (eqb b s) refl parts.0, all_lack s fails bs parts.1)
    where
      other : (t : Bool) → eqb b s ≡ t → test b ≡ true → eqb b s ≡ false
      other true e k = absurd (true≢false (sym k ∙ ap test (eqb-true b s e) ∙ fails))
      other false e k = e

  pub all_pass : (bs : Bytes) → all test bs ≡ true → any (λ b. not (test b)) bs ≡ false
  all_pass [] h = refl
  all_pass (b ∷ bs) h = let parts = and_true (test b) (all test bs) h in rw (parts.0, all_pass bs parts.1)

-- ---- up to a byte

module _ (stop : ℕ → Bool) where
  -- the bytes before the first at which to stop, and the others
  abbrev pub before : Bytes → Bytes × Bytes
  before [] = ([], [])
  before (b ∷ bs) = cond (stop b) ([], b ∷ bs) (b ∷ (before bs).0, (before bs).1)

  pub before_is : (p r : Bytes) → any stop p ≡ false → stop (get_or r 0 0) ≡ true → before (p ++ r) ≡ (p, r)
  before_is [] [] h k = refl
  before_is [] (b ∷ bs) h k = rw k
  before_is (b ∷ p) r h k = let parts = or_false (stop b) (any stop p) h in rw (parts.0, before_is p r parts.1 k)

  -- so what comes before the stop is told, and the rest
  pub span : (p q r s : Bytes) → any stop p ≡ false → any stop q ≡ false → stop (get_or r 0 0) ≡ true → stop (get_or s 0 0) ≡ true
      → p ++ r ≡ q ++ s → (p ≡ q) × (r ≡ s)
  span p q r s hp hq hr hs e =
      let same : ◌≡◌ {A = Bytes × Bytes} (p, r) (q, s) = sym (before_is p r hp hr) ∙ ap before e ∙ before_is q s hq hs in
      (ap (λ (x : Bytes × Bytes). x.0) same, ap (λ (x : Bytes × Bytes). x.1) same)

-- ---- words that differ

-- neither begins with the other
abbrev pub apart : Bytes → Bytes → Bool
apart [] bs = false
apart (a ∷ as') [] = false
apart (a ∷ as') (b ∷ bs) = not (eqb a b) || apart as' bs

pub differ : (p q : Bytes) → apart p q ≡ true → (r s : Bytes) → p ++ r ≡ q ++ s → ⊥
differ [] q h r s e = false≢true h
differ (a ∷ p) [] h r s e = false≢true h
differ (a ∷ p) (b ∷ q) h r s e =
    let head : a ≡ b = cc in
    let rest : p ++ r ≡ q ++ s = cc in
    differ p q (rw (eq-eqb a b head) at h) r s rest
