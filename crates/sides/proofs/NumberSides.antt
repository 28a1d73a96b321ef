-- Sides of 16-bit numbers as sides of the law of common sets: what the tests of a side decide, where a number that stands for
-- none is added to nothing and skips nothing.
use Prim.Native.Nat.{ℕ, suc, ◌≤◌, ◌<◌}
use mathlib.Core.Bool.{Bool, true, false, cond, false≢true}
use mathlib.Core.List.Memᴰ
use mathlib.Core.List.{List, [], ◌∷◌}
use mathlib.Core.Logic.{◌⊎◌, inl, inr, ⊎_elim, ◌↔◌}
use mathlib.Core.Path.{◌≡◌, refl, sym, ap, subst, ◌∙◌}
use native.Mathlib.Decide.{ℕ_discrete}
use native.Mathlib.Omega.{arith}
use borrow.Author.Tests.{eqb-true, eqb-false, ne_eqb}
use lib.Dec.{eqb}
use lib.ListN.{get_or}
use Rattle.equilibrium.specs.Meaning.{◌∈◌, ◌⊆◌}
use Rattle.elk.specs.CommonSets.{Shared}
use Rattle.sides.specs.Covering.{Covered}
use Rattle.sides.specs.Members.{member}
use Rattle.sides.specs.Merging.{IsAdded, OnBoth}
use Rattle.sides.specs.Numbers.{no_number, some?, numbers_of, number_side}
use Rattle.sides.specs.declared.numbers.Numbers.{Numbers}
use Rattle.sides.proofs.SharedSides.{shared_two, Carried, shared_by_first}
use Rattle.sides.proofs.Sets.{member_iff}

in_some : (x : ℕ) (ns : List ℕ) (z : ℕ) → (z ∈ some? x ns) ↔ (((x ≡ no_number → ⊥) × (z ≡ x)) ⊎ (z ∈ ns))
in_some x ns z = by (eqb x no_number) refl
  where
    by : (t : Bool) → eqb x no_number ≡ t → (z ∈ cond t ns (x ∷ ns)) ↔ (((x ≡ no_number → ⊥) × (z ≡ x)) ⊎ (z ∈ ns))
    by true e = (inr, ⊎_elim (λ h. absurd (h.0 (eqb-true x no_number e))) (λ m. m))
    by false e = (λ m. ⊎_elim (λ h. inl (eqb-false x no_number e, h)) inr (Memᴰ.cases_cons m), ⊎_elim (λ h. Memᴰ.head h.1) Memᴰ.tail)

-- the numbers are those of the two that are some
pub in_numbers : (r : Numbers) (z : ℕ) → (z ∈ numbers_of r) ↔ (((r.x ≡ no_number → ⊥) × (z ≡ r.x)) ⊎ ((r.y ≡ no_number → ⊥) × (z ≡ r.y)))
in_numbers r z = (
  λ m. ⊎_elim inl (λ k. inr (⊎_elim (λ h. h) (λ n. absurd (Memᴰ.not-nil n)) ((in_some r.y [] z).0 k))) ((in_some r.x (some? r.y []) z).0 m),
  ⊎_elim (λ h. (in_some r.x (some? r.y []) z).1 (inl h)) (λ h. (in_some r.x (some? r.y []) z).1 (inr ((in_some r.y [] z).1 (inl h)))),
)

-- the numbers are on a side if each that is some is
pub numbers_part : (r : Numbers) (side : List ℕ) → (numbers_of r ⊆ side) ↔ (((r.x ≡ no_number → ⊥) → r.x ∈ side) × ((r.y ≡ no_number → ⊥) → r.y ∈ side))
numbers_part r side = (
  λ h. (λ n. h r.x ((in_numbers r r.x).1 (inl (n, refl))), λ n. h r.y ((in_numbers r r.y).1 (inr (n, refl)))),
  λ h z m. ⊎_elim (λ k. same k.1 (h.0 k.0)) (λ k. same k.1 (h.1 k.0)) ((in_numbers r z).0 m),
)
  where
    same : {n z : ℕ} → z ≡ n → n ∈ side → z ∈ side
    same e m = subst (λ (k : ℕ). k ∈ side) (sym e) m

-- every number of the list fits 16 bits
abbrev pub Small : List ℕ → Type 0
Small side = (z : ℕ) → z ∈ side → z < 65536

pub small : (side : List ℕ) → ((i : ℕ) → get_or side i 0 < 65536) → Small side
small [] h z m = absurd (Memᴰ.not-nil m)
small (x ∷ xs) h z m = ⊎_elim (λ (e : z ≡ x). rw e (h 0)) (small xs (λ i. h (suc i)) z) (Memᴰ.cases_cons m)

-- the subset test that skips the numbers passes what the law of common sets asks
pub passes_iff : (a : List ℕ) (r : Numbers) (b : List ℕ) → Small a → Covered a r.x r.y b ↔ ((z : ℕ) → z ∈ a → (z ∈ numbers_of r → ⊥) → z ∈ b)
passes_iff a r b s = (
  λ c z m n. c z m (λ h. n ((in_numbers r z).1 (inl (some h m, h)))) (λ h. n ((in_numbers r z).1 (inr (some h m, h)))),
  λ p z m nx ny. p z m (λ k. ⊎_elim (λ h. nx h.1) (λ h. ny h.1) ((in_numbers r z).0 k)),
)
  where
    some : {x z : ℕ} → z ≡ x → z ∈ a → x ≡ no_number → ⊥
    some {x} {z} h m e = omega (arith, s z m)

-- two sides of numbers, by the tests that run
pub fit_iff :
    (a : List ℕ) (p : Numbers) (b : List ℕ) (q : Numbers) → Small a → Small b
    → Shared (number_side a p ∷ number_side b q ∷ []) ↔ (((numbers_of p ⊆ a) × (numbers_of q ⊆ b)) × (Covered a p.x p.y b × Covered b q.x q.y a))
fit_iff a p b q sa sb =
    let shared = shared_two (number_side a p) (number_side b q) in (
      λ h. let k = shared.0 h in (k.0, ((passes_iff a p b sa).1 k.1.0, (passes_iff b q a sb).1 k.1.1)),
      λ h. shared.1 (h.0, ((passes_iff a p b sa).0 h.1.0, (passes_iff b q a sb).0 h.1.1)),
    )

-- whether a number is one of them
numbers? : (r : Numbers) (z : ℕ) → Dec (z ∈ numbers_of r)
numbers? r z = by (member z (numbers_of r)) refl
  where
    by : (t : Bool) → member z (numbers_of r) ≡ t → Dec (z ∈ numbers_of r)
    by true e = yes ((member_iff z (numbers_of r)).0 e)
    by false e = no (λ m. false≢true (sym e ∙ (member_iff z (numbers_of r)).1 m))

-- a number on a side is added there exactly if it is one of the two
added_iff : (side : List ℕ) (r : Numbers) (z : ℕ) → Small side → z ∈ side → (z ∈ numbers_of r) ↔ IsAdded r z
added_iff side r z s m = (
  λ k. ⊎_elim (λ h. inl h.1) (λ h. inr h.1) ((in_numbers r z).0 k),
  λ k. (in_numbers r z).1 (⊎_elim (λ e. inl (λ n. omega (arith, s z m), e)) (λ e. inr (λ n. omega (arith, s z m), e)) k),
)

module _ (b : List ℕ) (q : Numbers) (c : List ℕ) (r : Numbers) (sb : Small b) (sc : Small c) (x : ℕ) where
  one_way : (b : List ℕ) (q : Numbers) (c : List ℕ) (r : Numbers) → Small b → (x ∈ b → (IsAdded q x) ⊎ (x ∈ c)) ↔ Carried (number_side b q) (number_side c r) x
  one_way b q c r s = (
    λ h m n. ⊎_elim (λ k. absurd (n ((added_iff b q x s m).1 k))) (λ k. k) (h m),
    λ h m. by m h (numbers? q x),
  )
    where
      by : x ∈ b → Carried (number_side b q) (number_side c r) x → Dec (x ∈ numbers_of q) → (IsAdded q x) ⊎ (x ∈ c)
      by m h (yes k) = inl ((added_iff b q x s m).0 k)
      by m h (no n) = inr (h m n)

  on_both_iff : OnBoth x b q c r ↔ (Carried (number_side b q) (number_side c r) x × Carried (number_side c r) (number_side b q) x)
  on_both_iff = (
    λ h. ((one_way b q c r sb).0 h.0, (one_way c r b q sc).0 h.1),
    λ h. ((one_way b q c r sb).1 h.0, (one_way c r b q sc).1 h.1),
  )

  -- a number past 16 bits stands on neither
  pub past_both : no_number ≤ x → OnBoth x b q c r
  past_both h = (λ m. absurd (omega (arith, sb x m)), λ m. absurd (omega (arith, sc x m)))

-- two sides carry a number to each other
abbrev Both : List ℕ → Numbers → List ℕ → Numbers → ℕ → Type 0
Both b q c r x = Carried (number_side b q) (number_side c r) x × Carried (number_side c r) (number_side b q) x

-- three sides of numbers, by the tests that run
pub three_fit_iff :
    (a : List ℕ) (p : Numbers) (b : List ℕ) (q : Numbers) (c : List ℕ) (r : Numbers) → Small b → Small c
    → Shared (number_side a p ∷ number_side b q ∷ number_side c r ∷ [])
    ↔ (Shared (number_side a p ∷ number_side b q ∷ []) × Shared (number_side a p ∷ number_side c r ∷ []) × OnBoth p.x b q c r × OnBoth p.y b q c r)
three_fit_iff a p b q c r sb sc =
    let shared = shared_by_first (number_side a p) (number_side b q) (number_side c r) (numbers? p) in (
      λ h. let k = shared.0 h in (k.0, k.1, at p.x (λ n. k.2 p.x (is_x n)), at p.y (λ n. k.2 p.y (is_y n))),
      λ h. shared.1 (h.0, h.1, λ z m. ⊎_elim (λ k. moved k.1 h.2) (λ k. moved k.1 h.3) ((in_numbers p z).0 m)),
    )
  where
    is_x : (p.x ≡ no_number → ⊥) → p.x ∈ numbers_of p
    is_x n = (in_numbers p p.x).1 (inl (n, refl))

    is_y : (p.y ≡ no_number → ⊥) → p.y ∈ numbers_of p
    is_y n = (in_numbers p p.y).1 (inr (n, refl))

    at : (x : ℕ) → ((x ≡ no_number → ⊥) → Both b q c r x) → OnBoth x b q c r
    at x h = by (ℕ_discrete x no_number)
      where
        by : Dec (x ≡ no_number) → OnBoth x b q c r
        by (yes e) = past_both b q c r sb sc x (omega arith)
        by (no n) = (on_both_iff b q c r sb sc x).1 (h n)

    moved : {x z : ℕ} → z ≡ x → OnBoth x b q c r → Both b q c r z
    moved {x} e h = subst (Both b q c r) (sym e) ((on_both_iff b q c r sb sc x).0 h)

-- none, and one that is some
abbrev pub no_numbers : Numbers
no_numbers = record { x = no_number; y = no_number }

abbrev pub one_number : ℕ → Numbers
one_number n = record { x = n; y = no_number }

pub one_number_lem : {n p : ℕ} → n ≡ p → p < 65536 → numbers_of (one_number n) ≡ p ∷ []
one_number_lem {n} e h = ap (λ (t : Bool). cond t [] (n ∷ [])) (ne_eqb n no_number (λ k. omega arith)) ∙ ap (λ (k : ℕ). k ∷ []) e
