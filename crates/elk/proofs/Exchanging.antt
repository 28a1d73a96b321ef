-- `swap` as a running test asks it: whether a B leaves the sides right, by the two left sides and with no set to be found;
-- that every such B stands left in the premise; how many atoms A and B have.
use Prim.Native.Nat.{ℕ, ◌≤◌}
use native.Mathlib.Omega.{arith}
use native.Mathlib.Decide.{ℕ_discrete}
use mathlib.Core.Path.{◌≡◌, refl}
use mathlib.Core.List.Memᴰ
use mathlib.Core.List.{List, [], ◌∷◌}
use mathlib.Core.Logic.{⊎_elim, ◌↔◌}
use lib.ListN.{length}
use Rattle.equilibrium.specs.Formula.{Formula}
use Rattle.equilibrium.specs.Meaning.{◌∈◌, ◌≈◌, Equal}
use Rattle.equilibrium.proofs.Sets.{those, in_those, dec_in, ≈-refl, ≈-sym, ≈-trans, Unrepeated, unrepeated_length}
use Rattle.elk.specs.Sequent.{elk, Sequent}
use Rattle.elk.specs.Instance.{AtMost, Narrow, Exchanged, SwapInstance, TooWide}
use Rattle.elk.proofs.Equality.{formula_discrete}

-- whether G leaves the sides right, tested on the row and its premise
pub record ExchangedTest (F G : Formula) (premise conclusion : Sequent) : Type 0 where
  pub kinds : (premise.kind ≡ elk) × (conclusion.kind ≡ elk)
  pub right : premise.right ≈ conclusion.right
  pub principal : F ∈ conclusion.left
  pub other : G ∈ premise.left
  pub up : (K : Formula) → K ∈ conclusion.left → (K ≡ F → ⊥) → K ∈ premise.left
  pub down : (K : Formula) → K ∈ premise.left → (K ≡ G → ⊥) → K ∈ conclusion.left

pub exchanged_iff : {F G : Formula} {s u : Sequent} → Exchanged F G (s ∷ []) u ↔ ExchangedTest F G s u
exchanged_iff {F} {G} {s} {u} = (to, from)
  where
    to : Exchanged F G (s ∷ []) u → ExchangedTest F G s u
    to i =
        let a = i.above.0 in
        let c = i.below in
        record {
          kinds = (a.kind, c.kind);
          right = ≈-trans a.right (≈-sym c.right);
          principal = c.left.1 F (Memᴰ.head refl);
          other = a.left.1 G (Memᴰ.head refl);
          up = λ K m n. a.left.1 K (Memᴰ.tail (⊎_elim (λ e. absurd (n e)) (λ k. k) (Memᴰ.cases_cons (c.left.0 K m))));
          down = λ K m n. c.left.1 K (Memᴰ.tail (⊎_elim (λ e. absurd (n e)) (λ k. k) (Memᴰ.cases_cons (a.left.0 K m))));
        }

    -- L is what both left sides have
    L : List Formula
    L = those (λ K. dec_in formula_discrete K s.left) u.left

    in-L : (K : Formula) → (K ∈ L) ↔ ((K ∈ u.left) × (K ∈ s.left))
    in-L = in_those _ u.left

    -- a left side is L and the formula that is exchanged, if it holds both, and L what it has besides
    made_of : (A : Formula) (left : List Formula) → A ∈ left → ((K : Formula) → K ∈ L → K ∈ left)
        → ((K : Formula) → K ∈ left → (K ≡ A → ⊥) → K ∈ L) → left ≈ (A ∷ L)
    made_of A left m holds besides =
        (λ K k. place K k (formula_discrete K A), λ K k. ⊎_elim (λ (e : K ≡ A). Memᴰ.cast e m) (holds K) (Memᴰ.cases_cons k))
      where
        place : (K : Formula) → K ∈ left → Dec (K ≡ A) → K ∈ A ∷ L
        place K k (yes e) = Memᴰ.head e
        place K k (no n) = Memᴰ.tail (besides K k n)

    from : ExchangedTest F G s u → Exchanged F G (s ∷ []) u
    from t =
        let premise = made_of G s.left t.other (λ K k. ((in-L K).0 k).1) (λ K k n. (in-L K).1 (t.down K k n, k)) in
        let row = made_of F u.left t.principal (λ K k. ((in-L K).0 k).0) (λ K k n. (in-L K).1 (k, t.up K k n)) in
        record {
          L = L;
          R = u.right;
          above = (record { kind = t.kinds.0; left = premise; right = t.right }, tt);
          below = record { kind = t.kinds.1; left = row; right = ≈-refl };
        }

module _ (F : Formula) (s u : Sequent) where
  -- G makes the row right
  abbrev pub Fitting : Formula → Type 0
  Fitting G = Exchanged F G (s ∷ []) u × (Narrow F G × Equal F G)

  -- G leaves the sides right and has too many atoms
  abbrev pub Wide : Formula → Type 0
  Wide G = Exchanged F G (s ∷ []) u × (Narrow F G → ⊥)

  -- the formulas of the premise's left side are all that has to be tried
  pub swap_iff : SwapInstance F (s ∷ []) u ↔ ((G : Formula) × (G ∈ s.left) × Fitting G)
  swap_iff = (
    λ i. (i.other, (exchanged_iff.0 i.sides).other, (i.sides, (i.narrow, i.equal))),
    λ h. record { other = h.0; sides = h.2.0; narrow = h.2.1.0; equal = h.2.1.1 },
  )

  pub too_wide_iff : TooWide F (s ∷ []) u ↔ ((SwapInstance F (s ∷ []) u → ⊥) × ((G : Formula) × (G ∈ s.left) × Wide G))
  too_wide_iff = (
    λ w. (w.none_fits, (w.other, (exchanged_iff.0 w.sides).other, (w.sides, w.wide))),
    λ h. record { none_fits = h.0; other = h.1.0; sides = h.1.2.0; wide = h.1.2.1 },
  )

-- atoms are at most n exactly if a list of them without repetition is at most so long
pub at_most_iff : {n : ℕ} {ps : List ℕ} (qs : List ℕ) → Unrepeated qs → qs ≈ ps → AtMost n ps ↔ (length qs ≤ n)
at_most_iff qs r e = (λ a. let h = unrepeated_length ℕ_discrete qs a.0 r (λ p m. a.2 p (e.0 p m)) in omega (arith, a.1), λ h. (qs, h, e.1))
