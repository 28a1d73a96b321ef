-- The rule `swap` on sides of numbers: when a number leaves the sides right, which numbers of the premise's left side can do so, and
-- what the number of these candidates says of the row.
use Prim.Native.Nat.{ℕ, ◌≤◌, ◌<◌}
use native.Mathlib.Decide.{ℕ_discrete}
use native.Mathlib.Omega.{arith}
use mathlib.Core.List.Memᴰ
use mathlib.Core.List.{List, [], ◌∷◌}
use mathlib.Core.Logic.{◌↔◌}
use mathlib.Core.Path.{◌≡◌, refl, sym, ap, subst, ◌∙◌}
use lib.ListN.{length}
use Rattle.equilibrium.specs.Formula.{Formula}
use Rattle.equilibrium.specs.Meaning.{◌∈◌, ◌⊆◌, Equal}
use Rattle.elk.specs.Sequent.{Sequent, ◌⇒◌}
use Rattle.elk.specs.Instance.{Narrow, Exchanged, SwapInstance, TooWide}
use Rattle.elk.specs.CommonSets.{Shared}
use Rattle.elk.proofs.Exchanging.{ExchangedTest, exchanged_iff, swap_iff, too_wide_iff}
use Rattle.elk.proofs.Rising.{rising_unique}
use Rattle.format.specs.File.{Body, decoded_at, decoded}
use Rattle.format.specs.Tables.{most_on_side}
use Rattle.format.proofs.Formulas.{known_earlier, equal_numbers}
use Rattle.format.proofs.GoodBodies.{Held, good_held}
use Rattle.format.proofs.RisingNumbers.{rising_of}
use Rattle.format.proofs.Decoded.{in_decoded, decoded_in, number_on}
use Rattle.sides.specs.Numbers.{numbers_of, number_side}
use Rattle.sides.proofs.NumberSides.{no_numbers, one_number, one_number_lem}
use Rattle.sides.proofs.SharedSides.{shared_two}
use Rattle.sides.proofs.DecodedSides.{part_decoded}
use Rattle.candidates.specs.Candidates.{OneFits, OneWide, CandidatesNumbered}
use Rattle.alike.specs.Alike.{Held as HeldCandidates}
use Rattle.swap.specs.Swap.{SidesMeet, OfBody, SwapNumbered}

-- q as B leaves the left sides right, where p is the number of A
pub record LeftsMeet (p q : ℕ) (left left₁ : List ℕ) : Type 0 where
  pub principal : p ∈ left
  pub other : q ∈ left₁
  pub up : (z : ℕ) → z ∈ left → (z ≡ p → ⊥) → z ∈ left₁
  pub down : (z : ℕ) → z ∈ left₁ → (z ≡ q → ⊥) → z ∈ left

-- ---- the tests of the left sides

-- some set gives both, with what is added
abbrev Lefts : List ℕ → List ℕ → List ℕ → List ℕ → Type 0
Lefts left a left₁ c = Shared (record { whole = left; added = a } ∷ record { whole = left₁; added = c } ∷ [])

-- not in a list of one
not_one : {x y : ℕ} → (x ≡ y → ⊥) → x ∈ y ∷ [] → ⊥
not_one n m = n (Memᴰ.eq_of_singleton m)

module _ (p : ℕ) (left left₁ : List ℕ) where
  meet_iff : (q : ℕ) → Lefts left (p ∷ []) left₁ (q ∷ []) ↔ LeftsMeet p q left left₁
  meet_iff q =
      let two = shared_two (record { whole = left; added = p ∷ [] }) (record { whole = left₁; added = q ∷ [] }) in (
        λ s. let h = two.0 s in record {
          principal = h.0.0 p (Memᴰ.head refl);
          other = h.0.1 q (Memᴰ.head refl);
          up = λ z m n. h.1.0 z m (not_one n);
          down = λ z m n. h.1.1 z m (not_one n);
        },
        λ t. two.1 ((one t.principal, one t.other), (λ z m n. t.up z m (λ e. n (Memᴰ.head e)), λ z m n. t.down z m (λ e. n (Memᴰ.head e)))),
      )
    where
      one : {x : ℕ} {xs : List ℕ} → x ∈ xs → x ∷ [] ⊆ xs
      one {x} {xs} m z k = subst (λ (y : ℕ). y ∈ xs) (sym (Memᴰ.eq_of_singleton k)) m

  -- where the premise's side is within the row's: with nothing added there, exactly if each number of it will do
  all_meet : Lefts left (p ∷ []) left₁ [] → (q : ℕ) → q ∈ left₁ → LeftsMeet p q left left₁
  all_meet s q m =
      let h = (shared_two (record { whole = left; added = p ∷ [] }) (record { whole = left₁; added = [] })).0 s in
      record {
        principal = h.0.0 p (Memᴰ.head refl);
        other = m;
        up = λ z k n. h.1.0 z k (not_one n);
        down = λ z k n. h.1.1 z k Memᴰ.not-nil;
      }

  one_meets : left₁ ⊆ left → (q : ℕ) → LeftsMeet p q left left₁ → Lefts left (p ∷ []) left₁ []
  one_meets within q t =
      (shared_two (record { whole = left; added = p ∷ [] }) (record { whole = left₁; added = [] })).1 (
        (λ z k. subst (λ (y : ℕ). y ∈ left) (sym (Memᴰ.eq_of_singleton k)) t.principal, λ z k. absurd (Memᴰ.not-nil k)),
        (λ z k n. t.up z k (λ e. n (Memᴰ.head e)), λ z k n. within z k),
      )

  -- the sides of the test, as they run
  module _ {n : ℕ} (e : n ≡ p) (h : p < 65536) where
    pub one_tested : {m q : ℕ} → m ≡ q → q < 65536
        → Shared (number_side left (one_number n) ∷ number_side left₁ (one_number m) ∷ []) ↔ LeftsMeet p q left left₁
    one_tested {m} {q} f k = (
      λ s. (meet_iff q).0 (subst (Lefts left (p ∷ []) left₁) (one_number_lem f k)
          (subst (λ (a : List ℕ). Lefts left a left₁ (numbers_of (one_number m))) (one_number_lem e h) s)),
      λ t. subst (λ (a : List ℕ). Lefts left a left₁ (numbers_of (one_number m))) (sym (one_number_lem e h))
          (subst (Lefts left (p ∷ []) left₁) (sym (one_number_lem f k)) ((meet_iff q).1 t)),
    )

    pub none_tested : Shared (number_side left (one_number n) ∷ number_side left₁ no_numbers ∷ []) → (q : ℕ) → q ∈ left₁ → LeftsMeet p q left left₁
    none_tested s = all_meet (subst (λ (a : List ℕ). Lefts left a left₁ []) (one_number_lem e h) s)

    pub none_needed : left₁ ⊆ left → (q : ℕ) → LeftsMeet p q left left₁ → Shared (number_side left (one_number n) ∷ number_side left₁ no_numbers ∷ [])
    none_needed within q t = subst (λ (a : List ℕ). Lefts left a left₁ []) (sym (one_number_lem e h)) (one_meets within q t)

    -- and then A is there, with the rest
    pub none_leaves : Shared (number_side left (one_number n) ∷ number_side left₁ no_numbers ∷ []) → (p ∈ left) × ((z : ℕ) → z ∈ left → (z ≡ p → ⊥) → z ∈ left₁)
    none_leaves s =
        let t = subst (λ (a : List ℕ). Lefts left a left₁ []) (one_number_lem e h) s in
        let k = (shared_two (record { whole = left; added = p ∷ [] }) (record { whole = left₁; added = [] })).0 t in
        (k.0.0 p (Memᴰ.head refl), λ z m u. k.1.0 z m (not_one u))

-- a number of the premise's side that the row's lacks is the only one
pub only_one : (p q x : ℕ) (left left₁ : List ℕ) → x ∈ left₁ → (x ∈ left → ⊥) → LeftsMeet p q left left₁ → q ≡ x
only_one p q x left left₁ m n t = by (ℕ_discrete x q)
  where
    by : Dec (x ≡ q) → q ≡ x
    by (yes e) = sym e
    by (no u) = absurd (n (t.down x m u))

-- ---- the rule on the formulas of a good body

module _ {b : Body} {formulas notes : List ℕ} {p : ℕ} {left right left₁ right₁ : List ℕ} (o : OfBody b formulas notes p left right left₁ right₁) where
  abbrev F : Formula
  F = decoded_at b.nodes p

  abbrev premise : Sequent
  premise = decoded b.nodes left₁ ⇒ decoded b.nodes right₁

  abbrev row : Sequent
  row = decoded b.nodes left ⇒ decoded b.nodes right

  held : Held b
  held = good_held o.held.good

  -- number q leaves the sides right, as its formula does
  abbrev Right : ℕ → Type 0
  Right q = LeftsMeet p q left left₁ × (right ≡ right₁)

  known : (q : ℕ) → q ∈ left₁ → q < length b.nodes
  known q m = known_earlier b left₁ o.premise_left.known q m

  on_left : (i : ℕ) → i < length b.nodes → decoded_at b.nodes i ∈ decoded b.nodes left → i ∈ left
  on_left i l = (number_on b held left o.row_left.known i l).1

  on_premise : (i : ℕ) → i < length b.nodes → decoded_at b.nodes i ∈ decoded b.nodes left₁ → i ∈ left₁
  on_premise i l = (number_on b held left₁ o.premise_left.known i l).1

  right_iff : (q : ℕ) → q ∈ left₁ → Right q ↔ Exchanged F (decoded_at b.nodes q) (premise ∷ []) row
  right_iff q m = (λ t. exchanged_iff.1 (to t), λ i. from (exchanged_iff.0 i))
    where
      moved : (a c : List ℕ) (x : ℕ) → ((z : ℕ) → z ∈ a → (z ≡ x → ⊥) → z ∈ c)
          → (K : Formula) → K ∈ decoded b.nodes a → (K ≡ decoded_at b.nodes x → ⊥) → K ∈ decoded b.nodes c
      moved a c x h K k n =
          let i = in_decoded b a K k in
          subst (λ (G : Formula). G ∈ decoded b.nodes c) (sym i.2)
          (decoded_in b c i.0 (h i.0 i.1 (λ e. n (i.2 ∙ ap (decoded_at b.nodes) e))))

      to : Right q → ExchangedTest F (decoded_at b.nodes q) premise row
      to (t, e) = record {
        kinds = (refl, refl);
        right = (
          λ G k. subst (λ (xs : List ℕ). G ∈ decoded b.nodes xs) (sym e) k,
          λ G k. subst (λ (xs : List ℕ). G ∈ decoded b.nodes xs) e k,
        );
        principal = decoded_in b left p t.principal;
        other = decoded_in b left₁ q t.other;
        up = moved left left₁ p t.up;
        down = moved left₁ left q t.down;
      }

      from : ExchangedTest F (decoded_at b.nodes q) premise row → Right q
      from t =
          let rights = part_decoded b held right right₁ o.row_right.known o.premise_right.known in
          let back = part_decoded b held right₁ right o.premise_right.known o.row_right.known in (
            record {
              principal = on_left p o.principal t.principal;
              other = m;
              up = λ z k n. let l = known_earlier b left o.row_left.known z k in
                  on_premise z l (t.up (decoded_at b.nodes z) (decoded_in b left z k) (λ e. n (equal_numbers b held z p l o.principal e)));
              down = λ z k n. on_left z (known z k)
                  (t.down (decoded_at b.nodes z) (decoded_in b left₁ z k) (λ e. n (equal_numbers b held z q (known z k) (known q m) e)));
            },
            rising_unique right right₁ (rising_of right o.row_right.rising) (rising_of right₁ o.premise_right.rising) (rights.1 t.right.1)
                (back.1 t.right.0),
          )

  -- no number leaves the sides right
  pub none_right : ((q : ℕ) → q ∈ left₁ → Right q → ⊥) → (SwapInstance F (premise ∷ []) row → ⊥) × (TooWide F (premise ∷ []) row → ⊥)
  none_right n = (
    λ i. let g = (swap_iff F premise row).0 i in no_formula g.0 g.1 g.2.0,
    λ w.
        let g = ((too_wide_iff F premise row).0 w).1 in no_formula g.0 g.1 g.2.0,
  )
    where
      no_formula : (G : Formula) → G ∈ decoded b.nodes left₁ → Exchanged F G (premise ∷ []) row → ⊥
      no_formula G m x =
          let q = in_decoded b left₁ G m in
          n q.0 q.1 ((right_iff q.0 q.1).1 (subst (λ (H : Formula). Exchanged F H (premise ∷ []) row) q.2 x))

  -- these do, and no others
  module _ (candidates : List ℕ) (within : candidates ⊆ left₁) (short : length candidates ≤ most_on_side) (rights : (q : ℕ) → q ∈ candidates → Right q)
      (all : (q : ℕ) → q ∈ left₁ → Right q → q ∈ candidates) {number : ℕ} (n : CandidatesNumbered formulas notes p candidates number) where
    candidates_held : HeldCandidates b formulas p candidates
    candidates_held = record { formulas_held = o.held; own_known = o.principal; side_known = λ x m. known x (within x m) }

    -- a formula that leaves the sides right is that of a candidate
    of_candidate : (G : Formula) → G ∈ decoded b.nodes left₁ → Exchanged F G (premise ∷ []) row → (q : ℕ) × (q ∈ candidates) × (G ≡ decoded_at b.nodes q)
    of_candidate G m x =
        let q = in_decoded b left₁ G m in
        (q.0, all q.0 q.1 ((right_iff q.0 q.1).1 (subst (λ (H : Formula). Exchanged F H (premise ∷ []) row) q.2 x)), q.2)

    fits_iff : OneFits b p candidates ↔ SwapInstance F (premise ∷ []) row
    fits_iff = (
      λ (x, m, fit). (swap_iff F premise row).1
          (decoded_at b.nodes x, decoded_in b left₁ x (within x m), ((right_iff x (within x m)).0 (rights x m), fit)),
      λ i.
          let g = (swap_iff F premise row).0 i in
          let q = of_candidate g.0 g.1 g.2.0 in
          (q.0, q.1, subst (λ (H : Formula). Narrow F H × Equal F H) q.2 g.2.1),
    )

    wide_iff : ((OneFits b p candidates → ⊥) × OneWide b p candidates) ↔ TooWide F (premise ∷ []) row
    wide_iff = (
      λ (u, (x, m, w)). (too_wide_iff F premise row).1 (
        λ i. u (fits_iff.1 i),
        (decoded_at b.nodes x, decoded_in b left₁ x (within x m), ((right_iff x (within x m)).0 (rights x m), w)),
      ),
      λ t.
          let k = (too_wide_iff F premise row).0 t in
          let g = k.1 in
          let q = of_candidate g.0 g.1 g.2.0 in
          (λ fit. k.0 (fits_iff.0 fit), (q.0, q.1, subst (λ (H : Formula). Narrow F H → ⊥) q.2 g.2.1)),
    )

    pub passes_iff : (number ≡ 0) ↔ SwapInstance F (premise ∷ []) row
    passes_iff =
        let f = n.fits b candidates_held o.atoms short in
        (λ e. fits_iff.0 (f.0 e), λ i. f.1 (fits_iff.1 i))

    pub eighteen_iff : (number ≡ 18) ↔ TooWide F (premise ∷ []) row
    eighteen_iff =
        let f = n.wide b candidates_held o.atoms short in
        (λ e. wide_iff.0 (f.0 e), λ t. f.1 (wide_iff.1 t))

-- ---- the numbers

module _ {formulas notes : List ℕ} {p : ℕ} {left right left₁ right₁ : List ℕ} where
  -- 11, where no number leaves the sides right
  pub eleven_given : ((b : Body) → OfBody b formulas notes p left right left₁ right₁ → (q : ℕ) → q ∈ left₁ → LeftsMeet p q left left₁ → right ≡ right₁ → ⊥)
      → SwapNumbered formulas notes p left right left₁ right₁ 11
  eleven_given n = record {
    passes = λ b o. (λ (e : ◌≡◌ {A = ℕ} 11 0). absurd (omega arith), λ i. absurd ((none_right o (λ q m t. n b o q m t.0 t.1)).0 i));
    wide = λ b o. (λ (e : ◌≡◌ {A = ℕ} 11 18). absurd (omega arith), λ w. absurd ((none_right o (λ q m t. n b o q m t.0 t.1)).1 w));
    one_of = Memᴰ.tail (Memᴰ.tail (Memᴰ.head refl));
    sides = λ u. absurd (u refl);
  }

  -- that of the candidates, where these and no others do
  pub candidates_given : (candidates : List ℕ)
      → ((b : Body) → OfBody b formulas notes p left right left₁ right₁
      → (candidates ⊆ left₁) × (length candidates ≤ most_on_side) × ((q : ℕ) → q ∈ candidates → LeftsMeet p q left left₁)
      × ((q : ℕ) → q ∈ left₁ → LeftsMeet p q left left₁ → q ∈ candidates))
      → right ≡ right₁ → SidesMeet p left right left₁ right₁ → {number : ℕ} → CandidatesNumbered formulas notes p candidates number
      → SwapNumbered formulas notes p left right left₁ right₁ number
  candidates_given candidates facts same meet n = record {
    passes = λ b o. let f = facts b o in passes_iff o candidates f.0 f.1 (λ q m. (f.2 q m, same)) (λ q m t. f.3 q m t.0) n;
    wide = λ b o. let f = facts b o in eighteen_iff o candidates f.0 f.1 (λ q m. (f.2 q m, same)) (λ q m t. f.3 q m t.0) n;
    one_of = n.one_of;
    sides = λ u. meet;
  }
