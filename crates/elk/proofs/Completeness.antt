-- Completeness: if L entails R then L => R has a derivation by 01's rules, whatever the finite sets L and R. First with
-- each atom fixed on the left by ~~p or ~p, where `unst` serves the one case that is not decided by T alone; then `rcut`
-- takes these formulas away, an atom at a time. `def` and `wr` are not needed.
use Prim.Native.Nat.{ℕ}
use native.Mathlib.Decide.{ℕ_discrete}
use mathlib.Core.Path.{◌≡◌, refl, sym, ap}
use mathlib.Core.Bool.{Bool, true, false}
use mathlib.Core.List.Memᴰ
use mathlib.Core.List.{List, [], ◌∷◌, ◌++◌, map}
use mathlib.Core.Logic.{◌⊎◌, inl, inr, ⊎_elim, dite}
use Rattle.equilibrium.specs.Formula.{Formula, falsum, atom, neg, conj, disj, imp, atoms_of, atoms_in}
use Rattle.equilibrium.specs.Meaning.{◌∈◌, ◌⊆◌, ◌≈◌, Holds, AllHold, NoneHolds, SomeHolds, Entails}
use Rattle.equilibrium.proofs.Sets.{≈-refl, dec_in}
use Rattle.equilibrium.proofs.Satisfaction.{holds?, all_hold?, some_holds?, occurs}
use Rattle.equilibrium.proofs.Models.{Smaller, smaller?, equilibrium_iff}
use Rattle.elk.specs.Sequent.{◌⇒◌}
use Rattle.elk.specs.Rules.{same, andl, andr, bot, orr, orl, notl, impr, impl, notr, is_any}
use Rattle.elk.specs.Rules.{is_falsity, is_negation, is_conjunction, is_disjunction, is_implication}
use Rattle.elk.specs.Instance.{Choice, domain, chosen, literal, fixed, excluded_middle, joined, Rising}
use Rattle.elk.proofs.Sides.{cons_again, cons_swap, cons_middle, append_again, one_without}
use Rattle.elk.proofs.RisingAtoms.{in_order}
use Rattle.elk.proofs.Choices.{in_domain, literal_holds, fixed_hold, fixed_atoms, joined_each}
use Rattle.elk.proofs.Derivable.{Derivable, derivable_same, by_rule, by_cut, by_unstable}
use Rattle.elk.proofs.Refutation.{refutation_complete}

sides : {L M R S : List Formula} → L ≈ M → R ≈ S → Derivable (L ⇒ R) → Derivable (M ⇒ S)
sides l r d = derivable_same (record { kind = refl; left = l; right = r }) d

identity : {A : Formula} {L R : List Formula} → Derivable (A ∷ L ⇒ A ∷ R)
identity = by_rule same is_any _ _ tt

-- A, ~A =>
contradiction_left : {A : Formula} {L R : List Formula} → neg A ∈ L → Derivable (A ∷ L ⇒ R)
contradiction_left m = sides (cons_again (Memᴰ.tail m)) ≈-refl (by_rule notl is_negation _ _ (identity, tt))

-- ~~A => A
double_negation_left : {A : Formula} {L R : List Formula} → neg (neg A) ∈ L → Derivable (L ⇒ A ∷ R)
double_negation_left m = sides (cons_again m) ≈-refl (by_rule notl is_negation _ _ (by_rule notr is_negation _ _ (identity, tt), tt))

-- Where the left side settles the atoms of A by T, T decides A.

module _ (T : List ℕ) where
  -- for each of these atoms the left side holds ~~p, and p is in T, or it holds ~p, and p is not
  abbrev Settles : List Formula → List ℕ → Type 0
  Settles L ps = (p : ℕ) → p ∈ ps → ((p ∈ T) × (neg (neg (atom p)) ∈ L)) ⊎ ((p ∈ T → ⊥) × (neg (atom p) ∈ L))

  more_left : {L : List Formula} {ps : List ℕ} {A : Formula} → Settles L ps → Settles (A ∷ L) ps
  more_left s p m = ⊎_elim (λ k. inl (k.0, Memᴰ.tail k.1)) (λ k. inr (k.0, Memᴰ.tail k.1)) (s p m)

  first_part : (A B : Formula) {L : List Formula} → Settles L (atoms_of A ++ atoms_of B) → Settles L (atoms_of A)
  first_part A B s p m = s p (Memᴰ.append_left (atoms_of B) m)

  second_part : (A B : Formula) {L : List Formula} → Settles L (atoms_of A ++ atoms_of B) → Settles L (atoms_of B)
  second_part A B s p m = s p (Memᴰ.append_right (atoms_of A) m)

  mutual
    -- what T satisfies can be derived on the right
    true_right : (A : Formula) {L R : List Formula} → Settles L (atoms_of A) → Holds T T A → Derivable (L ⇒ A ∷ R)
    true_right falsum s h = absurd h
    true_right (atom p) s h = ⊎_elim (λ k. double_negation_left k.1) (λ k. absurd (k.0 h)) (s p (Memᴰ.head refl))
    true_right (neg A) s n = by_rule notr is_negation _ _ (false_left A s n, tt)
    true_right (conj A B) s h = by_rule andr is_conjunction _ _ (true_right A (first_part A B s) h.0, (true_right B (second_part A B s) h.1, tt))
    true_right (disj A B) s (inl a) = by_rule orr is_disjunction _ _ (true_right A (first_part A B s) a, tt)
    true_right (disj A B) s (inr b) = by_rule orr is_disjunction _ _ (sides ≈-refl cons_swap (true_right B (second_part A B s) b), tt)
    true_right (imp A B) s h =
        by_rule impr is_implication _ _
        (dite (holds? T T A) (λ a. true_right B (more_left (second_part A B s)) (h.0 a)) (λ n. false_left A (first_part A B s) n), tt)

    -- with what T fails on the left anything can be derived
    false_left : (A : Formula) {L R : List Formula} → Settles L (atoms_of A) → (Holds T T A → ⊥) → Derivable (A ∷ L ⇒ R)
    false_left falsum s n = by_rule bot is_falsity _ _ (identity, tt)
    false_left (atom p) s n = ⊎_elim (λ k. absurd (n k.0)) (λ k. contradiction_left k.1) (s p (Memᴰ.head refl))
    false_left (neg A) s n = by_rule notl is_negation _ _ (dite (holds? T T A) (λ a. true_right A s a) (λ k. absurd (n k)), tt)
    false_left (conj A B) s n =
        by_rule andl is_conjunction _ _ (
          dite (holds? T T A) (λ a. sides cons_swap ≈-refl (false_left B (more_left (second_part A B s)) (λ b. n (a, b))))
              (λ k. false_left A (more_left (first_part A B s)) k),
          tt,
        )
    false_left (disj A B) s n =
        by_rule orl is_disjunction _ _ (false_left A (first_part A B s) (λ a. n (inl a)), (false_left B (second_part A B s) (λ b. n (inr b)), tt))
    false_left (imp A B) s n =
        dite (holds? T T A) (λ a. by_rule impl is_implication _ _
        (false_left B (second_part A B s) (λ b. n (λ x. b, λ x. b)), (true_right A (first_part A B s) a, tt)))
        (λ k. absurd (n (λ a. absurd (k a), λ a. absurd (k a))))

-- Where a choice c fixes each atom on the left, T is the set that it chooses.

choice_settles : (c : Choice) → Rising (domain c) → {L : List Formula} → map fixed c ⊆ L → Settles (chosen c) L (domain c)
choice_settles c rising {L} s p m = by_entry (in_domain c p m)
  where
    by_entry : (b : Bool) × ((p, b) ∈ c) → ((p ∈ chosen c) × (neg (neg (atom p)) ∈ L)) ⊎ ((p ∈ chosen c → ⊥) × (neg (atom p) ∈ L))
    by_entry (true, e) = inl (literal_holds c rising (p, true) e, s _ (Memᴰ.map fixed e))
    by_entry (false, e) = inr (literal_holds c rising (p, false) e, s _ (Memᴰ.map fixed e))

literal_right : {L R : List Formula} (e : ℕ × Bool) → fixed e ∈ L → Derivable (L ⇒ literal e ∷ R)
literal_right (p, true) m = double_negation_left m
literal_right (p, false) m = sides (cons_again m) ≈-refl identity

joined_right : {L : List Formula} (F : Formula) (Fs : List Formula)
    → ((G : Formula) → G ∈ F ∷ Fs → Derivable (L ⇒ G ∷ [])) → Derivable (L ⇒ joined (F ∷ Fs) ∷ [])
joined_right F [] d = d F (Memᴰ.head refl)
joined_right F (G ∷ Fs) d = by_rule andr is_conjunction _ _ (d F (Memᴰ.head refl), (joined_right G Fs (λ H m. d H (Memᴰ.tail m)), tt))

-- the first premise of `unst`
literals_right : (c : Choice) {p : ℕ} → p ∈ chosen c → {L : List Formula} → map fixed c ⊆ L → Derivable (L ⇒ joined (map literal c) ∷ [])
literals_right [] m s = absurd (Memᴰ.not-nil m)
literals_right (e ∷ c) m s =
    joined_right (literal e) (map literal c)
    (λ G k. let d = Memᴰ.of_map literal (e ∷ c) k in rw (sym d.2) (literal_right d.0 (s _ (Memᴰ.map fixed d.1))))

-- with T fixed on the left: T satisfies one of R, or fails one of L, or is not in equilibrium
at_choice : {L R : List Formula} → Entails L R → (c : Choice) → Rising (domain c) → atoms_in L ++ atoms_in R ⊆ domain c → Derivable (map fixed c ++ L ⇒ R)
at_choice {L} {R} entailed c rising within = cases (some_holds? T R) (all_hold? T T L) (smaller? L T)
  where
    T : List ℕ
    T = chosen c

    left : List Formula
    left = map fixed c ++ L

    fixed_left : map fixed c ⊆ left
    fixed_left A m = Memᴰ.append_left L m

    settled : {ps : List ℕ} → ps ⊆ atoms_in L ++ atoms_in R → Settles T left ps
    settled s p m = choice_settles c rising fixed_left p (within p (s p m))

    satisfied : SomeHolds T R → Derivable (left ⇒ R)
    satisfied (A, m, h) = sides ≈-refl (cons_again m) (true_right T A (settled (λ p k. Memᴰ.append_right (atoms_in L) (occurs m p k))) h)

    failed : (A : Formula) × (A ∈ L) × (Holds T T A → ⊥) → Derivable (left ⇒ R)
    failed (A, m, n) =
        sides (cons_again (Memᴰ.append_right (map fixed c) m)) ≈-refl (false_left T A (settled (λ p k. Memᴰ.append_left (atoms_in R) (occurs m p k))) n)

    unstable : Smaller L T → Derivable (left ⇒ R)
    unstable (H, inside, h) =
        by_unstable c rising atoms lost.1 (literals_right c lost.1 fixed_left)
        (refutation_complete (record { H = H; T = T; inside = inside; left = with_fixed (with_fixed h.1); right = none }))
      where
        -- an atom of T outside H
        lost : (p : ℕ) × (p ∈ T) × (p ∈ H → ⊥)
        lost = one_without (λ p. dec_in ℕ_discrete p H) T h.0

        atoms : domain c ≈ atoms_in left
        atoms = rw fixed_atoms (
          λ p m. Memᴰ.append_left (atoms_in L) m,
          λ p m. ⊎_elim (λ k. k) (λ k. within p (Memᴰ.append_left (atoms_in R) k)) (Memᴰ.append_cases (domain c) m),
        )

        with_fixed : {M : List Formula} → AllHold H T M → AllHold H T (map fixed c ++ M)
        with_fixed a A m = ⊎_elim (fixed_hold c rising H A) (a A) (Memᴰ.append_cases (map fixed c) m)

        none : NoneHolds H T (joined (map excluded_middle T) ∷ [])
        none A m k =
            ⊎_elim lost.2 (λ n. n lost.1)
            (joined_each H T (map excluded_middle T) (rw (sym (Memᴰ.eq_of_singleton m)) k)
            (excluded_middle lost.0) (Memᴰ.map excluded_middle lost.1))

    cases : Dec (SomeHolds T R) → Dec (AllHold T T L) → Dec (Smaller L T) → Derivable (left ⇒ R)
    cases (yes s) a k = satisfied s
    cases (no n) (no a) k = failed (one_without (holds? T T) L a)
    cases (no n) (yes a) (yes k) = unstable k
    cases (no n) (yes a) (no k) = absurd (n (entailed T (equilibrium_iff.1 (a, k))))

-- Every choice put together, an atom at a time: L,~p => R gives L => R,~~p, and a cut with L,~~p => R gives L => R.
all_choices : (atoms : List ℕ) {L R : List Formula} → ((c : Choice) → domain c ≡ atoms → Derivable (map fixed c ++ L ⇒ R)) → Derivable (L ⇒ R)
all_choices [] d = d [] refl
all_choices (p ∷ atoms) {L} {R} d =
    sides ≈-refl (append_again R) (by_cut (by_rule notr is_negation _ _ (all_choices atoms (with_entry false), tt)) (all_choices atoms (with_entry true)))
  where
    with_entry : (b : Bool) (c : Choice) → domain c ≡ atoms → Derivable (map fixed c ++ (fixed (p, b) ∷ L) ⇒ R)
    with_entry b c e = sides (cons_middle (map fixed c) L) ≈-refl (d ((p, b) ∷ c) (ap (λ (ps : List ℕ). p ∷ ps) e))

pub complete : (L R : List Formula) → Entails L R → Derivable (L ⇒ R)
complete L R entailed = let o = in_order (atoms_in L ++ atoms_in R) in
    all_choices o.0 (λ c e. at_choice entailed c (rw e o.1) (rw e o.2.1))
