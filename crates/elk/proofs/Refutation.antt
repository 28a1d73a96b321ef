-- Refutation derives what some pair refutes. Where (H,T) refutes a sequent, each of its formulas is taken apart
-- by the rule that (H,T) allows, down to literals, and `xini` derives those.
use Prim.Native.Nat.{ℕ}
use mathlib.Core.Path.{refl}
use mathlib.Core.List.Memᴰ
use mathlib.Core.List.{List, [], ◌∷◌, ◌++◌, map, append-nil, append_assoc}
use mathlib.Core.Logic.{inl, inr, ⊎_elim, dite}
use Rattle.equilibrium.specs.Formula.{Formula, falsum, atom, neg, conj, disj, imp}
use Rattle.equilibrium.specs.Meaning.{◌∈◌, ◌⊆◌, Holds, AllHold, NoneHolds}
use Rattle.equilibrium.proofs.Sets.{≈-refl, ≈-sym}
use Rattle.equilibrium.proofs.Satisfaction.{persists, holds?, all_head, all_tail, none_head, none_tail}
use Rattle.elk.specs.Sequent.{Sequent, ◌⨾◌}
use Rattle.elk.specs.Rules.{Rule, Fits, Added, Entry, schema, default, cut, unstable, initial, exchange, entry, xnnl, xnnr, xandl, xandr1}
use Rattle.elk.specs.Rules.{xandr2, xorr, xorl1, xorl2, ximpl1, ximpl2, ximpl3, ximpr1, ximpr2, xnimpl, xnimpr1, xnimpr2}
use Rattle.elk.specs.Rules.{xnandl1, xnandl2, xnandr, xnorl, xnorr1, xnorr2, is_conjunction, is_disjunction, is_implication}
use Rattle.elk.specs.Rules.{is_double_negation, is_negated_conjunction, is_negated_disjunction, is_negated_implication}
use Rattle.elk.specs.Instance.{meant, filled, LeftLiteral, left_atom, left_negated, left_verum, RightLiteral, right_atom, right_negated, right_falsum}
use Rattle.elk.proofs.Sides.{cons_middle}
use Rattle.elk.proofs.Steps.{All, form_of, Keeps}
use Rattle.elk.proofs.Derivable.{Derivable, derivable_same, by_rule, by_initial}
use Rattle.elk.proofs.Validity.{Refutable}

module _ (H T : List ℕ) where
  -- literals that may be added on the left, and on the right
  abbrev LiteralsLeft : List Formula → Type 0
  LiteralsLeft P = (A : Formula) → A ∈ P → LeftLiteral A × Holds H T A

  abbrev LiteralsRight : List Formula → Type 0
  LiteralsRight Q = (A : Formula) → A ∈ Q → RightLiteral A × (Holds H T A → ⊥)

  -- it can be derived with any such literals added
  abbrev Reachable : Sequent → Type 0
  Reachable s = (P Q : List Formula) → LiteralsLeft P → LiteralsRight Q → Derivable (record { kind = s.kind; left = s.left ++ P; right = s.right ++ Q })

module _ {H T : List ℕ} (inside : H ⊆ T) where
  -- a rule of the table, with the literals carried along
  refute : (r : Rule) {F G K : Formula} → Fits (form_of (entry r)) F G K → (L R : List Formula) → Keeps (Reachable H T) (entry r) F G K L R
  refute r {F} {G} {K} f L R = step (entry r) (by_rule r f)
    where
      step : (e : Entry) → ((L R : List Formula) → Keeps Derivable e F G K L R) → Keeps (Reachable H T) e F G K L R
      step (schema t) rule = λ k P Q p q. simp append_assoc (rule (L ++ P) (R ++ Q) (premises P Q p q t.premises k))
        where
          premises : (P Q : List Formula) → LiteralsLeft H T P → LiteralsRight H T Q → (ps : List Added)
              → All (Reachable H T) (map (filled (meant F G K) L R t.kind) ps) → All Derivable (map (filled (meant F G K) (L ++ P) (R ++ Q) t.kind) ps)
          premises P Q p q [] k = tt
          premises P Q p q (a ∷ ps) k = (simp append_assoc at (k.0 P Q p q), premises P Q p q ps k.1)
      step default rule = tt
      step cut rule = tt
      step unstable rule = tt
      step initial rule = tt
      step exchange rule = tt

  literal_left : {A : Formula} (L R : List Formula) → LeftLiteral A → Holds H T A → Reachable H T (L ⨾ R) → Reachable H T (A ∷ L ⨾ R)
  literal_left {A} L R a h k P Q p q = derivable_same (record { kind = refl; left = ≈-sym (cons_middle L P); right = ≈-refl }) (k (A ∷ P) Q more q)
    where
      more : LiteralsLeft H T (A ∷ P)
      more B (Memᴰ.head e) = rw e (a, h)
      more B (Memᴰ.tail m) = p B m

  literal_right : {A : Formula} (L R : List Formula) → RightLiteral A → (Holds H T A → ⊥) → Reachable H T (L ⨾ R) → Reachable H T (L ⨾ A ∷ R)
  literal_right {A} L R a n k P Q p q = derivable_same (record { kind = refl; left = ≈-refl; right = ≈-sym (cons_middle R Q) }) (k P (A ∷ Q) p more)
    where
      more : LiteralsRight H T (A ∷ Q)
      more B (Memᴰ.head e) = rw e (a, n)
      more B (Memᴰ.tail m) = q B m

  mutual
    -- a formula that holds in (H,T) goes left, one that fails goes right
    left : (A : Formula) (L R : List Formula) → Holds H T A → Reachable H T (L ⨾ R) → Reachable H T (A ∷ L ⨾ R)
    left falsum L R h k = absurd h
    left (atom p) L R h k = literal_left L R left_atom h k
    left (neg A) L R h k = left_negation A L R h k
    left (conj A B) L R h k = refute xandl is_conjunction L R (left A (B ∷ L) R h.0 (left B L R h.1 k), tt)
    left (disj A B) L R (inl a) k = refute xorl1 is_disjunction L R (left A L R a k, tt)
    left (disj A B) L R (inr b) k = refute xorl2 is_disjunction L R (left B L R b k, tt)
    left (imp A B) L R h k =
        dite (holds? H T B) (λ b. refute ximpl2 is_implication L R (left B L R b k, tt))
        (λ n. dite (holds? T T A) (λ a. refute ximpl1 is_implication L R
        (right A L (neg B ∷ R) (λ x. n (h.1 x)) (right_negation B L R (λ m. m (h.0 a)) k), tt))
        (λ m. refute ximpl3 is_implication L R (left_negation A L R m k, tt)))

    right : (A : Formula) (L R : List Formula) → (Holds H T A → ⊥) → Reachable H T (L ⨾ R) → Reachable H T (L ⨾ A ∷ R)
    right falsum L R n k = literal_right L R right_falsum n k
    right (atom p) L R n k = literal_right L R right_atom n k
    right (neg A) L R n k = right_negation A L R n k
    right (conj A B) L R n k =
        dite (holds? H T A) (λ a. refute xandr2 is_conjunction L R (right B L R (λ b. n (a, b)) k, tt))
        (λ m. refute xandr1 is_conjunction L R (right A L R m k, tt))
    right (disj A B) L R n k = refute xorr is_disjunction L R (right A L (B ∷ R) (λ a. n (inl a)) (right B L R (λ b. n (inr b)) k), tt)
    right (imp A B) L R n k =
        dite (holds? H T A) (λ a. refute ximpr1 is_implication L R (
          left A L (B ∷ R) a (right B L R (λ b. n ((λ x. persists inside B b), λ x. b)) k),
          tt,
        )) (λ m. refute ximpr2 is_implication L R
        (left_negation B L (neg A ∷ R) (λ b. n ((λ x. b), λ a. absurd (m a))) (right_negation A L R (λ j. n ((λ a. absurd (j a)), λ a. absurd (m a))) k), tt))

    -- the same of ~A
    left_negation : (A : Formula) (L R : List Formula) → (Holds T T A → ⊥) → Reachable H T (L ⨾ R) → Reachable H T (neg A ∷ L ⨾ R)
    left_negation falsum L R n k = literal_left L R left_verum n k
    left_negation (atom p) L R n k = literal_left L R left_negated n k
    left_negation (neg A) L R n k = refute xnnl is_double_negation L R (right_negation A L R n k, tt)
    left_negation (conj A B) L R n k =
        dite (holds? T T A) (λ a. refute xnandl2 is_negated_conjunction L R (left_negation B L R (λ b. n (a, b)) k, tt))
        (λ m. refute xnandl1 is_negated_conjunction L R (left_negation A L R m k, tt))
    left_negation (disj A B) L R n k =
        refute xnorl is_negated_disjunction L R (left_negation A (neg B ∷ L) R (λ a. n (inl a)) (left_negation B L R (λ b. n (inr b)) k), tt)
    left_negation (imp A B) L R n k =
        refute xnimpl is_negated_implication L R
        (left_negation B L (neg A ∷ R) (λ b. n ((λ x. b), λ x. b)) (right_negation A L R (λ m. n ((λ a. absurd (m a)), λ a. absurd (m a))) k), tt)

    right_negation : (A : Formula) (L R : List Formula) → ((Holds T T A → ⊥) → ⊥) → Reachable H T (L ⨾ R) → Reachable H T (L ⨾ neg A ∷ R)
    right_negation falsum L R n k = absurd (n (λ x. x))
    right_negation (atom p) L R n k = literal_right L R right_negated n k
    right_negation (neg A) L R n k = refute xnnr is_double_negation L R (left_negation A L R (λ a. n (λ f. f a)) k, tt)
    right_negation (conj A B) L R n k =
        refute xnandr is_negated_conjunction L R (right_negation A L (neg B ∷ R) (λ m. n (λ h. m h.0)) (right_negation B L R (λ m. n (λ h. m h.1)) k), tt)
    right_negation (disj A B) L R n k =
        dite (holds? T T A) (λ a. refute xnorr1 is_negated_disjunction L R (right_negation A L R (λ m. m a) k, tt))
        (λ m. refute xnorr2 is_negated_disjunction L R (right_negation B L R (λ j. n (⊎_elim m j)) k, tt))
    right_negation (imp A B) L R n k =
        dite (holds? T T A) (λ a. refute xnimpr2 is_negated_implication L R (right_negation B L R (λ m. n (λ h. m (h.0 a))) k, tt))
        (λ m. refute xnimpr1 is_negated_implication L R (left_negation A L R m k, tt))

  lefts : (L R : List Formula) → AllHold H T L → Reachable H T ([] ⨾ R) → Reachable H T (L ⨾ R)
  lefts [] R h k = k
  lefts (A ∷ L) R h k = left A L R (all_head h) (lefts L R (all_tail h) k)

  rights : (R : List Formula) → NoneHolds H T R → Reachable H T ([] ⨾ R)
  rights [] n =
      λ P Q p q. by_initial (λ A m. (p A m).0) (λ A m. (q A m).0) (λ A m j. (q A j).1 (p A m).1) (λ x m j. (p (neg (atom x)) j).1 (inside x (p (atom x) m).1))
  rights (A ∷ R) n = right A [] R (none_head n) (rights R (none_tail n))

pub refutation_complete : {L R : List Formula} → Refutable L R → Derivable (L ⨾ R)
refutation_complete {L} {R} r =
    simp append-nil at (lefts r.inside L R r.left (rights r.inside R r.right) [] []
    (λ A m. absurd (Memᴰ.not-nil m)) (λ A m. absurd (Memᴰ.not-nil m)))
