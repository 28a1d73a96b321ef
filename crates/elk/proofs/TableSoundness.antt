-- Every rule of the table is sound. In ELK an equilibrium model of the conclusion's left side is carried to that of a
-- premise; in refutation the pair that refutes the premise refutes the conclusion.
use Prim.Native.Nat.{ℕ}
use mathlib.Core.List.{List, ◌∷◌}
use mathlib.Core.Logic.Dec
use mathlib.Core.Logic.{inl, inr, ⊎_elim, dite}
use Rattle.equilibrium.specs.Formula.{Formula, neg, conj, disj, imp}
use Rattle.equilibrium.specs.Meaning.{Holds, AllHold, NoneHolds, SomeHolds, Entails}
use Rattle.equilibrium.proofs.Satisfaction.{persists, holds?, all_cons, all_head, all_tail, none_cons, none_head, none_tail, some_head, some_tail, some_cases}
use Rattle.equilibrium.proofs.Models.{carry, keep}
use Rattle.elk.specs.Rules.{Rule, def, same, andl, andr, wr, bot, orr, orl, notl, impr, impl, notr, rcut, unst, xini, xnnl, xnnr, xandl}
use Rattle.elk.specs.Rules.{xandr1, xandr2, xorr, xorl1, xorl2, ximpl1, ximpl2, ximpl3, ximpr1, ximpr2, xnimpl, xnimpr1, xnimpr2, xnandl1}
use Rattle.elk.specs.Rules.{xnandl2, xnandr, xnorl, xnorr1, xnorr2, swap, Fits, is_any, is_falsity, is_negation, is_conjunction, is_disjunction}
use Rattle.elk.specs.Rules.{is_implication, is_double_negation, is_negated_conjunction, is_negated_disjunction, is_negated_implication, entry}
use Rattle.elk.proofs.Steps.{form_of, Keeps}
use Rattle.elk.proofs.Validity.{Refutable, Valid}

-- one of R, since it is not A
others : {T : List ℕ} {A : Formula} {R : List Formula} → (Holds T T A → ⊥) → SomeHolds T (A ∷ R) → SomeHolds T R
others n s = ⊎_elim (λ a. absurd (n a)) (λ r. r) (some_cases s)

-- B or one of R, since A gives B
replace : {T : List ℕ} {A B : Formula} {R : List Formula} → (Holds T T A → Holds T T B) → SomeHolds T (A ∷ R) → SomeHolds T (B ∷ R)
replace f s = ⊎_elim (λ a. some_head (f a)) some_tail (some_cases s)

module _ {L R : List Formula} {A B : Formula} where
  andl_sound : Entails (A ∷ B ∷ L) R → Entails (conj A B ∷ L) R
  andl_sound p T e = let a = all_head e.model in
      p T (carry (all_cons a.0 (all_cons a.1 (all_tail e.model))) (λ H s h. all_cons (all_head h, all_head (all_tail h)) (all_tail (all_tail h))) e)

  andr_sound : Entails L (A ∷ R) → Entails L (B ∷ R) → Entails L (conj A B ∷ R)
  andr_sound p q T e = ⊎_elim (λ a. replace (λ b. (a, b)) (q T e)) some_tail (some_cases (p T e))

  orr_sound : Entails L (A ∷ B ∷ R) → Entails L (disj A B ∷ R)
  orr_sound p T e = ⊎_elim (λ a. some_head (inl a)) (replace inr) (some_cases (p T e))

  orl_sound : Entails (A ∷ L) R → Entails (B ∷ L) (A ∷ R) → Entails (disj A B ∷ L) R
  orl_sound p q T e =
      dite (holds? T T A) with-A
      (λ n. ⊎_elim with-A (λ b. others n (q T (carry (all_cons b (all_tail e.model)) (λ H s h. all_cons (inr (all_head h)) (all_tail h)) e)))
      (all_head e.model))
    where
      with-A : Holds T T A → SomeHolds T R
      with-A a = p T (carry (all_cons a (all_tail e.model)) (λ H s h. all_cons (inl (all_head h)) (all_tail h)) e)

  impr_sound : Entails (A ∷ L) (B ∷ R) → Entails L (imp A B ∷ R)
  impr_sound p T e = dite (holds? T T A) (λ a. replace (λ b. ((λ x. b), λ x. b)) (p T (keep a e))) (λ n. some_head ((λ x. absurd (n x)), λ x. absurd (n x)))

  impl_sound : Entails (B ∷ L) (neg A ∷ R) → Entails L (A ∷ R) → Entails (imp A B ∷ L) R
  impl_sound p q T e = dite (holds? T T A) with-A without-A
    where
      with-A : Holds T T A → SomeHolds T R
      with-A a = let b = (all_head e.model).0 a in
          others (λ n. n a) (p T (carry (all_cons b (all_tail e.model)) (λ H s h. all_cons ((λ x. b), λ x. all_head h) (all_tail h)) e))

      without-A : (Holds T T A → ⊥) → SomeHolds T R
      without-A n = others n (q T (carry (all_tail e.model) (λ H s h. all_cons ((λ x. absurd (n x)), λ x. absurd (n (persists s A x))) h) e))

module _ {L R : List Formula} {A : Formula} where
  notl_sound : Entails L (A ∷ R) → Entails (neg A ∷ L) R
  notl_sound p T e = let n = all_head e.model in others n (p T (carry (all_tail e.model) (λ H s h. all_cons n h) e))

  notr_sound : Entails (A ∷ L) R → Entails L (neg A ∷ R)
  notr_sound p T e = dite (holds? T T A) (λ a. some_tail (p T (keep a e))) some_head

-- the pair that refutes one sequent refutes another
by_pair : {L R M S : List Formula} (r : Refutable M S) → AllHold r.H r.T L → NoneHolds r.H r.T R → Refutable L R
by_pair r l n = record { H = r.H; T = r.T; inside = r.inside; left = l; right = n }

pub table_sound : (r : Rule) {F G H : Formula} → Fits (form_of (entry r)) F G H → (L R : List Formula) → Keeps Valid (entry r) F G H L R
table_sound def f L R = tt
table_sound same is_any L R = λ u T e. some_head (all_head e.model)
table_sound andl is_conjunction L R = λ v. andl_sound v.0
table_sound andr is_conjunction L R = λ v. andr_sound v.0 v.1.0
table_sound wr is_any L R = λ v T e. some_tail (v.0 T e)
table_sound bot is_falsity L R = λ v T e. others (λ x. x) (v.0 T e)
table_sound orr is_disjunction L R = λ v. orr_sound v.0
table_sound orl is_disjunction L R = λ v. orl_sound v.0 v.1.0
table_sound notl is_negation L R = λ v. notl_sound v.0
table_sound impr is_implication L R = λ v. impr_sound v.0
table_sound impl is_implication L R = λ v. impl_sound v.0 v.1.0
table_sound notr is_negation L R = λ v. notr_sound v.0
table_sound rcut f L R = tt
table_sound unst f L R = tt
table_sound xini f L R = tt
table_sound xnnl is_double_negation L R = λ v. let r = v.0 in by_pair r (all_cons (none_head r.right) r.left) (none_tail r.right)
table_sound xnnr is_double_negation L R = λ v. let r = v.0 in by_pair r (all_tail r.left) (none_cons (λ n. n (all_head r.left)) r.right)
table_sound xandl is_conjunction L R = λ v. let r = v.0 in
    by_pair r (all_cons (all_head r.left, all_head (all_tail r.left)) (all_tail (all_tail r.left))) r.right
table_sound xandr1 is_conjunction L R = λ v. let r = v.0 in by_pair r r.left (none_cons (λ h. none_head r.right h.0) (none_tail r.right))
table_sound xandr2 is_conjunction L R = λ v. let r = v.0 in by_pair r r.left (none_cons (λ h. none_head r.right h.1) (none_tail r.right))
table_sound xorr is_disjunction L R = λ v. let r = v.0 in
    by_pair r r.left (none_cons (⊎_elim (none_head r.right) (none_head (none_tail r.right))) (none_tail (none_tail r.right)))
table_sound xorl1 is_disjunction L R = λ v. let r = v.0 in by_pair r (all_cons (inl (all_head r.left)) (all_tail r.left)) r.right
table_sound xorl2 is_disjunction L R = λ v. let r = v.0 in by_pair r (all_cons (inr (all_head r.left)) (all_tail r.left)) r.right
table_sound ximpl1 (is_implication {G = B}) L R = λ v. let r = v.0 in
    by_pair r (all_cons ((λ x. (Dec.not-not (holds? r.T r.T B)).0 (none_head (none_tail r.right))), λ x. absurd (none_head r.right x))
    r.left) (none_tail (none_tail r.right))
table_sound ximpl2 (is_implication {G = B}) L R = λ v. let r = v.0 in
    by_pair r (all_cons ((λ x. persists r.inside B (all_head r.left)), λ x. all_head r.left) (all_tail r.left)) r.right
table_sound ximpl3 (is_implication {F = A}) L R = λ v. let r = v.0 in
    by_pair r (all_cons ((λ x. absurd (all_head r.left x)), λ x. absurd (all_head r.left (persists r.inside A x))) (all_tail r.left)) r.right
table_sound ximpr1 is_implication L R = λ v. let r = v.0 in
    by_pair r (all_tail r.left) (none_cons (λ h. none_head r.right (h.1 (all_head r.left))) (none_tail r.right))
table_sound ximpr2 is_implication L R = λ v. let r = v.0 in
    by_pair r (all_tail r.left) (none_cons (λ h. none_head r.right (λ x. all_head r.left (h.0 x))) (none_tail r.right))
table_sound xnimpl is_negated_implication L R = λ v. let r = v.0 in
    by_pair r (all_cons (λ h. none_head r.right (λ x. all_head r.left (h.0 x))) (all_tail r.left)) (none_tail r.right)
table_sound xnimpr1 is_negated_implication L R = λ v. let r = v.0 in
    by_pair r (all_tail r.left) (none_cons (λ n. n ((λ x. absurd (all_head r.left x)), λ x. absurd (all_head r.left x))) r.right)
table_sound xnimpr2 is_negated_implication L R = λ v. let r = v.0 in
    by_pair r r.left (none_cons (λ n. none_head r.right (λ b. n ((λ x. b), λ x. b))) (none_tail r.right))
table_sound xnandl1 is_negated_conjunction L R = λ v. let r = v.0 in by_pair r (all_cons (λ h. all_head r.left h.0) (all_tail r.left)) r.right
table_sound xnandl2 is_negated_conjunction L R = λ v. let r = v.0 in by_pair r (all_cons (λ h. all_head r.left h.1) (all_tail r.left)) r.right
table_sound xnandr is_negated_conjunction L R = λ v. let r = v.0 in
    by_pair r r.left (none_cons (λ n. none_head r.right (λ a. none_head (none_tail r.right) (λ b. n (a, b)))) (none_tail (none_tail r.right)))
table_sound xnorl is_negated_disjunction L R = λ v. let r = v.0 in
    by_pair r (all_cons (⊎_elim (all_head r.left) (all_head (all_tail r.left))) (all_tail (all_tail r.left))) r.right
table_sound xnorr1 is_negated_disjunction L R = λ v. let r = v.0 in
    by_pair r r.left (none_cons (λ n. none_head r.right (λ a. n (inl a))) (none_tail r.right))
table_sound xnorr2 is_negated_disjunction L R = λ v. let r = v.0 in
    by_pair r r.left (none_cons (λ n. none_head r.right (λ b. n (inr b))) (none_tail r.right))
table_sound swap f L R = tt
