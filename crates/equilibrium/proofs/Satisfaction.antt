-- Satisfaction: it persists from H to T, is decided, and depends on H and T only at the atoms that occur; and of one formula more.
use Prim.Native.Nat.{ℕ}
use mathlib.Core.Path.{◌≡◌, refl}
use mathlib.Core.List.Memᴰ
use mathlib.Core.List.{List, [], ◌∷◌}
use mathlib.Core.Logic.{◌⊎◌, inl, inr, ⊎_elim, ◌↔◌}
use native.Mathlib.Decide.{ℕ_discrete}
use Rattle.equilibrium.specs.Formula.{Formula, falsum, atom, neg, conj, disj, imp, atoms_of, atoms_in}
use Rattle.equilibrium.specs.Meaning.{◌∈◌, ◌⊆◌, ◌≈◌, Holds, AllHold, NoneHolds, SomeHolds}
use Rattle.equilibrium.proofs.Sets.{dec_not, dec_and, dec_or, dec_implies, dec_in, dec_all, dec_some}

-- what holds in (H,T) holds in (T,T)
pub persists : {H T : List ℕ} → H ⊆ T → (A : Formula) → Holds H T A → Holds T T A
persists s falsum h = h
persists s (atom p) h = s p h
persists s (neg A) h = h
persists s (conj A B) h = (persists s A h.0, persists s B h.1)
persists s (disj A B) h = ⊎_elim (λ a. inl (persists s A a)) (λ b. inr (persists s B b)) h
persists s (imp A B) h = (h.0, h.0)

unfoldable pub holds? : (H T : List ℕ) (A : Formula) → Dec (Holds H T A)
unfolding dec_in dec_not dec_and dec_or dec_implies
holds? H T falsum = no (λ x. x)
holds? H T (atom p) = dec_in ℕ_discrete p H
holds? H T (neg A) = dec_not (holds? T T A)
holds? H T (conj A B) = dec_and (holds? H T A) (holds? H T B)
holds? H T (disj A B) = dec_or (holds? H T A) (holds? H T B)
holds? H T (imp A B) = dec_and (dec_implies (holds? T T A) (holds? T T B)) (dec_implies (holds? H T A) (holds? H T B))

unfoldable pub all_hold? : (H T : List ℕ) (L : List Formula) → Dec (AllHold H T L)
unfolding holds? dec_all
all_hold? H T L = dec_all (holds? H T) L

unfoldable pub some_holds? : (T : List ℕ) (R : List Formula) → Dec (SomeHolds T R)
unfolding holds? dec_some
some_holds? T R = dec_some (holds? T T) R

pub none_holds : {T : List ℕ} {R : List Formula} → (SomeHolds T R → ⊥) → NoneHolds T T R
none_holds n A m h = n (A, m, h)

-- Satisfaction of one formula more.
module _ {H T : List ℕ} {A : Formula} where
  pub all_cons : {L : List Formula} → Holds H T A → AllHold H T L → AllHold H T (A ∷ L)
  all_cons a l B (Memᴰ.head e) = rw e a
  all_cons a l B (Memᴰ.tail m) = l B m

  pub all_head : {L : List Formula} → AllHold H T (A ∷ L) → Holds H T A
  all_head h = h A (Memᴰ.head refl)

  pub all_tail : {L : List Formula} → AllHold H T (A ∷ L) → AllHold H T L
  all_tail h B m = h B (Memᴰ.tail m)

  pub none_cons : {R : List Formula} → (Holds H T A → ⊥) → NoneHolds H T R → NoneHolds H T (A ∷ R)
  none_cons n r B (Memᴰ.head e) = rw e n
  none_cons n r B (Memᴰ.tail m) = r B m

  pub none_head : {R : List Formula} → NoneHolds H T (A ∷ R) → Holds H T A → ⊥
  none_head n = n A (Memᴰ.head refl)

  pub none_tail : {R : List Formula} → NoneHolds H T (A ∷ R) → NoneHolds H T R
  none_tail n B m = n B (Memᴰ.tail m)

module _ {T : List ℕ} {A : Formula} {R : List Formula} where
  pub some_head : Holds T T A → SomeHolds T (A ∷ R)
  some_head h = (A, Memᴰ.head refl, h)

  pub some_tail : SomeHolds T R → SomeHolds T (A ∷ R)
  some_tail s = (s.0, Memᴰ.tail s.1, s.2)

  pub some_cases : SomeHolds T (A ∷ R) → Holds T T A ⊎ SomeHolds T R
  some_cases (B, Memᴰ.head e, h) = inl (rw e at h)
  some_cases (B, Memᴰ.tail m, h) = inr (B, m, h)

-- X and Y have the same members among those of U
abbrev pub Agree : List ℕ → List ℕ → List ℕ → Type 0
Agree U X Y = (p : ℕ) → p ∈ U → (p ∈ X) ↔ (p ∈ Y)

pub same_agree : {X Y : List ℕ} → X ≈ Y → (U : List ℕ) → Agree U X Y
same_agree e U p m = (e.0 p, e.1 p)

-- satisfaction looks at H and T only at the atoms that occur
pub holds_agree : (A : Formula) {H I T U : List ℕ} → Agree (atoms_of A) H I → Agree (atoms_of A) T U → Holds H T A ↔ Holds I U A
holds_agree falsum h t = (λ x. x, λ x. x)
holds_agree (atom p) h t = h p (Memᴰ.head refl)
holds_agree (neg A) h t = let k = holds_agree A t t in (λ n x. n (k.1 x), λ n x. n (k.0 x))
holds_agree (conj A B) h t =
    let k = holds_agree A (λ p m. h p (Memᴰ.append_left (atoms_of B) m)) (λ p m. t p (Memᴰ.append_left (atoms_of B) m)) in
    let l = holds_agree B (λ p m. h p (Memᴰ.append_right (atoms_of A) m)) (λ p m. t p (Memᴰ.append_right (atoms_of A) m)) in
    (λ x. (k.0 x.0, l.0 x.1), λ x. (k.1 x.0, l.1 x.1))
holds_agree (disj A B) h t =
    let k = holds_agree A (λ p m. h p (Memᴰ.append_left (atoms_of B) m)) (λ p m. t p (Memᴰ.append_left (atoms_of B) m)) in
    let l = holds_agree B (λ p m. h p (Memᴰ.append_right (atoms_of A) m)) (λ p m. t p (Memᴰ.append_right (atoms_of A) m)) in
    (⊎_elim (λ x. inl (k.0 x)) (λ x. inr (l.0 x)), ⊎_elim (λ x. inl (k.1 x)) (λ x. inr (l.1 x)))
holds_agree (imp A B) {H} {I} {T} {U} h t =
    let k = holds_agree A (λ p m. h p (Memᴰ.append_left (atoms_of B) m)) (λ p m. t p (Memᴰ.append_left (atoms_of B) m)) in
    let l = holds_agree B (λ p m. h p (Memᴰ.append_right (atoms_of A) m)) (λ p m. t p (Memᴰ.append_right (atoms_of A) m)) in
    let k' = holds_agree A (λ p m. t p (Memᴰ.append_left (atoms_of B) m)) (λ p m. t p (Memᴰ.append_left (atoms_of B) m)) in
    let l' = holds_agree B (λ p m. t p (Memᴰ.append_right (atoms_of A) m)) (λ p m. t p (Memᴰ.append_right (atoms_of A) m)) in
    (λ f. (λ x. l'.0 (f.0 (k'.1 x)), λ x. l.0 (f.1 (k.1 x))), λ f. (λ x. l'.1 (f.0 (k'.0 x)), λ x. l.1 (f.1 (k.0 x))))

-- an atom of a formula of L is one of L's atoms
pub occurs : {A : Formula} {L : List Formula} → A ∈ L → atoms_of A ⊆ atoms_in L
occurs {L = []} m p k = absurd (Memᴰ.not-nil m)
occurs {A} {L = B ∷ L} m p k =
    ⊎_elim (λ (e : A ≡ B). Memᴰ.append_left (atoms_in L) (rw e at k)) (λ j. Memᴰ.append_right (atoms_of B) (occurs j p k)) (Memᴰ.cases_cons m)

pub all_agree : {L : List Formula} {H I T U : List ℕ} → Agree (atoms_in L) H I → Agree (atoms_in L) T U → AllHold H T L → AllHold I U L
all_agree h t f A m = (holds_agree A (λ p k. h p (occurs m p k)) (λ p k. t p (occurs m p k))).0 (f A m)

pub some_agree : {R : List Formula} {T U : List ℕ} → Agree (atoms_in R) T U → SomeHolds T R → SomeHolds U R
some_agree t s = (s.0, s.1, (holds_agree s.0 (λ p k. t p (occurs s.1 p k)) (λ p k. t p (occurs s.1 p k))).0 s.2)
