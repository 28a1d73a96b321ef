-- Equilibrium models and entailment: they see sheet, claim and T as sets, hold only atoms that occur, and are decided.
use Prim.Native.Nat.{ℕ}
use mathlib.Core.List.{List, ◌∷◌}
use mathlib.Core.Logic.{◌⊎◌, inl, inr, ⊎_elim, ◌↔◌}
use native.Mathlib.Decide.{ℕ_discrete}
use Rattle.equilibrium.specs.Formula.{Formula, atoms_in}
use Rattle.equilibrium.specs.Meaning.{◌∈◌, ◌⊆◌, ◌≈◌, Holds, AllHold, SomeHolds, Equilibrium, Entails, EntailsOver, Fails}
use Rattle.equilibrium.proofs.Sets.{≈-sym, dec_not, dec_and, dec_in, dec_part, dec_map, those, in_those, search_parts}
use Rattle.equilibrium.proofs.Satisfaction.{all_hold?, some_holds?, none_holds, all_cons, all_tail, same_agree, all_agree, some_agree}

-- a pair (H,T) with H properly inside T that satisfies L: what keeps T from being in equilibrium
abbrev pub Smaller : List Formula → List ℕ → Type 0
Smaller L T = (H : List ℕ) × (H ⊆ T) × ((T ⊆ H → ⊥) × AllHold H T L)

unfoldable pub smaller? : (L : List Formula) (T : List ℕ) → Dec (Smaller L T)
unfolding search_parts dec_and dec_not dec_part all_hold?
smaller? L T = search_parts ℕ_discrete T (λ H. (T ⊆ H → ⊥) × AllHold H T L) (λ H. dec_and (dec_not (dec_part ℕ_discrete T H)) (all_hold? H T L)) same
  where
    same : (H I : List ℕ) → H ≈ I → (T ⊆ H → ⊥) × AllHold H T L → (T ⊆ I → ⊥) × AllHold I T L
    same H I e h = (λ s. h.0 (λ p m. e.1 p (s p m)), all_agree {L = L} (same_agree e (atoms_in L)) (λ p m. (λ x. x, λ x. x)) h.1)

-- T is in equilibrium exactly if it is a model and nothing smaller is
pub equilibrium_iff : {L : List Formula} {T : List ℕ} → Equilibrium L T ↔ (AllHold T T L × (Smaller L T → ⊥))
equilibrium_iff = (λ e. (e.model, λ s. e.least s.0 s.1 s.2.0 s.2.1), λ h. record { model = h.0; least = λ H s p a. h.1 (H, s, (p, a)) })

unfoldable pub equilibrium? : (L : List Formula) (T : List ℕ) → Dec (Equilibrium L T)
unfolding dec_map dec_and dec_not all_hold? smaller?
equilibrium? L T = dec_map equilibrium_iff.1 equilibrium_iff.0 (dec_and (all_hold? T T L) (dec_not (smaller? L T)))

-- if T is an equilibrium model of L, (T,T) satisfies M, and each (H,T) that satisfies M satisfies L, then T is one of M
pub carry : {L M : List Formula} {T : List ℕ} → AllHold T T M → ((H : List ℕ) → H ⊆ T → AllHold H T M → AllHold H T L) → Equilibrium L T → Equilibrium M T
carry m back e = record { model = m; least = λ H s p h. e.least H s p (back H s h) }

-- adding a formula that T satisfies keeps T
pub keep : {L : List Formula} {T : List ℕ} {A : Formula} → Holds T T A → Equilibrium L T → Equilibrium (A ∷ L) T
keep a e = carry (all_cons a e.model) (λ H s h. all_tail h) e

-- being in equilibrium is a matter of the sheet as a set
pub sheet_same : {L M : List Formula} {T : List ℕ} → L ≈ M → Equilibrium L T → Equilibrium M T
sheet_same s e = carry (λ A m. e.model A (s.1 A m)) (λ H i h A m. h A (s.0 A m)) e

-- and of T as a set
pub equilibrium_same : {L : List Formula} {T U : List ℕ} → T ≈ U → Equilibrium L T → Equilibrium L U
equilibrium_same {L} {T} {U} e q =
    record {
      model = all_agree {L = L} (same_agree e _) (same_agree e _) q.model;
      least = λ H s p h. q.least H (λ x m. e.1 x (s x m)) (λ t. p (λ x m. t x (e.1 x m)))
          (all_agree {L = L} (λ x m. (λ k. k, λ k. k)) (same_agree (e.1, e.0) _) h);
    }

-- an equilibrium model holds only atoms that occur
pub only_occurring : {L : List Formula} {T : List ℕ} → Equilibrium L T → T ⊆ atoms_in L
only_occurring {L} {T} e p m = cases (dec_part ℕ_discrete T H)
  where
    H : List ℕ
    H = those (λ q. dec_in ℕ_discrete q (atoms_in L)) T

    inside : (q : ℕ) → q ∈ H → (q ∈ T) × (q ∈ atoms_in L)
    inside q = (in_those _ T q).0

    cases : Dec (T ⊆ H) → p ∈ atoms_in L
    cases (yes s) = (inside p (s p m)).1
    cases (no n) =
        absurd (e.least H (λ q k. (inside q k).0) n
        (all_agree {L = L} (λ q k. (λ t. (in_those _ T q).1 (t, k), λ h. (inside q h).0)) (λ q k. (λ t. t, λ t. t)) e.model))

-- entailment over any finite set of atoms that holds those that occur is entailment
pub entails_over : {U : List ℕ} {L R : List Formula} → atoms_in L ⊆ U → Entails L R ↔ EntailsOver U L R
entails_over s = (λ f T t e. f T e, λ f T e. f T (λ p m. s p (only_occurring e p m)) e)

-- and it is a matter of sheet and claim as sets
pub entails_same : {L M R S : List Formula} → L ≈ M → R ≈ S → Entails L R → Entails M S
entails_same l r f T e = let s = f T (sheet_same (≈-sym l) e) in (s.0, r.0 s.0 s.1, s.2)

-- a claim holds or fails, and never both
unfoldable pub fails? : (L R : List Formula) → Fails L R ⊎ Entails L R
unfolding search_parts dec_and dec_not equilibrium? some_holds?
fails? L R =
    cases (search_parts ℕ_discrete (atoms_in L) (λ T. Equilibrium L T × (SomeHolds T R → ⊥)) (λ T. dec_and (equilibrium? L T) (dec_not (some_holds? T R))) same)
  where
    same : (T U : List ℕ) → T ≈ U → Equilibrium L T × (SomeHolds T R → ⊥) → Equilibrium L U × (SomeHolds U R → ⊥)
    same T U e h = (equilibrium_same e h.0, λ s. h.1 (some_agree {R = R} (same_agree (e.1, e.0) _) s))

    cases : Dec ((T : List ℕ) × (T ⊆ atoms_in L) × (Equilibrium L T × (SomeHolds T R → ⊥))) → Fails L R ⊎ Entails L R
    cases (yes s) = inl (s.0, s.2.0, none_holds s.2.1)
    cases (no n) = inr (λ T e. holds T e (some_holds? T R))
      where
        holds : (T : List ℕ) → Equilibrium L T → Dec (SomeHolds T R) → SomeHolds T R
        holds T e (yes s) = s
        holds T e (no k) = absurd (n (T, only_occurring e, (e, k)))

pub entails_not_fails : {L R : List Formula} → Entails L R → Fails L R → ⊥
entails_not_fails f (T, e, n) = n (f T e).0 (f T e).1 (f T e).2

pub entails_iff : {L R : List Formula} → Entails L R ↔ (Fails L R → ⊥)
entails_iff {L} {R} = (entails_not_fails, λ n. ⊎_elim (λ f. absurd (n f)) (λ e. e) (fails? L R))

pub fails_iff : {L R : List Formula} → Fails L R ↔ (Entails L R → ⊥)
fails_iff {L} {R} = (λ f e. entails_not_fails e f, λ n. ⊎_elim (λ f. f) (λ e. absurd (n e)) (fails? L R))

unfoldable pub entails? : (L R : List Formula) → Dec (Entails L R)
unfolding fails?
entails? L R = ⊎_elim (λ f. no (λ e. entails_not_fails e f)) (λ e. yes e) (fails? L R)
