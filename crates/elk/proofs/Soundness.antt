-- Soundness: every row of a derivation is valid, so a derivation that ends in L => R shows that L entails R. The rules
-- in no table, `def`, `rcut`, `unst`, `xini` and `swap`, come first.
use Prim.Native.Nat.{ℕ}
use native.Mathlib.Decide.{ℕ_discrete}
use native.Mathlib.Omega.{arith}
use mathlib.Core.Path.{◌≡◌, refl, sym, ap, ◌∙◌}
use mathlib.Core.Bool.{Bool, true, false}
use mathlib.Core.List.Memᴰ
use mathlib.Core.List.{List, [], ◌∷◌, ◌++◌, map}
use mathlib.Core.Option.{Option, none, some}
use mathlib.Core.Logic.Dec
use mathlib.Core.Logic.{inl, ⊎_elim, ◌↔◌}
use Rattle.equilibrium.specs.Formula.{Formula, atom, neg, atoms_of, atoms_in}
use Rattle.equilibrium.specs.Meaning.{◌⊆◌, ◌≈◌, ◌∈◌, Holds, AllHold, Equilibrium, Entails, Equal}
use Rattle.equilibrium.proofs.Sets.{dec_in, those, in_those}
use Rattle.equilibrium.proofs.Satisfaction.{all_cons, all_head, all_tail, some_head, some_cases, all_agree}
use Rattle.equilibrium.proofs.Models.{carry, keep, only_occurring}
use Rattle.elk.specs.Sequent.{Sequent, AllSame}
use Rattle.elk.specs.Rules.{Rule, Fits, Entry, schema, default, cut, unstable, initial, exchange, entry}
use Rattle.elk.specs.Instance.{Choice, domain, chosen, literal, fixed, excluded_middle, joined, LeftLiteral, left_atom, left_negated}
use Rattle.elk.specs.Instance.{left_verum, RightLiteral, right_atom, right_negated, right_falsum, InstanceOf, Instance}
use Rattle.elk.specs.Derivation.{Derivation, row, DerivableBy, EndsIn}
use Rattle.elk.proofs.Choices.{in_domain, in_chosen, joined_each}
use Rattle.elk.proofs.Steps.{same_sym, All, form_of, Keeps}
use Rattle.elk.proofs.Validity.{Refutable, Valid, valid_same}
use Rattle.elk.proofs.TableSoundness.{table_sound}

-- the atoms of a list of atoms are its members
only_itself : {p : ℕ} (L : List Formula) → ((G : Formula) → G ∈ L → (q : ℕ) × (G ≡ atom q)) → p ∈ atoms_in L → atom p ∈ L
only_itself {p} (A ∷ L) only m = ⊎_elim first (λ k. Memᴰ.tail (only_itself L (λ G j. only G (Memᴰ.tail j)) k)) (Memᴰ.append_cases (atoms_of A) m)
  where
    first : p ∈ atoms_of A → atom p ∈ A ∷ L
    first k = let a = only A (Memᴰ.head refl) in Memᴰ.head (ap atom (Memᴰ.eq_of_singleton (rw a.1 at k)) ∙ sym a.1)
only_itself {p = p} [] only m = elim m [ ]

def_sound : {p : ℕ} {L R : List Formula} → ((G : Formula) → G ∈ L → (q : ℕ) × (G ≡ atom q)) → (atom p ∈ L → ⊥) → Entails L (neg (atom p) ∷ R)
def_sound {p} {L} only out T e = some_head (λ m. out (only_itself L only (only_occurring e p m)))

rcut_sound : {L R Q : List Formula} {A : Formula} → Entails L (A ∷ R) → Entails (A ∷ L) Q → Entails L (R ++ Q)
rcut_sound {R = R} {Q} v w T e =
    ⊎_elim (λ a. let s = w T (keep a e) in (s.0, Memᴰ.append_right R s.1, s.2)) (λ s. (s.0, Memᴰ.append_left Q s.1, s.2)) (some_cases (v T e))

-- what is joined holds if each part does and there is one
joined_holds : (H T : List ℕ) (Fs : List Formula) {F : Formula} → F ∈ Fs → AllHold H T Fs → Holds H T (joined Fs)
joined_holds H T (F ∷ []) m h = all_head h
joined_holds H T (F ∷ G ∷ Fs) m h = (all_head h, joined_holds H T (G ∷ Fs) (Memᴰ.head refl) (all_tail h))
joined_holds H T [] {F = F} m h = elim m [ ]

-- an atom that K and ~~S,~S' speak of is in T, which satisfies K, exactly if it is in U, where (G,U) satisfies ~~S,~S'
fixed_agree : (G U T : List ℕ) (e : ℕ × Bool) → Holds T T (literal e) → Holds G U (fixed e) → (e.0 ∈ U) ↔ (e.0 ∈ T)
fixed_agree G U T (p, true) k f = (λ m. k, λ m. (Dec.not-not (dec_in ℕ_discrete p U)).0 f)
fixed_agree G U T (p, false) k f = (λ m. absurd (f m), λ m. absurd (k m))

-- L has no equilibrium model T: at the atoms of L the refuting pair (G,U) is a pair (H,T) with H properly inside T
unst_sound : {L : List Formula} {p : ℕ} (c : Choice) → domain c ≈ atoms_in L → p ∈ chosen c → Entails L (joined (map literal c) ∷ [])
    → Refutable (map fixed c ++ L) (joined (map excluded_middle (chosen c)) ∷ []) → (T : List ℕ) → Equilibrium L T → ⊥
unst_sound {L} c atoms m v r T e =
    e.least H (λ q k. ((in_those _ T q).0 k).0) proper (all_agree {L = L} agree_here agree_there (λ A k. r.left A (Memᴰ.append_right (map fixed c) k)))
  where
    G : List ℕ
    G = r.H

    U : List ℕ
    U = r.T

    H : List ℕ
    H = those (λ q. dec_in ℕ_discrete q G) T

    literals : AllHold T T (map literal c)
    literals = joined_each T T (map literal c) (⊎_elim (λ k. k) (λ s. absurd (Memᴰ.not-nil s.1)) (some_cases (v T e)))

    agree_there : (q : ℕ) → q ∈ atoms_in L → (q ∈ U) ↔ (q ∈ T)
    agree_there q k = let d = in_domain c q (atoms.1 q k) in
        fixed_agree G U T (q, d.0) (literals _ (Memᴰ.map literal d.1)) (r.left _ (Memᴰ.append_left L (Memᴰ.map fixed d.1)))

    agree_here : (q : ℕ) → q ∈ atoms_in L → (q ∈ G) ↔ (q ∈ H)
    agree_here q k = (λ g. (in_those _ T q).1 ((agree_there q k).0 (r.inside q g), g), λ h. ((in_those _ T q).0 h).1)

    proper : T ⊆ H → ⊥
    proper s = r.right _ (Memᴰ.head refl) (joined_holds G U (map excluded_middle (chosen c)) (Memᴰ.map excluded_middle m) each)
      where
        each : AllHold G U (map excluded_middle (chosen c))
        each A k = let w = Memᴰ.of_map excluded_middle (chosen c) k in
            rw (sym w.2) (inl ((in_those _ T w.0).0 (s w.0 (literals _ (Memᴰ.map literal ((in_chosen c w.0).0 w.1))))).1)

-- the p for which f p is in L
abbrev Collected : (ℕ → Formula) → List Formula → Type 0
Collected f L = (ps : List ℕ) × ((p : ℕ) → (p ∈ ps) ↔ (f p ∈ L))

-- they are found where each formula of L is known to be some f p or none
collect : (f : ℕ → Formula) → ((p q : ℕ) → f p ≡ f q → p ≡ q) → (L : List Formula) → ((F : Formula) → F ∈ L → Dec ((p : ℕ) × (F ≡ f p))) → Collected f L
collect f injective [] d = ([], λ p. (λ m. absurd (Memᴰ.not-nil m), λ m. absurd (Memᴰ.not-nil m)))
collect f injective (F ∷ L) d = add (d F (Memᴰ.head refl)) (collect f injective L (λ G m. d G (Memᴰ.tail m)))
  where
    add : Dec ((p : ℕ) × (F ≡ f p)) → Collected f L → Collected f (F ∷ L)
    add (yes (q, e)) (ps, i) = (q ∷ ps, λ p. (to p, from p))
      where
        to : (p : ℕ) → p ∈ q ∷ ps → f p ∈ F ∷ L
        to p (Memᴰ.head k) = Memᴰ.head (ap f k ∙ sym e)
        to p (Memᴰ.tail m) = Memᴰ.tail ((i p).0 m)

        from : (p : ℕ) → f p ∈ F ∷ L → p ∈ q ∷ ps
        from p (Memᴰ.head k) = Memᴰ.head (injective p q (k ∙ e))
        from p (Memᴰ.tail m) = Memᴰ.tail ((i p).1 m)
    add (no n) (ps, i) = (ps, λ p. (λ m. Memᴰ.tail ((i p).0 m), from p))
      where
        from : (p : ℕ) → f p ∈ F ∷ L → p ∈ ps
        from p (Memᴰ.head k) = absurd (n (p, sym k))
        from p (Memᴰ.tail m) = (i p).1 m

atom? : {F : Formula} → LeftLiteral F → Dec ((p : ℕ) × (F ≡ atom p))
atom? (left_atom {p}) = yes (p, refl)
atom? left_negated = no (λ w. let z : ◌≡◌ {A = ℕ} 0 1 = cc in omega arith)
atom? left_verum = no (λ w. let z : ◌≡◌ {A = ℕ} 0 1 = cc in omega arith)

negated_atom? : {F : Formula} → RightLiteral F → Dec ((p : ℕ) × (F ≡ neg (atom p)))
negated_atom? right_atom = no (λ w. let z : ◌≡◌ {A = ℕ} 0 1 = cc in omega arith)
negated_atom? (right_negated {p}) = yes (p, refl)
negated_atom? right_falsum = no (λ w. let z : ◌≡◌ {A = ℕ} 0 1 = cc in omega arith)

-- H has the atoms of L, and T those negated in R besides
xini_sound : {L R : List Formula} → ((F : Formula) → F ∈ L → LeftLiteral F)
    → ((F : Formula) → F ∈ R → RightLiteral F) → ((F : Formula) → F ∈ L → F ∈ R → ⊥) → ((p : ℕ) → atom p ∈ L → neg (atom p) ∈ L → ⊥) → Refutable L R
xini_sound {L} {R} lefts rights apart consistent =
    record { H = H; T = T; inside = λ p m. Memᴰ.append_left more.0 m; left = λ F m. holds (lefts F m) m; right = λ F m. fails (rights F m) m }
  where
    here : Collected atom L
    here = collect atom (λ p q e. cc) L (λ F m. atom? (lefts F m))

    more : Collected (λ p. neg (atom p)) R
    more = collect (λ p. neg (atom p)) (λ p q e. cc) R (λ F m. negated_atom? (rights F m))

    H : List ℕ
    H = here.0

    T : List ℕ
    T = H ++ more.0

    holds : {F : Formula} → LeftLiteral F → F ∈ L → Holds H T F
    holds (left_atom {p}) m = (here.1 p).1 m
    holds (left_negated {p}) m = λ t. ⊎_elim (λ k. consistent p ((here.1 p).0 k) m) (λ k. apart (neg (atom p)) m ((more.1 p).0 k)) (Memᴰ.append_cases H t)
    holds left_verum m = λ x. x

    fails : {F : Formula} → RightLiteral F → F ∈ R → Holds H T F → ⊥
    fails (right_atom {p}) m h = apart (atom p) ((here.1 p).0 h) m
    fails (right_negated {p}) m h = h (Memᴰ.append_right H ((more.1 p).1 m))
    fails right_falsum m h = h

-- an equilibrium model of L,A is one of L,B
swap_sound : {F G : Formula} {L R : List Formula} → Equal F G → Entails (G ∷ L) R → Entails (F ∷ L) R
swap_sound same v T e =
    let model = all_cons ((same T T (λ p m. m)).0 (all_head e.model)) (all_tail e.model) in
    v T (carry model (λ H s h. all_cons ((same H T s).1 (all_head h)) (all_tail h)) e)

-- valid premises are valid as the rule writes them
premises_valid : (ss ts : List Sequent) → AllSame ss ts → ((p : Sequent) → p ∈ ss → Valid p) → All Valid ts
premises_valid [] [] e v = tt
premises_valid [] (t ∷ ts) e v = absurd e
premises_valid (s ∷ ss) [] e v = absurd e
premises_valid (s ∷ ss) (t ∷ ts) e v = (valid_same e.0 (v s (Memᴰ.head refl)), premises_valid ss ts e.1 (λ p m. v p (Memᴰ.tail m)))

-- a rule's entry, of the table or not
entry_sound : (e : Entry) → ((F G H : Formula) → Fits (form_of e) F G H → (L R : List Formula) → Keeps Valid e F G H L R)
    → (F : Option Formula) (premises : List Sequent) (s : Sequent) → InstanceOf e F premises s → ((p : Sequent) → p ∈ premises → Valid p) → Valid s
entry_sound (schema t) keeps (some F) premises s i v =
    valid_same (same_sym i.below) (keeps F i.first i.second i.fits i.L i.R (premises_valid premises _ i.above v))
entry_sound (schema t) keeps none premises s i v = absurd i
entry_sound default keeps (some F) premises s i v = valid_same (same_sym i.below) (rw i.principal (def_sound i.only_atoms i.not_left))
entry_sound default keeps none premises s i v = absurd i
entry_sound cut keeps (some F) premises s i v = let w = premises_valid premises _ i.above v in valid_same (same_sym i.below) (rcut_sound w.0 w.1.0)
entry_sound cut keeps none premises s i v = absurd i
entry_sound unstable keeps (some F) premises s i v = absurd i
entry_sound unstable keeps none premises s i v = let w = premises_valid premises _ i.above v in
    valid_same (same_sym i.below) (λ T e. absurd (unst_sound i.choice i.atoms i.not_empty w.0 w.1.0 T e))
entry_sound initial keeps (some F) premises s i v = absurd i
entry_sound initial keeps none premises s i v = valid_same (same_sym i.below) (xini_sound i.lefts i.rights i.apart i.consistent)
entry_sound exchange keeps (some F) premises s i v =
    valid_same (same_sym i.sides.below) (swap_sound i.equal (premises_valid premises _ i.sides.above v).0)
entry_sound exchange keeps none premises s i v = absurd i

-- every rule: where the premises are valid, so is the conclusion
pub rule_sound : (r : Rule) (F : Option Formula) (premises : List Sequent) (s : Sequent)
    → Instance r F premises s → ((p : Sequent) → p ∈ premises → Valid p) → Valid s
rule_sound r = entry_sound (entry r) (λ F G H. table_sound r)

-- every row of a derivation is valid, whatever rules it uses
pub derivation_sound : {usable : List Rule} {rows : List Sequent} → Derivation usable rows → (s : Sequent) → s ∈ rows → Valid s
derivation_sound (row d r u F premises {s = last} inside i) s (Memᴰ.head e) =
    rw e (rule_sound r F premises last i (λ p m. derivation_sound d p (inside p m)))
derivation_sound (row d r u F premises inside i) s (Memᴰ.tail m) = derivation_sound d s m
derivation_sound {usable = usable} Rattle.elk.specs.Derivation.start s x3 = elim x3 [ ]

pub derivable_sound : {usable : List Rule} {s : Sequent} → DerivableBy usable s → Valid s
derivable_sound d = valid_same d.ends (derivation_sound d.derivation d.last (Memᴰ.head refl))

pub ends_in_sound : {L R : List Formula} → EndsIn L R → Entails L R
ends_in_sound d = derivable_sound d
