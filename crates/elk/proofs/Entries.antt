-- Each entry of the table, but for `swap` (Exchanging), characterised by tests on the row and its premises, with no set to
-- be found. The decision of an instance rests on these laws, and so may any running test of rows.
use Prim.Native.Nat.{ℕ}
use mathlib.Core.Path.{◌≡◌, refl, sym, ◌∙◌, ap, ap₂, subst}
use mathlib.Core.Bool.{Bool, true, false}
use mathlib.Core.List.Memᴰ
use mathlib.Core.List.{List, [], ◌∷◌, ◌++◌, map}
use mathlib.Core.Logic.{⊎_elim, ◌↔◌}
use Rattle.equilibrium.specs.Formula.{Formula, falsum, atom, neg, conj, disj, imp, atoms_of, atoms_in}
use Rattle.equilibrium.specs.Meaning.{◌∈◌, ◌⊆◌, ◌≈◌}
use Rattle.equilibrium.proofs.Sets.{those, in_those, dec_in, ≈-refl, ≈-sym, ≈-trans}
use Rattle.equilibrium.proofs.Satisfaction.{occurs}
use Rattle.elk.specs.Sequent.{Kind, elk, refutation, Sequent, ◌⇒◌, ◌⨾◌, Same, AllSame}
use Rattle.elk.specs.Rules.{Fits, Part, Added, Schema}
use Rattle.elk.specs.Instance.{meant, filled, SchemaInstance, DefaultInstance, CutInstance, InitialInstance, LeftLiteral, RightLiteral}
use Rattle.elk.specs.Instance.{UnstableInstance, Choice, domain, chosen, literal, fixed, excluded_middle, joined, Rising}
use Rattle.elk.specs.CommonSets.{Side, Shared, sides}
use Rattle.elk.proofs.Equality.{formula_discrete}
use Rattle.elk.proofs.CommonSets.{Common, every_cons, common_iff}
use Rattle.elk.proofs.Parts.{fits_parts}

-- as many rows as the rule has, each of its kind
abbrev pub Counted : Kind → List Sequent → List Added → Type 0
Counted k [] [] = Unit {0}
Counted k [] (d ∷ ds) = ⊥
Counted k (s ∷ ss) [] = ⊥
Counted k (s ∷ ss) (d ∷ ds) = (s.kind ≡ k) × Counted k ss ds

module _ (m : Part → Formula) where
  abbrev pub lefts : List Sequent → List Added → List (Side Formula)
  lefts = sides (λ s. s.left) (λ d. map m d.left)

  abbrev pub rights : List Sequent → List Added → List (Side Formula)
  rights = sides (λ s. s.right) (λ d. map m d.right)

-- rows are L and R filled in if they are as many, of the kind, and L and R are common to their sides
filled_iff : (m : Part → Formula) {L R : List Formula} (k : Kind) (ss : List Sequent) (ds : List Added)
    → AllSame ss (map (filled m L R k) ds) ↔ (Counted k ss ds × Common (lefts m ss ds) L × Common (rights m ss ds) R)
filled_iff m k [] [] = (λ h. (tt, (λ s i. absurd (Memᴰ.not-nil i)), λ s i. absurd (Memᴰ.not-nil i)), λ h. tt)
filled_iff m k [] (d ∷ ds) = (λ h. absurd h, λ h. h.0)
filled_iff m k (s ∷ ss) [] = (λ h. absurd h, λ h. h.0)
filled_iff m k (s ∷ ss) (d ∷ ds) =
    let rest = filled_iff m k ss ds in (
      λ h. let r = rest.0 h.1 in ((h.0.kind, r.0), every_cons.1 (h.0.left, r.1), every_cons.1 (h.0.right, r.2)),
      λ h. (
        record { kind = h.0.0; left = (every_cons.0 h.1).0; right = (every_cons.0 h.2).0 },
        rest.1 (h.0.1, (every_cons.0 h.1).1, (every_cons.0 h.2).1),
      ),
    )

-- a rule that adds to L and R, tested on the row and its premises; `m` is what its parts mean
pub record SchemaTest (t : Schema) (m : Part → Formula) (premises : List Sequent) (conclusion : Sequent) : Type 0 where
  pub counted : Counted t.kind (conclusion ∷ premises) (t.conclusion ∷ t.premises)
  pub left : Shared (lefts m (conclusion ∷ premises) (t.conclusion ∷ t.premises))
  pub right : Shared (rights m (conclusion ∷ premises) (t.conclusion ∷ t.premises))

-- where the principal formula has the parts G and H, the test is exact
pub schema_iff : {t : Schema} {F G H : Formula} {premises : List Sequent} {conclusion : Sequent}
    → Fits t.form F G H → SchemaInstance t F premises conclusion ↔ SchemaTest t (meant F G H) premises conclusion
schema_iff {t} {F} {G} {H} {premises} {conclusion} f = (to, from)
  where
    test : Formula × Formula → Type 0
    test p = SchemaTest t (meant F p.0 p.1) premises conclusion

    to : SchemaInstance t F premises conclusion → test (G, H)
    to i =
        let h = (filled_iff (meant F i.first i.second) t.kind (conclusion ∷ premises) (t.conclusion ∷ t.premises)).0 (i.below, i.above) in
        subst test ((fits_parts i.fits).0 ∙ sym (fits_parts f).0)
        (record { counted = h.0; left = (common_iff formula_discrete _).0 (i.L, h.1); right = (common_iff formula_discrete _).0 (i.R, h.2) })

    from : test (G, H) → SchemaInstance t F premises conclusion
    from k =
        let l = (common_iff formula_discrete _).1 k.left in
        let r = (common_iff formula_discrete _).1 k.right in
        let h = (filled_iff (meant F G H) t.kind (conclusion ∷ premises) (t.conclusion ∷ t.premises)).1 (k.counted, l.1, r.1) in
        record { first = G; second = H; fits = f; L = l.0; R = r.0; above = h.1; below = h.0 }

-- `def`, tested on the row
pub record DefaultTest (F : Formula) (conclusion : Sequent) : Type 0 where
  pub p : ℕ
  pub principal : F ≡ neg (atom p)
  pub kind : conclusion.kind ≡ elk
  pub only_atoms : (G : Formula) → G ∈ conclusion.left → (q : ℕ) × (G ≡ atom q)
  pub not_left : atom p ∈ conclusion.left → ⊥
  pub right : F ∈ conclusion.right

pub default_iff : {F : Formula} {s : Sequent} → DefaultInstance F [] s ↔ DefaultTest F s
default_iff {F} {s} = (
  λ i. record {
    p = i.p;
    principal = i.principal;
    kind = i.below.kind;
    only_atoms = λ G m. i.only_atoms G (i.below.left.0 G m);
    not_left = λ m. i.not_left (i.below.left.0 _ m);
    right = i.below.right.1 F (Memᴰ.head refl);
  },
  λ k. record {
    p = k.p;
    principal = k.principal;
    L = s.left;
    R = s.right;
    only_atoms = k.only_atoms;
    not_left = k.not_left;
    above = tt;
    below = record {
      kind = k.kind;
      left = ≈-refl;
      right = (λ x m. Memᴰ.tail m, λ x m. ⊎_elim (λ (e : x ≡ F). Memᴰ.cast e k.right) (λ j. j) (Memᴰ.cases_cons m));
    };
  },
)

-- the left sides of `rcut`: L, L and L,A
abbrev pub cut_lefts : Formula → Sequent → Sequent → Sequent → List (Side Formula)
cut_lefts F first second conclusion =
    record { whole = conclusion.left; added = [] } ∷ record { whole = first.left; added = [] } ∷ record { whole = second.left; added = F ∷ [] } ∷ []

-- `rcut`, tested on the row and its two premises
pub record CutTest (F : Formula) (first second conclusion : Sequent) : Type 0 where
  pub kinds : (first.kind ≡ elk) × ((second.kind ≡ elk) × (conclusion.kind ≡ elk))
  pub left : Shared (cut_lefts F first second conclusion)
  pub principal : F ∈ first.right
  pub first_right : (G : Formula) → G ∈ first.right → (G ≡ F → ⊥) → G ∈ conclusion.right
  pub second_right : second.right ⊆ conclusion.right
  pub both_right : conclusion.right ⊆ first.right ++ second.right

pub cut_iff : {F : Formula} {s t u : Sequent} → CutInstance F (s ∷ t ∷ []) u ↔ CutTest F s t u
cut_iff {F} {s} {t} {u} = (to, from)
  where
    to : CutInstance F (s ∷ t ∷ []) u → CutTest F s t u
    to i =
        let a = i.above.0 in
        let b = i.above.1.0 in
        let c = i.below in
        record {
          kinds = (a.kind, (b.kind, c.kind));
          left = (common_iff formula_discrete _).0
              (i.L, every_cons.1 (c.left, every_cons.1 (a.left, every_cons.1 (b.left, λ x m. absurd (Memᴰ.not-nil m)))));
          principal = a.right.1 F (Memᴰ.head refl);
          first_right = λ G m n. c.right.1 G (Memᴰ.append_left i.Q (⊎_elim (λ e. absurd (n e)) (λ j. j) (Memᴰ.cases_cons (a.right.0 G m))));
          second_right = λ G m. c.right.1 G (Memᴰ.append_right i.R (b.right.0 G m));
          both_right =
              λ G m. ⊎_elim (λ j. Memᴰ.append_left t.right (a.right.1 G (Memᴰ.tail j)))
              (λ j. Memᴰ.append_right s.right (b.right.1 G j)) (Memᴰ.append_cases i.R (c.right.0 G m));
        }

    -- R is what the first premise shares with the row
    R : List Formula
    R = those (λ G. dec_in formula_discrete G u.right) s.right

    in-R : (G : Formula) → (G ∈ R) ↔ ((G ∈ s.right) × (G ∈ u.right))
    in-R = in_those _ s.right

    from : CutTest F s t u → CutInstance F (s ∷ t ∷ []) u
    from k =
        let c = (common_iff formula_discrete _).1 k.left in
        let l = every_cons.0 c.1 in
        let m = every_cons.0 l.1 in
        record {
          L = c.0;
          R = R;
          Q = t.right;
          above = (
            record {
              kind = k.kinds.0;
              left = m.0;
              right = (
                λ G j. place G j (formula_discrete G F),
                λ G j. ⊎_elim (λ (e : G ≡ F). Memᴰ.cast e k.principal) (λ r. ((in-R G).0 r).0) (Memᴰ.cases_cons j),
              );
            },
            (record { kind = k.kinds.1.0; left = (every_cons.0 m.1).0; right = ≈-refl }, tt),
          );
          below = record {
            kind = k.kinds.1.1;
            left = l.0;
            right = (
              λ G j. ⊎_elim (λ a. Memᴰ.append_left t.right ((in-R G).1 (a, j))) (Memᴰ.append_right R)
                  (Memᴰ.append_cases s.right (k.both_right G j)),
              λ G j. ⊎_elim (λ r. ((in-R G).0 r).1) (k.second_right G) (Memᴰ.append_cases R j),
            );
          };
        }
      where
        place : (G : Formula) → G ∈ s.right → Dec (G ≡ F) → G ∈ F ∷ R
        place G j (yes e) = Memᴰ.head e
        place G j (no n) = Memᴰ.tail ((in-R G).1 (j, k.first_right G j n))

-- `xini`, tested on the row
pub record InitialTest (s : Sequent) : Type 0 where
  pub kind : s.kind ≡ refutation
  pub lefts : (F : Formula) → F ∈ s.left → LeftLiteral F
  pub rights : (F : Formula) → F ∈ s.right → RightLiteral F
  pub apart : (F : Formula) → F ∈ s.left → F ∈ s.right → ⊥
  pub consistent : (p : ℕ) → atom p ∈ s.left → neg (atom p) ∈ s.left → ⊥

pub initial_iff : {s : Sequent} → InitialInstance [] s ↔ InitialTest s
initial_iff {s} = (
  λ i. let l = i.below.left.0 in let r = i.below.right.0 in
      record {
        kind = i.below.kind;
        lefts = λ F m. i.lefts F (l F m);
        rights = λ F m. i.rights F (r F m);
        apart = λ F m k. i.apart F (l F m) (r F k);
        consistent = λ p m k. i.consistent p (l _ m) (l _ k);
      },
  λ k. record {
    L = s.left;
    R = s.right;
    lefts = k.lefts;
    rights = k.rights;
    apart = k.apart;
    consistent = k.consistent;
    above = tt;
    below = record { kind = k.kind; left = ≈-refl; right = ≈-refl };
  },
)

-- the atoms of a formula that joins literals, each with whether it stands there as itself
abbrev pub literals : Formula → Choice
literals falsum = []
literals (atom p) = (p, true) ∷ []
literals (neg falsum) = []
literals (neg (atom p)) = (p, false) ∷ []
literals (neg (neg A)) = []
literals (neg (conj A B)) = []
literals (neg (disj A B)) = []
literals (neg (imp A B)) = []
literals (conj A B) = literals A ++ literals B
literals (disj A B) = []
literals (imp A B) = []

literals_literal : (c : ℕ × Bool) → literals (literal c) ≡ c ∷ []
literals_literal (p, true) = refl
literals_literal (p, false) = refl

literals_joined : (c : Choice) → literals (joined (map literal c)) ≡ c
literals_joined [] = refl
literals_joined (c ∷ []) = literals_literal c
literals_joined (c ∷ d ∷ ds) = ap₂ ◌++◌ (literals_literal c) (literals_joined (d ∷ ds))

-- the choice that K makes, read off the right side on which K stands alone
abbrev pub choice_of : List Formula → Choice
choice_of [] = []
choice_of (F ∷ Fs) = literals F

-- whatever the choice, it is read off its K again
choice_unique : (c : Choice) (Fs : List Formula) → Fs ≈ (joined (map literal c) ∷ []) → choice_of Fs ≡ c
choice_unique c [] e = absurd (Memᴰ.not-nil (e.1 _ (Memᴰ.head refl)))
choice_unique c (F ∷ Fs) e = ap literals (Memᴰ.eq_of_singleton (e.0 F (Memᴰ.head refl))) ∙ literals_joined c

pub atoms_part : {L M : List Formula} → L ⊆ M → atoms_in L ⊆ atoms_in M
atoms_part {L = []} s p m = absurd (Memᴰ.not-nil m)
atoms_part {L = A ∷ L} s p m =
    ⊎_elim (occurs (s A (Memᴰ.head refl)) p) (atoms_part (λ B k. s B (Memᴰ.tail k)) p) (Memᴰ.append_cases (atoms_of A) m)

append_part : {L M : List Formula} (K : List Formula) → L ⊆ M → K ++ L ⊆ K ++ M
append_part {M} K s F m = ⊎_elim (Memᴰ.append_left M) (λ k. Memᴰ.append_right K (s F k)) (Memᴰ.append_cases K m)

-- `unst` with S and S' as in the choice, tested on the row and its two premises
pub record UnstableTest (c : Choice) (first second conclusion : Sequent) : Type 0 where
  pub kind : conclusion.kind ≡ elk
  pub rising : Rising (domain c)
  pub atoms : domain c ≈ atoms_in conclusion.left
  pub member : ℕ
  pub not_empty : member ∈ chosen c
  pub derived : Same first (conclusion.left ⇒ joined (map literal c) ∷ [])
  pub refuted : Same second (map fixed c ++ conclusion.left ⨾ joined (map excluded_middle (chosen c)) ∷ [])

-- no choice but the one that is read off K can make the row an instance
pub unstable_iff : {s t u : Sequent} → UnstableInstance (s ∷ t ∷ []) u ↔ UnstableTest (choice_of s.right) s t u
unstable_iff {s} {t} {u} = (
  to,
  λ k. record {
    L = u.left;
    R = u.right;
    choice = choice_of s.right;
    rising = k.rising;
    atoms = k.atoms;
    member = k.member;
    not_empty = k.not_empty;
    above = (k.derived, (k.refuted, tt));
    below = record { kind = k.kind; left = ≈-refl; right = ≈-refl };
  },
)
  where
    to : UnstableInstance (s ∷ t ∷ []) u → UnstableTest (choice_of s.right) s t u
    to i =
        let a = i.above.0 in
        let b = i.above.1.0 in
        let l = i.below.left in
        subst (λ c. UnstableTest c s t u) (sym (choice_unique i.choice s.right a.right)) (record {
          kind = i.below.kind;
          rising = i.rising;
          atoms = ≈-trans i.atoms (atoms_part l.1, atoms_part l.0);
          member = i.member;
          not_empty = i.not_empty;
          derived = record { kind = a.kind; left = ≈-trans a.left (≈-sym l); right = a.right };
          refuted =
              record {
                kind = b.kind;
                left = ≈-trans b.left (append_part (map fixed i.choice) l.1, append_part (map fixed i.choice) l.0);
                right = b.right;
              };
        })
