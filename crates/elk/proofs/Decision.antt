-- Whether a row is an instance of a rule is decided, for each of the 38 rules, by a function that computes on closed
-- rows: each kind of rule by its characterisation in Entries or Exchanging. So is what number 18 asks.
use Prim.Native.Nat.{ℕ}
use mathlib.Core.Path.{◌≡◌, refl, sym, subst}
use mathlib.Core.List.Memᴰ
use mathlib.Core.List.{List, [], ◌∷◌, ◌++◌, map}
use mathlib.Core.Option.{Option, none, some}
use lib.ListN.{length}
use native.Mathlib.Decide.{ℕ_discrete, dec_le, dec_lt}
use Rattle.equilibrium.specs.Formula.{Formula, falsum, atom, neg, conj, disj, imp, atoms_of, atoms_in}
use Rattle.equilibrium.specs.Meaning.{◌∈◌}
use Rattle.equilibrium.proofs.Sets.{dec_not, dec_and, dec_implies, dec_map, dec_all, dec_some, dec_in, dec_part, dec_same}
use Rattle.equilibrium.proofs.Sets.{once, once_same, once_unrepeated}
use Rattle.equilibrium.proofs.EqualFormulas.{equal?}
use Rattle.equilibrium.proofs.Satisfaction.{occurs}
use Rattle.elk.specs.Sequent.{Kind, elk, refutation, Sequent, ◌⇒◌, ◌⨾◌, Same}
use Rattle.elk.specs.Rules.{Rule, Fits, Added, Schema, Entry, schema, default, cut, unstable, initial, exchange, entry}
use Rattle.elk.specs.Instance.{meant, SchemaInstance, DefaultInstance, CutInstance, UnstableInstance, InitialInstance}
use Rattle.elk.specs.Instance.{LeftLiteral, left_atom, left_negated, left_verum, RightLiteral, right_atom, right_negated}
use Rattle.elk.specs.Instance.{right_falsum, domain, chosen, literal, fixed, excluded_middle, joined, Rising, InstanceOf, Instance}
use Rattle.elk.specs.Instance.{AtMost, most_swapped, Narrow, Exchanged, SwapInstance, TooWide, TooManyAtomsOf, TooManyAtoms}
use Rattle.elk.proofs.Equality.{formula_discrete, kind_discrete}
use Rattle.elk.proofs.CommonSets.{shared?}
use Rattle.elk.proofs.Parts.{fits?}
use Rattle.elk.proofs.Entries.{Counted, lefts, rights, schema_iff, default_iff, cut_lefts, cut_iff, initial_iff, choice_of, unstable_iff}
use Rattle.elk.proofs.Exchanging.{exchanged_iff, swap_iff, too_wide_iff, at_most_iff}

unfoldable pub same? : (s t : Sequent) → Dec (Same s t)
unfolding dec_map dec_and dec_same kind_discrete formula_discrete
same? s t =
    dec_map (λ h. record { kind = h.0; left = h.1.0; right = h.1.1 }) (λ h. (h.kind, (h.left, h.right)))
    (dec_and (kind_discrete s.kind t.kind) (dec_and (dec_same formula_discrete s.left t.left) (dec_same formula_discrete s.right t.right)))

unfoldable pub counted? : (k : Kind) (ss : List Sequent) (ds : List Added) → Dec (Counted k ss ds)
unfolding dec_and kind_discrete
counted? k [] [] = yes tt
counted? k [] (d ∷ ds) = no (λ h. h)
counted? k (s ∷ ss) [] = no (λ h. h)
counted? k (s ∷ ss) (d ∷ ds) = dec_and (kind_discrete s.kind k) (counted? k ss ds)

unfoldable pub schema? : (t : Schema) (F : Formula) (premises : List Sequent) (s : Sequent) → Dec (SchemaInstance t F premises s)
unfolding fits? dec_map dec_and counted? shared? formula_discrete
schema? t F premises s = step (fits? t.form F)
  where
    rows : List Sequent
    rows = s ∷ premises

    added : List Added
    added = t.conclusion ∷ t.premises

    step : Dec ((G : Formula) × (H : Formula) × Fits t.form F G H) → Dec (SchemaInstance t F premises s)
    step (no n) = no (λ i. n (i.first, i.second, i.fits))
    step (yes p) =
        let m = meant F p.0 p.1 in
        dec_map (λ h. (schema_iff p.2).1 (record { counted = h.0; left = h.1.0; right = h.1.1 }))
        (λ i. let h = (schema_iff p.2).0 i in (h.counted, (h.left, h.right)))
        (dec_and (counted? t.kind rows added) (dec_and (shared? formula_discrete (lefts m rows added)) (shared? formula_discrete (rights m rows added))))

-- whether a formula is made of an atom in a way that keeps the atom
unfoldable pub of_atom? : (c : ℕ → Formula) → ((p : ℕ) → p ∈ atoms_of (c p)) → (F : Formula) → Dec ((p : ℕ) × (F ≡ c p))
unfolding dec_map dec_some formula_discrete
of_atom? c kept F =
    dec_map (λ s. (s.0, s.2)) (λ s. (s.0, subst (λ G. s.0 ∈ atoms_of G) (sym s.1) (kept s.0), s.1))
    (dec_some (λ p. formula_discrete F (c p)) (atoms_of F))

unfoldable pub default? : (F : Formula) (premises : List Sequent) (s : Sequent) → Dec (DefaultInstance F premises s)
unfolding of_atom? dec_map dec_and dec_not dec_all dec_in kind_discrete formula_discrete
default? F (t ∷ ts) s = no (λ i. i.above)
default? F [] s = step (of_atom? (λ p. neg (atom p)) (λ p. Memᴰ.head refl) F)
  where
    step : Dec ((p : ℕ) × (F ≡ neg (atom p))) → Dec (DefaultInstance F [] s)
    step (no n) = no (λ i. n (i.p, i.principal))
    step (yes a) =
        dec_map (λ h. default_iff.1 (record { p = a.0; principal = a.1; kind = h.0; only_atoms = h.1.0; not_left = h.1.1.0; right = h.1.1.1 }))
        (λ i. let h = default_iff.0 i in (h.kind, (h.only_atoms, (λ m. h.not_left (Memᴰ.cast (cc) m), h.right))))
        (dec_and (kind_discrete s.kind elk) (dec_and (dec_all (of_atom? atom (λ p. Memᴰ.head refl)) s.left)
        (dec_and (dec_not (dec_in formula_discrete (atom a.0) s.left)) (dec_in formula_discrete F s.right))))

unfoldable pub cut? : (F : Formula) (premises : List Sequent) (s : Sequent) → Dec (CutInstance F premises s)
unfolding dec_map dec_and dec_not dec_implies dec_all dec_in dec_part shared? kind_discrete formula_discrete
cut? F [] u = no (λ i. i.above)
cut? F (s ∷ []) u = no (λ i. i.above.1)
cut? F (s ∷ t ∷ v ∷ vs) u = no (λ i. i.above.1.1)
cut? F (s ∷ t ∷ []) u =
    dec_map (λ h. cut_iff.1
    (record {
      kinds = h.0;
      left = h.1.0;
      principal = h.1.1.0;
      first_right = h.1.1.1.0;
      second_right = h.1.1.1.1.0;
      both_right = h.1.1.1.1.1;
    }))
    (λ i. let h = cut_iff.0 i in (h.kinds, (h.left, (h.principal, (h.first_right, (h.second_right, h.both_right))))))
    (dec_and (dec_and (elk? s) (dec_and (elk? t) (elk? u)))
    (dec_and (shared? formula_discrete (cut_lefts F s t u))
    (dec_and (dec_in formula_discrete F s.right)
    (dec_and (dec_all (λ G. dec_implies (dec_not (formula_discrete G F)) (dec_in formula_discrete G u.right)) s.right)
    (dec_and (dec_part formula_discrete t.right u.right) (dec_part formula_discrete u.right (s.right ++ t.right)))))))
  where
    elk? : (v : Sequent) → Dec (v.kind ≡ elk)
    elk? v = kind_discrete v.kind elk

unfoldable pub left_literal? : (F : Formula) → Dec (LeftLiteral F)
left_literal? falsum = no (λ l. elim l [ ])
left_literal? (atom p) = yes left_atom
left_literal? (neg falsum) = yes left_verum
left_literal? (neg (atom p)) = yes left_negated
left_literal? (neg (neg A)) = no (λ l. elim l [ ])
left_literal? (neg (conj A B)) = no (λ l. elim l [ ])
left_literal? (neg (disj A B)) = no (λ l. elim l [ ])
left_literal? (neg (imp A B)) = no (λ l. elim l [ ])
left_literal? (conj A B) = no (λ l. elim l [ ])
left_literal? (disj A B) = no (λ l. elim l [ ])
left_literal? (imp A B) = no (λ l. elim l [ ])

unfoldable pub right_literal? : (F : Formula) → Dec (RightLiteral F)
right_literal? falsum = yes right_falsum
right_literal? (atom p) = yes right_atom
right_literal? (neg falsum) = no (λ r. elim r [ ])
right_literal? (neg (atom p)) = yes right_negated
right_literal? (neg (neg A)) = no (λ r. elim r [ ])
right_literal? (neg (conj A B)) = no (λ r. elim r [ ])
right_literal? (neg (disj A B)) = no (λ r. elim r [ ])
right_literal? (neg (imp A B)) = no (λ r. elim r [ ])
right_literal? (conj A B) = no (λ r. elim r [ ])
right_literal? (disj A B) = no (λ r. elim r [ ])
right_literal? (imp A B) = no (λ r. elim r [ ])

-- it is enough to look at the atoms that occur
unfoldable pub consistent? : (L : List Formula) → Dec ((p : ℕ) → atom p ∈ L → neg (atom p) ∈ L → ⊥)
unfolding dec_map dec_all dec_implies dec_not dec_in formula_discrete
consistent? L =
    dec_map (λ h p m. h p (occurs m p (Memᴰ.head refl)) m) (λ h p k. h p)
    (dec_all (λ p. dec_implies (dec_in formula_discrete (atom p) L) (dec_not (dec_in formula_discrete (neg (atom p)) L))) (atoms_in L))

unfoldable pub initial? : (premises : List Sequent) (s : Sequent) → Dec (InitialInstance premises s)
unfolding dec_map dec_and dec_not dec_all dec_in kind_discrete formula_discrete left_literal? right_literal? consistent?
initial? (t ∷ ts) s = no (λ i. i.above)
initial? [] s =
    dec_map (λ h. initial_iff.1 (record { kind = h.0; lefts = h.1.0; rights = h.1.1.0; apart = h.1.1.1.0; consistent = h.1.1.1.1 }))
    (λ i. let h = initial_iff.0 i in (h.kind, (h.lefts, (h.rights, (h.apart, h.consistent)))))
    (dec_and (kind_discrete s.kind refutation)
    (dec_and (dec_all left_literal? s.left)
    (dec_and (dec_all right_literal? s.right)
    (dec_and (dec_all (λ F. dec_not (dec_in formula_discrete F s.right)) s.left) (consistent? s.left)))))

unfoldable pub rising? : (ps : List ℕ) → Dec (Rising ps)
unfolding dec_and dec_lt
rising? [] = yes tt
rising? (p ∷ []) = yes tt
rising? (p ∷ q ∷ qs) = dec_and (dec_lt p q) (rising? (q ∷ qs))

unfoldable pub inhabited? : {X : Type 0} (xs : List X) → Dec ((x : X) × (x ∈ xs))
inhabited? [] = no (λ s. Memᴰ.not-nil s.1)
inhabited? (x ∷ xs) = yes (x, Memᴰ.head refl)

unfoldable pub unstable? : (premises : List Sequent) (s : Sequent) → Dec (UnstableInstance premises s)
unfolding dec_map dec_and dec_same kind_discrete same? rising? inhabited? ℕ_discrete
unstable? [] u = no (λ i. i.above)
unstable? (s ∷ []) u = no (λ i. i.above.1)
unstable? (s ∷ t ∷ v ∷ vs) u = no (λ i. i.above.1.1)
unstable? (s ∷ t ∷ []) u =
    let c = choice_of s.right in
    dec_map (λ h. unstable_iff.1
    (record {
      kind = h.0;
      rising = h.1.0;
      atoms = h.1.1.0;
      member = h.1.1.1.0.0;
      not_empty = h.1.1.1.0.1;
      derived = h.1.1.1.1.0;
      refuted = h.1.1.1.1.1;
    }))
    (λ i. let h = unstable_iff.0 i in (h.kind, (h.rising, (h.atoms, ((h.member, h.not_empty), (h.derived, h.refuted))))))
    (dec_and (kind_discrete u.kind elk)
    (dec_and (rising? (domain c)) (dec_and (dec_same ℕ_discrete (domain c) (atoms_in u.left))
    (dec_and (inhabited? (chosen c))
    (dec_and (same? s (u.left ⇒ joined (map literal c) ∷ [])) (same? t (map fixed c ++ u.left ⨾ joined (map excluded_middle (chosen c)) ∷ [])))))))

unfoldable pub at_most? : (n : ℕ) (ps : List ℕ) → Dec (AtMost n ps)
unfolding dec_map dec_le once ℕ_discrete
at_most? n ps =
    let law = at_most_iff (once ℕ_discrete ps) (once_unrepeated ℕ_discrete ps) (once_same ℕ_discrete ps) in
    dec_map law.1 law.0 (dec_le (length (once ℕ_discrete ps)) n)

unfoldable pub narrow? : (F G : Formula) → Dec (Narrow F G)
unfolding at_most?
narrow? F G = at_most? most_swapped (atoms_of F ++ atoms_of G)

unfoldable pub exchanged? : (F G : Formula) (s u : Sequent) → Dec (Exchanged F G (s ∷ []) u)
unfolding dec_map dec_and dec_not dec_implies dec_all dec_in dec_same kind_discrete formula_discrete
exchanged? F G s u =
    dec_map (λ h. exchanged_iff.1
    (record { kinds = h.0; right = h.1.0; principal = h.1.1.0; other = h.1.1.1.0; up = h.1.1.1.1.0; down = h.1.1.1.1.1 }))
    (λ i. let h = exchanged_iff.0 i in (h.kinds, (h.right, (h.principal, (h.other, (h.up, h.down))))))
    (dec_and (dec_and (kind_discrete s.kind elk) (kind_discrete u.kind elk))
    (dec_and (dec_same formula_discrete s.right u.right)
    (dec_and (dec_in formula_discrete F u.left)
    (dec_and (dec_in formula_discrete G s.left) (dec_and (all_but? F u.left s.left) (all_but? G s.left u.left))))))
  where
    -- what one side has besides A, the other has
    all_but? : (A : Formula) (X Y : List Formula) → Dec ((K : Formula) → K ∈ X → (K ≡ A → ⊥) → K ∈ Y)
    all_but? A X Y = dec_all (λ K. dec_implies (dec_not (formula_discrete K A)) (dec_in formula_discrete K Y)) X

unfoldable pub swap? : (F : Formula) (premises : List Sequent) (s : Sequent) → Dec (SwapInstance F premises s)
unfolding dec_map dec_and dec_some exchanged? narrow? equal?
swap? F [] u = no (λ i. i.sides.above)
swap? F (s ∷ t ∷ ts) u = no (λ i. i.sides.above.1)
swap? F (s ∷ []) u =
    dec_map (swap_iff F s u).1 (swap_iff F s u).0 (dec_some (λ G. dec_and (exchanged? F G s u) (dec_and (narrow? F G) (equal? F G))) s.left)

unfoldable pub too_wide? : (F : Formula) (premises : List Sequent) (s : Sequent) → Dec (TooWide F premises s)
unfolding dec_map dec_and dec_not dec_some exchanged? narrow? swap?
too_wide? F [] u = no (λ w. w.sides.above)
too_wide? F (s ∷ t ∷ ts) u = no (λ w. w.sides.above.1)
too_wide? F (s ∷ []) u =
    dec_map (too_wide_iff F s u).1 (too_wide_iff F s u).0
    (dec_and (dec_not (swap? F (s ∷ []) u)) (dec_some (λ G. dec_and (exchanged? F G s u) (dec_not (narrow? F G))) s.left))

unfoldable pub instance_of? : (e : Entry) (F : Option Formula) (premises : List Sequent) (s : Sequent) → Dec (InstanceOf e F premises s)
unfolding schema? default? cut? unstable? initial? swap?
instance_of? (schema t) (some F) premises s = schema? t F premises s
instance_of? (schema t) none premises s = no (λ i. i)
instance_of? default (some F) premises s = default? F premises s
instance_of? default none premises s = no (λ i. i)
instance_of? cut (some F) premises s = cut? F premises s
instance_of? cut none premises s = no (λ i. i)
instance_of? unstable (some F) premises s = no (λ i. i)
instance_of? unstable none premises s = unstable? premises s
instance_of? initial (some F) premises s = no (λ i. i)
instance_of? initial none premises s = initial? premises s
instance_of? exchange (some F) premises s = swap? F premises s
instance_of? exchange none premises s = no (λ i. i)

-- whether the row follows by the rule from the premises
unfoldable pub instance? : (r : Rule) (F : Option Formula) (premises : List Sequent) (s : Sequent) → Dec (Instance r F premises s)
unfolding instance_of?
instance? r = instance_of? (entry r)

unfoldable pub too_many_atoms_of? : (e : Entry) (F : Option Formula) (premises : List Sequent) (s : Sequent) → Dec (TooManyAtomsOf e F premises s)
unfolding too_wide?
too_many_atoms_of? (schema t) F premises s = no (λ w. w)
too_many_atoms_of? default F premises s = no (λ w. w)
too_many_atoms_of? cut F premises s = no (λ w. w)
too_many_atoms_of? unstable F premises s = no (λ w. w)
too_many_atoms_of? initial F premises s = no (λ w. w)
too_many_atoms_of? exchange (some F) premises s = too_wide? F premises s
too_many_atoms_of? exchange none premises s = no (λ w. w)

-- whether number 18 is to be given
unfoldable pub too_many_atoms? : (r : Rule) (F : Option Formula) (premises : List Sequent) (s : Sequent) → Dec (TooManyAtoms r F premises s)
unfolding too_many_atoms_of?
too_many_atoms? r = too_many_atoms_of? (entry r)
