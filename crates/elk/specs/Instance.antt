-- When a row is an instance of a rule, with a principal formula (or none) and its premises. L, R, Q and S are arbitrary
-- finite sets; they may hold the principal formula and its parts, and are the same throughout one rule.
use Rattle.std.specs.Prelude.{ℕ, ◌≤◌, ◌<◌, ◌≡◌, Bool, true, false, List, [], ◌∷◌, ◌++◌, map, length}
use Rattle.std.proofs.Math.Option.{Option, none, some}
use Rattle.equilibrium.specs.Formula.{Formula, falsum, atom, neg, conj, disj, atoms_of, atoms_in}
use Rattle.equilibrium.specs.Meaning.{◌∈◌, ◌⊆◌, ◌≈◌, Equal}
use Rattle.elk.specs.Sequent.{Kind, Sequent, ◌⇒◌, ◌⨾◌, Same, AllSame}
use Rattle.elk.specs.Rules.{Rule, Fits, Part, P, A, B, ~A, ~B, Added, Schema, Entry, schema, default, cut, unstable, initial, exchange, entry}

-- a part, where the principal formula is F and its parts are G and H
abbrev pub meant : Formula → Formula → Formula → Part → Formula
meant F G H P = F
meant F G H A = G
meant F G H B = H
meant F G H ~A = neg G
meant F G H ~B = neg H

-- L and R with what is added
abbrev pub filled : (Part → Formula) → List Formula → List Formula → Kind → Added → Sequent
filled m L R k a = record { kind = k; left = map m a.left ++ L; right = map m a.right ++ R }

pub record SchemaInstance (t : Schema) (F : Formula) (premises : List Sequent) (conclusion : Sequent) : Type 0 where
  pub first : Formula
  pub second : Formula
  pub fits : Fits t.form F first second
  pub L : List Formula
  pub R : List Formula
  pub above : AllSame premises (map (filled (meant F first second) L R t.kind) t.premises)
  pub below : Same conclusion (filled (meant F first second) L R t.kind t.conclusion)

-- def: L => R,~p; L only atoms, p an atom not in L
pub record DefaultInstance (F : Formula) (premises : List Sequent) (conclusion : Sequent) : Type 0 where
  pub p : ℕ
  pub principal : F ≡ neg (atom p)
  pub L : List Formula
  pub R : List Formula
  pub only_atoms : (G : Formula) → G ∈ L → (q : ℕ) × (G ≡ atom q)
  pub not_left : atom p ∈ L → ⊥
  pub above : AllSame premises []
  pub below : Same conclusion (L ⇒ F ∷ R)

-- rcut: L => R,A and L,A => Q give L => R,Q
pub record CutInstance (F : Formula) (premises : List Sequent) (conclusion : Sequent) : Type 0 where
  pub L : List Formula
  pub R : List Formula
  pub Q : List Formula
  pub above : AllSame premises ((L ⇒ F ∷ R) ∷ (F ∷ L ⇒ Q) ∷ [])
  pub below : Same conclusion (L ⇒ R ++ Q)

-- a choice of S within V: the atoms of V in rising order, each with whether it is in S
abbrev pub Choice : Type 0
Choice = List (ℕ × Bool)

-- V
abbrev pub domain : Choice → List ℕ
domain [] = []
domain (c ∷ cs) = c.0 ∷ domain cs

abbrev pub put : Bool → ℕ → List ℕ → List ℕ
put true p ps = p ∷ ps
put false p ps = ps

-- S
abbrev pub chosen : Choice → List ℕ
chosen [] = []
chosen (c ∷ cs) = put c.1 c.0 (chosen cs)

-- p for p in S and ~p for p in the rest
abbrev pub literal : ℕ × Bool → Formula
literal c = elim c.1 [ true ↦ atom c.0 | false ↦ neg (atom c.0) ]

-- ~~p for p in S and ~p for p in the rest
abbrev pub fixed : ℕ × Bool → Formula
fixed c = elim c.1 [ true ↦ neg (neg (atom c.0)) | false ↦ neg (atom c.0) ]

-- p|~p
abbrev pub excluded_middle : ℕ → Formula
excluded_middle p = disj (atom p) (neg (atom p))

-- x&(y&z); there is always one to join, since S is not empty
abbrev pub joined : List Formula → Formula
joined [] = falsum
joined (F ∷ []) = F
joined (F ∷ G ∷ Fs) = conj F (joined (G ∷ Fs))

abbrev pub Rising : List ℕ → Type 0
Rising [] = Unit {0}
Rising (p ∷ []) = Unit {0}
Rising (p ∷ q ∷ qs) = (p < q) × Rising (q ∷ qs)

-- unst: L => K and the refutation of (L,~~S,~S' ; E) give L => R, where V is the atoms of L, S part of it and S' the
-- rest, K joins p for p in S and ~p for p in S', and E joins p|~p for p in S
pub record UnstableInstance (premises : List Sequent) (conclusion : Sequent) : Type 0 where
  pub L : List Formula
  pub R : List Formula
  pub choice : Choice
  pub rising : Rising (domain choice)
  pub atoms : domain choice ≈ atoms_in L
  pub member : ℕ
  pub not_empty : member ∈ chosen choice
  pub above : AllSame premises ((L ⇒ joined (map literal choice) ∷ []) ∷ (map fixed choice ++ L ⨾ joined (map excluded_middle (chosen choice)) ∷ []) ∷ [])
  pub below : Same conclusion (L ⇒ R)

-- what may stand left in xini: p, ~p, ~#
pub data LeftLiteral : Formula → Type 0 where
  left_atom : {p : ℕ} → LeftLiteral (atom p)
  left_negated : {p : ℕ} → LeftLiteral (neg (atom p))
  left_verum : LeftLiteral (neg falsum)

-- what may stand right in xini: p, ~p, #
pub data RightLiteral : Formula → Type 0 where
  right_atom : {p : ℕ} → RightLiteral (atom p)
  right_negated : {p : ℕ} → RightLiteral (neg (atom p))
  right_falsum : RightLiteral falsum

-- xini: L;R, both only literals, no formula on both sides, left never both p and ~p. The cases of # are 01's own;
-- figure 1 of document 000 lacks them.
pub record InitialInstance (premises : List Sequent) (conclusion : Sequent) : Type 0 where
  pub L : List Formula
  pub R : List Formula
  pub lefts : (F : Formula) → F ∈ L → LeftLiteral F
  pub rights : (F : Formula) → F ∈ R → RightLiteral F
  pub apart : (F : Formula) → F ∈ L → F ∈ R → ⊥
  pub consistent : (p : ℕ) → atom p ∈ L → neg (atom p) ∈ L → ⊥
  pub above : AllSame premises []
  pub below : Same conclusion (L ⨾ R)

-- the atoms of a list are at most n: they lie among n
abbrev pub AtMost : ℕ → List ℕ → Type 0
AtMost n ps = (qs : List ℕ) × (length qs ≤ n) × (ps ⊆ qs)

-- the most atoms that A and B of `swap` have together
abbrev pub most_swapped : ℕ
most_swapped = 8

-- two formulas have no more
abbrev pub Narrow : Formula → Formula → Type 0
Narrow F G = AtMost most_swapped (atoms_of F ++ atoms_of G)

-- G leaves the sides right: some L and R have L,G => R as the premise and L,F => R as the row
pub record Exchanged (F G : Formula) (premises : List Sequent) (conclusion : Sequent) : Type 0 where
  pub L : List Formula
  pub R : List Formula
  pub above : AllSame premises ((G ∷ L ⇒ R) ∷ [])
  pub below : Same conclusion (F ∷ L ⇒ R)

-- swap: L,B => R gives L,A => R, where A and B hold in the same interpretations and have at most 8 atoms together
pub record SwapInstance (F : Formula) (premises : List Sequent) (conclusion : Sequent) : Type 0 where
  pub other : Formula
  pub sides : Exchanged F other premises conclusion
  pub narrow : Narrow F other
  pub equal : Equal F other

-- number 18: no B with at most 8 atoms fits, and some B that leaves the sides right has more
pub record TooWide (F : Formula) (premises : List Sequent) (conclusion : Sequent) : Type 0 where
  pub none_fits : SwapInstance F premises conclusion → ⊥
  pub other : Formula
  pub sides : Exchanged F other premises conclusion
  pub wide : Narrow F other → ⊥

abbrev pub InstanceOf : Entry → Option Formula → List Sequent → Sequent → Type 0
InstanceOf (schema t) (some F) premises conclusion = SchemaInstance t F premises conclusion
InstanceOf (schema t) none premises conclusion = ⊥
InstanceOf default (some F) premises conclusion = DefaultInstance F premises conclusion
InstanceOf default none premises conclusion = ⊥
InstanceOf cut (some F) premises conclusion = CutInstance F premises conclusion
InstanceOf cut none premises conclusion = ⊥
InstanceOf unstable (some F) premises conclusion = ⊥
InstanceOf unstable none premises conclusion = UnstableInstance premises conclusion
InstanceOf initial (some F) premises conclusion = ⊥
InstanceOf initial none premises conclusion = InitialInstance premises conclusion
InstanceOf exchange (some F) premises conclusion = SwapInstance F premises conclusion
InstanceOf exchange none premises conclusion = ⊥

-- the sequent follows from the premises by the rule, with that principal formula or none
abbrev pub Instance : Rule → Option Formula → List Sequent → Sequent → Type 0
Instance r F premises conclusion = InstanceOf (entry r) F premises conclusion

abbrev pub TooManyAtomsOf : Entry → Option Formula → List Sequent → Sequent → Type 0
TooManyAtomsOf (schema t) F premises conclusion = ⊥
TooManyAtomsOf default F premises conclusion = ⊥
TooManyAtomsOf cut F premises conclusion = ⊥
TooManyAtomsOf unstable F premises conclusion = ⊥
TooManyAtomsOf initial F premises conclusion = ⊥
TooManyAtomsOf exchange (some F) premises conclusion = TooWide F premises conclusion
TooManyAtomsOf exchange none premises conclusion = ⊥

-- what number 18 says of a row; of no rule but `swap` can it be said
abbrev pub TooManyAtoms : Rule → Option Formula → List Sequent → Sequent → Type 0
TooManyAtoms r F premises conclusion = TooManyAtomsOf (entry r) F premises conclusion
