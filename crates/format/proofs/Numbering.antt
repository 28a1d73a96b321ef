-- Formulas listed so that each has its parts before it and stands once: any formulas can be listed so, with no more than
-- their subformulas, and such a list is that of the formulas of good nodes.
use Prim.Native.Nat.{ℕ, ◌+◌, ◌≤◌, ◌<◌}
use mathlib.Core.Path.{◌≡◌, refl, sym, ap, ap₂, subst, ◌∙◌}
use mathlib.Core.Bool.{false}
use mathlib.Core.List.Memᴰ
use mathlib.Core.List.{List, [], ◌∷◌, ◌++◌, map, map-append, append-nil, append_assoc}
use mathlib.Core.Logic.{◌⊎◌, inl, inr, ⊎_elim}
use mathlib.Core.Option.{none}
use native.Mathlib.Omega.{arith}
use lib.Dec.{leb}
use lib.ListN.{length, length-append, length-map}
use borrow.Author.Tests.{lt-leb}
use Rattle.equilibrium.specs.Formula.{Formula, falsum, atom, neg, conj, disj, imp, atoms_of, atoms_in}
use Rattle.equilibrium.specs.Meaning.{◌∈◌, ◌⊆◌, ◌≈◌}
use Rattle.equilibrium.proofs.Sets.{dec_in}
use Rattle.elk.proofs.Sides.{first_in, second_in}
use Rattle.elk.proofs.Equality.{formula_discrete}
use Rattle.format.specs.File.{Node, Body, formula_at, formula_of, formulas, decoded_at}
use Rattle.format.specs.Tables.{most_atoms, most_formulas}
use Rattle.format.specs.Tests.{first, refers_ahead, node_tests}
use Rattle.format.specs.Good.{GoodBody, formula}
use Rattle.format.specs.Transcript.{subformulas, subformulas_in}
use Rattle.format.proofs.GoodBodies.{Distinct, distinct_snoc}
use Rattle.format.proofs.Enough.{node_enough}
use Rattle.format.proofs.Formulas.{formulas_snoc, length_formulas, node_from, position, position_among}

-- ---- the list

-- the parts that a formula is made of
abbrev parts_of : Formula → List Formula
parts_of falsum = []
parts_of (atom p) = []
parts_of (neg A) = A ∷ []
parts_of (conj A B) = A ∷ B ∷ []
parts_of (disj A B) = A ∷ B ∷ []
parts_of (imp A B) = A ∷ B ∷ []

-- a list in which each formula has its parts before it and stands once
data Numbering : List Formula → Type 0 where
  none_yet : Numbering []
  next : {fs : List Formula} → Numbering fs → (A : Formula) → parts_of A ⊆ fs → (A ∈ fs → ⊥) → Numbering (fs ++ A ∷ [])

-- a longer list that has these formulas too, and nothing that they do not need
record Longer (fs As : List Formula) : Type 0 where
  all : List Formula
  numbering : Numbering all
  kept : fs ⊆ all
  there : As ⊆ all
  needed : (B : Formula) → B ∈ all → (B ∈ fs) ⊎ (B ∈ subformulas_in As)

longer_nil : (fs : List Formula) → Numbering fs → Longer fs []
longer_nil fs n = record { all = fs; numbering = n; kept = λ B m. m; there = λ B m. absurd (Memᴰ.not-nil m); needed = λ B m. inl m }

own_subformula : (A : Formula) → A ∈ subformulas A
own_subformula falsum = Memᴰ.head refl
own_subformula (atom p) = Memᴰ.head refl
own_subformula (neg A) = Memᴰ.head refl
own_subformula (conj A B) = Memᴰ.head refl
own_subformula (disj A B) = Memᴰ.head refl
own_subformula (imp A B) = Memᴰ.head refl

parts_below : (A B : Formula) → B ∈ subformulas_in (parts_of A) → B ∈ subformulas A
parts_below falsum B m = absurd (Memᴰ.not-nil m)
parts_below (atom p) B m = absurd (Memᴰ.not-nil m)
parts_below (neg C) B m = Memᴰ.tail (subst (λ bs. B ∈ bs) (append-nil (subformulas C)) m)
parts_below (conj C D) B m = Memᴰ.tail (subst (λ bs. B ∈ subformulas C ++ bs) (append-nil (subformulas D)) m)
parts_below (disj C D) B m = Memᴰ.tail (subst (λ bs. B ∈ subformulas C ++ bs) (append-nil (subformulas D)) m)
parts_below (imp C D) B m = Memᴰ.tail (subst (λ bs. B ∈ subformulas C ++ bs) (append-nil (subformulas D)) m)

-- where the parts are there, the formula comes at the end unless it is there already
add_next : {fs : List Formula} (A : Formula) → Longer fs (parts_of A) → Longer fs (A ∷ [])
add_next {fs} A l = cases (dec_in formula_discrete A l.all)
  where
    below : (B : Formula) → B ∈ l.all → (B ∈ fs) ⊎ (B ∈ subformulas A ++ [])
    below B m = ⊎_elim inl (λ k. inr (Memᴰ.append_left [] (parts_below A B k))) (l.needed B m)

    own : (B : Formula) → B ∈ A ∷ [] → (B ∈ fs) ⊎ (B ∈ subformulas A ++ [])
    own B k = inr (Memᴰ.append_left [] (Memᴰ.cast (Memᴰ.eq_of_singleton k) (own_subformula A)))

    cases : Dec (A ∈ l.all) → Longer fs (A ∷ [])
    cases (yes m) = record { all = l.all; numbering = l.numbering; kept = l.kept; there = λ B k. Memᴰ.cast (Memᴰ.eq_of_singleton k) m; needed = below }
    cases (no n) =
        record {
          all = l.all ++ A ∷ [];
          numbering = next l.numbering A l.there n;
          kept = λ B m. Memᴰ.append_left (A ∷ []) (l.kept B m);
          there = λ B m. Memᴰ.append_right l.all m;
          needed = λ B m. ⊎_elim (below B) (own B) (Memᴰ.append_cases l.all m);
        }

subformulas_append : (As Bs : List Formula) → subformulas_in (As ++ Bs) ≡ subformulas_in As ++ subformulas_in Bs
subformulas_append [] Bs = refl
subformulas_append (A ∷ As) Bs = rw (subformulas_append As Bs, append_assoc)

-- one after the other
then : {fs As Bs : List Formula} (l : Longer fs As) → Longer l.all Bs → Longer fs (As ++ Bs)
then {fs} {As} {Bs} l k =
    record {
      all = k.all;
      numbering = k.numbering;
      kept = λ B m. k.kept B (l.kept B m);
      there = λ B m. ⊎_elim (λ i. k.kept B (l.there B i)) (k.there B) (Memᴰ.append_cases As m);
      needed = λ B m. ⊎_elim (earlier B) (λ i. inr (joined B (inr i))) (k.needed B m);
    }
  where
    joined : (B : Formula) → (B ∈ subformulas_in As) ⊎ (B ∈ subformulas_in Bs) → B ∈ subformulas_in (As ++ Bs)
    joined B (inl m) = subst (λ bs. B ∈ bs) (sym (subformulas_append As Bs)) (Memᴰ.append_left (subformulas_in Bs) m)
    joined B (inr m) = subst (λ bs. B ∈ bs) (sym (subformulas_append As Bs)) (Memᴰ.append_right (subformulas_in As) m)

    earlier : (B : Formula) → B ∈ l.all → (B ∈ fs) ⊎ (B ∈ subformulas_in (As ++ Bs))
    earlier B m = ⊎_elim inl (λ i. inr (joined B (inl i))) (l.needed B m)

enter : (fs : List Formula) → Numbering fs → (A : Formula) → Longer fs (A ∷ [])
enter fs n falsum = add_next falsum (longer_nil fs n)
enter fs n (atom p) = add_next (atom p) (longer_nil fs n)
enter fs n (neg A) = add_next (neg A) (enter fs n A)
enter fs n (conj A B) = add_next (conj A B) (then (enter fs n A) (enter (enter fs n A).all (enter fs n A).numbering B))
enter fs n (disj A B) = add_next (disj A B) (then (enter fs n A) (enter (enter fs n A).all (enter fs n A).numbering B))
enter fs n (imp A B) = add_next (imp A B) (then (enter fs n A) (enter (enter fs n A).all (enter fs n A).numbering B))

enter_all : (fs : List Formula) → Numbering fs → (As : List Formula) → Longer fs As
enter_all fs n [] = longer_nil fs n
enter_all fs n (A ∷ As) = let l = enter fs n A in then l (enter_all l.all l.numbering As)

-- ---- an atom of a subformula is one of the formula

same_atoms : {A B : Formula} → B ≡ A → atoms_of B ⊆ atoms_of A
same_atoms e p m = subst (λ C. p ∈ atoms_of C) e m

either_atoms : {B : Formula} {As Cs : List Formula} {ps qs : List ℕ} → (B ∈ As → atoms_of B ⊆ ps) → (B ∈ Cs → atoms_of B ⊆ qs)
    → B ∈ As ++ Cs → atoms_of B ⊆ ps ++ qs
either_atoms {As = As} {ps = ps} {qs = qs} h k m p i =
    ⊎_elim (λ j. Memᴰ.append_left qs (h j p i)) (λ j. Memᴰ.append_right ps (k j p i)) (Memᴰ.append_cases As m)

part_atoms : (A B : Formula) → B ∈ subformulas A → atoms_of B ⊆ atoms_of A
part_atoms falsum B m = same_atoms (Memᴰ.eq_of_singleton m)
part_atoms (atom q) B m = same_atoms (Memᴰ.eq_of_singleton m)
part_atoms (neg A) B (Memᴰ.head e) = same_atoms e
part_atoms (neg A) B (Memᴰ.tail m) = part_atoms A B m
part_atoms (conj A C) B (Memᴰ.head e) = same_atoms e
part_atoms (conj A C) B (Memᴰ.tail m) = either_atoms (part_atoms A B) (part_atoms C B) m
part_atoms (disj A C) B (Memᴰ.head e) = same_atoms e
part_atoms (disj A C) B (Memᴰ.tail m) = either_atoms (part_atoms A B) (part_atoms C B) m
part_atoms (imp A C) B (Memᴰ.head e) = same_atoms e
part_atoms (imp A C) B (Memᴰ.tail m) = either_atoms (part_atoms A B) (part_atoms C B) m

occurs_below : (As : List Formula) (B : Formula) → B ∈ subformulas_in As → atoms_of B ⊆ atoms_in As
occurs_below [] B m = absurd (Memᴰ.not-nil m)
occurs_below (A ∷ As) B m = either_atoms (part_atoms A B) (occurs_below As B) m

-- ---- what a list has of a formula, it has of its parts

closed : {fs : List Formula} → Numbering fs → (A : Formula) → A ∈ fs → parts_of A ⊆ fs
closed none_yet A m B k = absurd (Memᴰ.not-nil m)
closed (next {fs} n C parts new) A m B k =
    let last : A ∈ C ∷ [] → B ∈ fs = λ i. parts B (subst (λ D. B ∈ parts_of D) (Memᴰ.eq_of_singleton i) k) in
    Memᴰ.append_left (C ∷ []) (⊎_elim (λ i. closed n A i B k) last (Memᴰ.append_cases fs m))

module _ (fs : List Formula) (n : Numbering fs) where
  with_part : {A : Formula} {As : List Formula} → A ∈ fs → As ⊆ fs → A ∷ As ⊆ fs
  with_part m a B (Memᴰ.head e) = Memᴰ.cast e m
  with_part m a B (Memᴰ.tail k) = a B k

  both : {As Bs : List Formula} → As ⊆ fs → Bs ⊆ fs → As ++ Bs ⊆ fs
  both {As} a b B m = ⊎_elim (a B) (b B) (Memᴰ.append_cases As m)

  subformulas_there : (A : Formula) → A ∈ fs → subformulas A ⊆ fs
  subformulas_there falsum m = with_part m (λ B k. absurd (Memᴰ.not-nil k))
  subformulas_there (atom p) m = with_part m (λ B k. absurd (Memᴰ.not-nil k))
  subformulas_there (neg A) m = with_part m (subformulas_there A (closed n _ m _ first_in))
  subformulas_there (conj A B) m = with_part m (both (subformulas_there A (closed n _ m _ first_in)) (subformulas_there B (closed n _ m _ second_in)))
  subformulas_there (disj A B) m = with_part m (both (subformulas_there A (closed n _ m _ first_in)) (subformulas_there B (closed n _ m _ second_in)))
  subformulas_there (imp A B) m = with_part m (both (subformulas_there A (closed n _ m _ first_in)) (subformulas_there B (closed n _ m _ second_in)))

  all_there : (As : List Formula) → As ⊆ fs → subformulas_in As ⊆ fs
  all_there [] h = h
  all_there (A ∷ As) h = both (subformulas_there A (h A first_in)) (all_there As (λ B m. h B (Memᴰ.tail m)))

-- ---- the nodes of a list

-- a node made of a formula stands for it, where the numbers stand for its parts
formula_back : (number : Formula → ℕ) (ts : List Formula) (A : Formula) → ((B : Formula) → B ∈ parts_of A → formula_at ts (number B) ≡ B)
    → formula_of ts (node_from number A) ≡ A
formula_back number ts falsum h = refl
formula_back number ts (atom p) h = refl
formula_back number ts (neg A) h = ap neg (h A first_in)
formula_back number ts (conj A B) h = ap₂ conj (h A first_in) (h B second_in)
formula_back number ts (disj A B) h = ap₂ disj (h A first_in) (h B second_in)
formula_back number ts (imp A B) h = ap₂ imp (h A first_in) (h B second_in)

module _ (whole : List Formula) where
  -- the node of a formula, with its parts' places in the whole list
  abbrev node_of : Formula → Node
  node_of A = node_from (position whole) A

  abbrev nodes_of : List Node
  nodes_of = map node_of whole

  place : (before rest : List Formula) → whole ≡ before ++ rest → (A : Formula) → A ∈ before
      → (position whole A < length before) × (formula_at before (position whole A) ≡ A)
  place before rest e A m = subst (λ ts. (position ts A < length before) × (formula_at before (position ts A) ≡ A)) (sym e) (position_among before rest A m)

  -- the formulas of the nodes are those listed
  formulas_listed : {fs : List Formula} → Numbering fs → (rest : List Formula) → whole ≡ fs ++ rest → formulas (map node_of fs) ≡ fs
  unfolding formulas
  formulas_listed none_yet rest e = refl
  formulas_listed (next {fs} n A parts new) rest e =
      ap formulas (map-append node_of fs (A ∷ []))
      ∙ formulas_snoc (map node_of fs) (node_of A)
      ∙ ap (λ (ts : List Formula). ts ++ formula_of ts (node_of A) ∷ []) (formulas_listed n (A ∷ rest) split)
      ∙ ap (λ (B : Formula). fs ++ B ∷ []) (formula_back (position whole) fs A (λ B m. (place fs (A ∷ rest) split B (parts B m)).1))
    where
      split : whole ≡ fs ++ A ∷ rest
      split = e ∙ append_assoc fs (A ∷ []) rest

  module _ (numbering : Numbering whole) (atoms : ℕ) (few : (p : ℕ) → atom p ∈ whole → p < atoms) where
    node_stands : (A : Formula) → A ∈ whole → formula_of whole (node_of A) ≡ A
    node_stands A m = formula_back (position whole) whole A (λ B k. (place whole [] (sym (append-nil whole)) B (closed numbering A m B k)).1)

    abbrev over : List Node → Body
    over nodes = record { atoms = atoms; nodes = nodes; rows = [] }

    module _ (before rest : List Formula) (e : whole ≡ before ++ rest) where
      earlier : (B : Formula) → B ∈ before → leb (length (map node_of before)) (position whole B) ≡ false
      earlier B m = rw (length-map before node_of) (lt-leb (length before) (position whole B) (place before rest e B m).0)

      refers_back_lem : (A : Formula) → A ∈ whole → parts_of A ⊆ before → refers_ahead (over (map node_of before)) (node_of A) ≡ false
      refers_back_lem falsum m h = refl
      refers_back_lem (atom p) m h = lt-leb atoms p (few p m)
      refers_back_lem (neg A) m h = rw (earlier A (h A first_in))
      refers_back_lem (conj A B) m h = rw (earlier A (h A first_in), earlier B (h B second_in))
      refers_back_lem (disj A B) m h = rw (earlier A (h A first_in), earlier B (h B second_in))
      refers_back_lem (imp A B) m h = rw (earlier A (h A first_in), earlier B (h B second_in))

    nodes_good : atoms ≤ most_atoms → {fs : List Formula} → Numbering fs → (rest : List Formula) → whole ≡ fs ++ rest → length fs ≤ most_formulas
        → GoodBody (over (map node_of fs))
    nodes_good most none_yet rest e l = GoodBody.atoms atoms most
    nodes_good most (next {fs} n A parts new) rest e l =
        subst (λ (ns : List Node). GoodBody (over ns)) (sym (map-append node_of fs (A ∷ []))) (
        formula (nodes_good most n (A ∷ rest) split (omega (arith, longer))) refl (node_of A) passing)
      where
        longer : length (fs ++ A ∷ []) ≡ length fs + 1
        longer = length-append fs (A ∷ [])

        split : whole ≡ fs ++ A ∷ rest
        split = e ∙ append_assoc fs (A ∷ []) rest

        among : {B : Formula} → B ∈ fs ++ A ∷ rest → B ∈ whole
        among {B} m = subst (λ ts. B ∈ ts) (sym split) m

        here : A ∈ whole
        here = among (Memᴰ.append_right fs first_in)

        -- equal nodes would stand for equal formulas
        fresh : node_of A ∈ map node_of fs → ⊥
        fresh m =
            let B = Memᴰ.of_map node_of fs m in
            let same = sym (node_stands B.0 (among (Memᴰ.append_left (A ∷ rest) B.1))) ∙ ap (formula_of whole) B.2 ∙ node_stands A here in
            new (Memᴰ.cast (sym same) B.1)

        passing : first (node_tests (over (map node_of fs)) (node_of A)) ≡ none
        passing =
            node_enough (over (map node_of fs)) (node_of A) (omega (arith, length-map fs node_of, longer)) (refers_back_lem fs (A ∷ rest) split A here parts) fresh

-- no formula stands twice
numbering_distinct : {fs : List Formula} → Numbering fs → Distinct falsum fs
numbering_distinct none_yet = λ i j h k e. absurd (omega arith)
numbering_distinct (next {fs} n A parts new) = distinct_snoc falsum fs A (numbering_distinct n) new

-- nodes for any formulas whose atoms are below a number
pub record NodesFor (atoms : ℕ) (As : List Formula) : Type 0 where
  pub nodes : List Node
  pub once : (i j : ℕ) → i < length nodes → j < length nodes → decoded_at nodes i ≡ decoded_at nodes j → i ≡ j
  pub good : atoms ≤ most_atoms → length nodes ≤ most_formulas → GoodBody (record { atoms = atoms; nodes = nodes; rows = [] })
  pub needed : formulas nodes ≈ subformulas_in As
  pub number : (A : Formula) → A ∈ As → (i : ℕ) × (i < length nodes) × (decoded_at nodes i ≡ A)

pub nodes_for : (atoms : ℕ) (As : List Formula) → ((p : ℕ) → p ∈ atoms_in As → p < atoms) → NodesFor atoms As
nodes_for atoms As below =
    record {
      nodes = nodes_of l.all;
      once = λ i j h k e. subst (Distinct falsum) (sym listed) (numbering_distinct l.numbering) i j (rw length_formulas h) (rw length_formulas k) e;
      good = λ most fits. nodes_good l.all l.numbering atoms few most l.numbering [] whole (omega (arith, length-map l.all (node_of l.all)));
      needed = subst (λ fs. fs ≈ subformulas_in As) (sym listed) (λ B m. only B (l.needed B m), all_there l.all l.numbering As l.there);
      number = number;
    }
  where
    l : Longer [] As
    l = enter_all [] none_yet As

    whole : l.all ≡ l.all ++ []
    whole = sym (append-nil l.all)

    listed : formulas (nodes_of l.all) ≡ l.all
    listed = formulas_listed l.all l.numbering [] whole

    only : (B : Formula) → (B ∈ []) ⊎ (B ∈ subformulas_in As) → B ∈ subformulas_in As
    only B m = ⊎_elim (λ k. absurd (Memᴰ.not-nil k)) (λ k. k) m

    few : (p : ℕ) → atom p ∈ l.all → p < atoms
    few p m = below p (occurs_below As (atom p) (only (atom p) (l.needed (atom p) m)) p first_in)

    number : (A : Formula) → A ∈ As → (i : ℕ) × (i < length (nodes_of l.all)) × (decoded_at (nodes_of l.all) i ≡ A)
    number A m =
        let at = place l.all l.all [] whole A (l.there A m) in
        let i = position l.all A in
        (i, rw (length-map l.all (node_of l.all)) at.0, ap (λ (fs : List Formula). formula_at fs i) listed ∙ at.1)
