-- The formulas of numbers: one more node adds one formula and changes none, and in a held body equal formulas have
-- equal numbers.
use Prim.Native.Nat.{ℕ, zero, suc, ◌+◌, ◌≤◌, ◌<◌}
use native.Mathlib.Omega.{arith}
use mathlib.Core.Path.{◌≡◌, refl, sym, ap, ap₂, subst, ◌∙◌}
use mathlib.Core.Bool.{false}
use mathlib.Core.List.Memᴰ
use mathlib.Core.List.{List, [], ◌∷◌, ◌++◌, append_assoc}
use lib.ListN.{length, take, drop, length-append, get_or-append}
use lib.Seq.{get_or_at, split_at, length-take-le}
use borrow.Author.Tests.{leb-false}
use Rattle.equilibrium.specs.Meaning.{◌∈◌}
use Rattle.format.proofs.GoodBodies.{in_place_lem, Held, before_node, node_at}
use Rattle.format.proofs.Booleans.{any_false}
use Rattle.equilibrium.specs.Formula.{Formula, falsum, neg, conj, disj, imp}
use Rattle.elk.proofs.Equality.{formula_discrete}
use Rattle.format.specs.File.{Node, Body, formula_at, formula_of, formulas_after, formulas, decoded_at}
use Rattle.format.specs.Tests.{refers_ahead, not_earlier, unknown_formula}

after_append : (ts : List Formula) (ms ns : List Node) → formulas_after ts (ms ++ ns) ≡ formulas_after (formulas_after ts ms) ns
after_append ts [] ns = refl
after_append ts (m ∷ ms) ns = after_append (ts ++ formula_of ts m ∷ []) ms ns

-- one more node adds its formula at the end
pub formulas_snoc : (ns : List Node) (n : Node) → formulas (ns ++ n ∷ []) ≡ formulas ns ++ formula_of (formulas ns) n ∷ []
unfolding formulas
formulas_snoc ns n = after_append [] ns (n ∷ [])

length_after : (ts : List Formula) (ns : List Node) → length (formulas_after ts ns) ≡ length ts + length ns
length_after ts [] = omega arith
length_after ts (n ∷ ns) = length_after (ts ++ formula_of ts n ∷ []) ns ∙ simp length-append (omega arith)

pub length_formulas : (ns : List Node) → length (formulas ns) ≡ length ns
unfolding formulas
length_formulas ns = length_after [] ns ∙ omega arith

prefix_after : (ts : List Formula) (ns : List Node) (i : ℕ) → i < length ts → formula_at (formulas_after ts ns) i ≡ formula_at ts i
prefix_after ts [] i h = refl
prefix_after ts (n ∷ ns) i h =
    prefix_after (ts ++ formula_of ts n ∷ []) ns i (simp length-append (omega arith)) ∙ get_or-append ts _ falsum i h

-- later nodes change no formula
pub formulas_prefix : (ms ns : List Node) (i : ℕ) → i < length ms → decoded_at (ms ++ ns) i ≡ decoded_at ms i
unfolding formulas
formulas_prefix ms ns i h = ap (λ (ts : List Formula). formula_at ts i) (after_append [] ms ns) ∙ prefix_after (formulas ms) ns i (rw length_formulas h)

-- the formula of a number is that of its node over the formulas before it
decoded_over : (ms ns : List Node) (n : Node) → decoded_at (ms ++ n ∷ ns) (length ms) ≡ formula_of (formulas ms) n
decoded_over ms ns n =
    ap (λ (ls : List Node). decoded_at ls (length ms)) (sym (append_assoc ms (n ∷ []) ns))
    ∙ formulas_prefix (ms ++ n ∷ []) ns (length ms) (simp length-append (omega arith))
    ∙ ap (λ (ts : List Formula). formula_at ts (length ms)) (formulas_snoc ms n)
    ∙ get_or_at (formulas ms) _ [] falsum (length ms) (length_formulas ms)

-- the formula numbers that a node names
abbrev operands : Node → List ℕ
operands Node.bot = []
operands (Node.atom k) = []
operands (Node.not i) = i ∷ []
operands (Node.and i j) = i ∷ j ∷ []
operands (Node.or i j) = i ∷ j ∷ []
operands (Node.imp i j) = i ∷ j ∷ []

none_ahead : (b : Body) (n : Node) → refers_ahead b n ≡ false → unknown_formula b (operands n) ≡ false
none_ahead b Node.bot e = refl
none_ahead b (Node.atom k) e = refl
none_ahead b (Node.not i) e = e
none_ahead b (Node.and i j) e = e
none_ahead b (Node.or i j) e = e
none_ahead b (Node.imp i j) e = e

pub known_earlier : (b : Body) (is : List ℕ) → unknown_formula b is ≡ false → (i : ℕ) → i ∈ is → i < length b.nodes
known_earlier b is e i m = leb-false (length b.nodes) i (any_false (not_earlier (length b.nodes)) is e i m)

operands_earlier : (b : Body) (n : Node) → refers_ahead b n ≡ false → (i : ℕ) → i ∈ operands n → i < length b.nodes
operands_earlier b n e i m = known_earlier b (operands n) (none_ahead b n e) i m

-- a node's formula depends on the formulas of its operands alone
formula_same : (n : Node) (ts us : List Formula) → ((i : ℕ) → i ∈ operands n → formula_at ts i ≡ formula_at us i) → formula_of ts n ≡ formula_of us n
formula_same Node.bot ts us e = refl
formula_same (Node.atom k) ts us e = refl
formula_same (Node.not i) ts us e = ap neg (e i (Memᴰ.head refl))
formula_same (Node.and i j) ts us e = ap₂ conj (e i (Memᴰ.head refl)) (e j (Memᴰ.tail (Memᴰ.head refl)))
formula_same (Node.or i j) ts us e = ap₂ disj (e i (Memᴰ.head refl)) (e j (Memᴰ.tail (Memᴰ.head refl)))
formula_same (Node.imp i j) ts us e = ap₂ imp (e i (Memᴰ.head refl)) (e j (Memᴰ.tail (Memᴰ.head refl)))

-- in a held body, the formula of a number is that of its node over the formulas of all numbers
pub decoded_node : {b : Body} → Held b → (i : ℕ) → i < length b.nodes → decoded_at b.nodes i ≡ formula_of (formulas b.nodes) (node_at b i)
decoded_node {b} held i h =
    over
    ∙ sym (formula_same n (formulas b.nodes) (formulas before) (λ o m. known o (operands_earlier (before_node b i) n (held.earlier i h) o m)))
  where
    before : List Node
    before = take i b.nodes

    n : Node
    n = node_at b i

    split : b.nodes ≡ before ++ n ∷ drop (suc i) b.nodes
    split = split_at b.nodes i Node.bot h

    over : decoded_at b.nodes i ≡ formula_of (formulas before) n
    over = ap₂ decoded_at split (sym (length-take-le i b.nodes (omega arith))) ∙ decoded_over before (drop (suc i) b.nodes) n

    known : (o : ℕ) → o < length before → decoded_at b.nodes o ≡ decoded_at before o
    known o k = ap (λ (ns : List Node). decoded_at ns o) split ∙ formulas_prefix before (n ∷ drop (suc i) b.nodes) o k

-- the node that names these formulas, where each has a number
abbrev pub node_from : (Formula → ℕ) → Formula → Node
node_from number falsum = Node.bot
node_from number (Formula.atom k) = Node.atom k
node_from number (neg A) = Node.not (number A)
node_from number (conj A B) = Node.and (number A) (number B)
node_from number (disj A B) = Node.or (number A) (number B)
node_from number (imp A B) = Node.imp (number A) (number B)

node_back_lem : (number : Formula → ℕ) (ts : List Formula) (n : Node) → ((i : ℕ) → i ∈ operands n → number (formula_at ts i) ≡ i)
    → node_from number (formula_of ts n) ≡ n
node_back_lem number ts Node.bot e = refl
node_back_lem number ts (Node.atom k) e = refl
node_back_lem number ts (Node.not i) e = ap Node.not (e i (Memᴰ.head refl))
node_back_lem number ts (Node.and i j) e = ap₂ Node.and (e i (Memᴰ.head refl)) (e j (Memᴰ.tail (Memᴰ.head refl)))
node_back_lem number ts (Node.or i j) e = ap₂ Node.or (e i (Memᴰ.head refl)) (e j (Memᴰ.tail (Memᴰ.head refl)))
node_back_lem number ts (Node.imp i j) e = ap₂ Node.imp (e i (Memᴰ.head refl)) (e j (Memᴰ.tail (Memᴰ.head refl)))

abbrev at_or : {P : Type 0} → Dec P → ℕ → ℕ
at_or (yes h) k = 0
at_or (no n) k = suc k

-- the first place of a formula
pub position : List Formula → Formula → ℕ
position [] A = 0
position (B ∷ Bs) A = at_or (formula_discrete A B) (position Bs A)

position_first : (ts : List Formula) (i : ℕ) → i < length ts
    → (position ts (formula_at ts i) ≤ i) × (formula_at ts (position ts (formula_at ts i)) ≡ formula_at ts i)
unfolding position
position_first [] i h = absurd (omega arith)
position_first (B ∷ Bs) zero h = found (formula_discrete B B)
  where
    found : (d : Dec (B ≡ B)) → (at_or d (position Bs B) ≤ 0) × (formula_at (B ∷ Bs) (at_or d (position Bs B)) ≡ B)
    found (yes e) = (omega arith, refl)
    found (no n) = absurd (n refl)
position_first (B ∷ Bs) (suc i) h = cases (formula_discrete (formula_at Bs i) B) (position_first Bs i (omega arith))
  where
    A : Formula
    A = formula_at Bs i

    cases : (d : Dec (A ≡ B)) → (position Bs A ≤ i) × (formula_at Bs (position Bs A) ≡ A)
        → (at_or d (position Bs A) ≤ suc i) × (formula_at (B ∷ Bs) (at_or d (position Bs A)) ≡ A)
    cases (yes e) rest = (omega arith, sym e)
    cases (no n) rest = (omega (arith, rest.0), rest.1)

-- a formula's place is found among those before which it stands
pub position_among : (ts us : List Formula) (A : Formula) → A ∈ ts → (position (ts ++ us) A < length ts) × (formula_at ts (position (ts ++ us) A) ≡ A)
position_among ts us A m = (before, sym (get_or-append ts us falsum (position (ts ++ us) A) before) ∙ found.1)
  where
    at : (i : ℕ) × (i < length ts) × (formula_at ts i ≡ A)
    at = in_place_lem ts falsum m

    own : formula_at (ts ++ us) at.0 ≡ A
    own = get_or-append ts us falsum at.0 at.1 ∙ at.2

    found : (position (ts ++ us) A ≤ at.0) × (formula_at (ts ++ us) (position (ts ++ us) A) ≡ A)
    found =
        subst (λ (B : Formula). (position (ts ++ us) B ≤ at.0) × (formula_at (ts ++ us) (position (ts ++ us) B) ≡ B)) own
        (position_first (ts ++ us) at.0 (omega (arith, at.1, length-append ts us)))

    before : position (ts ++ us) A < length ts
    before = omega (arith, at.1, found.0)

module _ (b : Body) (held : Held b) where
  all_formulas : List Formula
  all_formulas = formulas b.nodes

  node_from_own : (j : ℕ) → j < length b.nodes → ((o : ℕ) → o < j → position all_formulas (formula_at all_formulas o) ≡ o)
      → node_from (position all_formulas) (formula_at all_formulas j) ≡ node_at b j
  unfolding all_formulas
  node_from_own j h own =
      ap (node_from (position all_formulas)) (decoded_node held j h)
      ∙ node_back_lem (position all_formulas) all_formulas (node_at b j) (λ o m. own o (before o m))
    where
      before : (o : ℕ) → o ∈ operands (node_at b j) → o < j
      before o m = omega (arith, operands_earlier (before_node b j) (node_at b j) (held.earlier j h) o m, length-take-le j b.nodes (omega arith))

  position_own : (n i : ℕ) → i < n → i < length b.nodes → position all_formulas (formula_at all_formulas i) ≡ i
  unfolding all_formulas
  position_own zero i h k = absurd (omega arith)
  position_own (suc n) i h k = own (λ o l. position_own n o l)
    where
      place : ℕ
      place = position all_formulas (formula_at all_formulas i)

      first : (place ≤ i) × (formula_at all_formulas place ≡ formula_at all_formulas i)
      first = position_first all_formulas i (rw length_formulas k)

      own : ((o : ℕ) → o < n → o < length b.nodes → position all_formulas (formula_at all_formulas o) ≡ o) → place ≡ i
      own earlier =
          held.distinct place i (omega (arith, first.0)) k
          (sym (back place first.0) ∙ ap (node_from (position all_formulas)) first.1 ∙ back i (omega arith))
        where
          back : (j : ℕ) → j ≤ i → node_from (position all_formulas) (formula_at all_formulas j) ≡ node_at b j
          back j l = node_from_own j (omega arith) (λ o m. earlier o (omega arith) (omega arith))

  -- in a held body equal formulas have equal numbers
  pub equal_numbers : (i j : ℕ) → i < length b.nodes → j < length b.nodes → decoded_at b.nodes i ≡ decoded_at b.nodes j → i ≡ j
  unfolding all_formulas
  equal_numbers i j h k e = sym (position_own (suc i) i (omega arith) h) ∙ ap (position all_formulas) e ∙ position_own (suc j) j (omega arith) k
