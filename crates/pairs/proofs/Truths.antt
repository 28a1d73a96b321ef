-- The truths of the formulas of a table: one for each, the earlier ones the same whatever follows, and where the table begins with the
-- formulas of a good body, the truths of its formulas. Assumes nothing.
use Prim.Native.Nat.{ℕ, zero, suc, ◌+◌, ◌<◌}
use native.Mathlib.Numerals.{add-one}
use native.Mathlib.Omega.{arith}
use mathlib.Core.Bool.{Bool, true, false, not, ◌&&◌, ◌||◌}
use mathlib.Core.List.Memᴰ
use mathlib.Core.List.{List, [], ◌∷◌, ◌++◌, map, map-append, append_assoc}
use mathlib.Core.Logic.{⊎_elim}
use mathlib.Core.Path.{◌≡◌, refl, sym, ap, ap₂, subst, ◌∙◌}
use lib.Dec.{eqb}
use lib.ListN.{length, get_or, set, take, drop, length-append, length-map, length-take, get_or-append, get_or-map}
use lib.Seq.{get_or_at, set_at, take_at, drop-cons}
use Rattle.equilibrium.specs.Formula.{Formula}
use Rattle.equilibrium.specs.Meaning.{◌∈◌}
use Rattle.format.specs.File.{Node, Body, decoded_at, formula_of, formulas}
use Rattle.format.specs.Tables.{node_record}
use Rattle.format.specs.Tests.{refers_ahead, unknown_formula}
use Rattle.format.proofs.GoodBodies.{at_end, before_node, good_held, node_at as heldNode}
use Rattle.format.proofs.Formulas.{known_earlier, decoded_node}
use Rattle.tables.specs.declared.records.NodeRecord.{NodeRecord}
use Rattle.tables.specs.Records.{node_at, record_from}
use Rattle.tables.specs.Holding.{Formulas}
use Rattle.tables.proofs.Encoded.{node_held}
use Rattle.pairs.specs.Pairs.{holds_in}
use Rattle.pairs.specs.Truths.{truth_of, by_word, there_by, here_by, truths, truths_there, truths_here, digit, noted, noted_at, Notes}

-- a rule, by which a formula's truth follows from its number, those before it and its record
abbrev Rule : Type 0
Rule = ℕ → List Bool → NodeRecord → Bool

module _ (rule : Rule) (formulas : List ℕ) where
  -- one for each formula
  pub length_truths : (n : ℕ) → length (truths rule formulas n) ≡ n
  unfolding truths
  length_truths zero = refl
  length_truths (suc n) = length-append (truths rule formulas n) _ ∙ omega (arith, length_truths n)

  -- the truth of the last formula
  last_truth : (n : ℕ) → truth_of (truths rule formulas (suc n)) n ≡ rule n (truths rule formulas n) (record_from (node_at formulas n))
  unfolding truths
  last_truth n = get_or_at (truths rule formulas n) _ [] false n (length_truths n)

  -- later formulas change no truth
  pub truth_kept : (n i : ℕ) → i < n → truth_of (truths rule formulas n) i ≡ truth_of (truths rule formulas (suc i)) i
  unfolding truths
  truth_kept zero i h = absurd (omega arith)
  truth_kept (suc n) i h =
      ⊎_elim (λ l. before l ∙ truth_kept n i l) (λ (e : i ≡ n). ap (λ (m : ℕ). truth_of (truths rule formulas (suc m)) i) (sym e)) (at_end n i h)
    where
      before : i < n → truth_of (truths rule formulas (suc n)) i ≡ truth_of (truths rule formulas n) i
      before l = get_or-append (truths rule formulas n) _ false i (rw length_truths l)

-- rules that agree on the first n formulas give the same truths
pub truths_agree : (rule other : Rule) (formulas : List ℕ) (n : ℕ)
    → ((i : ℕ) → i < n → (before : List Bool) (r : NodeRecord) → rule i before r ≡ other i before r)
    → truths rule formulas n ≡ truths other formulas n
unfolding truths
truths_agree rule other formulas zero h = refl
truths_agree rule other formulas (suc n) h =
    let rest = truths_agree rule other formulas n (λ i l. h i (omega arith)) in
    ap₂ (λ (ts : List Bool) (t : Bool). ts ++ t ∷ []) rest
    (h n (omega arith) _ _ ∙ ap (λ (ts : List Bool). other n ts (record_from (node_at formulas n))) rest)

-- ---- truths noted in a table

module _ (rule : Rule) (formulas table : List ℕ) where
  -- the table with the first n noted
  abbrev notes : ℕ → List ℕ
  notes n = noted (truths rule formulas n) table

  -- n digits
  length_digits : (n : ℕ) → length (map digit (truths rule formulas n)) ≡ n
  length_digits n = length-map (truths rule formulas n) digit ∙ length_truths rule formulas n

  -- the front of the table, which notes the first n
  pub noted_front : (n : ℕ) → take n (notes n) ≡ map digit (truths rule formulas n)
  noted_front n = take_at _ _ n (length_digits n)

  -- one formula more
  pub noted_next : (n v : ℕ) → n < length table → v ≡ digit (rule n (truths rule formulas n) (record_from (node_at formulas n)))
      → set (notes n) n v ≡ notes (n + 1)
  unfolding truths
  noted_next n v h e =
      ap (λ (rest : List ℕ). set (held ++ rest) n v) split
      ∙ set_at held (get_or table n 0) (drop (suc n) table) v n (length_digits n)
      ∙ sym (append_assoc held (v ∷ []) (drop (suc n) table))
      ∙ ap₂ (λ (front rest : List ℕ). front ++ rest) (ap (λ (d : ℕ). held ++ d ∷ []) e ∙ sym (map-append digit (truths rule formulas n) _)) rest
      ∙ ap notes (sym (add-one n))
    where
      held : List ℕ
      held = map digit (truths rule formulas n)

      split : drop (length (truths rule formulas n)) table ≡ get_or table n 0 ∷ drop (suc n) table
      split = ap (λ (k : ℕ). drop k table) (length_truths rule formulas n) ∙ drop-cons table n 0 h

      rest : drop (suc n) table ≡ drop (length (truths rule formulas (suc n))) table
      rest = ap (λ (k : ℕ). drop k table) (sym (length_truths rule formulas (suc n)))

-- what is noted is read again
pub noted_read : (ts : List Bool) (table : List ℕ) (i : ℕ) → i < length ts → noted_at (noted ts table) i ≡ truth_of ts i
noted_read ts table i h =
    ap (λ (d : ℕ). eqb d 1) (get_or-append (map digit ts) _ 0 i (rw length-map h) ∙ get_or-map digit ts i false)
    ∙ read (truth_of ts i)
  where
    read : (t : Bool) → eqb (digit t) 1 ≡ t
    read true = refl
    read false = refl

-- ---- the formulas of a good body

-- twice the same
pub and_self : (x : Bool) → (x && x) ≡ x
and_self true = refl
and_self false = refl

module _ (b : Body) (h t : ℕ) where
  -- the truths listed are those of the first formulas in (h,t)
  abbrev Right : List Bool → Type 0
  Right ts = (j : ℕ) → j < length ts → truth_of ts j ≡ holds_in h t (decoded_at b.nodes j)

  module _ (i : ℕ) (before : List Bool) (as_many : length before ≡ i) (right : Right before) where
    -- the truth of a formula by its number
    abbrev truth : ℕ → Bool
    truth j = holds_in h t (decoded_at b.nodes j)

    -- an operand has it, since it is earlier
    operand : (is : List ℕ) → unknown_formula (before_node b i) is ≡ false → (j : ℕ) → j ∈ is → truth_of before j ≡ truth j
    operand is e j m = right j (omega (arith, known_earlier (before_node b i) is e j m, length-take i b.nodes))

    -- a connective of two operands
    two : (f : Bool → Bool → Bool) (j k : ℕ) → unknown_formula (before_node b i) (j ∷ k ∷ []) ≡ false
        → f (truth_of before j) (truth_of before k) ≡ f (truth j) (truth k)
    two f j k e = ap₂ f (operand (j ∷ k ∷ []) e j (Memᴰ.head refl)) (operand (j ∷ k ∷ []) e k (Memᴰ.tail (Memᴰ.head refl)))

    -- by its record and its truth in (t,t), a formula has its truth in (h,t)
    node_here : (m : Node) → refers_ahead (before_node b i) m ≡ false
        → here_by h (holds_in t t (formula_of (formulas b.nodes) m)) before (record_from (node_record m)) ≡ holds_in h t (formula_of (formulas b.nodes) m)
    unfolding by_word holds_in
    node_here Node.bot e = refl
    node_here (Node.atom k) e = refl
    node_here (Node.not j) e = refl
    node_here (Node.and j k) e = two (λ A B. A && B) j k e
    node_here (Node.or j k) e = two (λ A B. A || B) j k e
    node_here (Node.imp j k) e =
        let there = not (holds_in t t (decoded_at b.nodes j)) || holds_in t t (decoded_at b.nodes k) in
        ap₂ (λ (x y : Bool). x && y) (and_self there) (two (λ A B. not A || B) j k e)

  module _ (rule : Rule) (table : List ℕ) where
    -- the rule is right of each of n formulas, if the truths before it are
    abbrev Sound : ℕ → Type 0
    Sound n =
        (i : ℕ) → i < n → i < length b.nodes → (before : List Bool) → length before ≡ i → Right before
        → rule i before (record_from (node_at table i)) ≡ holds_in h t (decoded_at b.nodes i)

    -- the truths by the rule are right
    abbrev AllRight : ℕ → Type 0
    AllRight n = (i : ℕ) → i < n → i < length b.nodes → truth_of (truths rule table n) i ≡ holds_in h t (decoded_at b.nodes i)

    -- by induction over the formulas
    truths_right : (n : ℕ) → Sound n → AllRight n
    truths_right zero sound i l k = absurd (omega arith)
    truths_right (suc n) sound i l k = ⊎_elim old own (at_end n i l) (truths_right n (λ j m. sound j (omega arith)))
      where
        old : i < n → AllRight n → truth_of (truths rule table (suc n)) i ≡ holds_in h t (decoded_at b.nodes i)
        old m earlier = truth_kept rule table (suc n) i l ∙ sym (truth_kept rule table n i m) ∙ earlier i m k

        own : i ≡ n → AllRight n → truth_of (truths rule table (suc n)) i ≡ holds_in h t (decoded_at b.nodes i)
        own e earlier =
            let as_many = length_truths rule table n in
            ap (truth_of (truths rule table (suc n))) e
            ∙ last_truth rule table n
            ∙ sound n (omega arith) (omega arith) (truths rule table n) as_many (λ j m. earlier j (omega arith) (omega arith))
            ∙ ap (λ (m : ℕ). holds_in h t (decoded_at b.nodes m)) (sym e)

-- in (t,t), where a formula's truth is its own
node_there : (b : Body) (t i : ℕ) (before : List Bool) → length before ≡ i → Right b t t before → (m : Node) → refers_ahead (before_node b i) m ≡ false
    → there_by t before (record_from (node_record m)) ≡ holds_in t t (formula_of (formulas b.nodes) m)
unfolding by_word holds_in
node_there b t i before as_many right Node.bot e = refl
node_there b t i before as_many right (Node.atom k) e = refl
node_there b t i before as_many right (Node.not j) e = ap not (operand b t t i before as_many right (j ∷ []) e j (Memᴰ.head refl))
node_there b t i before as_many right (Node.and j k) e = two b t t i before as_many right (λ A B. A && B) j k e
node_there b t i before as_many right (Node.or j k) e = two b t t i before as_many right (λ A B. A || B) j k e
node_there b t i before as_many right (Node.imp j k) e = two b t t i before as_many right (λ A B. not A || B) j k e ∙ sym (and_self _)

module _ {b : Body} {table : List ℕ} (g : Formulas b table) where
  -- what holds of the record and the formula of each node holds of the table's record and the formula of its number
  pub each_node : (P : NodeRecord → Formula → Type 0) (i : ℕ) → i < length b.nodes
      → ((m : Node) → refers_ahead (before_node b i) m ≡ false → P (record_from (node_record m)) (formula_of (formulas b.nodes) m))
      → P (record_from (node_at table i)) (decoded_at b.nodes i)
  each_node P i h p =
      let held = good_held g.good in
      subst (λ (r : List ℕ). P (record_from r) (decoded_at b.nodes i)) (sym (node_held g.table i Node.bot h))
      (subst (P (record_from (node_record (heldNode b i)))) (sym (decoded_node held i h)) (p (heldNode b i) (held.earlier i h)))

  -- the truths in (t,t) by the table are those of the formulas
  pub there_right : (t n i : ℕ) → i < n → i < length b.nodes → truth_of (truths_there table t n) i ≡ holds_in t t (decoded_at b.nodes i)
  there_right t n =
      truths_right b t t (λ i. there_by t) table n
      (λ i l k before as_many right. each_node (λ r A. there_by t before r ≡ holds_in t t A) i k (node_there b t i before as_many right))

  -- and those in (h,t), by those in (t,t)
  pub here_right : (h t : ℕ) (there : ℕ → Bool) (n : ℕ) → ((i : ℕ) → i < n → i < length b.nodes → there i ≡ holds_in t t (decoded_at b.nodes i))
      → (i : ℕ) → i < n → i < length b.nodes → truth_of (truths_here table h there n) i ≡ holds_in h t (decoded_at b.nodes i)
  here_right h t there n known =
      truths_right b h t (λ i. here_by h (there i)) table n
      (λ i l k before as_many right.
      ap (λ (x : Bool). here_by h x before (record_from (node_at table i))) (known i l k)
      ∙ each_node (λ r A. here_by h (holds_in t t A) before r ≡ holds_in h t A) i k (node_here b h t i before as_many right))

  -- the table of notes says so
  pub notes_there : (t n : ℕ) (before : List ℕ) {after : List ℕ} → after ≡ noted (truths_there table t n) before → Notes b n t t after
  notes_there t n before e i l k =
      ap (λ (notes : List ℕ). noted_at notes i) e
      ∙ noted_read (truths_there table t n) before i (rw length_truths l)
      ∙ there_right t n i l k

  -- and here
  pub notes_here : (h t n : ℕ) (there before : List ℕ) {after : List ℕ} → Notes b n t t there → after ≡ noted (truths_here table h (noted_at there) n) before
      → Notes b n h t after
  notes_here h t n there before known e i l k =
      ap (λ (notes : List ℕ). noted_at notes i) e
      ∙ noted_read (truths_here table h (noted_at there) n) before i (rw length_truths l)
      ∙ here_right h t (noted_at there) n known i l k
