-- Formulas read by number: the record of a formula tells its word, and the atom or the formulas that its operands are. For a
-- table that begins with the formulas of a good body.
use Prim.Native.Nat.{ℕ, zero, suc, ◌<◌}
use native.Mathlib.Omega.{arith}
use mathlib.Core.Bool.{false}
use mathlib.Core.List.Memᴰ
use mathlib.Core.List.{List, [], ◌∷◌}
use mathlib.Core.Path.{◌≡◌, refl, sym, ap, subst, ◌∙◌}
use borrow.Author.Tests.{leb-false}
use lib.ListN.{length, length-take}
use Rattle.equilibrium.specs.Formula.{Formula, falsum, atom, neg, conj, disj, imp}
use Rattle.equilibrium.specs.Meaning.{◌∈◌}
use Rattle.format.specs.File.{Node, Body, decoded_at, formula_of, formulas}
use Rattle.format.specs.Tables.{node_record}
use Rattle.format.specs.Tests.{refers_ahead, unknown_formula}
use Rattle.format.proofs.GoodBodies.{good_held, before_node, node_at as heldNode}
use Rattle.format.proofs.Formulas.{known_earlier, decoded_node}
use Rattle.tables.specs.declared.records.NodeRecord.{NodeRecord}
use Rattle.tables.specs.Records.{node_at, record_from}
use Rattle.tables.specs.Holding.{Formulas}
use Rattle.tables.proofs.Encoded.{node_held}

-- what a formula's record tells of it: its word, and the atom or the formulas that its operands are
pub data Told (b : Body) (n : NodeRecord) (F : Formula) : Type 0 where
  told_bot : n.word ≡ 0 → F ≡ falsum → Told b n F
  told_atom : n.word ≡ 1 → n.first < b.atoms → F ≡ atom n.first → Told b n F
  told_not : n.word ≡ 2 → n.first < length b.nodes → F ≡ neg (decoded_at b.nodes n.first) → Told b n F
  told_and : n.word ≡ 3 → n.first < length b.nodes → n.second < length b.nodes
      → F ≡ conj (decoded_at b.nodes n.first) (decoded_at b.nodes n.second) → Told b n F
  told_or : n.word ≡ 4 → n.first < length b.nodes → n.second < length b.nodes
      → F ≡ disj (decoded_at b.nodes n.first) (decoded_at b.nodes n.second) → Told b n F
  told_imp : n.word ≡ 5 → n.first < length b.nodes → n.second < length b.nodes
      → F ≡ imp (decoded_at b.nodes n.first) (decoded_at b.nodes n.second) → Told b n F

module _ (b : Body) (i : ℕ) where
  earlier_known : (is : List ℕ) → unknown_formula (before_node b i) is ≡ false → (j : ℕ) → j ∈ is → j < length b.nodes
  earlier_known is e j m = omega (arith, known_earlier (before_node b i) is e j m, length-take i b.nodes)

  node_told : (n : Node) → refers_ahead (before_node b i) n ≡ false → Told b (record_from (node_record n)) (formula_of (formulas b.nodes) n)
  node_told Node.bot e = told_bot refl refl
  node_told (Node.atom k) e = told_atom refl (leb-false b.atoms k e) refl
  node_told (Node.not j) e = told_not refl (earlier_known (j ∷ []) e j (Memᴰ.head refl)) refl
  node_told (Node.and j k) e =
      told_and refl (earlier_known (j ∷ k ∷ []) e j (Memᴰ.head refl)) (earlier_known (j ∷ k ∷ []) e k (Memᴰ.tail (Memᴰ.head refl))) refl
  node_told (Node.or j k) e =
      told_or refl (earlier_known (j ∷ k ∷ []) e j (Memᴰ.head refl)) (earlier_known (j ∷ k ∷ []) e k (Memᴰ.tail (Memᴰ.head refl))) refl
  node_told (Node.imp j k) e =
      told_imp refl (earlier_known (j ∷ k ∷ []) e j (Memᴰ.head refl)) (earlier_known (j ∷ k ∷ []) e k (Memᴰ.tail (Memᴰ.head refl))) refl

-- record i of the formulas table tells formula i
pub told : {b : Body} {table : List ℕ} → Formulas b table → (i : ℕ) → i < length b.nodes → Told b (record_from (node_at table i)) (decoded_at b.nodes i)
told {b} {table} g i h =
    subst (λ (r : List ℕ). Told b (record_from r) (decoded_at b.nodes i)) (sym (node_held g.table i Node.bot h))
    (subst (λ (F : Formula). Told b (record_from (node_record (heldNode b i))) F)
    (sym (decoded_node (good_held g.good) i h)) (node_told b i (heldNode b i) ((good_held g.good).earlier i h)))

-- the same of a record that was read
pub told_of : {b : Body} {table : List ℕ} {n : NodeRecord} {i j : ℕ}
    → Formulas b table → n ≡ record_from (node_at table i) → i ≡ j → j < length b.nodes → Told b n (decoded_at b.nodes j)
told_of {b} {table} {n} {i} {j} g e k h =
    subst (λ (m : NodeRecord). Told b m (decoded_at b.nodes j)) (sym (e ∙ ap (λ (x : ℕ). record_from (node_at table x)) k)) (told g j h)

-- what a word says of the formula
abbrev pub ByWord : Body → NodeRecord → Formula → ℕ → Type 0
ByWord b n F zero = F ≡ falsum
ByWord b n F (suc zero) = (n.first < b.atoms) × (F ≡ atom n.first)
ByWord b n F (suc (suc zero)) = (n.first < length b.nodes) × (F ≡ neg (decoded_at b.nodes n.first))
ByWord b n F (suc (suc (suc zero))) =
    (n.first < length b.nodes) × (n.second < length b.nodes) × (F ≡ conj (decoded_at b.nodes n.first) (decoded_at b.nodes n.second))
ByWord b n F (suc (suc (suc (suc zero)))) =
    (n.first < length b.nodes) × (n.second < length b.nodes) × (F ≡ disj (decoded_at b.nodes n.first) (decoded_at b.nodes n.second))
ByWord b n F (suc (suc (suc (suc (suc zero))))) =
    (n.first < length b.nodes) × (n.second < length b.nodes) × (F ≡ imp (decoded_at b.nodes n.first) (decoded_at b.nodes n.second))
ByWord b n F (suc (suc (suc (suc (suc (suc k)))))) = ⊥

pub by_word : {b : Body} {n : NodeRecord} {F : Formula} → Told b n F → {w : ℕ} → n.word ≡ w → ByWord b n F w
by_word {b} {n} {F} t {w} e = subst (ByWord b n F) e (own t)
  where
    own : Told b n F → ByWord b n F n.word
    own (told_bot e f) = subst (ByWord b n F) (sym e) f
    own (told_atom e k f) = subst (ByWord b n F) (sym e) (k, f)
    own (told_not e k f) = subst (ByWord b n F) (sym e) (k, f)
    own (told_and e k l f) = subst (ByWord b n F) (sym e) (k, l, f)
    own (told_or e k l f) = subst (ByWord b n F) (sym e) (k, l, f)
    own (told_imp e k l f) = subst (ByWord b n F) (sym e) (k, l, f)

-- what the formula says of its record
abbrev pub ByFormula : Body → NodeRecord → Formula → Type 0
ByFormula b n falsum = n.word ≡ 0
ByFormula b n (atom k) = (n.word ≡ 1) × (n.first ≡ k)
ByFormula b n (neg A) = (n.word ≡ 2) × (decoded_at b.nodes n.first ≡ A)
ByFormula b n (conj A B) = (n.word ≡ 3) × (decoded_at b.nodes n.first ≡ A) × (decoded_at b.nodes n.second ≡ B)
ByFormula b n (disj A B) = (n.word ≡ 4) × (decoded_at b.nodes n.first ≡ A) × (decoded_at b.nodes n.second ≡ B)
ByFormula b n (imp A B) = (n.word ≡ 5) × (decoded_at b.nodes n.first ≡ A) × (decoded_at b.nodes n.second ≡ B)

pub by_formula : {b : Body} {n : NodeRecord} {F : Formula} → Told b n F → {G : Formula} → F ≡ G → ByFormula b n G
by_formula {b} {n} {F} t {G} e = subst (ByFormula b n) e (own t)
  where
    own : Told b n F → ByFormula b n F
    own (told_bot w f) = subst (ByFormula b n) (sym f) w
    own (told_atom w k f) = subst (ByFormula b n) (sym f) (w, refl)
    own (told_not w k f) = subst (ByFormula b n) (sym f) (w, refl)
    own (told_and w k l f) = subst (ByFormula b n) (sym f) (w, refl, refl)
    own (told_or w k l f) = subst (ByFormula b n) (sym f) (w, refl, refl)
    own (told_imp w k l f) = subst (ByFormula b n) (sym f) (w, refl, refl)
