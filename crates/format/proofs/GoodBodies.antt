-- What a good body is: within the limits, its formulas distinct and each over earlier ones, its sides good, its premises
-- earlier rows, and its rows a derivation.
use Prim.Native.Nat.{ℕ, zero, suc, ◌+◌, ◌≤◌, ◌<◌}
use native.Mathlib.Decide.{dec_lt}
use native.Mathlib.Omega.{arith}
use mathlib.Core.Path.{◌≡◌, refl, sym, ap, ap₂, subst, ◌∙◌}
use mathlib.Core.Bool.{Bool, false, true≢false}
use mathlib.Core.List.Memᴰ
use mathlib.Core.List.{
  List,
  [],
  ◌∷◌,
  ◌++◌,
  map,
  map-append,
  reverse,
  reverse_aux,
  reverse-append,
}
use mathlib.Core.Logic.{◌⊎◌, inl, inr, ⊎_elim}
use mathlib.Core.Option.{none}
use lib.ListN.{length, get_or, take, length-append, get_or-append}
use lib.Seq.{take-append-le, take_at, get_or_at}
use borrow.Author.Tests.{leb-false}
use Rattle.equilibrium.specs.Meaning.{◌∈◌, ◌⊆◌}
use Rattle.elk.specs.Rules.{rules}
use Rattle.elk.specs.Derivation.{Derivation, start, row}
use Rattle.elk.proofs.RuleCodes.{every_rule}
use Rattle.format.specs.Text.{any}
use Rattle.format.specs.File.{Node, Row, Body, add_node, add_row, sequent_of}
use Rattle.format.specs.Tables.{node_record, join_all, left_pool, right_pool, most_atoms, most_formulas, most_rows, most_entries}
use Rattle.format.specs.Tests.{first, not_earlier, unknown_formula, refers_ahead, same_node, bad_side, premises_of, node_tests, body_tests}
use Rattle.format.specs.Good.{GoodBody, atoms, formula, derived}
use Rattle.format.proofs.Booleans.{any_false, list_same}
use Rattle.format.proofs.Tested.{passes, PassedRow, passed_row}
use Rattle.format.proofs.RowPasses.{instance_of}

-- ---- items and their places

pub in_get_d : {X : Type 0} (xs : List X) (i : ℕ) (d : X) → i < length xs → get_or xs i d ∈ xs
in_get_d [] i d h = absurd (omega arith)
in_get_d (x ∷ xs) zero d h = Memᴰ.head refl
in_get_d (x ∷ xs) (suc i) d h = Memᴰ.tail (in_get_d xs i d (omega arith))

pub in_place_lem : {X : Type 0} {x : X} (xs : List X) (d : X) → x ∈ xs → (i : ℕ) × (i < length xs) × (get_or xs i d ≡ x)
in_place_lem [] d m = absurd (Memᴰ.not-nil m)
in_place_lem {x} (y ∷ ys) d m =
    ⊎_elim (λ (e : x ≡ y). (0, omega arith, sym e)) (λ k. let at = in_place_lem {x = x} ys d k in (suc at.0, omega (arith, at.1), at.2)) (Memᴰ.cases_cons m)

-- the last of n + 1, or one before it
pub at_end : (n i : ℕ) → i < suc n → (i < n) ⊎ (i ≡ n)
at_end n i h = cases (dec_lt i n)
  where
    cases : Dec (i < n) → (i < n) ⊎ (i ≡ n)
    cases (yes l) = inl l
    cases (no k) = inr (omega arith)

-- no two places hold the same
abbrev pub Distinct : {X : Type 0} → X → List X → Type 0
Distinct d xs = (i j : ℕ) → i < length xs → j < length xs → get_or xs i d ≡ get_or xs j d → i ≡ j

module _ {X : Type 0} (d : X) (xs : List X) (x : X) where
  -- an item has none like it before it
  pub distinct_apart : (ys : List X) → Distinct d (xs ++ x ∷ ys) → x ∈ xs → ⊥
  distinct_apart ys apart m =
      let at = in_place_lem xs d m in
      let same = get_or-append xs (x ∷ ys) d at.0 at.1 ∙ at.2 ∙ sym (get_or_at xs x ys d (length xs) refl) in
      let all = length-append xs (x ∷ ys) in
      omega (arith, at.1, apart at.0 (length xs) (omega (arith, at.1)) (omega arith) same)

  -- one more that is not there yet
  pub distinct_snoc : Distinct d xs → (x ∈ xs → ⊥) → Distinct d (xs ++ x ∷ [])
  distinct_snoc apart new i j h k e = cases (at_end (length xs) i (omega (arith, all))) (at_end (length xs) j (omega (arith, all)))
    where
      all : length (xs ++ x ∷ []) ≡ length xs + 1
      all = length-append xs (x ∷ [])

      old : (n : ℕ) → n < length xs → get_or (xs ++ x ∷ []) n d ≡ get_or xs n d
      old n l = get_or-append xs (x ∷ []) d n l

      own : (n : ℕ) → n ≡ length xs → get_or (xs ++ x ∷ []) n d ≡ x
      own n q = get_or_at xs x [] d n (sym q)

      fresh : (n : ℕ) → n < length xs → get_or xs n d ≡ x → ⊥
      fresh n l q = new (Memᴰ.cast (sym q) (in_get_d xs n d l))

      cases : (i < length xs) ⊎ (i ≡ length xs) → (j < length xs) ⊎ (j ≡ length xs) → i ≡ j
      cases (inl l) (inl m) = apart i j l m (sym (old i l) ∙ e ∙ old j m)
      cases (inl l) (inr m) = absurd (fresh i l (sym (old i l) ∙ e ∙ own j m))
      cases (inr l) (inl m) = absurd (fresh j m (sym (old j m) ∙ sym e ∙ own i l))
      cases (inr l) (inr m) = l ∙ sym m

-- ---- what is held

-- the body before its node i, when there were no rows
abbrev pub before_node : Body → ℕ → Body
before_node b i = record { atoms = b.atoms; nodes = take i b.nodes; rows = [] }

abbrev pub node_at : Body → ℕ → Node
node_at b i = get_or b.nodes i Node.bot

pub record HeldRow (b : Body) (r : Row) : Type 0 where
  pub left_known : unknown_formula b r.left ≡ false
  pub right_known : unknown_formula b r.right ≡ false
  pub left_good : bad_side r.left ≡ false
  pub right_good : bad_side r.right ≡ false

pub record Held (b : Body) : Type 0 where
  pub few_atoms : b.atoms ≤ most_atoms
  pub few_nodes : length b.nodes ≤ most_formulas
  pub few_rows : length b.rows ≤ most_rows
  pub few_left : length (left_pool b.rows) ≤ most_entries
  pub few_right : length (right_pool b.rows) ≤ most_entries
  pub earlier : (i : ℕ) → i < length b.nodes → refers_ahead (before_node b i) (node_at b i) ≡ false
  pub distinct : (i j : ℕ) → i < length b.nodes → j < length b.nodes → node_at b i ≡ node_at b j → i ≡ j
  pub rows : (r : Row) → r ∈ b.rows → HeldRow b r

in_aux : {X : Type 0} {x : X} (xs acc : List X) → x ∈ acc → x ∈ reverse_aux xs acc
in_aux [] acc m = m
in_aux (y ∷ ys) acc m = in_aux ys (y ∷ acc) (Memᴰ.tail m)

in_reverse : {X : Type 0} {x : X} (xs acc : List X) → x ∈ xs → x ∈ reverse_aux xs acc
in_reverse [] acc m = absurd (Memᴰ.not-nil m)
in_reverse {x} (y ∷ ys) acc m = ⊎_elim (λ (e : x ≡ y). in_aux ys (y ∷ acc) (Memᴰ.head e)) (λ k. in_reverse ys (y ∷ acc) k) (Memᴰ.cases_cons m)

pub derived_snoc : (nodes : List Node) (rows : List Row) (r : Row) → derived nodes (rows ++ r ∷ []) ≡ sequent_of nodes r ∷ derived nodes rows
derived_snoc nodes rows r = ap reverse (map-append (sequent_of nodes) rows (r ∷ [])) ∙ reverse-append (map (sequent_of nodes) rows) (sequent_of nodes r ∷ [])

-- the entries of one more row
pub joined_snoc : {A : Type 0} (f : A → List ℕ) (xs : List A) (x : A) → length (join_all f (xs ++ x ∷ [])) ≡ length (join_all f xs) + length (f x)
joined_snoc f [] x = omega (arith, length-append (f x) [])
joined_snoc f (y ∷ ys) x =
    omega (arith, joined_snoc f ys x, length-append (f y) (join_all f (ys ++ x ∷ [])), length-append (f y) (join_all f ys))

none_in : {X : Type 0} {x : X} {xs : List X} → xs ≡ [] → x ∈ xs → ⊥
none_in {x} e m = Memᴰ.not-nil (subst (λ ys. x ∈ ys) e m)

-- one more node that refers to earlier numbers and is not there yet
module _ (b : Body) (node : Node) (held : Held b) (rows : b.rows ≡ []) (ok : first (node_tests b node) ≡ none) where
  old : (i : ℕ) → i < length b.nodes → node_at (add_node b node) i ≡ node_at b i
  old i l = get_or-append b.nodes (node ∷ []) Node.bot i l

  new_one : (i : ℕ) → i ≡ length b.nodes → node_at (add_node b node) i ≡ node
  new_one i e = get_or_at b.nodes node [] Node.bot i (sym e)

  over : List Node → Node → Bool
  over ns n = refers_ahead (record { atoms = b.atoms; nodes = ns; rows = [] }) n

  node_earlier : (i : ℕ) → (i < length b.nodes) ⊎ (i ≡ length b.nodes) → refers_ahead (before_node (add_node b node) i) (node_at (add_node b node) i) ≡ false
  unfolding over
  node_earlier i (inl l) = ap₂ over (take-append-le i b.nodes (node ∷ []) (omega arith)) (old i l) ∙ held.earlier i l
  node_earlier i (inr e) =
      ap₂ over (take_at b.nodes (node ∷ []) i (sym e)) (new_one i e)
      ∙ ap (λ (rs : List Row). refers_ahead (record { atoms = b.atoms; nodes = b.nodes; rows = rs }) node) (sym rows)
      ∙ passes 7 (node_tests b node) ok

  new : node ∈ b.nodes → ⊥
  new m =
      true≢false (
      sym (list_same (node_record node)) ∙ any_false (λ k. same_node k node) b.nodes (passes 8 (node_tests b node) ok) node m)

  held_node : Held (add_node b node)
  held_node =
      record {
        few_atoms = held.few_atoms;
        few_nodes = omega (arith, leb-false most_formulas (length b.nodes) (passes 5 (node_tests b node) ok), length-append b.nodes (node ∷ []));
        few_rows = held.few_rows;
        few_left = held.few_left;
        few_right = held.few_right;
        earlier = λ i h. node_earlier i (at_end (length b.nodes) i (omega (arith, length-append b.nodes (node ∷ []))));
        distinct = distinct_snoc Node.bot b.nodes node held.distinct new;
        rows = λ r m. absurd (none_in rows m);
      }

-- one more row that passes its tests
held_row : (b : Body) (r : Row) → Held b → PassedRow b r → Held (add_row b r)
held_row b r held ok =
    record {
      few_atoms = held.few_atoms;
      few_nodes = held.few_nodes;
      few_rows = omega (arith, length-append b.rows (r ∷ []));
      few_left = omega (arith, joined_snoc (λ (q : Row). q.left) b.rows r);
      few_right = omega (arith, joined_snoc (λ (q : Row). q.right) b.rows r);
      earlier = held.earlier;
      distinct = held.distinct;
      rows = λ q m. ⊎_elim (old_row q) (λ k. subst (HeldRow (add_row b r)) (sym (Memᴰ.eq_of_singleton k)) own) (Memᴰ.append_cases b.rows m);
    }
  where
    old_row : (q : Row) → q ∈ b.rows → HeldRow (add_row b r) q
    old_row q k =
        let h = held.rows q k in
        record { left_known = h.left_known; right_known = h.right_known; left_good = h.left_good; right_good = h.right_good }

    own : HeldRow (add_row b r) r
    own = record { left_known = ok.left_known; right_known = ok.right_known; left_good = ok.left_good; right_good = ok.right_good }

pub good_held : {b : Body} → GoodBody b → Held b
good_held (atoms n h) =
    record {
      few_atoms = h;
      few_nodes = omega arith;
      few_rows = omega arith;
      few_left = omega arith;
      few_right = omega arith;
      earlier = λ i k. absurd (omega arith);
      distinct = λ i j k l e. absurd (omega arith);
      rows = λ r m. absurd (Memᴰ.not-nil m);
    }
good_held (formula {b} g rows node ok) = held_node b node (good_held g) rows ok
good_held (GoodBody.row {b} g r ok) = held_row b r (good_held g) (passed_row b r ok)

-- the premises' sequents are among those of the earlier rows
premises_derived : (b : Body) (r : Row) → any (not_earlier (length b.rows)) r.premises ≡ false → premises_of b r ⊆ derived b.nodes b.rows
premises_derived b r known s m =
    among r.premises (λ i k. leb-false (length b.rows) i (any_false (not_earlier (length b.rows)) r.premises known i k)) m
  where
    among : (is : List ℕ) → ((i : ℕ) → i ∈ is → i < length b.rows) → s ∈ map (λ i. sequent_of b.nodes (get_or b.rows i r)) is
        → s ∈ derived b.nodes b.rows
    among [] h k = absurd (Memᴰ.not-nil k)
    among (i ∷ is) h k =
        let there = Memᴰ.map (sequent_of b.nodes) (in_get_d b.rows i r (h i (Memᴰ.head refl))) in
        ⊎_elim (λ e. in_reverse _ [] (Memᴰ.cast e there)) (λ j. among is (λ x l. h x (Memᴰ.tail l)) j) (Memᴰ.cases_cons k)

-- the rows of a good body, decoded, are a derivation
pub good_derivation : {b : Body} → GoodBody b → Derivation rules (derived b.nodes b.rows)
good_derivation (atoms n h) = start
good_derivation (formula {b} g rows node ok) = subst (λ (rs : List Row). Derivation rules (derived (b.nodes ++ node ∷ []) rs)) (sym rows) start
good_derivation (GoodBody.row {b} g r ok) =
    let premises = premises_derived b r (passed_row b r ok).premises_earlier in
    subst (Derivation rules) (sym (derived_snoc b.nodes b.rows r)) (
    row (good_derivation g) r.rule (every_rule r.rule) _ (premises_of b r) premises (instance_of b r (passes 11 (body_tests b r) ok)))
