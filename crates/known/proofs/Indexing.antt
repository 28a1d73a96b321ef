-- The index of the formulas: what a walk along it finds, and the index with one formula more. Assumes nothing.
use Prim.Native.Nat.{ℕ, zero, suc, ◌+◌, ◌≤◌, ◌<◌}
use native.Mathlib.Decide.{dec_lt, ℕ_discrete}
use native.Mathlib.Omega.{arith}
use mathlib.Core.Bool.{Bool, true, false, cond, ◌||◌}
use mathlib.Core.List.{List, [], ◌∷◌, ◌++◌}
use mathlib.Core.Option.{none, some}
use mathlib.Core.Path.{◌≡◌, refl, sym, ap, ap₂, subst, ◌∙◌}
use borrow.Author.Tests.{lt-leb}
use lib.Dec.{leb}
use lib.ListN.{length, get_or, set, length-append, length-set}
use lib.Seq.{get_or_at, get_or-set_same, get_or-set_other}
use Rattle.format.specs.Text.{any, same_list}
use Rattle.format.specs.File.{Node}
use Rattle.format.specs.Tables.{node_record}
use Rattle.tables.specs.Records.{node_at, record_from, record_numbers}
use Rattle.tables.specs.Holding.{HoldsNodes}
use Rattle.known.specs.Index.{slot_notes, formula_notes, slot_of, slot_at, Last, Indexed, entered, NodeFound}
use Rattle.format.proofs.Equal.{same_false}
use Rattle.tables.proofs.Encoded.{node_held}

module _ {X : Type 0} (test : X → Bool) where
  any_none : (xs : List X) (d : X) → ((i : ℕ) → i < length xs → test (get_or xs i d) ≡ false) → any test xs ≡ false
  any_none [] d h = refl
  any_none (x ∷ xs) d h = ap₂ ◌||◌ (h 0 (omega arith)) (any_none xs d (λ i l. h (suc i) (omega arith)))

-- ---- a walk along the index

-- the record of a formula, as it is read
pub record_there : {nodes : List Node} {formulas : List ℕ} → HoldsNodes nodes formulas → (i : ℕ) → i < length nodes
    → record_numbers (record_from (node_at formulas i)) ≡ node_record (get_or nodes i Node.bot)
record_there {nodes} held i h = ap (λ (l : List ℕ). record_numbers (record_from l)) (node_held held i Node.bot h) ∙ same (get_or nodes i Node.bot)
  where
    same : (m : Node) → record_numbers (record_from (node_record m)) ≡ node_record m
    same Node.bot = refl
    same (Node.atom k) = refl
    same (Node.not k) = refl
    same (Node.and k l) = refl
    same (Node.or k l) = refl
    same (Node.imp k l) = refl

-- the walk for a record has come to one past a formula of its slot, or to 0: no formula from there on has the record
pub record Cursor (nodes : List Node) (numbers : List ℕ) (after : ℕ) : Type 0 where
  pub within : after ≤ length nodes
  pub of_slot : (i : ℕ) → after ≡ suc i → slot_at nodes i ≡ slot_of numbers
  pub earlier : (j : ℕ) → j < length nodes → node_record (get_or nodes j Node.bot) ≡ numbers → j < after

module _ (nodes : List Node) (numbers : List ℕ) where
  walk_ended : Cursor nodes numbers 0 → any (λ m. same_list (node_record m) numbers) nodes ≡ false
  walk_ended c = any_none (λ m. same_list (node_record m) numbers) nodes Node.bot (λ i h. same_false _ _ (λ e. omega (arith, c.earlier i h e)))

  module _ (notes : List ℕ) (index : Indexed nodes notes) where
    pub walk_start : Cursor nodes numbers (get_or notes (slot_notes + slot_of numbers) 0)
    walk_start =
        let last = index.slots (slot_of numbers) (omega arith) in
        record { within = last.within; of_slot = last.of_slot; earlier = λ j h e. last.none_later j h (ap slot_of e) }

    pub walk_falls : (i : ℕ) → Cursor nodes numbers (suc i) → get_or notes (formula_notes + i) 0 ≤ i
    walk_falls i c = (index.formulas i (omega (arith, c.within))).within

    pub walk_next : (i : ℕ) → Cursor nodes numbers (suc i) → (node_record (get_or nodes i Node.bot) ≡ numbers → ⊥)
        → Cursor nodes numbers (get_or notes (formula_notes + i) 0)
    walk_next i c other =
        let last = index.formulas i (omega (arith, c.within)) in
        let slot = c.of_slot i refl in
        record {
          within = omega (arith, last.within, c.within);
          of_slot = λ k e. last.of_slot k e ∙ slot;
          earlier = λ j h e. last.none_later j (before j (c.earlier j h e) e) (ap slot_of e ∙ sym slot);
        }
      where
        before : (j : ℕ) → j < suc i → node_record (get_or nodes j Node.bot) ≡ numbers → j < i
        before j h e = let apart : j ≡ i → ⊥ = λ k. other (ap (λ (n : ℕ). node_record (get_or nodes n Node.bot)) (sym k) ∙ e) in omega arith

-- the two answers of the walk
module _ (formulas notes numbers : List ℕ) where
  pub found_at : (at : ℕ) → record_numbers (record_from (node_at formulas at)) ≡ numbers
      → ((nodes : List Node) → HoldsNodes nodes formulas → Indexed nodes notes → at < length nodes) → NodeFound formulas notes numbers (some at)
  found_at at same inside =
      record {
        there = λ i e. let k : at ≡ i = cc in ap (λ (n : ℕ). record_numbers (record_from (node_at formulas n))) (sym k) ∙ same;
        within = λ nodes held index i e. let k : at ≡ i = cc in omega (arith, inside nodes held index);
        missing = λ nodes held index e. let z : ◌≡◌ {A = ℕ} 0 1 = cc in absurd (omega arith);
      }

  pub found_nowhere : ((nodes : List Node) → HoldsNodes nodes formulas → Indexed nodes notes → Cursor nodes numbers 0)
      → NodeFound formulas notes numbers none
  found_nowhere ended =
      record {
        there = λ i e. let z : ◌≡◌ {A = ℕ} 0 1 = cc in absurd (omega arith);
        within = λ nodes held index i e. let z : ◌≡◌ {A = ℕ} 0 1 = cc in absurd (omega arith);
        missing = λ nodes held index e. walk_ended nodes numbers (ended nodes held index);
      }

-- ---- the index of no formula, and with one more

pub index_none : (notes : List ℕ) → ((i : ℕ) → get_or notes i 0 ≡ 0) → Indexed [] notes
index_none notes zeros =
    record {
      few = omega arith;
      slots = λ s h. record {
        none_later = λ j l e. absurd (omega arith);
        within = omega (arith, zeros (slot_notes + s));
        of_slot = λ i e. absurd (omega (arith, zeros (slot_notes + s)));
      };
      formulas = λ i h. absurd (omega arith);
    }

-- notes of which those of the index are the same
pub index_kept : (nodes : List Node) (notes : List ℕ) → Indexed nodes notes → (k x : ℕ) → k < slot_notes → Indexed nodes (set notes k x)
index_kept nodes notes index k x h =
    record {
      few = index.few;
      slots = λ s l. subst (Last nodes s (length nodes)) (sym (get_or-set_other notes k (slot_notes + s) x 0 (λ e. omega arith))) (index.slots s l);
      formulas = λ i l. subst (Last nodes (slot_at nodes i) i) (sym (get_or-set_other notes k (formula_notes + i) x 0 (λ e. omega arith))) (index.formulas i l);
    }

module _ (nodes : List Node) (m : Node) where
  abbrev more : List Node
  more = nodes ++ m ∷ []

  longer : length more ≡ length nodes + 1
  longer = length-append nodes (m ∷ [])

  same_before : (xs : List Node) (i : ℕ) → i < length xs → get_or (xs ++ m ∷ []) i Node.bot ≡ get_or xs i Node.bot
  same_before [] i h = absurd (omega arith)
  same_before (x ∷ xs) zero h = refl
  same_before (x ∷ xs) (suc i) h = same_before xs i (omega arith)

  slot_before : (i : ℕ) → i < length nodes → slot_at more i ≡ slot_at nodes i
  slot_before i h = ap (λ (n : Node). slot_of (node_record n)) (same_before nodes i h)

  slot_last : slot_at more (length nodes) ≡ slot_of (node_record m)
  slot_last = ap (λ (n : Node). slot_of (node_record n)) (get_or_at nodes m [] Node.bot (length nodes) refl)

  -- what is known of the formulas before a place, with one formula more
  last_kept : (slot end after : ℕ) → end ≤ length nodes → Last nodes slot end after → Last more slot end after
  last_kept slot end after h last =
      record {
        none_later = λ j l e. last.none_later j l (sym (slot_before j (omega arith)) ∙ e);
        within = last.within;
        of_slot = λ i e. slot_before i (omega (arith, last.within)) ∙ last.of_slot i e;
      }

  module _ (notes : List ℕ) (index : Indexed nodes notes) (room : length nodes < 1024) (long : 3072 ≤ length notes) where
    abbrev place : ℕ
    place = slot_notes + slot_of (node_record m)

    abbrev linked : List ℕ
    linked = set notes (formula_notes + length nodes) (get_or notes place 0)

    abbrev after : List ℕ
    after = set linked place (length nodes + 1)

    slot_now : (s : ℕ) → s < 1024 → Dec (s ≡ slot_of (node_record m)) → Last more s (length more) (get_or after (slot_notes + s) 0)
    slot_now s h (yes e) =
        subst (Last more s (length more))
        (sym (ap (λ (k : ℕ). get_or after (slot_notes + k) 0) e
        ∙ get_or-set_same linked place (length nodes + 1) 0 (omega (arith, length-set notes (formula_notes + length nodes) (get_or notes place 0))))) (
        record {
          none_later = λ j l k. omega (arith, longer);
          within = omega (arith, longer);
          of_slot = λ i k. ap (slot_at more) (let last : i ≡ length nodes = omega arith in last) ∙ slot_last ∙ sym e;
        })
    slot_now s h (no n) =
        let last = index.slots s h in
        let kept = last_kept s (length nodes) (get_or notes (slot_notes + s) 0) (omega arith) last in
        subst (Last more s (length more))
        (sym (get_or-set_other linked place (slot_notes + s) (length nodes + 1) 0 (λ e. n (omega arith))
        ∙ get_or-set_other notes (formula_notes + length nodes) (slot_notes + s) (get_or notes place 0) 0 (λ e. omega arith))) (
        record {
          none_later = λ j l k. kept.none_later j (earlier j l k (dec_lt j (length nodes))) k;
          within = omega (arith, longer, last.within);
          of_slot = kept.of_slot;
        })
      where
        earlier : (j : ℕ) → j < length more → slot_at more j ≡ s → Dec (j < length nodes) → j < length nodes
        earlier j l k (yes before) = before
        earlier j l k (no late) = let last : j ≡ length nodes = omega (arith, longer) in absurd (n (sym k ∙ ap (slot_at more) last ∙ slot_last))

    formula_now : (i : ℕ) → i < length more → Dec (i < length nodes) → Last more (slot_at more i) i (get_or after (formula_notes + i) 0)
    formula_now i h (yes l) =
        subst (λ (s : ℕ). Last more s i (get_or after (formula_notes + i) 0)) (sym (slot_before i l)) (
        subst (Last more (slot_at nodes i) i)
        (sym (get_or-set_other linked place (formula_notes + i) (length nodes + 1) 0 (λ e. omega arith)
        ∙ get_or-set_other notes (formula_notes + length nodes) (formula_notes + i) (get_or notes place 0) 0 (λ e. omega arith)))
        (last_kept (slot_at nodes i) i (get_or notes (formula_notes + i) 0) (omega arith) (index.formulas i l)))
    formula_now i h (no n) =
        let last : i ≡ length nodes = omega (arith, longer) in
        subst (λ (k : ℕ). Last more (slot_at more k) k (get_or after (formula_notes + k) 0)) (sym last) (
        subst (λ (s : ℕ). Last more s (length nodes) (get_or after (formula_notes + length nodes) 0)) (sym slot_last) (
        subst (Last more (slot_of (node_record m)) (length nodes))
        (sym (get_or-set_other linked place (formula_notes + length nodes) (length nodes + 1) 0 (λ e. omega arith)
        ∙ get_or-set_same notes (formula_notes + length nodes) (get_or notes place 0) 0 (omega arith)))
        (last_kept (slot_of (node_record m)) (length nodes) (get_or notes place 0) (omega arith) (index.slots (slot_of (node_record m)) (omega arith)))))

    pub index_more : Indexed more (entered notes (length nodes) (node_record m))
    index_more =
        subst (Indexed more) (sym (ap (λ (b : Bool). cond b notes after) (lt-leb 1024 (length nodes) room))) (
        record {
          few = omega (arith, longer);
          slots = λ s h. slot_now s h (ℕ_discrete s (slot_of (node_record m)));
          formulas = λ i h. formula_now i h (dec_lt i (length nodes));
        })

-- entering a formula changes no length, and no note before those of the index
module _ (notes : List ℕ) (i : ℕ) (numbers : List ℕ) where
  abbrev slot : ℕ
  slot = slot_notes + slot_of numbers

  abbrev chained : List ℕ
  chained = set notes (formula_notes + i) (get_or notes slot 0)

  pub length_entered : length (entered notes i numbers) ≡ length notes
  length_entered = either (leb 1024 i)
    where
      either : (b : Bool) → length (cond b notes (set chained slot (i + 1))) ≡ length notes
      either true = refl
      either false = simp length-set

  pub entered_before : (k : ℕ) → k < slot_notes → get_or (entered notes i numbers) k 0 ≡ get_or notes k 0
  entered_before k h = either (leb 1024 i)
    where
      either : (b : Bool) → get_or (cond b notes (set chained slot (i + 1))) k 0 ≡ get_or notes k 0
      either true = refl
      either false =
          get_or-set_other chained slot k (i + 1) 0 (λ e. omega arith) ∙ get_or-set_other notes (formula_notes + i) k (get_or notes slot 0) 0 (λ e. omega arith)
