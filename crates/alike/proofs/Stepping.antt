-- The step of a formula by its record, and the steps of a list, filled in one after the other.
use Prim.Native.Nat.{ℕ, zero, suc, ◌+◌, ◌*◌, ◌≤◌, ◌<◌}
use native.Mathlib.Decide.{ℕ_discrete, dec_le}
use native.Mathlib.Omega.{arith}
use mathlib.Core.Bool.{Bool, true, false, cond}
use mathlib.Core.List.{List, [], ◌∷◌, ◌++◌, append_assoc}
use mathlib.Core.Logic.{⊎_elim}
use mathlib.Core.Path.{◌≡◌, refl, sym, ap, subst, ◌∙◌}
use borrow.Author.Tests.{eq-eqb, ne_eqb, lt-ltb, le-ltb}
use lib.Dec.{ltb}
use lib.ListN.{length, get_or, take, drop, length-append, length-drop, take-append-drop}
use lib.Seq.{length-take-le}
use Rattle.format.specs.Tables.{node_width}
use Rattle.format.proofs.GoodBodies.{at_end}
use Rattle.tables.specs.Records.{node_at, record_numbers, record_from, written}
use Rattle.tables.specs.declared.records.NodeRecord.{NodeRecord}
use Rattle.tables.proofs.Placed.{part_inside, part_between, written_inside, written_outside}
use Rattle.alike.specs.Under.{PartOf, first_part, second_part, slot_of, last_part, step_of, StepsFilled}

module _ (slots : List ℕ) (key : NodeRecord) where
  -- one without parts, and one with parts
  pub step_without : key.word < 2 → step_of slots key ≡ key
  unfolding step_of
  step_without low =
      ap (λ (b : Bool). cond b key (record { word = key.word; first = slot_of slots key.first; second = slot_of slots (last_part key) }))
      (lt-ltb key.word 2 low)

  pub step_with : 2 ≤ key.word → step_of slots key ≡ record { word = key.word; first = slot_of slots key.first; second = slot_of slots (last_part key) }
  unfolding step_of
  step_with two =
      ap (λ (b : Bool). cond b key (record { word = key.word; first = slot_of slots key.first; second = slot_of slots (last_part key) }))
      (le-ltb key.word 2 two)

  step_word : (step_of slots key).word ≡ key.word
  unfolding step_of
  step_word = by (ltb key.word 2)
    where
      by : (b : Bool) → (cond b key (record { word = key.word; first = slot_of slots key.first; second = slot_of slots (last_part key) })).word ≡ key.word
      by true = refl
      by false = refl

  -- the last part is one of the parts
  last_part_lem : 2 ≤ key.word → PartOf key (last_part key)
  last_part_lem two = by (ℕ_discrete key.word 2)
    where
      by : Dec (key.word ≡ 2) → PartOf key (last_part key)
      by (yes e) = subst (λ (b : Bool). PartOf key (cond b key.first key.second)) (sym (eq-eqb key.word 2 e)) (first_part two)
      by (no n) = subst (λ (b : Bool). PartOf key (cond b key.first key.second)) (sym (ne_eqb key.word 2 n)) (second_part (omega arith))

  -- what holds of the slots of its parts
  pub step_parts : (P : ℕ → Type 0) → ((p : ℕ) → PartOf key p → P (slot_of slots p)) → 2 ≤ (step_of slots key).word
      → P (step_of slots key).first × P (step_of slots key).second
  step_parts P all two =
      let parts = subst (λ (w : ℕ). 2 ≤ w) step_word two in
      subst (λ (r : NodeRecord). P r.first × P r.second) (sym (step_with parts))
      (all _ (first_part parts), all _ (last_part_lem parts))

-- ---- the steps of a list

-- a part of what two lists begin with
same_front : (front xs ys : List ℕ) (s l : ℕ) → s + l ≤ length front → take l (drop s (front ++ xs)) ≡ take l (drop s (front ++ ys))
same_front [] xs ys zero zero h = refl
same_front [] xs ys zero (suc l) h = absurd (omega arith)
same_front [] xs ys (suc s) l h = absurd (omega arith)
same_front (a ∷ front) xs ys zero zero h = refl
same_front (a ∷ front) xs ys zero (suc l) h = ap (λ (zs : List ℕ). a ∷ zs) (same_front front xs ys zero l (omega arith))
same_front (a ∷ front) xs ys (suc s) l h = same_front front xs ys s l (omega arith)

-- a record written into a table
module _ (table : List ℕ) (k : ℕ) (r : NodeRecord) (room : node_width * k + node_width ≤ length table) where
  abbrev after : List ℕ
  after = written table (node_width * k) (record_numbers r)

  whole : after ≡ take (node_width * k) table ++ (record_numbers r ++ drop (node_width * k + node_width) table)
  whole = written_inside table (node_width * k) (record_numbers r) room ∙ append_assoc (take (node_width * k) table) (record_numbers r) _

  length_after : length after ≡ length table
  length_after =
      let front = length-take-le (node_width * k) table (omega arith) in
      let rest = length-drop (node_width * k + node_width) table in
      ap length whole ∙ length-append (take (node_width * k) table) _ ∙ omega (arith, front, rest)

  -- it is there
  node_written : record_from (node_at after k) ≡ r
  node_written =
      let front = length-take-le (node_width * k) table (omega arith) in
      ap (λ (t : List ℕ). record_from (node_at t k)) whole
      ∙ ap record_from
      (part_between (take (node_width * k) table) (record_numbers r) (drop (node_width * k + node_width) table) (node_width * k) node_width front refl)

  -- and those before it are as they were
  node_before : (j : ℕ) → j < k → node_at after j ≡ node_at table j
  node_before j l =
      let front = length-take-le (node_width * k) table (omega arith) in
      part_inside after (node_width * j) node_width (omega (arith, length_after))
      ∙ ap (λ (t : List ℕ). take node_width (drop (node_width * j) t)) whole
      ∙ same_front (take (node_width * k) table) _ (drop (node_width * k) table) (node_width * j) node_width (omega (arith, front))
      ∙ ap (λ (t : List ℕ). take node_width (drop (node_width * j) t)) (take-append-drop (node_width * k) table)
      ∙ sym (part_inside table (node_width * j) node_width (omega arith))

module _ (formulas list slots table₀ : List ℕ) where
  -- the step of formula j of the list
  abbrev step : ℕ → NodeRecord
  step j = step_of slots (record_from (node_at formulas (get_or list j 0)))

  -- the first k steps are there
  pub record FilledTo (table : List ℕ) (k : ℕ) : Type 0 where
    pub within : k ≤ length list
    pub long : length table ≡ length table₀
    pub filled : node_width * length list ≤ length table₀ → (j : ℕ) → j < k → record_from (node_at table j) ≡ step j

  pub none_filled : FilledTo table₀ 0
  none_filled = record { within = omega arith; long = refl; filled = λ room j l. absurd (omega arith) }

  -- one more
  pub next_filled : {table : List ℕ} {k : ℕ} → FilledTo table k → k < length list → (r : NodeRecord) → r ≡ step k
      → {table' : List ℕ} → table' ≡ written table (node_width * k) (record_numbers r) → FilledTo table' (k + 1)
  next_filled {table} {k} s low r is {table'} e = record {
    within = omega arith;
    long = kept (dec_le (node_width * k + node_width) (length table)) ∙ s.long;
    filled = λ room j l. ap (λ (t : List ℕ). record_from (node_at t j)) e ∙ ⊎_elim (old room j) (own room j) (at_end k j (omega arith));
  }
    where
      has_room : node_width * length list ≤ length table₀ → node_width * k + node_width ≤ length table
      has_room room = omega (arith, s.long)

      kept : Dec (node_width * k + node_width ≤ length table) → length table' ≡ length table
      kept (yes h) = ap length e ∙ length_after table k r h
      kept (no n) = ap length (e ∙ written_outside table (node_width * k) (record_numbers r) (omega arith))

      old : node_width * length list ≤ length table₀ → (j : ℕ) → j < k → record_from (node_at (written table (node_width * k) (record_numbers r)) j) ≡ step j
      old room j l = ap record_from (node_before table k r (has_room room) j l) ∙ s.filled room j l

      own : node_width * length list ≤ length table₀ → (j : ℕ) → j ≡ k → record_from (node_at (written table (node_width * k) (record_numbers r)) j) ≡ step j
      own room j l =
          ap (λ (i : ℕ). record_from (node_at (written table (node_width * k) (record_numbers r)) i)) l
          ∙ node_written table k r (has_room room)
          ∙ is
          ∙ ap step (sym l)

  pub all_filled : {table : List ℕ} {k : ℕ} → FilledTo table k → length list ≤ k → StepsFilled formulas list slots table₀ table
  all_filled s l = record {
    long = s.long;
    filled = λ room. record { many = refl; each = λ j k. s.filled room j (omega arith) };
  }
