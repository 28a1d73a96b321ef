-- What is known of the formulas, with one formula more. Assumes nothing.
use Prim.Native.Nat.{ℕ, ◌*◌, ◌≤◌, ◌<◌}
use native.Mathlib.Decide.{dec_lt}
use native.Mathlib.Omega.{arith}
use mathlib.Core.Bool.{Bool, true, false, ◌||◌, true≢false, and-eq-true_iff}
use mathlib.Core.List.Memᴰ
use mathlib.Core.List.{
  List,
  [],
  ◌∷◌,
  ◌++◌,
}
use mathlib.Core.Logic.{◌↔◌, ◌⊎◌, inl, inr, ⊎_elim}
use mathlib.Core.Path.{◌≡◌, refl, sym, ap, ap₂, subst, ◌∙◌}
use borrow.Author.Tests.{leb-false, lt-ltb, eqb-true, eq-eqb}
use lib.Dec.{eqb, ltb}
use lib.ListN.{length, get_or, set, length-append, length-set}
use lib.Seq.{get_or-set_same, get_or-set_other, get_or_at}
use Rattle.equilibrium.specs.Formula.{Formula, falsum, atoms_of}
use Rattle.equilibrium.specs.Meaning.{◌∈◌}
use Rattle.format.specs.File.{Node, Body, add_node, formula_at, formula_of, formulas, decoded_at}
use Rattle.format.specs.Tables.{node_record, most_formulas}
use Rattle.format.specs.Tests.{unknown_formula, refers_ahead}
use Rattle.format.specs.Good.{GoodBody}
use Rattle.format.proofs.GoodBodies.{good_held}
use Rattle.format.proofs.Formulas.{formulas_snoc, length_formulas, formulas_prefix, known_earlier}
use Rattle.atomset.specs.AtomSet.{has, Member}
use Rattle.tables.specs.declared.records.NodeRecord.{NodeRecord}
use Rattle.tables.specs.Records.{record_from, record_numbers}
use Rattle.known.specs.Index.{entered, Indexed}
use Rattle.known.specs.Known.{AtomNotes, Known, occurs_by}
use Rattle.known.specs.Entering.{Appended}
use Rattle.known.proofs.Indexing.{index_kept, index_more, length_entered, entered_before}

either_true : (a b : Bool) → (a || b ≡ true) ↔ ((a ≡ true) ⊎ (b ≡ true))
either_true true b = (λ e. inl refl, λ e. refl)
either_true false b = (λ e. inr e, λ e. ⊎_elim (λ f. absurd (true≢false (sym f))) (λ f. f) e)

module _ (b : Body) (good : GoodBody b) (notes : List ℕ) (known : AtomNotes b notes) (m : Node) (earlier : refers_ahead b m ≡ false) where
  -- the atoms by the record are those of the formula
  node_occurs : (p : ℕ) → (occurs_by notes (record_from (node_record m)) p ≡ true) ↔ (p ∈ atoms_of (formula_of (formulas b.nodes) m))
  unfolding occurs_by
  node_occurs p = cases m earlier
    where
      of : (is : List ℕ) → unknown_formula b is ≡ false → (i : ℕ) → i ∈ is → Member p (get_or notes i 0) ↔ (p ∈ atoms_of (decoded_at b.nodes i))
      of is e i j = known i (known_earlier b is e i j) p

      both : (i j : ℕ) → unknown_formula b (i ∷ j ∷ []) ≡ false
          → (has (get_or notes i 0) p || has (get_or notes j 0) p ≡ true) ↔ (p ∈ atoms_of (decoded_at b.nodes i) ++ atoms_of (decoded_at b.nodes j))
      both i j e =
          let A = atoms_of (decoded_at b.nodes i) in
          let B = atoms_of (decoded_at b.nodes j) in
          let of-i = of (i ∷ j ∷ []) e i (Memᴰ.head refl) in
          let of-j = of (i ∷ j ∷ []) e j (Memᴰ.tail (Memᴰ.head refl)) in
          let or = either_true (has (get_or notes i 0) p) (has (get_or notes j 0) p) in (
            λ t. ⊎_elim (λ x. Memᴰ.append_left B (of-i.0 x)) (λ x. Memᴰ.append_right A (of-j.0 x)) (or.0 t),
            λ t. or.1 (⊎_elim (λ x. inl (of-i.1 x)) (λ x. inr (of-j.1 x)) (Memᴰ.append_cases A t)),
          )

      cases : (n : Node) → refers_ahead b n ≡ false → (occurs_by notes (record_from (node_record n)) p ≡ true) ↔ (p ∈ atoms_of (formula_of (formulas b.nodes) n))
      cases Node.bot e = (λ x. absurd (true≢false (sym x)), λ x. absurd (Memᴰ.not-nil x))
      cases (Node.atom i) e =
          let below : i < 64 = omega (arith, leb-false b.atoms i e, (good_held good).few_atoms) in (
            λ x. Memᴰ.head (eqb-true p i ((and-eq-true_iff (eqb p i) (ltb i 64)).0 x).0),
            λ x. (and-eq-true_iff (eqb p i) (ltb i 64)).1 (eq-eqb p i (Memᴰ.eq_of_singleton x), lt-ltb i 64 below),
          )
      cases (Node.not i) e = of (i ∷ []) e i (Memᴰ.head refl)
      cases (Node.and i j) e = both i j e
      cases (Node.or i j) e = both i j e
      cases (Node.imp i j) e = both i j e

  -- the notes with one more
  notes_more : length b.nodes < length notes → (w : ℕ) → ((p : ℕ) → has w p ≡ occurs_by notes (record_from (node_record m)) p)
      → AtomNotes (add_node b m) (set notes (length b.nodes) w)
  notes_more room w are i h p = at_end (dec_lt i (length b.nodes))
    where
      there : {x y : ℕ} {A B : Formula} → x ≡ y → A ≡ B → Member p x ↔ (p ∈ atoms_of A) → Member p y ↔ (p ∈ atoms_of B)
      there {x} {y} {A} {B} e f r = subst (λ (z : ℕ). Member p z ↔ (p ∈ atoms_of B)) e (subst (λ (C : Formula). Member p x ↔ (p ∈ atoms_of C)) f r)

      own : Member p w ↔ (p ∈ atoms_of (formula_of (formulas b.nodes) m))
      own = (λ x. (node_occurs p).0 (sym (are p) ∙ x), λ x. are p ∙ (node_occurs p).1 x)

      at_end : Dec (i < length b.nodes) → Member p (get_or (set notes (length b.nodes) w) i 0) ↔ (p ∈ atoms_of (decoded_at (b.nodes ++ m ∷ []) i))
      at_end (yes l) =
          there (sym (get_or-set_other notes (length b.nodes) i w 0 (λ x. omega arith))) (sym (formulas_prefix b.nodes (m ∷ []) i l)) (known i l p)
      at_end (no n) =
          let last : i ≡ length b.nodes = omega (arith, length-append b.nodes (m ∷ [])) in
          there
          (sym (ap (λ (x : ℕ). get_or (set notes (length b.nodes) w) x 0) last ∙ get_or-set_same notes (length b.nodes) w 0 room))
          (sym (
          ap (decoded_at (b.nodes ++ m ∷ [])) last ∙ ap (λ (ts : List Formula). formula_at ts (length b.nodes)) (formulas_snoc b.nodes m)
          ∙ get_or_at (formulas b.nodes) _ [] falsum (length b.nodes) (length_formulas b.nodes)))
          own

-- the record of a node, whatever numbers say it
pub key_of : (key : NodeRecord) (m : Node) → record_numbers key ≡ node_record m → key ≡ record_from (node_record m)
key_of key m e = ap record_from e

module _ {b : Body} {formulas notes formulas' notes' : List ℕ} {count : ℕ} {key : NodeRecord} (good : GoodBody b) (known : Known b notes) (m : Node)
    (is_record : record_numbers key ≡ node_record m) (more : Appended formulas notes count key formulas' notes') where
  pub notes_length : length notes' ≡ length notes
  notes_length =
      ap length more.noted ∙ length_entered (set notes count more.atoms) count (record_numbers key) ∙ length-set notes count more.atoms

  -- what is known, after the formula is appended
  pub known_more : refers_ahead b m ≡ false → count ≡ length b.nodes → count < most_formulas → 3 * most_formulas ≤ length notes → Known (add_node b m) notes'
  known_more earlier at room long =
      record {
        atoms = λ i h p. subst (λ (w : ℕ). Member p w ↔ (p ∈ atoms_of (decoded_at (b.nodes ++ m ∷ []) i)))
            (sym (same i h)) (notes_more b good notes known.atoms m earlier (omega arith) more.atoms are i h p);
        index = subst (λ (l : List ℕ). Indexed (b.nodes ++ m ∷ []) l) (sym noted)
            (index_more b.nodes m (set notes (length b.nodes) more.atoms) kept
            (omega arith) (omega (arith, length-set notes (length b.nodes) more.atoms)));
      }
    where
      are : (p : ℕ) → has more.atoms p ≡ occurs_by notes (record_from (node_record m)) p
      are p = more.atoms_are p ∙ ap (λ (k : NodeRecord). occurs_by notes k p) (key_of key m is_record)

      noted : notes' ≡ entered (set notes (length b.nodes) more.atoms) (length b.nodes) (node_record m)
      noted = more.noted ∙ ap₂ (λ (n : ℕ) (l : List ℕ). entered (set notes n more.atoms) n l) at is_record

      kept : Indexed b.nodes (set notes (length b.nodes) more.atoms)
      kept = index_kept b.nodes notes known.index (length b.nodes) more.atoms (omega arith)

      same : (i : ℕ) → i < length (b.nodes ++ m ∷ []) → get_or notes' i 0 ≡ get_or (set notes (length b.nodes) more.atoms) i 0
      same i h =
          ap (λ (l : List ℕ). get_or l i 0) noted
          ∙ entered_before (set notes (length b.nodes) more.atoms) (length b.nodes) (node_record m) i (omega (arith, length-append b.nodes (m ∷ [])))
