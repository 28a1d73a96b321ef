-- A row read by its record, which may follow those of a body, and the bodies on the way along the tables; and then the whole: the tables
-- and counts are those of a good body, or of none. Assumes nothing.
use Prim.Native.Nat.{ℕ, zero, suc, ◌+◌, ◌*◌, ◌≤◌, ◌<◌, min}
use native.Mathlib.Numerals.{add-one}
use native.Mathlib.Omega.{arith}
use mathlib.Core.Path.{◌≡◌, refl, sym, ap, ap₂, subst, ◌∙◌}
use mathlib.Core.Bool.{Bool, true, false, not, ◌&&◌, ◌||◌, true≢false, false≢true}
use mathlib.Core.List.{List, [], ◌∷◌}
use mathlib.Core.Logic.{◌↔◌}
use mathlib.Core.Option.{Option, none, some}
use lib.Dec.{eqb, leb, ltb}
use lib.ListN.{length, get_or, replicate, get_elem?}
use lib.Seq.{take_all}
use borrow.Author.Tests.{ltb-true, lt-ltb}
use Rattle.std.specs.Prelude.{None, Some}
use Rattle.std.specs.Prelude.{Option as Counted}
use Rattle.equilibrium.specs.Formula.{atoms_of}
use Rattle.equilibrium.specs.Meaning.{◌∈◌}
use Rattle.elk.specs.Rules.{Rule, rules}
use Rattle.format.specs.Text.{◌<$>◌, ◌<*>◌, only_if}
use Rattle.format.specs.File.{Node, Row, Body, add_row, decoded_at}
use Rattle.format.specs.Tables.{Side, absent, part, row_at, fetched, row_width, row_records, left_pool, right_pool, most_atoms}
use Rattle.format.specs.Tests.{first, body_tests}
use Rattle.format.specs.Good.{bare}
use Rattle.format.proofs.Booleans.{and_true}
use Rattle.format.proofs.Tested.{passes}
use Rattle.atomset.specs.AtomSet.{Member}
use Rattle.text.specs.Lists.{most_counted, listed_of}
use Rattle.counts.specs.Counts.{counts_of, full_for, count_row}
use Rattle.counts.specs.declared.Counts.{Counts}
use Rattle.counts.proofs.Counting.{counts_row}
use Rattle.tables.specs.Records.{row_from}
use Rattle.tables.specs.declared.records.RowRecord.{RowRecord}
use Rattle.tables.proofs.Encoded.{rows_length}
use Rattle.tables.proofs.Placed.{get_d_inside}
use Rattle.known.specs.Index.{Indexed}
use Rattle.known.specs.Known.{Known}
use Rattle.rules.proofs.RuleNumbers.{code_below}
use Rattle.early.specs.Early.{numbered}
use Rattle.drafts.specs.Drafts.{Laid, Drafted}
use Rattle.drafts.specs.declared.Draft.{Draft}
use Rattle.rows.specs.Judgement.{Ground, RowNumbered}
use Rattle.rows.proofs.Numbering.{numbered_some, numbered_none}
use Rattle.bodies.specs.Open.{Tables, IsOpen}
use Rattle.bodies.specs.Walk.{and_then, repeated, unless, rule_at, premises_from, in_place, row_with, next_row, node_step, row_step, within, zeros_after}
use Rattle.bodies.specs.Walk.{pools_agree, walked_nodes, walked_rows, body_in}
use Rattle.bodies.proofs.Choices.{only_some, then_some, repeated_keeps, repeated_last, repeated_counts, repeated_fails}
use Rattle.bodies.proofs.Decoding.{rule_exact, premises_exact}
use Rattle.bodies.proofs.Fronts.{part_there, part_next}
use Rattle.bodies.proofs.Walking.{Read, bare_read, node_step_read, node_step_count, row_stepped, row_step_read, found_open, no_body_lem}
use Rattle.handed.specs.Handed.{Roomy, NodesRead, premises_in, draft_from, stands_next, counts_in, NextRow, is_some, RowsRead, BodyRead}
use Rattle.handed.proofs.Zeros.{limits_kept}
use Rattle.handed.proofs.Stored.{stands_by}
use Rattle.handed.proofs.Entering.{found_some, found_none}

-- ---- the row of a record

item_there : {X : Type 0} (xs : List X) (i : ℕ) → i < length xs → (x : X) × (get_elem? xs i ≡ some x)
item_there [] i h = absurd (omega arith)
item_there (x ∷ xs) zero h = (x, refl)
item_there (x ∷ xs) (suc i) h = item_there xs i (omega arith)

no_rule_lem : (code : ℕ) → ltb code 38 ≡ false → rule_at code ≡ none
no_rule_lem code e = cases (rule_at code) refl
  where
    cases : (o : Option Rule) → rule_at code ≡ o → o ≡ none
    cases none k = refl
    cases (some q) k = absurd (true≢false (sym (lt-ltb code 38 (omega (arith, rule_exact code q k, code_below q))) ∙ e))

some_premises : (one two : ℕ) → not (eqb one absent) || eqb two absent ≡ true → premises_from one two ≡ some (premises_in one two)
some_premises one two e = cases (eqb one absent) (eqb two absent) refl refl e
  where
    cases : (x y : Bool) → eqb one absent ≡ x → eqb two absent ≡ y → not x || y ≡ true → premises_from one two ≡ some (premises_in one two)
    cases true true p q h = cc
    cases true false p q h = absurd (false≢true h)
    cases false true p q h = cc
    cases false false p q h = cc

no_premises : (one two : ℕ) → not (eqb one absent) || eqb two absent ≡ false → premises_from one two ≡ none
no_premises one two e = cases (eqb one absent) (eqb two absent) refl refl e
  where
    cases : (x y : Bool) → eqb one absent ≡ x → eqb two absent ≡ y → not x || y ≡ false → premises_from one two ≡ none
    cases true true p q h = absurd (true≢false h)
    cases true false p q h = cc
    cases false y p q h = absurd (true≢false h)

make_none : {A B C : Type 0} (f : A → B → C) (o : Option A) → f <$> o <*> none ≡ none
make_none f none = refl
make_none f (some a) = refl

-- a list that is its own table
own_laid : (xs : List ℕ) → Laid xs (listed_of xs) xs
own_laid xs = record { answer = refl; front = λ few narrow. take_all (min (length xs) most_counted) xs (omega (arith, few)) }

module _ (t : Tables) (notes : List ℕ) (held : Counts) (b : Body) (g : Ground b held t.formulas notes t.rows t.left t.right)
    (stored : RowRecord) (is-stored : stored ≡ row_from (row_at t.rows held.rows)) where
  rows_held : held.rows ≡ length b.rows
  rows_held = ap (λ (c : Counts). c.rows) g.counts

  abbrev numbers : List ℕ
  numbers = row_at t.rows (length b.rows)

  read : stored ≡ row_from numbers
  read = is-stored ∙ ap (λ (k : ℕ). row_from (row_at t.rows k)) rows_held

  abbrev n : ℕ → ℕ
  n i = get_or numbers i absent

  abbrev left_place : Bool
  left_place = in_place (n 4) (n 5) t.left (left_pool b.rows)

  abbrev right_place : Bool
  right_place = in_place (n 6) (n 7) t.right (right_pool b.rows)

  stands : stands_next stored (length t.left) (length t.right) held
      ≡ left_place && right_place && ltb (n 0) 38 && (not (eqb (n 2) absent) || eqb (n 3) absent)
  stands =
      ap (λ (s : RowRecord). stands_next s (length t.left) (length t.right) held) read
      ∙ stands_by (row_from numbers) (length t.left) (length t.right) held left_place right_place _ _ _
      (ap (λ (k : ℕ). eqb (n 4) k && leb (n 4 + n 5) (length t.left)) (ap (λ (c : Counts). c.left) g.counts))
      (ap (λ (k : ℕ). eqb (n 6) k && leb (n 6 + n 7) (length t.right)) (ap (λ (c : Counts). c.right) g.counts)) refl refl refl

  abbrev made : Rule → List ℕ → Row
  made = row_with numbers (part t.left (n 4) (n 5)) (part t.right (n 6) (n 7))

  next_none : left_place && right_place && ltb (n 0) 38 && (not (eqb (n 2) absent) || eqb (n 3) absent) ≡ false → next_row t b ≡ none
  next_none e = cases left_place right_place (ltb (n 0) 38) (not (eqb (n 2) absent) || eqb (n 3) absent) refl refl e
    where
      cases : (a d e f : Bool) → ltb (n 0) 38 ≡ e → not (eqb (n 2) absent) || eqb (n 3) absent ≡ f → a && d && e && f ≡ false
          → only_if a (only_if d (made <$> rule_at (n 0) <*> premises_from (n 2) (n 3))) ≡ none
      cases false d e f r p h = refl
      cases true false e f r p h = refl
      cases true true false f r p h = ap (λ (o : Option Rule). made <$> o <*> premises_from (n 2) (n 3)) (no_rule_lem (n 0) r)
      cases true true true false r p h =
          ap (λ (o : Option (List ℕ)). made <$> rule_at (n 0) <*> o) (no_premises (n 2) (n 3) p) ∙ make_none made (rule_at (n 0))
      cases true true true true r p h = absurd (true≢false h)

  -- what stands there can be no row
  pub misplaced : stands_next stored (length t.left) (length t.right) held ≡ false → row_step t b ≡ none
  misplaced e = ap (λ (o : Option Row). and_then o (λ r. unless (first (body_tests b r)) (add_row b r))) (next_none (sym stands ∙ e))

  -- it is a row, whose draft is that of the record
  module _ (e : stands_next stored (length t.left) (length t.right) held ≡ true) where
    all_four : (left_place && right_place && ltb (n 0) 38 ≡ true) × (not (eqb (n 2) absent) || eqb (n 3) absent ≡ true)
    all_four = and_true _ _ (sym stands ∙ e)

    three : (left_place && right_place ≡ true) × (ltb (n 0) 38 ≡ true)
    three = and_true _ _ all_four.0

    places : (left_place ≡ true) × (right_place ≡ true)
    places = and_true _ _ three.0

    rule_found : (q : Rule) × (rule_at (n 0) ≡ some q)
    rule_found = item_there rules (n 0) (ltb-true (n 0) 38 three.1)

    premises_found : (ps : List ℕ) × (premises_from (n 2) (n 3) ≡ some ps)
    premises_found = (premises_in (n 2) (n 3), some_premises (n 2) (n 3) all_four.1)

    pub row_there : Row
    row_there = made rule_found.0 premises_found.0

    pub next_there : next_row t b ≡ some row_there
    unfolding row_there
    next_there =
        ap₂ (λ (i j : Bool). only_if i (only_if j (made <$> rule_at (n 0) <*> premises_from (n 2) (n 3)))) places.0 places.1
        ∙ ap₂ (λ (o : Option Rule) (p : Option (List ℕ)). made <$> o <*> p) rule_found.1 premises_found.1

    inside : length numbers ≡ row_width
    inside =
        (part_next (row_records b.rows) t.rows (row_width * length b.rows) row_width g.rows_held.records (rows_length b.rows)
        (part_there t.rows (row_width * length b.rows) row_width (λ k. far (ap (λ (l : List ℕ). get_or l 0 absent) k)))).0
      where
        far : n 0 ≡ absent → ⊥
        far k = omega (arith, k, ltb-true (n 0) 38 three.1)

    same_at : (k : ℕ) → k < 8 → get_or (row_at t.rows held.rows) k 0 ≡ n k
    same_at k h = ap (λ (m : ℕ). get_or (row_at t.rows m) k 0) rows_held ∙ get_d_inside numbers k 0 absent (omega (arith, inside))

    module _ (antecedent succedent : List ℕ) (is-left : antecedent ≡ fetched t.rows t.left t.right Side.left held.rows)
        (is_right : succedent ≡ fetched t.rows t.left t.right Side.right held.rows) where
      left_is : antecedent ≡ row_there.left
      unfolding fetched row_there
      left_is = is-left ∙ ap₂ (part t.left) (same_at 4 (omega arith)) (same_at 5 (omega arith))

      right_is : succedent ≡ row_there.right
      unfolding fetched row_there
      right_is = is_right ∙ ap₂ (part t.right) (same_at 6 (omega arith)) (same_at 7 (omega arith))

      own_drafted : Drafted row_there (draft_from (row_from numbers) row_there.left row_there.right) row_there.left row_there.right
      unfolding row_there premises_found
      own_drafted =
          record {
            rule = sym (rule_exact (n 0) rule_found.0 rule_found.1);
            principal = refl;
            premises = refl;
            first_premise = λ narrow. sym (premises_exact (n 2) (n 3) premises_found.0 premises_found.1).0;
            second_premise = λ narrow. sym (premises_exact (n 2) (n 3) premises_found.0 premises_found.1).1;
            left_laid = own_laid _;
            right_laid = own_laid _;
          }

      module _ (draft : Draft) (is-draft : draft ≡ draft_from stored antecedent succedent) (number : ℕ)
          (numbers-it : RowNumbered draft held antecedent succedent t.formulas notes t.rows t.left t.right number) where
        drafted : Drafted row_there draft antecedent succedent
        drafted =
            let same : draft ≡ draft_from (row_from numbers) row_there.left row_there.right = is-draft
            ∙ ap (λ (s : RowRecord). draft_from s antecedent succedent) read
            ∙ ap₂ (draft_from (row_from numbers)) left_is right_is in
            subst (λ (d : Draft). Drafted row_there d antecedent succedent) (sym same)
            (subst (λ (l : List ℕ). Drafted row_there (draft_from (row_from numbers) row_there.left row_there.right) l succedent) (sym left_is)
            (subst (λ (r : List ℕ). Drafted row_there (draft_from (row_from numbers) row_there.left row_there.right) row_there.left r) (sym right_is)
            own_drafted))

        earned : numbered number ≡ first (body_tests b row_there)
        earned = numbers-it.given b row_there g drafted

        step_is : row_step t b ≡ unless (numbered number) (add_row b row_there)
        step_is =
            ap (λ (o : Option Row). and_then o (λ r. unless (first (body_tests b r)) (add_row b r))) next_there
            ∙ ap (λ (o : Option ℕ). unless o (add_row b row_there)) (sym earned)

        pub row_fails : (number ≡ 0 → ⊥) → row_step t b ≡ none
        row_fails ne = step_is ∙ ap (λ (o : Option ℕ). unless o (add_row b row_there)) (numbered_some number ne)

        pub row_counted : number ≡ 0 → (c : Counts) → c ≡ count_row held (length antecedent) (length succedent) → Some c ≡ counts_in (row_step t b)
        unfolding full_for
        row_counted z c is_c =
            ap Some (is_c ∙ ap (λ (h : Counts). count_row h (length antecedent) (length succedent)) g.counts
            ∙ ap₂ (λ (l r : List ℕ). count_row (counts_of b) (length l) (length r)) left_is right_is
            ∙ counts_row b row_there (passes 5 (body_tests b row_there) tests))
            ∙ ap counts_in
            (sym (step_is ∙ ap (λ (o : Option ℕ). unless o (add_row b row_there)) ((numbered_none number).1 z)))
          where
            tests : first (body_tests b row_there) ≡ none
            tests = sym earned ∙ (numbered_none number).1 z

-- ---- all rows

-- what is known of formulas is known of them with other rows
known_same : (b u : Body) (notes : List ℕ) → u.nodes ≡ b.nodes → Known b notes → Known u notes
known_same b u notes e k =
    record {
      atoms = subst
          (λ (ns : List Node). (i : ℕ) → i < length ns → (p : ℕ) → Member p (get_or notes i 0) ↔ (p ∈ atoms_of (decoded_at ns i))) (sym e) k.atoms;
      index = subst (λ (ns : List Node). Indexed ns notes) (sym e) k.index;
    }

-- what is known after i rows
pub record Along (t : Tables) (notes : List ℕ) (held : Counts) (i : ℕ) (b : Body) : Type 0 where
  pub body : Body
  pub walked : repeated (row_step t) i b ≡ some body
  pub ground : Ground body held t.formulas notes t.rows t.left t.right

abbrev pub RowsSoFar : Tables → List ℕ → Counts → Counts → ℕ → Type 0
RowsSoFar t notes c held i =
    (i ≤ c.rows)
    × ((b : Body) → Ground b (counts_of b) t.formulas notes t.rows t.left t.right → b.rows ≡ [] → c.atoms ≡ b.atoms
    → c.formulas ≡ length b.nodes → Along t notes held i b)

pub rows_start : (t : Tables) (notes : List ℕ) (c : Counts)
    → RowsSoFar t notes c (record { atoms = c.atoms; formulas = c.formulas; rows = 0; left = 0; right = 0 }) 0
rows_start t notes c = (
  omega arith,
  λ b g none_yet a f.
      let rows : ◌≡◌ {A = ℕ} 0 (length b.rows) = sym (ap length none_yet) in
      let left : ◌≡◌ {A = ℕ} 0 (length (left_pool b.rows)) = sym (ap (λ (rs : List Row). length (left_pool rs)) none_yet) in
      let right : ◌≡◌ {A = ℕ} 0 (length (right_pool b.rows)) = sym (ap (λ (rs : List Row). length (right_pool rs)) none_yet) in
      record {
        body = b;
        walked = refl;
        ground = record { good = g.good; counts = cc; nodes = g.nodes; known = g.known; rows_held = g.rows_held };
      },
)

module _ (t : Tables) (notes : List ℕ) (c held : Counts) (i : ℕ) (so_far : RowsSoFar t notes c held i) where
  module _ (r : Counted Counts) (turn : NextRow t notes held r) (more : i < c.rows) where
    pub rows_fail : r ≡ None → RowsRead t notes c false
    rows_fail none_next b g none_yet a f =
        let at = so_far.1 b g none_yet a f in
        sym (ap (λ (o : Option Body). is_some (and_then o (λ d. only_if (pools_agree c d) (some d))))
        (repeated_fails (row_step t) i c.rows b at.body at.walked (stops at (row_step t at.body) refl) more))
      where
        stops : (at : Along t notes held i b) (o : Option Body) → row_step t at.body ≡ o → o ≡ none
        stops at none e = refl
        stops at (some u) e = let both : None ≡ Some (counts_of u) = sym none_next ∙ turn at.body at.ground ∙ ap counts_in e in cc

    pub rows_more : (next : Counts) → r ≡ Some next → RowsSoFar t notes c next (i + 1)
    rows_more next is_next = (omega arith, λ b g none_yet a f. let at = so_far.1 b g none_yet a f in goes b at (row_step t at.body) refl)
      where
        goes : (b : Body) (at : Along t notes held i b) (o : Option Body) → row_step t at.body ≡ o → Along t notes next (i + 1) b
        goes b at none e = let both : Some next ≡ None = sym is_next ∙ turn at.body at.ground ∙ ap counts_in e in cc
        goes b at (some u) e =
            let was : Read t at.body = record { good = at.ground.good; nodes = at.ground.nodes; rows = at.ground.rows_held } in
            let now-read = row_step_read t at.body u was e in
            let both : Some next ≡ Some (counts_of u) = sym is_next ∙ turn at.body at.ground ∙ ap counts_in e in
            record {
              body = u;
              walked = ap (λ (k : ℕ). repeated (row_step t) k b) (add-one i) ∙ repeated_last (row_step t) i b at.body at.walked ∙ e;
              ground =
                  record {
                    good = now-read.0.good;
                    counts = cc;
                    nodes = now-read.0.nodes;
                    known = known_same at.body u notes now-read.1 at.ground.known;
                    rows_held = now-read.0.rows;
                  };
            }

  pub rows_end : c.rows ≤ i → (p q : Bool) → eqb held.left c.left ≡ p → eqb held.right c.right ≡ q → RowsRead t notes c (p && q)
  rows_end all p q is-p is-q b g none_yet a f =
      let at = so_far.1 b g none_yet a f in
      let last : c.rows ≡ i = omega (arith, so_far.0) in
      let left = ap (λ (k : Counts). eqb k.left c.left) at.ground.counts in
      let right = ap (λ (k : Counts). eqb k.right c.right) at.ground.counts in
      sym (ap (λ (o : Option Body). is_some (and_then o (λ d. only_if (pools_agree c d) (some d))))
      (ap (λ (k : ℕ). repeated (row_step t) k b) last ∙ at.walked)
      ∙ there (pools_agree c at.body) at.body ∙ ap₂ ◌&&◌ (sym left ∙ is-p) (sym right ∙ is-q))
    where
      there : (x : Bool) (u : Body) → is_some (only_if x (some u)) ≡ x
      there true u = refl
      there false u = refl

-- ---- the whole

module _ (t : Tables) (c : Counts) where
  -- the body of the formulas
  nodes_ground : (b : Body) (notes : List ℕ) → c.atoms ≤ most_atoms → walked_nodes t c ≡ some b → Known b notes
      → Ground b (counts_of b) t.formulas notes t.rows t.left t.right × (b.rows ≡ []) × (b.atoms ≡ c.atoms)
      × (length b.nodes ≡ c.formulas)
  nodes_ground b notes few e known = (
    record { good = kept.0.good; counts = refl; nodes = kept.0.nodes; known = known; rows_held = kept.0.rows },
    kept.1,
    kept.2,
    omega (arith, repeated_counts (node_step t) (λ (d : Body). length d.nodes) (node_step_count t) c.formulas (bare c.atoms) e),
  )
    where
      kept : Read t b × (b.rows ≡ []) × (b.atoms ≡ c.atoms)
      kept =
          repeated_keeps (node_step t) (λ (d : Body). Read t d × (d.rows ≡ []) × (d.atoms ≡ c.atoms))
          (λ d u p k. let s = node_step_read t d u p.0 p.1 k in (s.0, s.1, s.2 ∙ p.2)) c.formulas (bare c.atoms)
          (bare_read t c.atoms few, refl, refl) e

  -- rows change no formula
  rows_nodes : (b d : Body) → walked_rows t c b ≡ some d → d.nodes ≡ b.nodes
  rows_nodes b d e =
      let found = then_some (repeated (row_step t) c.rows b) (λ u. only_if (pools_agree c u) (some u)) e in
      let last = only_some (pools_agree c found.0) (some found.0) d found.2 in
      let same : found.0 ≡ d = (let k = last.1 in cc) in
      ap (λ (u : Body). u.nodes) (sym same)
      ∙ repeated_keeps (row_step t) (λ (u : Body). u.nodes ≡ b.nodes)
      (λ s u p k. ap (λ (x : Body). x.nodes) (sym (row_stepped t s u k).same) ∙ p) c.rows b refl found.1

  missing : body_in t c ≡ none → (b : Body) → IsOpen t c b → ⊥
  missing e = (no_body_lem t c).0 e

  pub not_counted : (notes : List ℕ) → within c && zeros_after t c ≡ false → BodyRead t c notes notes false
  unfolding body_in
  not_counted notes e =
      record {
        found = λ roomy zeros f. absurd (false≢true f);
        missing = λ roomy zeros f. missing (ap (λ (x : Bool). only_if x (and_then (walked_nodes t c) (walked_rows t c))) e);
        kept = refl;
      }

  module _ (notes notes' : List ℕ) where
    module _ (e : within c && zeros_after t c ≡ true) where
      counted : body_in t c ≡ and_then (walked_nodes t c) (walked_rows t c)
      unfolding body_in
      counted = ap (λ (x : Bool). only_if x (and_then (walked_nodes t c) (walked_rows t c))) e

      few : c.atoms ≤ most_atoms
      few = (limits_kept c (and_true (within c) (zeros_after t c) e).0).atoms

      pub no_formulas : NodesRead t.formulas notes c notes' false → BodyRead t c notes notes' false
      no_formulas n =
          record {
            found = λ roomy zeros f. absurd (false≢true f);
            missing = λ roomy zeros f. missing (counted ∙ ap (λ (o : Option Body). and_then o (walked_rows t c))
                (found_none (walked_nodes t c) false notes' (n.walked t.rows t.left t.right few roomy zeros) refl));
            kept = n.kept;
          }

      pub rows_decide : NodesRead t.formulas notes c notes' true → (r : Bool) → RowsRead t notes' c r → BodyRead t c notes notes' r
      rows_decide n r rows =
          record {
            found = λ roomy zeros f.
                let b = read roomy zeros in
                let whole = is_some_lem (walked_rows t c b.0) (sym (decides roomy zeros) ∙ f) in
                let is_body : body_in t c ≡ some whole.0 = counted ∙ ap (λ (o : Option Body). and_then o (walked_rows t c)) b.1 ∙ whole.1 in
                (whole.0, found_open t c whole.0 is_body, known_same b.0 whole.0 notes' (rows_nodes b.0 whole.0 whole.1) b.2);
            missing = λ roomy zeros f.
                let b = read roomy zeros in
                missing (counted ∙ ap (λ (o : Option Body). and_then o (walked_rows t c)) b.1
                ∙ is_none (walked_rows t c b.0) (sym (decides roomy zeros) ∙ f));
            kept = n.kept;
          }
        where
          read : Roomy notes → notes ≡ replicate (length notes) 0 → (b : Body) × (walked_nodes t c ≡ some b) × Known b notes'
          read roomy zeros = found_some (walked_nodes t c) true notes' (n.walked t.rows t.left t.right few roomy zeros) refl

          decides : (roomy : Roomy notes) (zeros : notes ≡ replicate (length notes) 0) → r ≡ is_some (walked_rows t c (read roomy zeros).0)
          decides roomy zeros =
              let b = read roomy zeros in
              let g = nodes_ground b.0 notes' few b.1 b.2 in
              rows b.0 g.0 g.1 (sym g.2) (sym g.3)

          is_some_lem : (o : Option Body) → is_some o ≡ true → (d : Body) × (o ≡ some d)
          is_some_lem none k = absurd (false≢true k)
          is_some_lem (some d) k = (d, refl)

          is_none : (o : Option Body) → is_some o ≡ false → o ≡ none
          is_none none k = refl
          is_none (some d) k = absurd (true≢false k)
