-- A formula read by its record, which may follow those of a body, and the bodies that the notes know on the way along the table.
-- Assumes nothing.
use Prim.Native.Nat.{ℕ, zero, suc, ◌+◌, ◌≤◌, ◌<◌}
use native.Mathlib.Numerals.{add-one}
use native.Mathlib.Omega.{arith}
use mathlib.Core.Path.{◌≡◌, refl, sym, ap, ap₂, subst, ◌∙◌}
use mathlib.Core.Bool.{Bool, true, false, not, ◌&&◌, ◌||◌, and-true, true≢false, false≢true}
use mathlib.Core.List.{List, [], ◌∷◌}
use mathlib.Core.Option.{Option, none, some}
use lib.Dec.{eqb, leb, ltb}
use lib.ListN.{length, get_or, set, replicate, length-set}
use borrow.Author.Tests.{ne_eqb, lt-ltb, le-ltb, leb-true, leb-false}
use Rattle.std.specs.Prelude.{Ok, Err, is_ok}
use Rattle.format.specs.Text.{any, same_list, only_if}
use Rattle.format.specs.File.{Node, Body, add_node}
use Rattle.format.specs.Tables.{absent, node_record, most_atoms, most_formulas}
use Rattle.format.specs.Tests.{◌when◌, first, refers_ahead, same_node, node_tests}
use Rattle.format.specs.Good.{bare, GoodBody}
use Rattle.counts.specs.Counts.{counts_of}
use Rattle.counts.specs.declared.Counts.{Counts}
use Rattle.tables.specs.Records.{node_at, record_from, record_numbers}
use Rattle.tables.specs.declared.records.NodeRecord.{NodeRecord}
use Rattle.known.specs.declared.NoEntry.{NoEntry}
use Rattle.known.specs.Known.{Known}
use Rattle.known.specs.Entering.{Entry, entry_refusal, with_new, Enters, FormulaEntered}
use Rattle.known.proofs.Indexing.{index_none, length_entered}
use Rattle.known.proofs.Knowing.{known_more}
use Rattle.rows.specs.Judgement.{Ground}
use Rattle.bodies.specs.Open.{Tables, four}
use Rattle.bodies.specs.Walk.{and_then, repeated, unless, node_from, next_node, node_step}
use Rattle.bodies.proofs.Choices.{repeated_last, repeated_fails}
use Rattle.bodies.proofs.Decoding.{node_exact}
use Rattle.bodies.proofs.Walking.{Read, node_step_read, node_step_count}
use Rattle.handed.specs.Handed.{refers_back, FoundKnown, Roomy, NodeEntered, NodesRead}

-- ---- the formula of a record

not_later : (held i : ℕ) → not (leb held i) ≡ ltb i held
not_later held i = cases (leb held i) refl
  where
    cases : (b : Bool) → leb held i ≡ b → not b ≡ ltb i held
    cases true e = sym (le-ltb i held (leb-true held i e))
    cases false e = sym (lt-ltb i held (leb-false held i e))

module _ (b : Body) where
  back_if : (x : Bool) (node : Node) → refers_back b (only_if x (some node)) ≡ x && not (refers_ahead b node)
  back_if true node = refl
  back_if false node = refl

  one_back : (i : ℕ) → not (leb (length b.nodes) i || false) ≡ ltb i (length b.nodes)
  one_back i = cases (leb (length b.nodes) i) (not_later (length b.nodes) i)
    where
      cases : (x : Bool) → not x ≡ ltb i (length b.nodes) → not (x || false) ≡ ltb i (length b.nodes)
      cases true e = e
      cases false e = e

  both_back : (i j : ℕ) → not (leb (length b.nodes) i || (leb (length b.nodes) j || false))
      ≡ ltb i (length b.nodes) && ltb j (length b.nodes)
  both_back i j = cases (leb (length b.nodes) i) (not_later (length b.nodes) i)
    where
      cases : (x : Bool) → not x ≡ ltb i (length b.nodes)
          → not (x || (leb (length b.nodes) j || false)) ≡ ltb i (length b.nodes) && ltb j (length b.nodes)
      cases true e = ap (λ (y : Bool). y && ltb j (length b.nodes)) e
      cases false e = one_back j ∙ ap (λ (y : Bool). y && ltb j (length b.nodes)) e

  module _ (word one two : ℕ) where
    abbrev back : ℕ → Bool
    back w = refers_back b (node_from w one two)

    pub bot_back : word ≡ 0 → (p q : Bool) → eqb one absent ≡ p → eqb two absent ≡ q → p && q ≡ refers_back b (node_from word one two)
    unfolding node_from
    bot_back e p q f g =
        sym (ap back e ∙ back_if (eqb one absent && eqb two absent) Node.bot ∙ and-true (eqb one absent && eqb two absent) ∙ ap₂ ◌&&◌ f g)

    pub atom_back : word ≡ 1 → (atoms : ℕ) → atoms ≡ b.atoms → (p q : Bool) → eqb two absent ≡ p → ltb one atoms ≡ q
        → p && q ≡ refers_back b (node_from word one two)
    unfolding node_from
    atom_back e atoms a p q f g =
        sym (ap back e ∙ back_if (eqb two absent) (Node.atom one) ∙ ap₂ ◌&&◌ f (not_later b.atoms one ∙ ap (ltb one) (sym a) ∙ g))

    pub none_back : 5 < word → false ≡ refers_back b (node_from word one two)
    unfolding node_from
    none_back h =
        let other : (k : ℕ) → k < 6 → eqb word k ≡ false = λ k l. ne_eqb word k (λ q. omega arith) in
        sym (simp (other 0 (omega arith), other 1 (omega arith), other 2 (omega arith), other 3 (omega arith), other 4 (omega arith), other 5 (omega arith)))

    module _ (held : ℕ) (h : held ≡ length b.nodes) where
      pub not_back : word ≡ 2 → (p q : Bool) → ltb one held ≡ p → eqb two absent ≡ q → p && q ≡ refers_back b (node_from word one two)
      unfolding node_from
      not_back e p q f g =
          sym (ap back e ∙ back_if (eqb two absent) (Node.not one) ∙ ap₂ ◌&&◌ g (one_back one ∙ ap (ltb one) (sym h) ∙ f) ∙ swapped q p)
        where
          swapped : (x y : Bool) → x && y ≡ y && x
          swapped true true = refl
          swapped true false = refl
          swapped false true = refl
          swapped false false = refl

      pub two_back : 2 < word → word ≤ 5 → (p q : Bool) → ltb one held ≡ p → ltb two held ≡ q → p && q ≡ refers_back b (node_from word one two)
      unfolding node_from
      two_back l m p q f g = sym (cases word l m ∙ ap₂ ◌&&◌ (ap (ltb one) (sym h) ∙ f) (ap (ltb two) (sym h) ∙ g))
        where
          cases : (w : ℕ) → 2 < w → w ≤ 5 → back w ≡ ltb one (length b.nodes) && ltb two (length b.nodes)
          cases zero l m = absurd (omega arith)
          cases (suc zero) l m = absurd (omega arith)
          cases (suc (suc zero)) l m = absurd (omega arith)
          cases (suc (suc (suc zero))) l m = both_back one two
          cases (suc (suc (suc (suc zero)))) l m = both_back one two
          cases (suc (suc (suc (suc (suc zero))))) l m = both_back one two
          cases (suc (suc (suc (suc (suc (suc w)))))) l m = absurd (omega arith)

-- ---- one formula more

-- where it is none, or names a later one, there is no step
step_none : (b : Body) (o : Option Node) → refers_back b o ≡ false → and_then o (λ node. unless (first (node_tests b node)) (add_node b node)) ≡ none
step_none b none e = refl
step_none b (some node) e = cases (leb most_formulas (length b.nodes)) (refers_ahead b node) e
  where
    cases : (x y : Bool) → not y ≡ false
        → unless (first ((5 when x) ∷ (7 when y) ∷ (8 when any (λ m. same_node m node) b.nodes) ∷ [])) (add_node b node) ≡ none
    cases true y k = refl
    cases false true k = refl
    cases false false k = absurd (true≢false k)

-- a formula that names earlier ones
back_node : (b : Body) (o : Option Node) → refers_back b o ≡ true → (node : Node) × (o ≡ some node) × (refers_ahead b node ≡ false)
back_node b none e = absurd (false≢true e)
back_node b (some node) e = (node, refl, cases (refers_ahead b node) e)
  where
    cases : (x : Bool) → not x ≡ true → x ≡ false
    cases true k = absurd (false≢true k)
    cases false k = refl

-- entering a formula changes no length of the notes
notes_kept : {formulas notes : List ℕ} {count : ℕ} {key : NodeRecord} {formulas' notes' : List ℕ} {r : Entry}
    → Enters formulas notes count key formulas' notes' r → length notes' ≡ length notes
notes_kept (Enters.full most f w) = ap length w
notes_kept (Enters.held i few found f w) = ap length w
notes_kept {notes = notes} {count} {key} (Enters.new few found more) =
    ap length more.noted ∙ length_entered (set notes count more.atoms) count (record_numbers key) ∙ length-set notes count more.atoms

module _ (formulas notes : List ℕ) (atoms i : ℕ) (key : NodeRecord) (is_key : key ≡ record_from (node_at formulas i)) (fits : Bool)
    (back : (b : Body) → atoms ≡ b.atoms → i ≡ length b.nodes → fits ≡ refers_back b (node_from key.word key.first key.second)) where
  module _ (b : Body) (rows left right : List ℕ) (a : atoms ≡ b.atoms) (at : i ≡ length b.nodes) where
    abbrev t : Tables
    t = four formulas rows left right

    read_next : node_from key.word key.first key.second ≡ next_node t b
    read_next =
        ap (λ (n : NodeRecord). node_from n.word n.first n.second) (is_key ∙ ap (λ (k : ℕ). record_from (node_at formulas k)) at)

    is_back : fits ≡ refers_back b (next_node t b)
    is_back = back b a at ∙ ap (refers_back b) read_next

  -- no formula of those that may follow
  pub entered_none : fits ≡ false → NodeEntered formulas notes atoms i notes false
  entered_none e =
      record {
        stepped = λ b rows left right ground bare a at roomy.
            subst (λ (o : Option Body). FoundKnown o false notes)
            (sym (step_none b (next_node (four formulas rows left right) b) (sym (is_back b rows left right a at) ∙ e))) refl;
        kept = refl;
      }

  -- one that names earlier ones, which was noted or is held already
  pub entered_some : {notes' : List ℕ} {r : Entry} → fits ≡ true → FormulaEntered formulas notes i key (with_new formulas i key r) notes' r
      → (answer : Bool) → answer ≡ is_ok r → NodeEntered formulas notes atoms i notes' answer
  entered_some {notes'} {r} e noted answer is = record { stepped = stepped; kept = notes_kept noted.entry }
    where
      stepped : (b : Body) (rows left right : List ℕ) → Ground b (counts_of b) formulas notes rows left right → b.rows ≡ []
          → atoms ≡ b.atoms → i ≡ length b.nodes → Roomy notes → FoundKnown (node_step (four formulas rows left right) b) answer notes'
      stepped b rows left right ground bare a at roomy =
          subst (λ (o : Option Body). FoundKnown o answer notes')
          (sym (ap (λ (o : Option Node). and_then o (λ n. unless (first (node_tests b n)) (add_node b n))) found.1
          ∙ ap (λ (o : Option ℕ). unless o (add_node b node)) same_tests)) (by_entry r noted.entry is)
        where
          found : (m : Node) × (next_node (four formulas rows left right) b ≡ some m) × (refers_ahead b m ≡ false)
          found = back_node b (next_node (four formulas rows left right) b) (sym (is_back b rows left right a at) ∙ e)

          node : Node
          node = found.0

          is_record : record_numbers key ≡ node_record node
          is_record = node_exact key.word key.first key.second node (read_next b rows left right a at ∙ found.1)

          same_tests : first (node_tests b node) ≡ entry_refusal r
          same_tests =
              ap (λ (x : Bool). first ((5 when leb most_formulas (length b.nodes)) ∷ (7 when x) ∷ (8 when any (λ m. same_node m node) b.nodes) ∷ []))
              found.2
              ∙ shorter (leb most_formulas (length b.nodes))
              ∙ ap₂ (λ (k : ℕ) (l : List ℕ). first ((5 when leb most_formulas k) ∷ (8 when any (λ m. same_list (node_record m) l) b.nodes) ∷ []))
              (sym at) (sym is_record)
              ∙ sym (noted.refusal b.nodes ground.nodes ground.known.index)
            where
              shorter : (x : Bool) → first ((5 when x) ∷ (7 when false) ∷ (8 when any (λ m. same_node m node) b.nodes) ∷ [])
                  ≡ first ((5 when x) ∷ (8 when any (λ m. same_node m node) b.nodes) ∷ [])
              shorter true = refl
              shorter false = refl

          by_entry : (q : Entry) → Enters formulas notes i key (with_new formulas i key r) notes' q → answer ≡ is_ok q
              → FoundKnown (unless (entry_refusal q) (add_node b node)) answer notes'
          by_entry (Err (NoEntry.Held j)) h k = k
          by_entry (Err NoEntry.Full) h k = k
          by_entry (Ok j) (Enters.new few missing more) k = (k, known_more ground.good ground.known node is_record more found.2 at few roomy)

-- ---- all formulas

-- what is known after i formulas, with fresh notes in the beginning
pub record Along (formulas before : List ℕ) (c : Counts) (notes : List ℕ) (i : ℕ) (rows left right : List ℕ) : Type 0 where
  pub body : Body
  pub walked : repeated (node_step (four formulas rows left right)) i (bare c.atoms) ≡ some body
  pub ground : Ground body (counts_of body) formulas notes rows left right
  pub no_rows : body.rows ≡ []
  pub atoms_same : body.atoms ≡ c.atoms
  pub count : length body.nodes ≡ i

-- the notes of the most formulas, and all zero
pub record Fresh (notes : List ℕ) : Type 0 where
  pub roomy : Roomy notes
  pub zeros : notes ≡ replicate (length notes) 0

abbrev pub NodesSoFar : List ℕ → List ℕ → Counts → List ℕ → ℕ → Type 0
NodesSoFar formulas before c notes i =
    (i ≤ c.formulas) × (length notes ≡ length before)
    × ((rows left right : List ℕ) → c.atoms ≤ most_atoms → Fresh before → Along formulas before c notes i rows left right)

zero_at : (n i : ℕ) → ◌≡◌ {A = ℕ} (get_or (replicate n 0) i 0) 0
zero_at zero i = refl
zero_at (suc n) zero = refl
zero_at (suc n) (suc i) = zero_at n i

pub nodes_start : (formulas notes : List ℕ) (c : Counts) → NodesSoFar formulas notes c notes 0
nodes_start formulas notes c = (
  omega arith,
  refl,
  λ rows left right few fresh. record {
    body = bare c.atoms;
    walked = refl;
    ground =
        record {
          good = GoodBody.atoms c.atoms few;
          counts = refl;
          nodes = record { records = record { rest = formulas; whole = refl } };
          known =
              record {
                atoms = λ i h. absurd (omega arith);
                index = index_none notes (λ i. ap (λ (l : List ℕ). get_or l i 0) fresh.zeros ∙ zero_at (length notes) i);
              };
          rows_held =
              record {
                records = record { rest = rows; whole = refl };
                left_pool = record { rest = left; whole = refl };
                right_pool = record { rest = right; whole = refl };
              };
        };
    no_rows = refl;
    atoms_same = refl;
    count = refl;
  },
)

-- a body that was found, and that the notes know
pub found_some : (o : Option Body) (r : Bool) (notes : List ℕ) → FoundKnown o r notes → r ≡ true → (u : Body) × (o ≡ some u) × Known u notes
found_some none r notes h e = absurd (false≢true (sym h ∙ e))
found_some (some u) r notes h e = (u, refl, h.1)

pub found_none : (o : Option Body) (r : Bool) (notes : List ℕ) → FoundKnown o r notes → r ≡ false → o ≡ none
found_none none r notes h e = refl
found_none (some u) r notes h e = absurd (true≢false (sym h.0 ∙ e))

module _ (formulas before : List ℕ) (c : Counts) (notes notes' : List ℕ) (i : ℕ) (r : Bool) (so_far : NodesSoFar formulas before c notes i)
    (turn : NodeEntered formulas notes c.atoms i notes' r) where
  module _ (rows left right : List ℕ) (few : c.atoms ≤ most_atoms) (fresh : Fresh before) where
    abbrev along : Along formulas before c notes i rows left right
    along = so_far.2 rows left right few fresh

    stepped : FoundKnown (node_step (four formulas rows left right) along.body) r notes'
    stepped =
        turn.stepped along.body rows left right along.ground along.no_rows (sym along.atoms_same) (sym along.count)
        (omega (arith, fresh.roomy, so_far.1))

  pub nodes_more : r ≡ true → i < c.formulas → NodesSoFar formulas before c notes' (i + 1)
  nodes_more e h = (
    omega arith,
    turn.kept ∙ so_far.1,
    λ rows left right few fresh.
        let at = along rows left right few fresh in
        let t = four formulas rows left right in
        let next = found_some (node_step t at.body) r notes' (stepped rows left right few fresh) e in
        let was : Read t at.body = record { good = at.ground.good; nodes = at.ground.nodes; rows = at.ground.rows_held } in
        let read = node_step_read t at.body next.0 was at.no_rows next.1 in
        record {
          body = next.0;
          walked =
              ap (λ (k : ℕ). repeated (node_step t) k (bare c.atoms)) (add-one i)
              ∙ repeated_last (node_step t) i (bare c.atoms) at.body at.walked ∙ next.1;
          ground = record { good = read.0.good; counts = refl; nodes = read.0.nodes; known = next.2; rows_held = read.0.rows };
          no_rows = read.1;
          atoms_same = read.2 ∙ at.atoms_same;
          count = node_step_count t at.body next.0 next.1 ∙ ap (λ (k : ℕ). k + 1) at.count;
        },
  )

  pub nodes_fail : r ≡ false → i < c.formulas → NodesRead formulas before c notes' false
  nodes_fail e h =
      record {
        walked = λ rows left right few roomy zeros.
            let fresh : Fresh before = record { roomy = roomy; zeros = zeros } in
            let at = along rows left right few fresh in
            let t = four formulas rows left right in
            subst (λ (o : Option Body). FoundKnown o false notes')
            (sym (repeated_fails (node_step t) i c.formulas (bare c.atoms) at.body at.walked
            (found_none (node_step t at.body) r notes' (stepped rows left right few fresh) e) h)) refl;
        kept = turn.kept ∙ so_far.1;
      }

pub nodes_end : (formulas before : List ℕ) (c : Counts) (notes : List ℕ) (i : ℕ) → NodesSoFar formulas before c notes i → c.formulas ≤ i
    → NodesRead formulas before c notes true
nodes_end formulas before c notes i so_far all =
    record {
      walked = λ rows left right few roomy zeros.
          let at = so_far.2 rows left right few (record { roomy = roomy; zeros = zeros }) in
          let t = four formulas rows left right in
          let last : c.formulas ≡ i = omega (arith, so_far.0) in
          subst (λ (o : Option Body). FoundKnown o true notes)
          (sym (ap (λ (k : ℕ). repeated (node_step t) k (bare c.atoms)) last ∙ at.walked)) (refl, at.ground.known);
      kept = so_far.1;
    }
