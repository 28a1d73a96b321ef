-- The formula that tables tell is the body's, where they hold the formulas of a good body and the names of its atoms.
use Prim.Native.Nat.{ℕ, zero, suc, ◌<◌, ◌≤◌}
use native.Mathlib.Omega.{arith}
use mathlib.Core.List.{List, []}
use mathlib.Core.Path.{◌≡◌, sym, ap, ap₂, ◌∙◌}
use lib.ListN.{length, get_or}
use Rattle.format.specs.Text.{Bytes}
use Rattle.format.specs.File.{Node, Body, formula_of, formulas}
use Rattle.format.specs.Tables.{node_record}
use Rattle.format.proofs.GoodBodies.{good_held, node_at as heldNode}
use Rattle.format.proofs.Formulas.{decoded_node}
use Rattle.tables.specs.Records.{record_from}
use Rattle.tables.specs.Holding.{Formulas}
use Rattle.tables.specs.declared.records.NodeRecord.{NodeRecord}
use Rattle.tables.proofs.Encoded.{node_held}
use Rattle.words.specs.Told.{Named, atom, neg, conj, disj, imp, named, named_at}
use Rattle.words.proofs.Nodes.{Earlier, node_earlier}
use Rattle.writer.specs.Names.{spelling}
use Rattle.phrases.specs.Formulas.{word_before, formula_by, table_formula}
use Rattle.std.proofs.lemmas.Bool.Decides.{nat_tests}
use Rattle.phrases.proofs.TableFormulas.{table_formula_lem}

-- the record of a node
abbrev record_of : Node → NodeRecord
record_of n = record_from (node_record n)

-- the word of a record whose parts come before it is its own; that of falsum is, whatever its parts are
word_bot : (i : ℕ) → word_before (record_of Node.bot) i ≡ 0
unfolding word_before
word_bot i = grind (arith, nat_tests)

word_not : (i j : ℕ) → j < i → word_before (record_of (Node.not j)) i ≡ 2
unfolding word_before
word_not i j h = grind (arith, nat_tests)

word_two : (n : NodeRecord) (i : ℕ) → 2 < n.word → n.word ≤ 5 → n.first < i → n.second < i → word_before n i ≡ n.word
unfolding word_before
word_two n i l m f g = grind (arith, nat_tests)

module _ (text : Bytes) (names table : List ℕ) where
  -- the formula of number i in the table
  abbrev table_at : ℕ → Named
  table_at i = table_formula text names table i

  -- the formula of a record with this word
  abbrev record_by : NodeRecord → ℕ → Named
  record_by n word = formula_by word (spelling text names n.first) (table_at n.first) (table_at n.second)

  module _ (known : List Bytes) (b : Body) (spelt : (k : ℕ) → k < b.atoms → spelling text names k ≡ get_or known k []) where
    -- the formula of number i in the body
    abbrev body_at : ℕ → Named
    body_at i = named_at known b.nodes i

    -- the formula of a node's record is that of the node, where those before it are
    by_node : (i : ℕ) (n : Node) → Earlier b.atoms i n → ((j : ℕ) → j < i → table_at j ≡ body_at j)
        → record_by (record_of n) (word_before (record_of n) i) ≡ named known (formula_of (formulas b.nodes) n)
    unfolding word_before
    by_node i Node.bot earlier before = ap (record_by (record_of Node.bot)) (word_bot i)
    by_node i (Node.atom k) earlier before = ap atom (spelt k earlier)
    by_node i (Node.not j) earlier before =
        ap (record_by (record_of (Node.not j))) (word_not i j earlier) ∙ ap neg (before j earlier)
    by_node i (Node.and j k) earlier before =
        ap (record_by (record_of (Node.and j k))) (word_two (record_of (Node.and j k)) i (omega arith) (omega arith) earlier.0 earlier.1)
        ∙ ap₂ conj (before j earlier.0) (before k earlier.1)
    by_node i (Node.or j k) earlier before =
        ap (record_by (record_of (Node.or j k))) (word_two (record_of (Node.or j k)) i (omega arith) (omega arith) earlier.0 earlier.1)
        ∙ ap₂ disj (before j earlier.0) (before k earlier.1)
    by_node i (Node.imp j k) earlier before =
        ap (record_by (record_of (Node.imp j k))) (word_two (record_of (Node.imp j k)) i (omega arith) (omega arith) earlier.0 earlier.1)
        ∙ ap₂ imp (before j earlier.0) (before k earlier.1)

    module _ (held : Formulas b table) where
      -- the formulas of all numbers before n
      below : (n i : ℕ) → i < n → i < length b.nodes → table_at i ≡ body_at i
      below zero i l h = absurd (omega arith)
      below (suc n) i l h =
          table_formula_lem text names table i
          ∙ ap (λ (numbers : List ℕ). record_by (record_from numbers) (word_before (record_from numbers) i)) (node_held held.table i Node.bot h)
          ∙ by_node i (heldNode b i) (node_earlier held.good i h) (λ j k. below n j (omega arith) (omega arith))
          ∙ ap (named known) (sym (decoded_node (good_held held.good) i h))

-- the formula of every number
pub held_formula : (text : Bytes) (names formulas : List ℕ) (known : List Bytes) (b : Body) → Formulas b formulas
    → ((k : ℕ) → k < b.atoms → spelling text names k ≡ get_or known k [])
    → (i : ℕ) → i < length b.nodes → table_formula text names formulas i ≡ named_at known b.nodes i
held_formula text names table known b held spelt i h = below text names table known b spelt held (suc i) i (omega arith) h
