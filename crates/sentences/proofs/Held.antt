-- The sentences that tables tell are those of the file, where they hold a good one whose names stand in the text.
use Prim.Native.Nat.{ℕ, zero, suc, ◌+◌, ◌<◌}
use native.Mathlib.Decide.{dec_lt}
use native.Mathlib.Omega.{arith}
use mathlib.Core.Bool.{Bool, false, cond}
use mathlib.Core.List.Memᴰ
use mathlib.Core.List.{
  List,
  [],
  ◌∷◌,
  ◌++◌,
  map,
  append_assoc,
}
use mathlib.Core.Logic.{⊎_elim}
use mathlib.Core.Option.{Option, none, some}
use mathlib.Core.Path.{◌≡◌, refl, sym, ap, ap₂, subst, ◌∙◌}
use borrow.Author.Tests.{leb-false, ne_eqb}
use lib.Dec.{eqb, lit<}
use lib.ListN.{length, get_or, drop, get_or-map, length-map}
use Rattle.equilibrium.specs.Meaning.{◌∈◌}
use Rattle.equilibrium.proofs.Sets.{dec_all, from_yes}
use Rattle.elk.specs.Sequent.{Kind, elk, refutation, Sequent}
use Rattle.elk.specs.Rules.{Rule, rules, def, code_of, entry, kind_of, premise_kinds}
use Rattle.elk.proofs.RuleCodes.{every_rule}
use Rattle.format.specs.Text.{Bytes, bytes, any, ◌<$>◌}
use Rattle.format.specs.File.{Row, Name, Body, File}
use Rattle.format.specs.Tables.{Side, absent, or_absent, join_all, name_record, fetched}
use Rattle.format.specs.Tests.{first, not_earlier, unknown_formula, listed, premises_of, body_tests}
use Rattle.format.specs.Good.{GoodBody, atoms, formula, GoodNames}
use Rattle.format.specs.Written.{decimal}
use Rattle.format.proofs.Booleans.{any_false}
use Rattle.format.proofs.Tested.{passes, passed_row}
use Rattle.format.proofs.RowPasses.{ten_exactly}
use Rattle.format.proofs.GoodBodies.{in_get_d, good_held}
use Rattle.format.proofs.Formulas.{known_earlier}
use Rattle.rules.specs.RuleTable.{kind_number}
use Rattle.rules.proofs.RuleNumbers.{rule_number_lem}
use Rattle.tables.specs.Records.{row_from}
use Rattle.tables.specs.Holding.{Begins, HoldsNodes, HoldsRows}
use Rattle.tables.specs.Names.{StandsIn}
use Rattle.tables.proofs.Encoded.{row_held, side_held}
use Rattle.words.specs.Told.{Named, names_of, named_at, told_row, told_file}
use Rattle.words.specs.Meanings.{meaning_of}
use Rattle.words.specs.Words.{joined, principal_words, premise_words, side_words, sentence, sentences}
use Rattle.words.proofs.Meanings.{meaning_at_lem}
use Rattle.words.proofs.Unrolled.{file_row_first, file_rows_end}
use Rattle.writer.specs.Names.{spelling}
use Rattle.writer.proofs.Spelled.{spelling_held}
use Rattle.phrases.specs.Formulas.{table_formula}
use Rattle.phrases.specs.Rows.{kind_by, premises_from, table_principal, table_side}
use Rattle.phrases.proofs.HeldFormulas.{held_formula}
use Rattle.sentences.specs.Sentences.{elk_rule, heading_words, ground_words, sequent_words, sentence_by, table_sentence, table_sentences}

-- the tables hold the file, and its names stand in the text
pub record HoldsFile (text : Bytes) (f : File) (names formulas table left right : List ℕ) : Type 0 where
  pub good : GoodBody f.body
  pub named : GoodNames f.body.atoms f.names
  pub names_in : (n : Name) → n ∈ f.names → StandsIn text n
  pub names_table : Begins (join_all name_record f.names) names
  pub nodes : HoldsNodes f.body.nodes formulas
  pub rows : HoldsRows f.body.rows table left right

-- ---- rules

-- no rule has more than two premises, by one computed test
two_premises : (r : Rule) → length (premise_kinds (entry r)) < 3
unfolding dec_all dec_lt
two_premises r = from_yes (dec_all (λ q. dec_lt (length (premise_kinds (entry q))) 3) rules) tt r (every_rule r)

-- the calculus of a rule, by its code
kind_told : (r : Rule) → kind_by (elk_rule (code_of r)) ≡ kind_of (entry r)
unfolding elk_rule
kind_told r = ap (λ (n : ℕ). kind_by (eqb n 0)) (rule_number_lem r 1 (lit< tt)) ∙ own (kind_of (entry r))
  where
    own : (k : Kind) → kind_by (eqb (kind_number k) 0) ≡ k
    own elk = refl
    own refutation = refl

-- ---- rows of a good body

-- what a row names: so many formulas are known, and two premises at most, none of them absent
record GoodRow (known : ℕ) (r : Row) : Type 0 where
  about : (i : ℕ) → i ∈ listed r.principal → i < known
  few : length r.premises < 3
  present_premises : (i : ℕ) → i ∈ r.premises → i < absent

-- a row that passes its tests
passing_row : (b : Body) (r : Row) → first (body_tests b r) ≡ none → GoodRow (length b.nodes) r
passing_row b r ok =
    let passed = passed_row b r ok in
    let kinds = ((ten_exactly b r).0 (passes 10 (body_tests b r) ok)).premises in
    record {
      about = known_earlier b (listed r.principal) passed.principal_known;
      few = omega (arith, two_premises r.rule, ap length kinds, length-map (premises_of b r) (λ (s : Sequent). s.kind), as_many);
      present_premises = λ i m. omega (arith, passed.rows_room, earlier passed.premises_earlier i m);
    }
  where
    as_many : length (premises_of b r) ≡ length r.premises
    as_many = length-map r.premises _

    earlier : any (not_earlier (length b.rows)) r.premises ≡ false → (i : ℕ) → i ∈ r.premises → i < length b.rows
    earlier e i m = leb-false (length b.rows) i (any_false (not_earlier (length b.rows)) r.premises e i m)

-- every row of a good body
good_row : {b : Body} → GoodBody b → (r : Row) → r ∈ b.rows → GoodRow (length b.nodes) r
good_row (atoms n h) r m = absurd (Memᴰ.not-nil m)
good_row (formula {b} g none_yet node ok) r m = absurd (Memᴰ.not-nil (subst (λ (rs : List Row). r ∈ rs) none_yet m))
good_row (GoodBody.row {b} g q ok) r m =
    ⊎_elim (λ k. good_row g r k) (λ k. subst (GoodRow (length b.nodes)) (sym (Memᴰ.eq_of_singleton k)) (passing_row b q ok))
    (Memᴰ.append_cases b.rows m)

-- ---- the parts of a row

-- two premises at most, as the record of a row has them
premises_told : (ps : List ℕ) → length ps < 3 → ((i : ℕ) → i ∈ ps → i < absent) → premises_from (get_or ps 0 absent) (get_or ps 1 absent) ≡ ps
unfolding premises_from
premises_told [] l h = refl
premises_told (p ∷ []) l h = rw (ne_eqb p absent (λ e. omega (arith, h p (Memᴰ.head refl))))
premises_told (p ∷ q ∷ []) l h =
    rw (
      ne_eqb p absent (λ e. omega (arith, h p (Memᴰ.head refl))),
      ne_eqb q absent (λ e. omega (arith, h q (Memᴰ.tail (Memᴰ.head refl)))),
    )
premises_told (p ∷ q ∷ r ∷ ps) l h = absurd (omega arith)

-- functions that agree on a list
same_map : {X Y : Type 0} (f g : X → Y) (xs : List X) → ((x : X) → x ∈ xs → f x ≡ g x) → map f xs ≡ map g xs
same_map f g [] h = refl
same_map f g (x ∷ xs) h = ap₂ (λ y ys. y ∷ ys) (h x (Memᴰ.head refl)) (same_map f g xs (λ y m. h y (Memᴰ.tail m)))

-- the pieces of two lists, one behind the other
joined_append : (ps qs : List Bytes) → joined ps ++ joined qs ≡ joined (ps ++ qs)
joined_append [] qs = refl
joined_append (p ∷ ps) qs = append_assoc p (joined ps) (joined qs) ∙ ap (λ (rest : Bytes). p ++ rest) (joined_append ps qs)

-- no name, and no row
abbrev no_name : Name
no_name = record { start = 0; name = [] }

abbrev no_row : Row
no_row = record { rule = def; principal = none; premises = []; left = []; right = [] }

module _ {text : Bytes} {f : File} {names formulas table left right : List ℕ} (held : HoldsFile text f names formulas table left right) where
  -- the formula of a number
  abbrev named_by : ℕ → Named
  named_by i = named_at (names_of f) f.body.nodes i

  -- the name of an atom
  name_told : (k : ℕ) → k < f.body.atoms → spelling text names k ≡ get_or (names_of f) k []
  name_told k h =
      let inside : k < length f.names = omega (arith, held.named.count) in
      spelling_held text names k f.names no_name held.names_table inside (held.names_in _ (in_get_d f.names k no_name inside))
      ∙ sym (get_or-map (λ (n : Name). n.name) f.names k no_name)

  -- the formula of a number, as the tables tell it
  formula_told : (i : ℕ) → i < length f.body.nodes → table_formula text names formulas i ≡ named_by i
  formula_told = held_formula text names formulas (names_of f) f.body (record { good = held.good; table = held.nodes }) name_told

  -- the principal formula
  principal_told : (p : Option ℕ) → ((i : ℕ) → i ∈ listed p → i < length f.body.nodes)
      → table_principal text names formulas (or_absent p) ≡ (named_by <$> p)
  unfolding table_principal
  principal_told none h = refl
  principal_told (some i) h =
      let known = h i (Memᴰ.head refl) in
      ap (λ (t : Bool). table_formula text names formulas <$> cond t none (some i)) (ne_eqb i absent (λ e. omega (arith, (good_held held.good).few_nodes)))
      ∙ ap some (formula_told i known)

  -- a side of known formulas
  side_told : (kind : Kind) (side : Side) (is : List ℕ) → unknown_formula f.body is ≡ false
      → table_side text names formulas kind side is ≡ side_words kind side (map named_by is)
  unfolding table_side
  side_told kind side is known =
      ap (λ (As : List Named). side_words kind side As)
      (same_map (table_formula text names formulas) named_by is (λ i m. formula_told i (known_earlier f.body is known i m)))

  -- the words of two sides
  abbrev sides_of : Kind → List ℕ → List ℕ → Bytes
  sides_of k ls rs = joined (table_side text names formulas k Side.left ls ∷ bytes "; " ∷ table_side text names formulas k Side.right rs ∷ bytes ".\n" ∷ [])

  module _ (n : ℕ) (d : Row) (h : n < length f.body.rows) where
    abbrev r : Row
    r = get_or f.body.rows n d

    abbrev kind : Kind
    kind = kind_of (entry r.rule)

    in_rows : r ∈ f.body.rows
    in_rows = in_get_d f.body.rows n d h

    -- the pieces of its sentence: number and meaning, what it rests on, and what it says
    abbrev heading : List Bytes
    heading = bytes "Row " ∷ decimal n ∷ bytes ": " ∷ bytes (meaning_of r.rule) ∷ bytes "; " ∷ []

    abbrev grounds : List Bytes
    grounds = principal_words (named_by <$> r.principal) ∷ bytes "; " ∷ premise_words r.premises ∷ bytes "; " ∷ []

    abbrev sequent : List Bytes
    sequent = side_words kind Side.left (map named_by r.left) ∷ bytes "; " ∷ side_words kind Side.right (map named_by r.right) ∷ bytes ".\n" ∷ []

    -- each of the three, as the tables tell it
    heading_told : heading_words n (code_of r.rule) ≡ joined heading
    unfolding heading_words
    heading_told = ap (λ (meaning : Bytes). joined (bytes "Row " ∷ decimal n ∷ bytes ": " ∷ meaning ∷ bytes "; " ∷ [])) (meaning_at_lem r.rule)

    grounds_told : ground_words text names formulas (or_absent r.principal) (get_or r.premises 0 absent) (get_or r.premises 1 absent) ≡ joined grounds
    unfolding ground_words
    grounds_told =
        let own = good_row held.good r in_rows in
        ap₂ (λ (p : Option Named) (ps : List ℕ). joined (principal_words p ∷ bytes "; " ∷ premise_words ps ∷ bytes "; " ∷ []))
        (principal_told r.principal own.about) (premises_told r.premises own.few own.present_premises)

    sequent_told : sequent_words text names formulas table left right (kind_by (elk_rule (code_of r.rule))) n ≡ joined sequent
    unfolding sequent_words
    sequent_told =
        let row = (good_held held.good).rows r in_rows in
        ap (λ (k : Kind). sides_of k (fetched table left right Side.left n) (fetched table left right Side.right n)) (kind_told r.rule)
        ∙ ap₂ (sides_of kind) (side_held held.rows n d h Side.left) (side_held held.rows n d h Side.right)
        ∙ ap₂ (λ (l m : Bytes). joined (l ∷ bytes "; " ∷ m ∷ bytes ".\n" ∷ []))
        (side_told kind Side.left r.left row.left_known) (side_told kind Side.right r.right row.right_known)

    -- the sentence of a row
    pub held_sentence : table_sentence text names formulas table left right n ≡ sentence n (told_row (names_of f) f.body.nodes r)
    unfolding table_sentence sentence
    held_sentence =
        ap (λ (numbers : List ℕ). sentence_by text names formulas table left right n (row_from numbers)) (row_held held.rows n d h)
        ∙ ap₂ (λ (a b : Bytes). a ++ b) heading_told (ap₂ (λ (a b : Bytes). a ++ b) grounds_told sequent_told ∙ joined_append grounds sequent)
        ∙ joined_append heading (grounds ++ sequent)

  -- the sentences of the rows from n on
  sentences_from : (n count : ℕ) → n + count ≡ length f.body.rows
      → table_sentences text names formulas table left right n count ≡ sentences n (drop n (told_file f))
  unfolding table_sentences
  sentences_from n zero e = sym (file_rows_end f n (omega arith))
  sentences_from n (suc count) e =
      ap₂ (λ (words more : Bytes). words ++ more) (held_sentence n no_row (omega arith)) (sentences_from (n + 1) count (omega arith))
      ∙ sym (file_row_first f n no_row (omega arith))

  -- the sentences of the whole file
  pub held_sentences : table_sentences text names formulas table left right 0 (length f.body.rows) ≡ sentences 0 (told_file f)
  held_sentences = sentences_from 0 (length f.body.rows) (omega arith)
