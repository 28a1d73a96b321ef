-- From the calculus to the file: every derivation has formulas and rows for it, which are good if they are within the most
-- counts; and so a text with these rows, which is accepted.
use Prim.Native.Nat.{ℕ, ◌+◌, ◌≤◌, ◌<◌}
use mathlib.Core.Path.{◌≡◌, refl, sym, ap, subst}
use mathlib.Core.Bool.{true, false}
use mathlib.Core.List.Memᴰ
use mathlib.Core.List.{List, [], ◌∷◌, ◌++◌, map}
use mathlib.Core.Option.{Option, none, some}
use mathlib.Core.Logic.{◌↔◌, ⊎_elim}
use native.Mathlib.Omega.{arith}
use lib.ListN.{length, get_or, length-append, get_or-append}
use lib.Seq.{get_or_at}
use borrow.Author.Tests.{le-ltb, leb-true}
use Rattle.equilibrium.specs.Formula.{Formula, atoms_in}
use Rattle.equilibrium.specs.Meaning.{◌∈◌, ◌⊆◌, ◌≈◌, Entails}
use Rattle.equilibrium.proofs.Sets.{≈-sym, dec_in}
use Rattle.equilibrium.proofs.Models.{only_occurring}
use Rattle.elk.specs.Sequent.{elk, Sequent, ◌⇒◌, Same, AllSame}
use Rattle.elk.specs.Rules.{Rule, entry, kind_of, rules}
use Rattle.elk.specs.Instance.{Instance}
use Rattle.elk.specs.Derivation.{Derivation, start, row, EndsIn}
use Rattle.elk.proofs.Steps.{same_trans}
use Rattle.elk.proofs.Entries.{atoms_part}
use Rattle.elk.proofs.Main.{derivable_iff_entailed}
use Rattle.elk.proofs.Faithful.{instance_shaped}
use Rattle.elk.proofs.Equality.{formula_discrete}
use Rattle.format.specs.Text.{Bytes, ◌<$>◌, any, strictly_rising}
use Rattle.format.specs.File.{Node, Row, Body, decoded_at, decoded, sequent_of}
use Rattle.format.specs.Tables.{left_pool, right_pool, most_atoms, most_rows, most_entries, most_on_side, most_bytes}
use Rattle.format.specs.Tests.{first, not_earlier, listed, bad_side, last_is, premises_of, body_tests}
use Rattle.format.specs.Model.{ModelFits, model_fits}
use Rattle.format.specs.Good.{GoodBody, GoodNames, GoodModel}
use Rattle.format.specs.Passing.{RowInstance}
use Rattle.format.specs.Document.{Document, written, names_in, body_of, GoodDocument}
use Rattle.format.specs.Transcript.{plain_names, count_to, principals, formulas_in, IsStep, AreSteps, Within, SidesRise}
use Rattle.format.specs.Transcript.{Transcript, document_of, ModelRises, TextFor}
use Rattle.format.proofs.Booleans.{any_none, list_same}
use Rattle.format.proofs.Tested.{PassedRow}
use Rattle.format.proofs.ModelFits.{fits_same}
use Rattle.format.proofs.GoodBodies.{joined_snoc}
use Rattle.format.proofs.Enough.{row_enough}
use Rattle.format.proofs.WrittenDocuments.{written_accepted, written_contents}
use Rattle.format.proofs.InstanceOfSets.{instance_same}
use Rattle.format.proofs.PlainNames.{plain_length, plain_good, below_count}
use Rattle.format.proofs.Numbering.{NodesFor, nodes_for}
use Rattle.format.proofs.RisingNumbers.{those_from, in_those_from, those_rise}

none_later : (held : ℕ) (is : List ℕ) → ((i : ℕ) → i ∈ is → i < held) → any (not_earlier held) is ≡ false
none_later held is h = any_none (not_earlier held) is (λ i m e. let l = h i m in let k = leb-true held i e in omega arith)

-- ---- rows as numbers

-- a row that stands for a sequent
abbrev Found : List Node → List Row → Sequent → Type 0
Found nodes rows s = (i : ℕ) × (i < length rows) × ((d : Row) → Same (sequent_of nodes (get_or rows i d)) s)

-- one row more
found_more : (nodes : List Node) (rows : List Row) (q : Row) (ss : List Sequent) (s : Sequent) → Same (sequent_of nodes q) s
    → ((t : Sequent) → t ∈ ss → Found nodes rows t) → (t : Sequent) → t ∈ s ∷ ss → Found nodes (rows ++ q ∷ []) t
found_more nodes rows q ss s same f t m = ⊎_elim last (λ k. old (f t k)) (Memᴰ.cases_cons m)
  where
    last : t ≡ s → Found nodes (rows ++ q ∷ []) t
    last e = (
      length rows,
      omega (arith, length-append rows (q ∷ [])),
      λ d. subst (λ u. Same (sequent_of nodes (get_or (rows ++ q ∷ []) (length rows) d)) u) (sym e) (rw (get_or_at rows q [] d (length rows) refl) same),
    )

    old : Found nodes rows t → Found nodes (rows ++ q ∷ []) t
    old at = (at.0, omega (arith, at.1, length-append rows (q ∷ [])), λ d. rw (get_or-append rows (q ∷ []) d at.0 at.1) (at.2 d))

-- numbers for premises that are all found
record Numbers (nodes : List Node) (rows : List Row) (premises : List Sequent) : Type 0 where
  numbers : List ℕ
  earlier : (i : ℕ) → i ∈ numbers → i < length rows
  same : (d : Row) → AllSame (map (λ i. sequent_of nodes (get_or rows i d)) numbers) premises

premise_numbers : (nodes : List Node) (rows : List Row) (premises : List Sequent) → ((s : Sequent) → s ∈ premises → Found nodes rows s)
    → Numbers nodes rows premises
premise_numbers nodes rows [] f = record { numbers = []; earlier = λ i m. absurd (Memᴰ.not-nil m); same = λ d. tt }
premise_numbers nodes rows (s ∷ ss) f = add (f s (Memᴰ.head refl)) (premise_numbers nodes rows ss (λ t m. f t (Memᴰ.tail m)))
  where
    add : Found nodes rows s → Numbers nodes rows ss → Numbers nodes rows (s ∷ ss)
    add at rest =
        record {
          numbers = at.0 ∷ rest.numbers;
          earlier = λ i m. ⊎_elim (λ (e : i ≡ at.0). subst (λ k. k < length rows) (sym e) at.1) (rest.earlier i) (Memᴰ.cases_cons m);
          same = λ d. (at.2 d, rest.same d);
        }

-- ---- room

module _ (atoms : ℕ) (nodes : List Node) where
  abbrev body : List Row → Body
  body rows = record { atoms = atoms; nodes = nodes; rows = rows }

  module _ (before : List Row) (q : Row) (w : Within (body (before ++ q ∷ []))) where
    count : length before + 1 ≤ most_rows
    count = let rows = w.rows in omega (arith, length-append before (q ∷ []))

    left_count : length (left_pool before) + length q.left ≤ most_entries
    left_count = let left = w.left_pool in omega (arith, joined_snoc (λ (r : Row). r.left) before q)

    right_count : length (right_pool before) + length q.right ≤ most_entries
    right_count = let right = w.right_pool in omega (arith, joined_snoc (λ (r : Row). r.right) before q)

    -- what is within the most counts was so before its last row
    within_before : Within (body before)
    within_before =
        record {
          atoms = w.atoms;
          nodes = w.nodes;
          rows = omega (arith, count);
          left_pool = omega (arith, left_count);
          right_pool = omega (arith, right_count);
          left = λ r m. w.left r (Memᴰ.append_left (q ∷ []) m);
          right = λ r m. w.right r (Memᴰ.append_left (q ∷ []) m);
        }

-- ---- rows for a derivation

-- nodes that have a number for each of some formulas
module _ (atoms : ℕ) (nodes : List Node) (As : List Formula) (number : (A : Formula) → A ∈ As → (i : ℕ) × (i < length nodes) × (decoded_at nodes i ≡ A)) where
  -- the numbers of the formulas of a side
  side : List Formula → List ℕ
  side L = those_from (λ i. dec_in formula_discrete (decoded_at nodes i) L) (length nodes) 0

  in_side : (L : List Formula) (i : ℕ) → (i ∈ side L) ↔ ((i < length nodes) × (decoded_at nodes i ∈ L))
  unfolding side
  in_side L i =
      let h = in_those_from (λ j. dec_in formula_discrete (decoded_at nodes j) L) (length nodes) 0 i in
      (λ m. (omega (arith, (h.0 m).1), (h.0 m).2), λ k. h.1 (omega arith, omega (arith, k.0), k.1))

  -- they stand for the same set
  side_same : (L : List Formula) → L ⊆ As → decoded nodes (side L) ≈ L
  side_same L h = (λ A m. there A (Memᴰ.of_map (decoded_at nodes) (side L) m), λ A m. back A m (number A (h A m)))
    where
      there : (A : Formula) → (i : ℕ) × (i ∈ side L) × (decoded_at nodes i ≡ A) → A ∈ L
      there A i = Memᴰ.cast (sym i.2) ((in_side L i.0).0 i.1).1

      back : (A : Formula) → A ∈ L → (i : ℕ) × (i < length nodes) × (decoded_at nodes i ≡ A) → A ∈ decoded nodes (side L)
      back A m i = Memᴰ.cast (sym i.2) (Memᴰ.map (decoded_at nodes) ((in_side L i.0).1 (i.1, Memᴰ.cast i.2 m)))

  side_there : (L : List Formula) → any (not_earlier (length nodes)) (side L) ≡ false
  side_there L = none_later (length nodes) (side L) (λ i m. ((in_side L i).0 m).0)

  side_rises : (L : List Formula) → strictly_rising (side L) ≡ true
  unfolding side
  side_rises L = those_rise (λ i. dec_in formula_discrete (decoded_at nodes i) L) (length nodes) 0

  side_good : (L : List Formula) → length (side L) ≤ most_on_side → bad_side (side L) ≡ false
  side_good L l = rw (side_rises L, le-ltb most_on_side (length (side L)) l)

  -- the number of a principal formula
  principal_number_lem : (F : Option Formula) → principals F ⊆ As
      → (o : Option ℕ) × ((decoded_at nodes <$> o) ≡ F) × (any (not_earlier (length nodes)) (listed o) ≡ false)
  principal_number_lem none h = (none, refl, refl)
  principal_number_lem (some A) h =
      let i = number A (h A (Memᴰ.head refl)) in
      (some i.0, ap some i.2, none_later (length nodes) (i.0 ∷ []) (λ j m. subst (λ k. k < length nodes) (sym (Memᴰ.eq_of_singleton m)) i.1))

  -- one step more
  module _ (before : List Row) (r : Rule) (F : Option Formula) (premises : List Sequent) (s : Sequent) (i : Instance r F premises s)
      (principal : principals F ⊆ As) (left : s.left ⊆ As) (right : s.right ⊆ As) (found : (t : Sequent) → t ∈ premises → Found nodes before t) where
    above : Numbers nodes before premises
    above = premise_numbers nodes before premises found

    named : (o : Option ℕ) × ((decoded_at nodes <$> o) ≡ F) × (any (not_earlier (length nodes)) (listed o) ≡ false)
    named = principal_number_lem F principal

    q : Row
    q = record { rule = r; principal = named.0; premises = above.numbers; left = side s.left; right = side s.right }

    is_step : IsStep (body atoms nodes before) q r F premises s
    unfolding q
    is_step =
        record {
          rule = refl;
          principal = named.1;
          premises_same = above.same q;
          sequent = record { kind = sym (instance_shaped (entry r) F i).below; left = side_same s.left left; right = side_same s.right right };
        }

    is_instance : RowInstance (body atoms nodes before) q
    unfolding q
    is_instance =
        let step = is_step in
        subst (λ (G : Option Formula). Instance r G (premises_of (body atoms nodes before) q) (sequent_of nodes q)) (sym step.principal)
        (instance_same (entry r) F premises (premises_of (body atoms nodes before) q) step.premises_same step.sequent i)

    rises : SidesRise q
    unfolding q
    rises = (side_rises s.left, side_rises s.right)

    passed : Within (body atoms nodes (before ++ q ∷ [])) → PassedRow (body atoms nodes before) q
    unfolding q
    passed w =
        record {
          rows_room = omega (arith, count atoms nodes before q w);
          left_room = left_count atoms nodes before q w;
          right_room = right_count atoms nodes before q w;
          principal_known = named.2;
          premises_earlier = none_later (length before) above.numbers above.earlier;
          left_known = side_there s.left;
          right_known = side_there s.right;
          left_good = side_good s.left (w.left q last);
          right_good = side_good s.right (w.right q last);
        }
      where
        last : q ∈ before ++ q ∷ []
        last = Memᴰ.append_right before (Memᴰ.head refl)

    passing : Within (body atoms nodes (before ++ q ∷ [])) → first (body_tests (body atoms nodes before) q) ≡ none
    passing w = row_enough (body atoms nodes before) q (passed w) is_instance

  record RowsFor {ss : List Sequent} (d : Derivation rules ss) : Type 0 where
    rows : List Row
    steps : AreSteps atoms nodes rows d
    found : (s : Sequent) → s ∈ ss → Found nodes rows s
    rising : (r : Row) → r ∈ rows → SidesRise r
    good : GoodBody (body atoms nodes []) → Within (body atoms nodes rows) → GoodBody (body atoms nodes rows)

  rows_for : {ss : List Sequent} (d : Derivation rules ss) → formulas_in d ⊆ As → RowsFor d
  rows_for start h =
      record { rows = []; steps = refl; found = λ s m. absurd (Memᴰ.not-nil m); rising = λ r m. absurd (Memᴰ.not-nil m); good = λ g w. g }
  rows_for (row {rows = ss} d r u F premises {s = s} inside i) h =
      add (rows_for d (λ A m. h A (past (Memᴰ.append_right s.left (Memᴰ.append_right s.right m)))))
    where
      past : {A : Formula} {Bs : List Formula} → A ∈ Bs → A ∈ principals F ++ Bs
      past m = Memᴰ.append_right (principals F) m

      principal : principals F ⊆ As
      principal A m = h A (Memᴰ.append_left _ m)

      left : s.left ⊆ As
      left A m = h A (past (Memᴰ.append_left _ m))

      right : s.right ⊆ As
      right A m = h A (past (Memᴰ.append_right s.left (Memᴰ.append_left _ m)))

      add : RowsFor d → RowsFor (row d r u F premises inside i)
      add rest =
          record {
            rows = before ++ next ∷ [];
            steps = (before, next, refl, rest.steps, step);
            found = found_more nodes before next ss s step.sequent rest.found;
            rising = λ p m. ⊎_elim (rest.rising p) (λ k. subst SidesRise (sym (Memᴰ.eq_of_singleton k)) next_rises) (Memᴰ.append_cases before m);
            good = λ g w. GoodBody.row (rest.good g (within_before atoms nodes before next w)) next (passes w);
          }
        where
          before : List Row
          before = rest.rows

          above : (t : Sequent) → t ∈ premises → Found nodes before t
          above t m = rest.found t (inside t m)

          next : Row
          next = q before r F premises s i principal left right above

          passes : Within (body atoms nodes (before ++ next ∷ [])) → first (body_tests (body atoms nodes before) next) ≡ none
          passes = passing before r F premises s i principal left right above

          next_rises : SidesRise next
          next_rises = rises before r F premises s i principal left right above

          step : IsStep (body atoms nodes before) next r F premises s
          step = is_step before r F premises s i principal left right above

-- ---- the theorems

-- every derivation whose atoms are below a number has formulas and rows
pub transcribed : (atoms : ℕ) {ss : List Sequent} (d : Derivation rules ss) → ((p : ℕ) → p ∈ atoms_in (formulas_in d) → p < atoms) → Transcript atoms d
transcribed atoms d below =
    record {
      nodes = ns.nodes;
      rows = rs.rows;
      steps = rs.steps;
      needed = ns.needed;
      once = ns.once;
      rising = rs.rising;
      good = λ w. rs.good (ns.good w.atoms w.nodes) w;
    }
  where
    ns : NodesFor atoms (formulas_in d)
    ns = nodes_for atoms (formulas_in d) below

    rs : RowsFor atoms ns.nodes (formulas_in d) ns.number d
    rs = rows_for atoms ns.nodes (formulas_in d) ns.number d (λ A m. m)

last_step : (atoms : ℕ) (nodes : List Node) (qs : List Row) {s : Sequent} {ss : List Sequent} (d : Derivation rules (s ∷ ss)) → AreSteps atoms nodes qs d
    → (before : List Row) × (q : Row) × (qs ≡ before ++ q ∷ []) × Same (sequent_of nodes q) s
last_step atoms nodes qs (row d r u F premises inside i) steps = (steps.0, steps.1, steps.2, steps.4.sequent)

-- the last row of a transcript of a derivation of L => R is L => R
pub transcript_ends : {atoms : ℕ} {L R : List Formula} (e : EndsIn L R) (t : Transcript atoms e.derivation)
    → (before : List Row) × (q : Row) × (t.rows ≡ before ++ q ∷ []) × Same (sequent_of t.nodes q) (L ⇒ R)
transcript_ends {atoms} e t =
    let last = last_step atoms t.nodes t.rows e.derivation t.steps in
    (last.0, last.1, last.2, same_trans last.3 e.ends)

last_is_lem : (rows before : List Row) (q : Row) → rows ≡ before ++ q ∷ [] → kind_of (entry q.rule) ≡ elk → last_is rows q.left q.right ≡ true
last_is_lem rows before q split e = rw split (ends before)
  where
    ends : (before : List Row) → last_is (before ++ q ∷ []) q.left q.right ≡ true
    ends [] = rw (e, list_same q.left, list_same q.right)
    ends (r ∷ []) = ends []
    ends (r ∷ p ∷ ps) = ends (p ∷ ps)

-- the left side of a derivation's last row is among the formulas that it names
left_named : {s : Sequent} {ss : List Sequent} (d : Derivation rules (s ∷ ss)) → s.left ⊆ formulas_in d
left_named (row d r u F premises {s = s} inside i) A m = Memᴰ.append_right (principals F) (Memᴰ.append_left _ m)

-- a model that confirms the claim of a derivation over so many atoms can stand on an M line
model_good : {L R : List Formula} (atoms : ℕ) (e : EndsIn L R) → ((p : ℕ) → p ∈ atoms_in (formulas_in e.derivation) → p < atoms)
    → (m : Option (List ℕ)) → ModelRises m → ModelFits L R m → (given : List ℕ) → m ≡ some given → GoodModel atoms given
model_good atoms e below none rises c given k = let z : ◌≡◌ {A = ℕ} 0 1 = cc in absurd (omega arith)
model_good {L} {R} atoms e below (some T) rises c given k = subst (GoodModel atoms) same (good c)
  where
    same : T ≡ given
    same = cc

    occurs : atoms_in L ⊆ atoms_in (formulas_in e.derivation)
    occurs = atoms_part (λ A m. left_named e.derivation A (e.ends.left.1 A m))

    good : ModelFits L R (some T) → GoodModel atoms T
    good (model_fits wanted few q) =
        record {
          known = none_later atoms T (λ p m. below p (occurs p (only_occurring q p m)));
          side = rw (rises, le-ltb most_on_side (length T) (omega arith));
        }

-- where the names are good as far as there may be so many
named_text : (names : List Bytes) → (length names ≤ most_atoms → GoodNames (length names) (names_in names)) → {L R : List Formula} (e : EndsIn L R)
    → ((p : ℕ) → p ∈ atoms_in (formulas_in e.derivation) → p < length names) → TextFor names e
named_text names good {L} {R} e below =
    record {
      transcript = t;
      left = last.1.left;
      right = last.1.right;
      claims_left = last.3.left;
      claims_right = last.3.right;
      accepted_if = λ m rises c w short l long.
          let good = document_good m rises c w short in
          (written_accepted (document m) good l long, written_contents (document m) good l long);
    }
  where
    t : Transcript (length names) e.derivation
    t = transcribed (length names) e.derivation below

    last : (before : List Row) × (q : Row) × (t.rows ≡ before ++ q ∷ []) × Same (sequent_of t.nodes q) (L ⇒ R)
    last = transcript_ends e t

    document : Option (List ℕ) → Document
    document m = document_of names t m last.1.left last.1.right

    document_good : (m : Option (List ℕ)) → ModelRises m → ModelFits L R m → Within (body_of (document m))
        → length (written (document m)) ≤ most_bytes → GoodDocument (document m)
    document_good m rises c w short =
        record {
          names = good w.atoms;
          body = t.good w;
          model = model_good (length names) e below m rises c;
          claim = last_is_lem t.rows last.0 last.1 last.2 last.3.kind;
          fits = fits_same (≈-sym last.3.left) (≈-sym last.3.right) c;
          short = short;
        }

-- every derivation of L => R has a text with its rows and the claim L => R, where its atoms have names
pub text_for : (names : List Bytes) → GoodNames (length names) (names_in names) → {L R : List Formula} (e : EndsIn L R)
    → ((p : ℕ) → p ∈ atoms_in (formulas_in e.derivation) → p < length names) → TextFor names e
text_for names good = named_text names (λ l. good)

-- whatever is entailed has a derivation with a text: what may be said can be written, as far as the limits allow
pub entailed_text : (L R : List Formula) → Entails L R → (e : EndsIn L R) × TextFor (plain_names (count_to (atoms_in (formulas_in e.derivation)))) e
entailed_text L R h = (e, named_text (plain_names n) (λ l. plain_good n (rw (plain_length n) at l)) e (λ p m. rw (plain_length n) (below_count _ p m)))
  where
    e : EndsIn L R
    e = (derivable_iff_entailed L R).1 h

    n : ℕ
    n = count_to (atoms_in (formulas_in e.derivation))
