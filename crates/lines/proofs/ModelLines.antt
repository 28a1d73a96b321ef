-- M lines: the tests of a model's atoms as they were read, their word, and the file with its model.
use Prim.Native.Nat.{ℕ, ◌≤◌, ◌<◌}
use native.Mathlib.Omega.{arith}
use mathlib.Core.Path.{◌≡◌, refl, sym, ap, ap₂, subst, ◌∙◌}
use mathlib.Core.Bool.{Bool, true, false, not, ◌&&◌}
use mathlib.Core.List.Memᴰ
use mathlib.Core.List.{List, [], ◌∷◌}
use mathlib.Core.Option.{Option, none}
use lib.Dec.{eqb, ltb}
use lib.ListN.{length, get_or, take}
use borrow.Author.Tests.{eqb-true, eq-eqb, lt-ltb, ltb-false, leb-false}
use Rattle.equilibrium.specs.Meaning.{◌∈◌}
use Rattle.format.specs.Text.{Bytes, any, fields_of, side_of, strictly_rising}
use Rattle.format.specs.File.{Model, modelled, File}
use Rattle.format.specs.Line.{line_of}
use Rattle.format.specs.Tables.{most_on_side}
use Rattle.format.specs.Tests.{◌when◌, first, may_follow, not_earlier, model_line_tests}
use Rattle.format.specs.Judged.{settled, with_model}
use Rattle.format.specs.Good.{Good}
use Rattle.format.proofs.Booleans as booleans
use Rattle.format.proofs.RisingNumbers.{rising_of}
use Rattle.format.proofs.Tested.{passes}
use Rattle.format.proofs.Stepping.{step_model}
use Rattle.format.proofs.GoodBodies.{good_held}
use Rattle.atomset.specs.AtomSet.{members}
use Rattle.atomset.proofs.Members.{members_unique}
use Rattle.text.specs.Lists.{listed_of, ListedInto}
use Rattle.text.specs.declared.lists.Listed.{Listed}
use Rattle.counts.specs.declared.Counts.{Counts}
use Rattle.early.specs.Early.{past_of, bad_of, numbered}
use Rattle.rows.proofs.EarlyTests.{past_listed, bad_listed}
use Rattle.sides.proofs.Sets.{any_iff}
use Rattle.state.specs.State.{modelled_by, Memory, Stored}
use Rattle.state.specs.Lined.{OfKind}
use Rattle.lines.specs.ModelLines.{model_of, WordRead, ModelSettled, ModelLined}
use Rattle.state.specs.declared.State.{State}
use Rattle.std.specs.Prelude.{Option as Answer, None, Some, Result, Ok, Err}
use Rattle.refusals.specs.Refusals.{number_of as refusal_number}
use Rattle.refusals.specs.declared.Refusal.{Refusal}
use Rattle.refusals.specs.declared.Refusal.TheVariants.{BadLine}
use Rattle.lines.specs.Stepping.{at_line}
use Rattle.lines.proofs.LineLaws.{model_written, line_model, line_no_model, not_listed, is_listed, list_laid, number_given, none_given}
use Rattle.lines.proofs.LineLaws.{same_lengths, keeps_refused, keeps_passed, steps_next, line_refused, line_bad}
use Rattle.drafts.specs.Drafts.{Laid}
use Rattle.state.proofs.Order.{turn_same}

-- ---- the word of a list

-- p is this entry of a list, and a word has room for it
abbrev pub entered : ℕ → ℕ → Bool
entered p x = eqb p x && ltb x 64

-- of a strictly rising list of atoms below 64 it has exactly these members, in the list's order
word_members : (xs : List ℕ) (w : ℕ) → WordRead xs w → strictly_rising xs ≡ true → ((x : ℕ) → x ∈ xs → x < 64) → members w ≡ xs
word_members xs w read e small =
    members_unique w xs read.small (rising_of xs e)
    (λ p. (λ h. listed p ((any_iff (entered p) xs).0 (sym (read.its p) ∙ h)), λ m. read.its p ∙ (any_iff (entered p) xs).1 (p, m, found p (small p m))))
  where
    listed : (p : ℕ) → (x : ℕ) × (x ∈ xs) × (entered p x ≡ true) → p ∈ xs
    listed p s = Memᴰ.cast (eqb-true p s.0 (booleans.and_true (eqb p s.0) _ s.2).0) s.1

    found : (p : ℕ) → p < 64 → entered p p ≡ true
    found p l = rw (eq-eqb p p refl, lt-ltb p 64 l)

-- ---- the tests of a model's atoms

module _ {text : Bytes} {f : File} {s : State} {t : Memory} (stored : Stored text f s t) where
  tests_same : (xs : List ℕ) → model_of (listed_of xs) s ≡ model_line_tests f xs
  tests_same xs =
      let atoms_held : s.counts.atoms ≡ f.body.atoms = ap (λ (c : Counts). c.atoms) stored.counts in
      ap₂ (λ (a b : Bool). (4 when a) ∷ (7 when b) ∷ (9 when bad_of (listed_of xs)) ∷ [])
      (turn_same f.stage modelled stored.stage) (ap (past_of (listed_of xs)) atoms_held ∙ past_listed xs f.body.atoms)
      ∙ ap (λ (b : Bool). (4 when not (may_follow f.stage modelled)) ∷ (7 when any (not_earlier f.body.atoms) xs) ∷ (9 when b) ∷ []) (bad_listed xs)

  tested : {xs list : List ℕ} {atoms : Listed} (k : ℕ) → Laid xs atoms list → numbered k ≡ first (model_of atoms s) → numbered k ≡ first (model_line_tests f xs)
  tested {xs} k x e = e ∙ ap (λ (a : Listed). first (model_of a s)) x.answer ∙ ap first (tests_same xs)

  module _ {done : List Bytes} (good : Good done f) {xs list : List ℕ} {atoms : Listed} (x : Laid xs atoms list)
      (through : first (model_line_tests f xs) ≡ none) where
    side : (not (strictly_rising xs) ≡ false) × (ltb most_on_side (length xs) ≡ false)
    side = booleans.or_false _ _ (passes 9 (model_line_tests f xs) through)

    below : (i : ℕ) → i ∈ xs → i < 64
    below i m =
        let known = booleans.any_false (not_earlier f.body.atoms) xs (passes 7 (model_line_tests f xs) through) i m in
        omega (arith, leb-false f.body.atoms i known, (good_held good.body).few_atoms)

    -- what is read as a word is the list
    list_members : (w : ℕ) → WordRead (take atoms.count list) w → members w ≡ xs
    list_members w read =
        let short = ltb-false most_on_side (length xs) side.1 in
        let laid = x.front short (λ i m. omega (arith, below i m)) in
        word_members xs w (subst (λ (ys : List ℕ). WordRead ys w) laid read) (booleans.not_false _ side.0) below

  model_stored : (w line : ℕ) (m : Model) → members w ≡ m.atoms → line ≡ m.line → Stored text (with_model f m) (modelled_by s w line) t
  model_stored w line m e at =
      record {
        full = stored.full;
        counts = stored.counts;
        stage = refl;
        model = (e, at);
        claim = stored.claim;
        names_in = stored.names_in;
        names = stored.names;
        formulas = stored.formulas;
        known = stored.known;
        rows = stored.rows;
        left = stored.left;
        right = stored.right;
      }

-- ---- a model that is well written

module _ (atoms : Listed) (number : ℕ) (list : List ℕ) (s : State) (r : Result State Refusal) (k : ℕ) (e : numbered k ≡ first (model_of atoms s)) where
  pub settled_refused : (refusal : Refusal) → k ≡ refusal_number refusal → r ≡ Err refusal → ModelSettled atoms number list s r
  settled_refused refusal is given =
      let refused = ap (at_line number) given in
      record {
        lined = λ text line start xs t read x.
            line_refused refusal t refused (λ f p done good stored.
            step_model f p line xs read
            ∙ number_given refusal k _ p.line (with_model f (record { line = p.line; atoms = xs })) (tested stored k x e) is);
        keeps = λ t. keeps_refused t refused;
      }

  pub settled_modelled : k ≡ 0 → (w : ℕ) → WordRead (take atoms.count list) w → r ≡ Ok (modelled_by s w number) → ModelSettled atoms number list s r
  settled_modelled zero-k w word given =
      let ok = ap (at_line number) given in
      record {
        lined = λ text line start xs t read x.
            record {
              steps = λ f p done good stored size placed at.
                  let through = none_given k _ (tested stored k x e) zero-k in
                  let model : Model = record { line = p.line; atoms = xs } in
                  steps_next _ (with_model f model)
                  (step_model f p line xs read ∙ ap (λ (o : Option ℕ). settled o p.line (with_model f model)) through)
                  ok (model_stored stored w number model (list_members stored good x through w word) (sym at));
              keeps = keeps_passed ok (same_lengths t);
            };
        keeps = λ t. keeps_passed ok (same_lengths t);
      }

-- ---- the fields of an M line

module _ (line : Bytes) (number : ℕ) (s : State) (r : Result State Refusal) (kind : OfKind "M" line) where
  pub model_miscounted : (length (fields_of line) ≡ 2 → ⊥) → r ≡ Err BadLine → ModelLined line number s r
  model_miscounted h given text start t = line_bad t (line_no_model line kind h) (ap (at_line number) given)

  module _ (counted : length (fields_of line) ≡ 2) {one : Bytes} (at_one : one ≡ get_or (fields_of line) 1 [])
      {was is : List ℕ} {read : Answer Listed} (x : ListedInto true one was is read) where
    written : (o : Option (List ℕ)) → side_of one ≡ o → line_of line ≡ model_written o
    written o h = line_model line kind counted ∙ ap model_written (ap side_of (sym at_one) ∙ h)

    pub model_bad : read ≡ None → r ≡ Err BadLine → ModelLined line number s r
    model_bad h given text start t = line_bad t (written none (not_listed _ x.answer h)) (ap (at_line number) given)

    -- one that is well written comes to what its model does
    pub model_read : {atoms : Listed} → read ≡ Some atoms → most_on_side ≤ length was → ModelSettled atoms number is s r → ModelLined line number s r
    model_read h room settles text start t =
        let zs = is_listed _ x.answer h in
        settles.lined text line start zs.0 t (written _ zs.1) (list_laid was zs.2 (x.stored zs.0 zs.1) room)
