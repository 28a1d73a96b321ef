-- C lines: the tests of a claim as it was read and of the model beside it, and the file with its claim.
use Prim.Native.Nat.{ℕ, ◌≤◌, ◌<◌}
use native.Mathlib.Omega.{arith}
use mathlib.Core.Path.{◌≡◌, refl, sym, ap, ap₂, subst, subst₂, ◌∙◌}
use mathlib.Core.Bool.{Bool, true, false, cond, not, ◌||◌}
use mathlib.Core.List.{List, [], ◌∷◌, ◌++◌}
use mathlib.Core.Option.{Option, none, some}
use lib.Dec.{eqb}
use lib.ListN.{length, get_or, take}
use borrow.Author.Tests.{eqb-true, eqb-false}
use Rattle.format.specs.Text.{Bytes, fields_of, side_of, strictly_rising}
use Rattle.format.specs.File.{Row, Model, Claim, claimed, File, atoms_given}
use Rattle.format.specs.Line.{line_of}
use Rattle.format.specs.Tables.{most_on_side}
use Rattle.format.specs.Tests.{Test, ◌when◌, rank, first, may_follow, unknown_formula, bad_side, last_is, claim_tests}
use Rattle.format.specs.Model.{claim_model_tests}
use Rattle.format.specs.Judged.{settled, with_claim, reported_on}
use Rattle.format.specs.Good.{Good}
use Rattle.format.proofs.Booleans as booleans
use Rattle.format.proofs.Tested.{passes, follows_once}
use Rattle.format.proofs.Stepping.{step_claim_refused, step_claim}
use Rattle.format.proofs.GoodBodies.{good_held}
use Rattle.format.proofs.Formulas.{known_earlier}
use Rattle.text.specs.Lists.{listed_of, ListedInto}
use Rattle.text.specs.declared.lists.Listed.{Listed}
use Rattle.tables.specs.Holding.{HoldsRows, Sided}
use Rattle.counts.specs.declared.Counts.{Counts}
use Rattle.early.specs.Early.{past_of, bad_of, numbered}
use Rattle.rows.proofs.EarlyTests.{past_listed, bad_listed, short_side}
use Rattle.rows.proofs.Numbering.{first_append, numbered_some}
use Rattle.models.specs.Models.{Given, ModelNumbered}
use Rattle.state.specs.State.{Stepped, refused_by, claimed_by, line_held, model_report, ModelHeld, Memory, Stored}
use Rattle.state.specs.Lined.{OfKind}
use Rattle.lines.specs.ClaimLines.{claim_of, model_before, with_tables, ClaimSettled, ClaimLined}
use Rattle.state.specs.declared.State.{State}
use Rattle.std.specs.Prelude.{Option as Answer, None, Some, Ok}
use Rattle.std.specs.Option.{is_some, unwrap_or, option_map}
use Rattle.refusals.specs.Refusals.{number_of as refusal_number}
use Rattle.refusals.specs.declared.Refusal.{Refusal}
use Rattle.refusals.specs.declared.Refusal.TheVariants.{BadLine, ClaimDiffers}
use Rattle.refusals.proofs.OneNumber.{number_of-some}
use Rattle.state.specs.declared.ModelLine.{ModelLine}
use Rattle.lines.proofs.LineLaws.{claim_written, line_claim, line_no_claim, not_listed, is_listed, list_laid}
use Rattle.lines.proofs.LineLaws.{number_given, none_given, nodes_held, rows_held}
use Rattle.lines.proofs.LineLaws.{same_lengths, keeps_refused, keeps_passed, steps_refused, steps_next, line_refused, line_bad}
use Rattle.drafts.specs.Drafts.{Laid}
use Rattle.state.proofs.Order.{turn_same}

-- ---- the tests of a claim

abbrev last_tests : File → List ℕ → List ℕ → List Test
last_tests f xs ys = (12 when not (last_is f.body.rows xs ys)) ∷ []

-- the claim of a file, with its line
abbrev claim_at : ℕ → List ℕ → List ℕ → Claim
claim_at line xs ys = record { line = line; left = xs; right = ys }

module _ {text : Bytes} {f : File} {s : State} {t : Memory} (stored : Stored text f s t) where
  formulas_held : s.counts.formulas ≡ length f.body.nodes
  formulas_held = ap (λ (c : Counts). c.formulas) stored.counts

  past_same : (xs : List ℕ) → past_of (listed_of xs) s.counts.formulas ≡ unknown_formula f.body xs
  past_same xs = ap (past_of (listed_of xs)) formulas_held ∙ past_listed xs (length f.body.nodes)

  tests_same : (xs ys : List ℕ) → claim_of (listed_of xs) (listed_of ys) s ++ last_tests f xs ys ≡ claim_tests f xs ys
  tests_same xs ys =
      ap₂ (λ (a b : Bool). (4 when a) ∷ (7 when b) ∷ (9 when bad_of (listed_of xs) || bad_of (listed_of ys)) ∷ last_tests f xs ys)
      (turn_same f.stage claimed stored.stage) (ap₂ ◌||◌ (past_same xs) (past_same ys))
      ∙ ap (λ (b : Bool). (4 when not (may_follow f.stage claimed)) ∷ (7 when unknown_formula f.body xs || unknown_formula f.body ys)
      ∷ (9 when b) ∷ last_tests f xs ys)
      (ap₂ ◌||◌ (bad_listed xs) (bad_listed ys))

  module _ {xs ys l r : List ℕ} {left right : Listed} (x : Laid xs left l) (y : Laid ys right r) (k : ℕ) (e : numbered k ≡ first (claim_of left right s)) where
    early : numbered k ≡ first (claim_of (listed_of xs) (listed_of ys) s)
    early = e ∙ ap₂ (λ (a b : Listed). first (claim_of a b s)) x.answer y.answer

    abbrev or_else : Option ℕ → Option ℕ
    or_else none = first (last_tests f xs ys)
    or_else (some n) = some n

    by_early : (o : Option ℕ) → first (claim_of (listed_of xs) (listed_of ys) s) ≡ o → first (claim_tests f xs ys) ≡ or_else o
    by_early none h =
        ap first (sym (tests_same xs ys)) ∙ first_append (claim_of (listed_of xs) (listed_of ys) s) (last_tests f xs ys) ∙ rw h
    by_early (some n) h =
        ap first (sym (tests_same xs ys)) ∙ first_append (claim_of (listed_of xs) (listed_of ys) s) (last_tests f xs ys) ∙ rw h

    claim_early : (k ≡ 0 → ⊥) → some k ≡ first (claim_tests f xs ys)
    claim_early h = sym (by_early (some k) (sym early ∙ numbered_some k h))

    module _ (zero-k : k ≡ 0) {done : List Bytes} (good : Good done f) where
      through : first (claim_of (listed_of xs) (listed_of ys) s) ≡ none
      through = none_given k _ early zero-k

      known : (past_of (listed_of xs) s.counts.formulas ≡ false) × (past_of (listed_of ys) s.counts.formulas ≡ false)
      known =
          booleans.or_false (past_of (listed_of xs) s.counts.formulas) _
          (passes 7 (claim_of (listed_of xs) (listed_of ys) s) through)

      sides : (bad_side xs ≡ false) × (bad_side ys ≡ false)
      sides =
          let good-sides = booleans.or_false (bad_of (listed_of xs)) _ (passes 9 (claim_of (listed_of xs) (listed_of ys) s) through) in
          (sym (bad_listed xs) ∙ good-sides.0, sym (bad_listed ys) ∙ good-sides.1)

      side_laid : {zs table : List ℕ} {listed : Listed} → Laid zs listed table → unknown_formula f.body zs ≡ false → bad_side zs ≡ false
          → take listed.count table ≡ zs
      side_laid {zs} {table} z unknown-none rising =
          z.front (short_side zs rising)
          (λ i m. omega (arith, known_earlier f.body zs unknown-none i m, (good_held good.body).few_nodes))

      left_laid : take left.count l ≡ xs
      left_laid = side_laid x (sym (past_same xs) ∙ known.0) sides.0

      right_laid : take right.count r ≡ ys
      right_laid = side_laid y (sym (past_same ys) ∙ known.1) sides.1

      by_last : (b : Bool) → b ≡ last_is f.body.rows (take left.count l) (take right.count r) → last_is f.body.rows xs ys ≡ b
      by_last b h = ap₂ (last_is f.body.rows) (sym left_laid) (sym right_laid) ∙ sym h

      claim_late : (b : Bool) → b ≡ last_is f.body.rows (take left.count l) (take right.count r)
          → first (claim_tests f xs ys) ≡ cond (not b) (some 12) none
      claim_late b h = by_early none through ∙ ap (λ (d : Bool). cond (not d) (some 12) none) (by_last b h)

  claim_stored : (line : ℕ) (c : Claim) → line ≡ c.line → Stored text (with_claim f c) (claimed_by s line) t
  claim_stored line c e =
      record {
        full = stored.full;
        counts = stored.counts;
        stage = refl;
        model = stored.model;
        claim = ap (λ (l : ℕ). Some l) e;
        names_in = stored.names_in;
        names = stored.names;
        formulas = stored.formulas;
        known = stored.known;
        rows = stored.rows;
        left = stored.left;
        right = stored.right;
      }

-- ---- the model beside the claim

-- what is told of the model, by the sides that those which were handed over are
pub model_told : {formulas xs ys zs ws : List ℕ} {given : Bool} {model n : ℕ} → xs ≡ zs → ys ≡ ws → ModelNumbered formulas xs ys given model n
    → ModelNumbered formulas zs ws given model n
model_told {formulas} {given = given} {model} {n} e k = subst₂ (λ (xs ys : List ℕ). ModelNumbered formulas xs ys given model n) e k

-- the M line that is held
held_given : (o : Option Model) (h : Answer ModelLine) → ModelHeld o h
    → Given (atoms_given o) (is_some (option_map (λ (m : ModelLine). m.atoms) h)) (unwrap_or (option_map (λ (m : ModelLine). m.atoms) h) 0)
held_given none None x = refl
held_given none (Some m) x = absurd x
held_given (some m) None x = absurd x
held_given (some m) (Some l) x = (refl, x.0)

held_reported : (m : Model) (h : Answer ModelLine) → ModelHeld (some m) h → (line : ℕ) → line_held h ≡ reported_on (some m) line
held_reported m None x line = absurd x
held_reported m (Some l) x line = x.1

module _ {text : Bytes} {f : File} {s : State} {t : Memory} (stored : Stored text f s t) {done : List Bytes} (good : Good done f) where
  -- whether the last line was an M line, as the code asks it
  abbrev given : Bool
  given = eqb s.stage 3

  module _ (xs ys : List ℕ) (through : first (claim_tests f xs ys) ≡ none) where
    turn : rank f.stage < 4
    turn = follows_once f.stage claimed (omega arith) (booleans.not_false _ (passes 4 (claim_tests f xs ys) through))

    -- where it was there is a model, and else there is none
    with_model_lem : given ≡ true → (m : Model) × (f.model ≡ some m)
    with_model_lem e = good.model_made (sym stored.stage ∙ eqb-true s.stage 3 e)

    without_model : given ≡ false → f.model ≡ none
    without_model e = good.no_model (omega (arith, turn, stored.stage, eqb-false s.stage 3 e))

    is_given : Given (atoms_given f.model) (is_some (model_before s)) (unwrap_or (model_before s) 0)
    is_given = by given refl
      where
        before : Bool → Answer ℕ
        before b = cond b (option_map (λ (m : ModelLine). m.atoms) s.model) None

        by : (b : Bool) → given ≡ b → Given (atoms_given f.model) (is_some (before b)) (unwrap_or (before b) 0)
        by true e = held_given f.model s.model stored.model
        by false e = rw (without_model e) refl

    reported : (line : ℕ) → model_report s line ≡ reported_on f.model line
    reported line = by given refl
      where
        by : (b : Bool) → given ≡ b → cond b (line_held s.model) line ≡ reported_on f.model line
        by true e =
            let made = with_model_lem e in
            subst (λ (o : Option Model). ModelHeld o s.model → line_held s.model ≡ reported_on o line) (sym made.1)
            (λ held. held_reported made.0 s.model held line) stored.model
        by false e = rw (without_model e) refl

    -- the number that was asked of the model is the first of 15, 16 and 17 that applies
    model_earns : (k : ℕ) → ModelNumbered t.formulas xs ys (is_some (model_before s)) (unwrap_or (model_before s) 0) k → numbered k ≡ first (claim_model_tests f xs ys)
    model_earns k told =
        told.judges f.body (atoms_given f.model) (record { good = good.body; table = nodes_held stored }) (sided xs known.0 sides.0)
        (sided ys known.1 sides.1) is_given
      where
        known : (unknown_formula f.body xs ≡ false) × (unknown_formula f.body ys ≡ false)
        known = booleans.or_false _ _ (passes 7 (claim_tests f xs ys) through)

        sides : (bad_side xs ≡ false) × (bad_side ys ≡ false)
        sides = booleans.or_false _ _ (passes 9 (claim_tests f xs ys) through)

        sided : (zs : List ℕ) → unknown_formula f.body zs ≡ false → bad_side zs ≡ false → Sided f.body zs
        sided zs e k = record { known = e; rising = booleans.not_false _ (booleans.or_false (not (strictly_rising zs)) _ k).0 }

-- ---- a claim that is well written

-- what is told of the last row, where the tables hold the rows
abbrev Lasts : Bool → Listed → Listed → List ℕ → List ℕ → List ℕ → List ℕ → List ℕ → State → Type 0
Lasts b antecedent succedent l r rows left right s =
    (held : List Row) → HoldsRows held rows left right → s.counts.rows ≡ length held
    → b ≡ last_is held (take antecedent.count l) (take succedent.count r)

module _ (antecedent succedent : Listed) (number : ℕ) (l r formulas rows left right : List ℕ) (s : State) (stepped : Stepped) (k : ℕ)
    (e : numbered k ≡ first (claim_of antecedent succedent s)) where
  abbrev Settles : Type 0
  Settles = ClaimSettled antecedent succedent number l r formulas rows left right s stepped

  abbrev lent : Memory → Memory
  lent t = with_tables t formulas rows left right

  pub settled_early : (refusal : Refusal) → k ≡ refusal_number refusal → stepped ≡ refused_by refusal number → Settles
  settled_early refusal is given =
      record {
        lined = λ text line start xs ys t read x y.
            line_refused refusal (lent t) given (λ f p done good stored.
            step_claim_refused f p line xs ys read (refusal_number refusal)
            (sym (claim_early stored x y k e (λ z. number_of-some refusal (sym is ∙ z))) ∙ ap (λ (n : ℕ). some n) is));
        keeps = λ t. keeps_refused t given;
      }

  module _ (zero-k : k ≡ 0) (b : Bool) (lasts : Lasts b antecedent succedent l r rows left right s) where
    told : {text : Bytes} {f : File} (t : Memory) {xs ys : List ℕ} {done : List Bytes} → Stored text f s (lent t) → Good done f
        → Laid xs antecedent l → Laid ys succedent r → first (claim_tests f xs ys) ≡ cond (not b) (some 12) none
    told {f = f} t stored good x y =
        claim_late stored x y k e zero-k good b (lasts f.body.rows (rows_held stored) (ap (λ (c : Counts). c.rows) stored.counts))

    pub settled_differs : b ≡ false → stepped ≡ refused_by ClaimDiffers number → Settles
    settled_differs differs given =
        record {
          lined = λ text line start xs ys t read x y.
              line_refused ClaimDiffers (lent t) given (λ f p done good stored.
              step_claim_refused f p line xs ys read 12 (told t stored good x y ∙ ap (λ (d : Bool). cond (not d) (some 12) none) differs));
          keeps = λ t. keeps_refused t given;
        }

    module _ (agrees : b ≡ true) (n : ℕ)
        (model : ModelNumbered formulas (take antecedent.count l) (take succedent.count r) (is_some (model_before s)) (unwrap_or (model_before s) 0) n) where
      unrefused : {text : Bytes} {f : File} (t : Memory) {xs ys : List ℕ} {done : List Bytes} → Stored text f s (lent t) → Good done f
          → Laid xs antecedent l → Laid ys succedent r → first (claim_tests f xs ys) ≡ none
      unrefused t stored good x y = told t stored good x y ∙ ap (λ (d : Bool). cond (not d) (some 12) none) agrees

      -- what the claim comes to by the number of its model
      confirms : {text : Bytes} {f : File} (t : Memory) {xs ys : List ℕ} {done : List Bytes} → Stored text f s (lent t) → Good done f
          → Laid xs antecedent l → Laid ys succedent r → numbered n ≡ first (claim_model_tests f xs ys)
      confirms t {xs} {ys} stored good x y =
          model_earns stored good xs ys (unrefused t stored good x y) n
          (model_told (left_laid stored x y k e zero-k good) (right_laid stored x y k e zero-k good) model)

      pub settled_unconfirmed : (refusal : Refusal) → n ≡ refusal_number refusal → (line : ℕ) → line ≡ model_report s number → stepped ≡ refused_by refusal line → Settles
      settled_unconfirmed refusal is line is_line given =
          record {
            lined = λ text bytes start xs ys t read x y.
                record {
                  steps = λ f p done good stored size placed at.
                      let passed = unrefused t stored good x y in
                      let on = is_line ∙ ap (model_report s) (sym at) ∙ reported stored good xs ys passed p.line in
                      steps_refused text (lent t) refusal line
                      (step_claim f p bytes xs ys read passed
                      ∙ number_given refusal n _ (reported_on f.model p.line) (with_claim f (claim_at p.line xs ys)) (confirms t stored good x y) is)
                      (sym on) given;
                  keeps = keeps_refused (lent t) given;
                };
            keeps = λ t. keeps_refused t given;
          }

      pub settled_claimed : n ≡ 0 → stepped ≡ Ok (claimed_by s number) → Settles
      settled_claimed zero-n given =
          record {
            lined = λ text line start xs ys t read x y.
                record {
                  steps = λ f p done good stored size placed at.
                      let claim = claim_at p.line xs ys in
                      let confirmed = none_given n _ (confirms t stored good x y) zero-n in
                      steps_next stepped (with_claim f claim)
                      (step_claim f p line xs ys read (unrefused t stored good x y)
                      ∙ ap (λ (o : Option ℕ). settled o (reported_on f.model p.line) (with_claim f claim)) confirmed)
                      given (claim_stored stored number claim (sym at));
                  keeps = keeps_passed given (same_lengths (lent t));
                };
            keeps = λ t. keeps_passed given (same_lengths t);
          }

-- ---- the fields of a C line

module _ (line : Bytes) (number : ℕ) (formulas rows left right : List ℕ) (s : State) (stepped : Stepped) (kind : OfKind "C" line) where
  pub claim_miscounted : (length (fields_of line) ≡ 3 → ⊥) → stepped ≡ refused_by BadLine number → ClaimLined line number formulas rows left right s stepped
  claim_miscounted h given text start t = line_bad (with_tables t formulas rows left right) (line_no_claim line kind h) given

  module _
      (counted : length (fields_of line) ≡ 3) {one two : Bytes} (at_one : one ≡ get_or (fields_of line) 1 []) (at-two : two ≡ get_or (fields_of line) 2 [])
      {was is was' is' : List ℕ} {left_read right_read : Answer Listed}
      (x : ListedInto true one was is left_read) (y : ListedInto true two was' is' right_read) where
    written : (o q : Option (List ℕ)) → side_of one ≡ o → side_of two ≡ q → line_of line ≡ claim_written o q
    written o q h k = line_claim line kind counted ∙ ap₂ claim_written (ap side_of (sym at_one) ∙ h) (ap side_of (sym at-two) ∙ k)

    pub claim_left_bad : left_read ≡ None → stepped ≡ refused_by BadLine number → ClaimLined line number formulas rows left right s stepped
    claim_left_bad h given text start t =
        line_bad (with_tables t formulas rows left right) (written none _ (not_listed _ x.answer h) refl) given

    pub claim_right_bad : right_read ≡ None → stepped ≡ refused_by BadLine number → ClaimLined line number formulas rows left right s stepped
    claim_right_bad h given text start t =
        line_bad (with_tables t formulas rows left right) (written _ none refl (not_listed _ y.answer h) ∙ neither (side_of one)) given
      where
        neither : (o : Option (List ℕ)) → claim_written o none ≡ none
        neither none = refl
        neither (some zs) = refl

    -- one that is well written comes to what its claim does
    pub claim_read : {antecedent succedent : Listed} → left_read ≡ Some antecedent → right_read ≡ Some succedent → most_on_side ≤ length was → most_on_side ≤ length was'
        → ClaimSettled antecedent succedent number is is' formulas rows left right s stepped → ClaimLined line number formulas rows left right s stepped
    claim_read h k room room' settles text start t =
        let zs = is_listed _ x.answer h in
        let ws = is_listed _ y.answer k in
        settles.lined text line start zs.0 ws.0 t (written _ _ zs.1 ws.1)
        (list_laid was zs.2 (x.stored zs.0 zs.1) room) (list_laid was' ws.2 (y.stored ws.0 ws.1) room')
