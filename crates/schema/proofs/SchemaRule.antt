-- Where a table holds a body, sides of known numbers pass the test of a rule of the table exactly if the sequents of their formulas
-- are an instance of the rule.
use Prim.Native.Nat.{ℕ, zero, suc, ◌<◌}
use native.Mathlib.Decide.{dec_lt}
use native.Mathlib.Omega.{arith}
use mathlib.Core.Bool.{Bool, true, false, false≢true}
use mathlib.Core.List.{List, [], ◌∷◌, map}
use mathlib.Core.Logic.{◌↔◌}
use mathlib.Core.Path.{◌≡◌, refl, sym, ap, subst, ◌∙◌}
use lib.ListN.{length, get_or, take, length-map}
use Rattle.equilibrium.specs.Formula.{Formula}
use Rattle.equilibrium.proofs.Sets.{dec_all, from_yes}
use Rattle.elk.specs.Sequent.{Kind, Sequent}
use Rattle.elk.specs.Rules.{Rule, rules, Part, Added, Schema, schema, Entry, entry, Fits, premise_kinds}
use Rattle.elk.specs.Instance.{SchemaInstance}
use Rattle.elk.specs.CommonSets.{Side, Shared, sides}
use Rattle.elk.proofs.Entries.{Counted, lefts, rights, SchemaTest, schema_iff}
use Rattle.elk.proofs.RuleCodes.{every_rule}
use Rattle.format.specs.File.{Node, Body, decoded_at, decoded}
use Rattle.format.specs.Tests.{unknown_formula}
use Rattle.format.proofs.GoodBodies.{Held, good_held}
use Rattle.rules.specs.RuleTable.{form_number, step_number, added_sides, premise_at, rule_number}
use Rattle.rules.proofs.RuleNumbers.{rule_number_lem}
use Rattle.sides.specs.Deciding.{DecidesIf}
use Rattle.sides.specs.Members.{AllRise}
use Rattle.sides.proofs.Deciding.{no_if, denied_if, iff_if}
use Rattle.schema.specs.Principal.{Apart}
use Rattle.schema.specs.Additions.{side_in, sides_in}
use Rattle.schema.specs.SchemaRows.{Sides, Handed, SidesRise, parts_handed, SchemaSides, sequent_with, premises_handed, OfBody, InstanceHanded, SchemaAnswer}
use Rattle.schema.proofs.Apart.{PartsOf, parts_read, parts_whole}
use Rattle.schema.proofs.Standing.{parts_at, two_parts, KnownParts, meant_by, added_stands}
use Rattle.schema.proofs.FormulaSides.{SideStands, side_stands, SidesStand, shared_stand}

-- no rule has more than two premises, by one computed test
pub two_at_most : (s : Rule) → length (premise_kinds (entry s)) < 3
unfolding dec_all dec_lt
two_at_most s = from_yes (dec_all (λ r. dec_lt (length (premise_kinds (entry r))) 3) rules) tt s (every_rule s)

-- as many premises as the rule has, none, one or two
module _ (nodes : List Node) (k : Kind) (one two : Sides) where
  abbrev sequents : ℕ → List Sequent
  sequents n = map (sequent_with nodes k) (take n (one ∷ two ∷ []))

  counted : (n : ℕ) (ds : List Added) → n ≡ length ds → n < 3 → Counted k (sequents n) ds
  counted zero [] e h = tt
  counted zero (d ∷ ds) e h = absurd (omega arith)
  counted (suc zero) [] e h = absurd (omega arith)
  counted (suc zero) (d ∷ []) e h = (refl, tt)
  counted (suc zero) (d ∷ d' ∷ ds) e h = absurd (omega arith)
  counted (suc (suc zero)) [] e h = absurd (omega arith)
  counted (suc (suc zero)) (d ∷ []) e h = absurd (omega arith)
  counted (suc (suc zero)) (d ∷ d' ∷ []) e h = (refl, (refl, tt))
  counted (suc (suc zero)) (d ∷ d' ∷ d'' ∷ ds) e h = absurd (omega arith)
  counted (suc (suc (suc n))) ds e h = absurd (omega arith)

  -- one side of each, with what is added there
  module _ (side : Sequent → List Formula) (added : Added → List Formula) where
    abbrev side_with : Sides → Added → Side Formula
    side_with s d = record { whole = side (sequent_with nodes k s); added = added d }

    sides_taken :
        (n : ℕ) (ds : List Added) → n ≡ length ds → n < 3
        → sides side added (sequents n) ds ≡ take n (side_with one (premise_at ds 0) ∷ side_with two (premise_at ds 1) ∷ [])
    sides_taken zero ds e h = refl
    sides_taken (suc zero) [] e h = absurd (omega arith)
    sides_taken (suc zero) (d ∷ ds) e h = refl
    sides_taken (suc (suc zero)) [] e h = absurd (omega arith)
    sides_taken (suc (suc zero)) (d ∷ []) e h = absurd (omega arith)
    sides_taken (suc (suc zero)) (d ∷ d' ∷ ds) e h = refl
    sides_taken (suc (suc (suc n))) ds e h = absurd (omega arith)

all_stand :
    (b : Body) (held : Held b) (n : ℕ) → n < 3 → {s s₁ s₂ : Side ℕ} {t t₁ t₂ : Side Formula} → SideStands b held s t
    → (0 < n → SideStands b held s₁ t₁) → (1 < n → SideStands b held s₂ t₂)
    → SidesStand b held (s ∷ take n (s₁ ∷ s₂ ∷ [])) (t ∷ take n (t₁ ∷ t₂ ∷ []))
all_stand b held zero h u v w = (u, tt)
all_stand b held (suc zero) h u v w = (u, (v (omega arith), tt))
all_stand b held (suc (suc zero)) h u v w = (u, (v (omega arith), (w (omega arith), tt)))
all_stand b held (suc (suc (suc n))) h u v w = absurd (omega arith)

module _ {b : Body} {s : Rule} {t : Schema} {formulas : List ℕ} {h : Handed} (o : OfBody b s t formulas h) where
  abbrev held : Held b
  held = good_held o.held.good

  abbrev parts : Apart
  parts = parts_handed h formulas

  few : h.count < 3
  few = omega (arith, o.count, two_at_most s, ap (λ (e : Entry). length (premise_kinds e)) o.rule, length-map t.premises (λ p. t.kind))

  form : form_number t.form ≡ rule_number h.rule 0
  form = sym (ap (λ (c : ℕ). rule_number c 0) (sym o.code) ∙ rule_number_lem s 0 (omega arith) ∙ ap step_number o.rule)

  read : PartsOf b t.form h.principal parts
  read = parts_read o.held t.form (rule_number h.rule 0) h.principal form o.principal

  whole : parts.whole ≡ h.principal
  whole = parts_whole formulas (rule_number h.rule 0) h.principal

  module _ (fits : parts.fits ≡ true) where
    known_parts : KnownParts b parts
    known_parts = record { whole = rw whole o.principal; first = read.first_known fits; second = read.second_known fits }

    abbrev m : Part → Formula
    m = meant_by b parts

    -- a side of formulas, with what is added to it
    abbrev side_of : List ℕ → List Part → Side Formula
    side_of xs ps = record { whole = decoded b.nodes xs; added = map m ps }

    -- a side of numbers stands for its formulas, with what the rule adds at the place
    side_at :
        (place : ℕ) → place < 6 → (xs : List ℕ) → unknown_formula b xs ≡ false → {ps : List Part} → parts_at s place ≡ ps
        → SideStands b held (side_in formulas parts h.rule place xs) (side_of xs ps)
    side_at place l xs known e =
        subst (λ (qs : List Part). SideStands b held (side_in formulas parts h.rule place xs) (side_of xs qs)) e (
        side_stands b held xs known (map m (parts_at s place)) _ (omega (arith, length-map (parts_at s place) m, two_parts s place l))
        (added_stands o.held xs known parts known_parts s h.rule o.code place l))

    -- what the rule adds at a place, by its line of the table
    at_place : (place : ℕ) → parts_at s place ≡ get_or (added_sides (schema t)) place []
    at_place place = ap (λ (e : Entry). get_or (added_sides e) place []) o.rule

    abbrev rows : List Sequent
    rows = sequent_with b.nodes t.kind h.row ∷ map (sequent_with b.nodes t.kind) (premises_handed h)

    abbrev additions : List Added
    additions = t.conclusion ∷ t.premises

    abbrev left_numbers : List (Side ℕ)
    left_numbers = sides_in formulas parts h.rule h.count 0 h.row.left h.one.left h.two.left

    left_sides : Shared left_numbers ↔ Shared (lefts m rows additions)
    left_sides =
        let taken = sides_taken b.nodes t.kind h.one h.two (λ q. q.left) (λ d. map m d.left) h.count t.premises o.count few in
        let here = side_at 0 (omega arith) h.row.left o.row.left (at_place 0) in
        shared_stand b held left_numbers (lefts m rows additions) (
        subst (λ (ts : List (Side Formula)). SidesStand b held left_numbers (side_of h.row.left t.conclusion.left ∷ ts)) (sym taken) (
        all_stand b held h.count few here (λ l. side_at 2 (omega arith) h.one.left (o.one l).left (at_place 2))
        (λ l. side_at 4 (omega arith) h.two.left (o.two l).left (at_place 4))))

    abbrev right_numbers : List (Side ℕ)
    right_numbers = sides_in formulas parts h.rule h.count 1 h.row.right h.one.right h.two.right

    right_sides : Shared right_numbers ↔ Shared (rights m rows additions)
    right_sides =
        let taken = sides_taken b.nodes t.kind h.one h.two (λ q. q.right) (λ d. map m d.right) h.count t.premises o.count few in
        let here = side_at 1 (omega arith) h.row.right o.row.right (at_place 1) in
        shared_stand b held right_numbers (rights m rows additions) (
        subst (λ (ts : List (Side Formula)). SidesStand b held right_numbers (side_of h.row.right t.conclusion.right ∷ ts)) (sym taken) (
        all_stand b held h.count few here (λ l. side_at 3 (omega arith) h.one.right (o.one l).right (at_place 3))
        (λ l. side_at 5 (omega arith) h.two.right (o.two l).right (at_place 5))))

    abbrev test_of : Type 0
    test_of = SchemaTest t m (map (sequent_with b.nodes t.kind) (premises_handed h)) (sequent_with b.nodes t.kind h.row)

    abbrev instance_at : ℕ → Type 0
    instance_at i =
        SchemaInstance t (decoded_at b.nodes i) (map (sequent_with b.nodes t.kind) (premises_handed h)) (sequent_with b.nodes t.kind h.row)

    fits_at : ℕ → Type 0
    fits_at i = Fits t.form (decoded_at b.nodes i) (decoded_at b.nodes parts.first) (decoded_at b.nodes parts.second)

    instance_iff : InstanceHanded b t h ↔ test_of
    unfolding fits_at
    instance_iff = subst (λ (i : ℕ). instance_at i ↔ test_of) whole (schema_iff (subst fits_at (sym whole) (read.fits fits)))

  -- the test on numbers is the rule on their formulas
  pub schema_rule : SchemaSides h formulas ↔ InstanceHanded b t h
  schema_rule = (to, λ i. from i parts.fits refl)
    where
      to : SchemaSides h formulas → InstanceHanded b t h
      to k =
          (instance_iff k.fits).1 (record {
            counted = (refl, counted b.nodes t.kind h.one h.two h.count t.premises o.count few);
            left = (left_sides k.fits).0 k.left;
            right = (right_sides k.fits).0 k.right;
          })

      from : InstanceHanded b t h → (f : Bool) → parts.fits ≡ f → SchemaSides h formulas
      from i true e =
          let test = (instance_iff e).0 i in
          record { fits = e; left = (left_sides e).1 test.left; right = (right_sides e).1 test.right }
      from i false e = absurd (read.misfit e i.first i.second i.fits)

-- an answer by the numbers is one by the calculus, where the table holds a body
module _ (formulas : List ℕ) (h : Handed) where
  answered : {r : Bool} → DecidesIf (SidesRise h) (SchemaSides h formulas) r → SchemaAnswer formulas h r
  answered d = record { numbers = d; instances = λ b s t o. iff_if (schema_rule o) d }

  -- the answers of the tests as they run, with the parts that were read
  module _ {p : Apart} (same : p ≡ parts_handed h formulas) where
    abbrev left_fits : Apart → Type 0
    left_fits q = Shared (sides_in formulas q h.rule h.count 0 h.row.left h.one.left h.two.left)

    abbrev right_fits : Apart → Type 0
    right_fits q = Shared (sides_in formulas q h.rule h.count 1 h.row.right h.one.right h.two.right)

    abbrev LeftAnswer : Bool → Type 0
    LeftAnswer r = DecidesIf (AllRise (h.row.left ∷ take h.count (h.one.left ∷ h.two.left ∷ []))) (left_fits p) r

    abbrev RightAnswer : Bool → Type 0
    RightAnswer r = DecidesIf (AllRise (h.row.right ∷ take h.count (h.one.right ∷ h.two.right ∷ []))) (right_fits p) r

    pub misfit_answered : p.fits ≡ false → SchemaAnswer formulas h false
    misfit_answered e = answered (no_if (λ g k. false≢true (sym e ∙ ap (λ (q : Apart). q.fits) same ∙ k.fits)))

    pub left_answered : {l : Bool} → LeftAnswer l → l ≡ false → SchemaAnswer formulas h false
    left_answered d e = answered (no_if (λ g k. denied_if d e g.left (subst left_fits (sym same) k.left)))

    pub right_answered : p.fits ≡ true → {l r : Bool} → LeftAnswer l → l ≡ true → RightAnswer r → SchemaAnswer formulas h r
    right_answered f dl e dr =
        answered (record {
          sound = λ t. record {
            fits = sym (ap (λ (q : Apart). q.fits) same) ∙ f;
            left = subst left_fits same (dl.sound e);
            right = subst right_fits same (dr.sound t);
          };
          complete = λ g k. dr.complete g.right (subst right_fits (sym same) k.right);
        })
