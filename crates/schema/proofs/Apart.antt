-- A principal formula taken apart by its record, in a table that holds a body: the forms that ask for one word, and those that ask
-- for a negation and the word under it.
use Prim.Native.Nat.{ℕ, ◌-◌, ◌≤◌, ◌<◌}
use native.Mathlib.Decide.{ℕ_discrete, dec_lt}
use native.Mathlib.Omega.{arith}
use mathlib.Core.Bool.{true, false, true≢false, false≢true}
use mathlib.Core.List.{List, [], ◌∷◌}
use mathlib.Core.Path.{◌≡◌, refl, sym, ap, subst, ◌∙◌}
use lib.ListN.{length, get_or}
use Rattle.equilibrium.specs.Formula.{Formula, neg}
use Rattle.elk.specs.Rules.{
  Form,
  any,
  falsity,
  negation,
  conjunction,
  disjunction,
  implication,
  double_negation,
  negated_conjunction,
  negated_disjunction,
  negated_implication,
  Fits,
  is_any,
  is_falsity,
  is_negation,
  is_conjunction,
  is_disjunction,
  is_implication,
  is_double_negation,
  is_negated_conjunction,
  is_negated_disjunction,
  is_negated_implication,
}
use Rattle.format.specs.File.{Body, decoded_at}
use Rattle.tables.specs.declared.records.NodeRecord.{NodeRecord}
use Rattle.tables.specs.Holding.{Formulas}
use Rattle.tables.proofs.Reading.{Told, told, by_word, by_formula}
use Rattle.rules.specs.RuleTable.{form_number}
use Rattle.schema.specs.Principal.{Apart, record_at, split_in, parts_in}
use Rattle.schema.proofs.Splitting.{other_word, into_itself, into_one, into_two, any_form, one_word, no_negation, negated_word}

-- formula p is of the form, and first and second are the numbers of its parts A and B; or it is not of the form
pub record PartsOf (b : Body) (f : Form) (p : ℕ) (r : Apart) : Type 0 where
  pub fits : r.fits ≡ true → Fits f (decoded_at b.nodes p) (decoded_at b.nodes r.first) (decoded_at b.nodes r.second)
  pub first_known : r.fits ≡ true → r.first < length b.nodes
  pub second_known : r.fits ≡ true → r.second < length b.nodes
  pub misfit : r.fits ≡ false → (G H : Formula) → Fits f (decoded_at b.nodes p) G H → ⊥

-- the forms that ask for one word, and that word is theirs
record Plain (f : Form) : Type 0 where
  word : form_number f < 6
  compound : form_number f ≡ 1 → ⊥

-- the form of a number
form_of : ℕ → Form
form_of k =
    get_or (falsity ∷ any ∷ negation ∷ conjunction ∷ disjunction ∷ implication ∷ double_negation ∷ negated_conjunction ∷ negated_disjunction
    ∷ negated_implication ∷ []) k any

number_form : (f : Form) → form_of (form_number f) ≡ f
unfolding form_of
number_form any = refl
number_form falsity = refl
number_form negation = refl
number_form conjunction = refl
number_form disjunction = refl
number_form implication = refl
number_form double_negation = refl
number_form negated_conjunction = refl
number_form negated_disjunction = refl
number_form negated_implication = refl

module _ {b : Body} {f : Form} {p : ℕ} {r : Apart} where
  parts_fit :
      r.fits ≡ true → Fits f (decoded_at b.nodes p) (decoded_at b.nodes r.first) (decoded_at b.nodes r.second)
      → r.first < length b.nodes → r.second < length b.nodes → PartsOf b f p r
  parts_fit e t h k = record { fits = λ u. t; first_known = λ u. h; second_known = λ u. k; misfit = λ u. absurd (true≢false (sym e ∙ u)) }

  parts_misfit : r.fits ≡ false → ((G H : Formula) → Fits f (decoded_at b.nodes p) G H → ⊥) → PartsOf b f p r
  parts_misfit e n =
      let never : r.fits ≡ true → ⊥ = λ u. false≢true (sym e ∙ u) in
      record { fits = λ u. absurd (never u); first_known = λ u. absurd (never u); second_known = λ u. absurd (never u); misfit = λ u. n }

-- any formula is its own part
any_fits : (f : Form) {F : Formula} → form_number f ≡ 1 → Fits f F F F
unfolding form_of
any_fits f {F} e = subst (λ (g : Form). Fits g F F F) (ap form_of (sym e) ∙ number_form f) is_any

module _ {b : Body} {n : NodeRecord} {F : Formula} (t : Told b n F) where
  abbrev A : Formula
  A = decoded_at b.nodes n.first

  abbrev B : Formula
  B = decoded_at b.nodes n.second

  falsity_fits : (f : Form) → form_number f ≡ 0 → n.word ≡ 0 → Fits f F F F
  unfolding form_of
  falsity_fits f e w = subst (λ (g : Form). Fits g F F F) (ap form_of (sym e) ∙ number_form f) (rw (by_word t w) is_falsity)

  negation_fits : (f : Form) → form_number f ≡ 2 → n.word ≡ 2 → Fits f F A A × (n.first < length b.nodes)
  unfolding form_of
  negation_fits f e w =
      let told = by_word t w in
      (subst (λ (g : Form). Fits g F A A) (ap form_of (sym e) ∙ number_form f) (rw told.1 is_negation), told.0)

  -- the other words have two operands
  pair_fits :
      (f : Form) → Plain f → (form_number f ≡ 0 → ⊥) → (form_number f ≡ 2 → ⊥) → n.word ≡ form_number f
      → Fits f F A B × (n.first < length b.nodes) × (n.second < length b.nodes)
  pair_fits any p z o w = absurd (p.compound refl)
  pair_fits falsity p z o w = absurd (z refl)
  pair_fits negation p z o w = absurd (o refl)
  pair_fits conjunction p z o w = let told = by_word t w in (rw told.2 is_conjunction, told.0, told.1)
  pair_fits disjunction p z o w = let told = by_word t w in (rw told.2 is_disjunction, told.0, told.1)
  pair_fits implication p z o w = let told = by_word t w in (rw told.2 is_implication, told.0, told.1)
  pair_fits double_negation p z o w = absurd (omega (arith, p.word))
  pair_fits negated_conjunction p z o w = absurd (omega (arith, p.word))
  pair_fits negated_disjunction p z o w = absurd (omega (arith, p.word))
  pair_fits negated_implication p z o w = absurd (omega (arith, p.word))

-- a formula of such a form has its word
plain_word : {b : Body} {n : NodeRecord} {f : Form} {F G H : Formula} → Told b n F → Plain f → Fits f F G H → n.word ≡ form_number f
plain_word t p is_any = absurd (p.compound refl)
plain_word t p is_falsity = by_formula t refl
plain_word t p is_negation = (by_formula t refl).0
plain_word t p is_conjunction = (by_formula t refl).0
plain_word t p is_disjunction = (by_formula t refl).0
plain_word t p is_implication = (by_formula t refl).0
plain_word t p is_double_negation = absurd (omega (arith, p.word))
plain_word t p is_negated_conjunction = absurd (omega (arith, p.word))
plain_word t p is_negated_disjunction = absurd (omega (arith, p.word))
plain_word t p is_negated_implication = absurd (omega (arith, p.word))

-- a form that asks for a negation, by the form of what is under it
record Negated (f : Form) : Type 0 where
  under : Form
  plain : Plain under
  number : form_number under ≡ form_number f - 4
  fits : {A G H : Formula} → Fits under A G H → Fits f (neg A) G H
  back : {F G H : Formula} → Fits f F G H → (A : Formula) × (F ≡ neg A) × Fits under A G H

negated : (f : Form) → 6 ≤ form_number f → Negated f
negated any h = absurd (omega arith)
negated falsity h = absurd (omega arith)
negated negation h = absurd (omega arith)
negated conjunction h = absurd (omega arith)
negated disjunction h = absurd (omega arith)
negated implication h = absurd (omega arith)
negated double_negation h =
    record { under = negation; plain = record { word = omega arith; compound = λ e. omega arith }; number = refl; fits = on; back = off }
  where
    on : {A G H : Formula} → Fits negation A G H → Fits double_negation (neg A) G H
    on is_negation = is_double_negation

    off : {F G H : Formula} → Fits double_negation F G H → (A : Formula) × (F ≡ neg A) × Fits negation A G H
    off is_double_negation = (_, refl, is_negation)
negated negated_conjunction h =
    record { under = conjunction; plain = record { word = omega arith; compound = λ e. omega arith }; number = refl; fits = on; back = off }
  where
    on : {A G H : Formula} → Fits conjunction A G H → Fits negated_conjunction (neg A) G H
    on is_conjunction = is_negated_conjunction

    off : {F G H : Formula} → Fits negated_conjunction F G H → (A : Formula) × (F ≡ neg A) × Fits conjunction A G H
    off is_negated_conjunction = (_, refl, is_conjunction)
negated negated_disjunction h =
    record { under = disjunction; plain = record { word = omega arith; compound = λ e. omega arith }; number = refl; fits = on; back = off }
  where
    on : {A G H : Formula} → Fits disjunction A G H → Fits negated_disjunction (neg A) G H
    on is_disjunction = is_negated_disjunction

    off : {F G H : Formula} → Fits negated_disjunction F G H → (A : Formula) × (F ≡ neg A) × Fits disjunction A G H
    off is_negated_disjunction = (_, refl, is_disjunction)
negated negated_implication h =
    record { under = implication; plain = record { word = omega arith; compound = λ e. omega arith }; number = refl; fits = on; back = off }
  where
    on : {A G H : Formula} → Fits implication A G H → Fits negated_implication (neg A) G H
    on is_implication = is_negated_implication

    off : {F G H : Formula} → Fits negated_implication F G H → (A : Formula) × (F ≡ neg A) × Fits implication A G H
    off is_negated_implication = (_, refl, is_implication)

-- a negation is of the form if what is under it is of the form under it, and has the same parts
negated_parts :
    {b : Body} {f : Form} {p q : ℕ} {r : Apart} (n : Negated f) → decoded_at b.nodes p ≡ neg (decoded_at b.nodes q)
    → PartsOf b n.under q r → PartsOf b f p r
negated_parts {b} {f} {p} {q} {r} n e o =
    record {
      fits = λ u. rw e (n.fits (o.fits u));
      first_known = o.first_known;
      second_known = o.second_known;
      misfit = λ u G H t. none u G H (n.back t);
    }
  where
    none : r.fits ≡ false → (G H : Formula) → (A : Formula) × (decoded_at b.nodes p ≡ neg A) × Fits n.under A G H → ⊥
    none u G H (A, d, t) =
        let same : A ≡ decoded_at b.nodes q = cc in
        o.misfit u G H (subst (λ (F : Formula). Fits n.under F G H) same t)

module _ {b : Body} {formulas : List ℕ} (g : Formulas b formulas) where
  split_parts :
      (f : Form) → Plain f → (whole at word : ℕ) → form_number f ≡ word → at < length b.nodes
      → PartsOf b f at (split_in formulas whole at word)
  split_parts f plain whole at word e h = by (ℕ_discrete (record_at formulas at).word word) (ℕ_discrete word 0) (ℕ_discrete word 2)
    where
      t : Told b (record_at formulas at) (decoded_at b.nodes at)
      t = told g at h

      by : Dec ((record_at formulas at).word ≡ word) → Dec (word ≡ 0) → Dec (word ≡ 2) → PartsOf b f at (split_in formulas whole at word)
      by (no n) z o = rw (other_word formulas whole at word n) (parts_misfit refl (λ G H k. n (plain_word t plain k ∙ e)))
      by (yes w) (yes z) o = rw (into_itself formulas whole at word w z) (parts_fit refl (falsity_fits t f (e ∙ z) (w ∙ z)) h h)
      by (yes w) (no n) (yes o) =
          let apart = negation_fits t f (e ∙ o) (w ∙ o) in
          rw (into_one formulas whole at word w n o) (parts_fit refl apart.0 apart.1 apart.1)
      by (yes w) (no n) (no m) =
          let apart = pair_fits t f plain (λ z. n (sym e ∙ z)) (λ z. m (sym e ∙ z)) (w ∙ sym e) in
          rw (into_two formulas whole at word w n m) (parts_fit refl apart.0 apart.1 apart.2)

  -- the parts that are read are those of the formula
  pub parts_read : (f : Form) (form p : ℕ) → form_number f ≡ form → p < length b.nodes → PartsOf b f p (parts_in formulas form p)
  parts_read f form p e h = by (ℕ_discrete form 1) (dec_lt form 6) (ℕ_discrete (record_at formulas p).word 2)
    where
      t : Told b (record_at formulas p) (decoded_at b.nodes p)
      t = told g p h

      by : Dec (form ≡ 1) → Dec (form < 6) → Dec ((record_at formulas p).word ≡ 2) → PartsOf b f p (parts_in formulas form p)
      by (yes o) l w = rw (any_form formulas form p o) (parts_fit refl (any_fits f (e ∙ o)) h h)
      by (no n) (yes l) w =
          rw (one_word formulas form p n l) (split_parts f (record { word = omega arith; compound = λ o. n (sym e ∙ o) }) p p form e h)
      by (no n) (no m) (no w) =
          let past : 6 ≤ form = omega arith in
          let under = negated f (omega arith) in
          rw (no_negation formulas form p n past w) (parts_misfit refl (λ G H k. w (by_formula t (under.back k).1).0))
      by (no n) (no m) (yes w) =
          let past : 6 ≤ form = omega arith in
          let under = negated f (omega arith) in
          let operand = by_word t w in
          rw (negated_word formulas form p n past w) (negated_parts under operand.1 (
          split_parts under.under under.plain p (record_at formulas p).first (form - 4) (under.number ∙ ap (λ (k : ℕ). k - 4) e) operand.0))

-- the principal formula is kept with its parts
split_whole : (formulas : List ℕ) (whole at word : ℕ) → (split_in formulas whole at word).whole ≡ whole
split_whole formulas whole at word = by (ℕ_discrete (record_at formulas at).word word) (ℕ_discrete word 0) (ℕ_discrete word 2)
  where
    by : Dec ((record_at formulas at).word ≡ word) → Dec (word ≡ 0) → Dec (word ≡ 2) → (split_in formulas whole at word).whole ≡ whole
    by (no n) z o = ap (λ (r : Apart). r.whole) (other_word formulas whole at word n)
    by (yes w) (yes z) o = ap (λ (r : Apart). r.whole) (into_itself formulas whole at word w z)
    by (yes w) (no n) (yes o) = ap (λ (r : Apart). r.whole) (into_one formulas whole at word w n o)
    by (yes w) (no n) (no m) = ap (λ (r : Apart). r.whole) (into_two formulas whole at word w n m)

pub parts_whole : (formulas : List ℕ) (form p : ℕ) → (parts_in formulas form p).whole ≡ p
parts_whole formulas form p = by (ℕ_discrete form 1) (dec_lt form 6) (ℕ_discrete (record_at formulas p).word 2)
  where
    by : Dec (form ≡ 1) → Dec (form < 6) → Dec ((record_at formulas p).word ≡ 2) → (parts_in formulas form p).whole ≡ p
    by (yes o) l w = ap (λ (r : Apart). r.whole) (any_form formulas form p o)
    by (no n) (yes l) w = ap (λ (r : Apart). r.whole) (one_word formulas form p n l) ∙ split_whole formulas p p form
    by (no n) (no m) (no w) = ap (λ (r : Apart). r.whole) (no_negation formulas form p n (omega arith) w)
    by (no n) (no m) (yes w) =
        ap (λ (r : Apart). r.whole) (negated_word formulas form p n (omega arith) w) ∙ split_whole formulas p (record_at formulas p).first (form - 4)
