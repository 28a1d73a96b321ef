-- What each step along K and along E makes of the answer for the whole. Any tables.
use Prim.Native.Nat.{ℕ, ◌^◌, ◌<◌}
use native.Mathlib.Omega.{arith}
use mathlib.Core.Bool.{Bool, true, false, cond, ◌&&◌, ◌||◌, false≢true, true≢false, and-eq-true_iff}
use mathlib.Core.List.Memᴰ
use mathlib.Core.List.{List, [], ◌∷◌}
use mathlib.Core.Logic.{◌↔◌, ◌⊎◌, inl, inr, ⊎_elim, ◌≢◌}
use mathlib.Core.Option.{Option, none, some}
use mathlib.Core.Path.{◌≡◌, refl, sym, ap, ap₂, subst, ◌∙◌}
use borrow.Author.Tests.{eqb-true, eq-eqb, ne_eqb, lt-ltb}
use lib.Dec.{eqb, ltb, eqb-suc-zero}
use lib.ListN.{length, get_or, drop}
use Rattle.std.specs.Prelude.{Option as Given, None, Some}
use Rattle.std.specs.Option.{option_eq}
use Rattle.equilibrium.specs.Meaning.{◌∈◌}
use Rattle.elk.specs.Instance.{chosen, put}
use Rattle.elk.specs.Instance.{Choice as Chosen}
use Rattle.format.specs.Text.{◌<$>◌}
use Rattle.atomset.specs.AtomSet.{has, Member, members}
use Rattle.atomset.proofs.Digits.{has_zero}
use Rattle.atomset.proofs.Membership.{member_lt}
use Rattle.atomset.proofs.Members.{member_members}
use Rattle.shapes.specs.Shapes.{shape_in}
use Rattle.unstable.specs.declared.joins.Sign.{Sign}
use Rattle.unstable.specs.declared.joins.Sign.TheVariants.{Plain, Negated}
use Rattle.unstable.specs.Joins.{sign_of, sign_number, with_sign, conjuncts, disjuncts, with, choice_in, Chooses, middle_in, middles_in}
use Rattle.shapes.specs.declared.Shape.{Shape}
use Rattle.shapes.specs.declared.Shape.TheVariants.{Conjunction, Disjunction}

-- i is the atom p, which a word has room for
abbrev pub is : ℕ → ℕ → Bool
is i p = eqb i p && ltb p 64

-- an atom before those that are chosen
pub in_put : (t : Bool) (p : ℕ) (ps : List ℕ) (i : ℕ) → (i ∈ put t p ps) ↔ (((t ≡ true) × (i ≡ p)) ⊎ (i ∈ ps))
in_put true p ps i = (λ m. ⊎_elim (λ e. inl (refl, e)) inr (Memᴰ.cases_cons m), ⊎_elim (λ h. Memᴰ.head h.1) (λ m. Memᴰ.tail m))
in_put false p ps i = (inr, ⊎_elim (λ h. absurd (false≢true h.0)) (λ m. m))

-- a member of the set with p, if its sign is 1
member_sign :
    (set more p : ℕ) (t : Bool) → p < 64 → ((i : ℕ) → has more i ≡ (has set i || (t && is i p))) → (i : ℕ)
    → Member i more ↔ (Member i set ⊎ ((t ≡ true) × (i ≡ p)))
member_sign set more p t h e i = (λ m. to (has set i) t (sym (e i) ∙ m), λ s. e i ∙ from (has set i) t s)
  where
    to : (a t : Bool) → (a || (t && is i p)) ≡ true → (a ≡ true) ⊎ ((t ≡ true) × (i ≡ p))
    to true t k = inl refl
    to false true k = inr (refl, eqb-true i p ((and-eq-true_iff (eqb i p) (ltb p 64)).0 k).0)
    to false false k = absurd (false≢true k)

    from : (a t : Bool) → (a ≡ true) ⊎ ((t ≡ true) × (i ≡ p)) → (a || (t && is i p)) ≡ true
    from true t s = refl
    from false true (inl k) = absurd (false≢true k)
    from false true (inr k) = (and-eq-true_iff (eqb i p) (ltb p 64)).1 (eq-eqb i p k.1, lt-ltb p 64 h)
    from false false (inl k) = absurd (false≢true k)
    from false false (inr k) = absurd (false≢true k.0)

-- a sign that was found has not the number of none
pub sign_there : (s : Sign) → sign_number (Some s) ≢ 0
sign_there Plain e = omega arith
sign_there Negated e = omega arith

-- a sign compared as an enum is compared by its number
module _ (eq : Sign → Sign → Bool) where
  pub is_plain : eq Plain Plain ≡ true → eq Negated Plain ≡ false → (o : Given Sign) → option_eq eq o (Some Plain) ≡ eqb (sign_number o) 1
  is_plain h n None = refl
  is_plain h n (Some Plain) = h
  is_plain h n (Some Negated) = n

  pub is_negated : eq Plain Negated ≡ false → eq Negated Negated ≡ true → (o : Given Sign) → option_eq eq o (Some Negated) ≡ eqb (sign_number o) 2
  is_negated n h None = refl
  is_negated n h (Some Plain) = n
  is_negated n h (Some Negated) = h

signed : (sign p : ℕ) (rest : Option Chosen) → sign ≢ 0 → with_sign sign p rest ≡ ((λ c. (p, eqb sign 1) ∷ c) <$> rest)
signed sign p rest n = ap (λ (t : Bool). cond t none ((λ c. (p, eqb sign 1) ∷ c) <$> rest)) (ne_eqb sign 0 n)

unsigned : (sign p : ℕ) (rest : Option Chosen) → sign ≡ 0 → with_sign sign p rest ≡ none
unsigned sign p rest e = ap (λ (t : Bool). cond t none ((λ c. (p, eqb sign 1) ∷ c) <$> rest)) (eq-eqb sign 0 e)

-- the rest that is read as the choice at p and on
module _ (formulas : List ℕ) (k p : ℕ) where
  choice_none : (q : ℕ) (qs : List ℕ) → conjuncts (shape_in formulas k) ≡ none → choice_in formulas k p (q ∷ qs) ≡ none
  unfolding choice_in
  choice_none q qs e = ap (λ (o : Option (ℕ × ℕ)). with o none (λ o. with_sign (sign_of (shape_in formulas o.0) p) p (choice_in formulas o.1 q qs))) e

  choice_both :
      (q : ℕ) (qs : List ℕ) {x y : ℕ} → shape_in formulas k ≡ Conjunction x y
      → choice_in formulas k p (q ∷ qs) ≡ with_sign (sign_of (shape_in formulas x) p) p (choice_in formulas y q qs)
  unfolding choice_in
  choice_both q qs e = ap (λ (s : Shape). with (conjuncts s) none (λ o. with_sign (sign_of (shape_in formulas o.0) p) p (choice_in formulas o.1 q qs))) e

  choice_last : choice_in formulas k p [] ≡ with_sign (sign_of (shape_in formulas k) p) p (some [])
  unfolding choice_in
  choice_last = refl

-- The reading of K at an atom p with atoms ps to come, where `set` was read before it: what it reads makes the whole.
pub record Onward (whole : Option Chosen) (formulas : List ℕ) (at p : ℕ) (ps : List ℕ) (set : ℕ) : Type 0 where
  pub small : p < 64
  pub refused : choice_in formulas at p ps ≡ none → whole ≡ none
  pub made : (c : Chosen) → choice_in formulas at p ps ≡ some c → (d : Chosen) × (whole ≡ some d) × ((i : ℕ) → (i ∈ chosen d) ↔ (Member i set ⊎ (i ∈ chosen c)))

onward_starts :
    (formulas : List ℕ) (k p : ℕ) (ps : List ℕ) (set : ℕ) → p < 64 → ((i : ℕ) → has set i ≡ false)
    → Onward (choice_in formulas k p ps) formulas k p ps set
onward_starts formulas k p ps set h none_in = record {
  small = h;
  refused = λ e. e;
  made = λ c e. (c, e, λ i. (inr, ⊎_elim (λ m. absurd (true≢false (sym m ∙ none_in i))) (λ m. m)));
}

module _ {whole : Option Chosen} {formulas : List ℕ} {at p : ℕ} {ps : List ℕ} {set : ℕ} (o : Onward whole formulas at p ps set) where
  onward_fails : choice_in formulas at p ps ≡ none → Chooses whole None
  onward_fails e = o.refused e

  -- one atom more is read, with the sign of its formula
  taken :
      (more : ℕ) {sign : ℕ} (next : Option Chosen) → sign ≢ 0 → choice_in formulas at p ps ≡ with_sign sign p next
      → ((i : ℕ) → has more i ≡ (has set i || (eqb sign 1 && is i p)))
      → (next ≡ none → whole ≡ none)
      × ((c : Chosen) → next ≡ some c → (d : Chosen) × (whole ≡ some d) × ((i : ℕ) → (i ∈ chosen d) ↔ (Member i more ⊎ (i ∈ chosen c))))
  taken more {sign} next n e h = (
    λ f. o.refused (e ∙ signed sign p next n ∙ ap (λ r. (λ c. (p, eqb sign 1) ∷ c) <$> r) f),
    λ c f.
        let m = o.made ((p, eqb sign 1) ∷ c) (e ∙ signed sign p next n ∙ ap (λ r. (λ c. (p, eqb sign 1) ∷ c) <$> r) f) in
        (m.0, m.1, λ i. (λ k. to c i ((m.2 i).0 k), λ k. (m.2 i).1 (from c i k))),
  )
    where
      more_in : (i : ℕ) → Member i more ↔ (Member i set ⊎ ((eqb sign 1 ≡ true) × (i ≡ p)))
      more_in = member_sign set more p (eqb sign 1) o.small h

      to : (c : Chosen) (i : ℕ) → Member i set ⊎ (i ∈ put (eqb sign 1) p (chosen c)) → Member i more ⊎ (i ∈ chosen c)
      to c i (inl m) = inl ((more_in i).1 (inl m))
      to c i (inr m) = ⊎_elim (λ k. inl ((more_in i).1 (inr k))) inr ((in_put (eqb sign 1) p (chosen c) i).0 m)

      from : (c : Chosen) (i : ℕ) → Member i more ⊎ (i ∈ chosen c) → Member i set ⊎ (i ∈ put (eqb sign 1) p (chosen c))
      from c i (inl m) = ⊎_elim inl (λ k. inr ((in_put (eqb sign 1) p (chosen c) i).1 (inl k))) ((more_in i).0 m)
      from c i (inr m) = inr ((in_put (eqb sign 1) p (chosen c) i).1 (inr m))

module _ {whole : Option Chosen} {formulas : List ℕ} {at p set : ℕ} where
  -- the next atom is read off the second conjunct
  onward_next :
      (more : ℕ) {q x y sign : ℕ} {qs : List ℕ} → Onward whole formulas at p (q ∷ qs) set → q < 64 → shape_in formulas at ≡ Conjunction x y
      → sign ≡ sign_of (shape_in formulas x) p → sign ≢ 0 → ((i : ℕ) → has more i ≡ (has set i || (eqb sign 1 && is i p)))
      → Onward whole formulas y q qs more
  onward_next more {q} {y} {sign} {qs} o h e k n m =
      let here = choice_both formulas at p q qs e ∙ ap (λ (s : ℕ). with_sign s p (choice_in formulas y q qs)) (sym k) in
      let t = taken o more (choice_in formulas y q qs) n here m in
      record { small = h; refused = t.0; made = t.1 }

  unsigned_next :
      {q x y sign : ℕ} {qs : List ℕ} → Onward whole formulas at p (q ∷ qs) set → shape_in formulas at ≡ Conjunction x y
      → sign ≡ sign_of (shape_in formulas x) p → sign ≡ 0 → Chooses whole None
  unsigned_next {q} {y} {qs} o e k n = onward_fails o (choice_both formulas at p q qs e ∙ unsigned _ p (choice_in formulas y q qs) (sym k ∙ n))

  -- the last atom is read off the whole formula
  onward_last : (more : ℕ) {sign : ℕ} → Onward whole formulas at p [] set → sign ≡ sign_of (shape_in formulas at) p → sign ≢ 0
      → ((i : ℕ) → has more i ≡ (has set i || (eqb sign 1 && is i p))) → Chooses whole (Some more)
  onward_last more {sign} o k n m =
      let t = (taken o more (some []) n (choice_last formulas at p ∙ ap (λ (s : ℕ). with_sign s p (some [])) (sym k)) m).1 [] refl in
      (t.0, t.1, λ i. (λ h. (t.2 i).1 (inl h), λ h. ⊎_elim (λ l. l) (λ l. absurd (Memᴰ.not-nil l)) ((t.2 i).0 h)))

  unsigned_last :
      {sign : ℕ} → Onward whole formulas at p [] set → sign ≡ sign_of (shape_in formulas at) p → sign ≡ 0
      → Chooses whole None
  unsigned_last o k n = onward_fails o (choice_last formulas at p ∙ unsigned _ p (some []) (sym k ∙ n))

-- E, an atom at a time
module _ (formulas : List ℕ) (e p : ℕ) where
  middles_none : (q : ℕ) (qs : List ℕ) → conjuncts (shape_in formulas e) ≡ none → middles_in formulas e p (q ∷ qs) ≡ false
  unfolding middles_in
  middles_none q qs k = ap (λ (o : Option (ℕ × ℕ)). with o false (λ o. middle_in formulas o.0 p && middles_in formulas o.1 q qs)) k

  middles_both :
      (q : ℕ) (qs : List ℕ) {x y : ℕ} → shape_in formulas e ≡ Conjunction x y
      → middles_in formulas e p (q ∷ qs) ≡ (middle_in formulas x p && middles_in formulas y q qs)
  unfolding middles_in
  middles_both q qs k = ap (λ (s : Shape). with (conjuncts s) false (λ o. middle_in formulas o.0 p && middles_in formulas o.1 q qs)) k

  middles_last : middles_in formulas e p [] ≡ middle_in formulas e p
  unfolding middles_in
  middles_last = refl

  pub middle_none : disjuncts (shape_in formulas e) ≡ none → middle_in formulas e p ≡ false
  unfolding middle_in
  middle_none k = ap (λ (o : Option (ℕ × ℕ)). with o false (λ o. eqb (sign_of (shape_in formulas o.0) p) 1 && eqb (sign_of (shape_in formulas o.1) p) 2)) k

  middle_both :
      {x y : ℕ} → shape_in formulas e ≡ Disjunction x y
      → middle_in formulas e p ≡ (eqb (sign_of (shape_in formulas x) p) 1 && eqb (sign_of (shape_in formulas y) p) 2)
  unfolding middle_in
  middle_both k =
      ap (λ (s : Shape). with (disjuncts s) false (λ o. eqb (sign_of (shape_in formulas o.0) p) 1 && eqb (sign_of (shape_in formulas o.1) p) 2)) k

  module _ {x y sign : ℕ} (s : shape_in formulas e ≡ Disjunction x y) (f : sign ≡ sign_of (shape_in formulas x) p) where
    pub middle_fails : sign ≢ 1 → middle_in formulas e p ≡ false
    middle_fails n = middle_both s ∙ ap (λ (t : Bool). t && eqb (sign_of (shape_in formulas y) p) 2) (ap (λ (k : ℕ). eqb k 1) (sym f) ∙ ne_eqb sign 1 n)

    pub middle_by : {other : ℕ} → sign ≡ 1 → other ≡ sign_of (shape_in formulas y) p → middle_in formulas e p ≡ eqb other 2
    middle_by k h =
        middle_both s ∙ ap (λ (t : Bool). t && eqb (sign_of (shape_in formulas y) p) 2) (ap (λ (k : ℕ). eqb k 1) (sym f) ∙ eq-eqb sign 1 k)
        ∙ ap (λ (k : ℕ). eqb k 2) (sym h)

-- ---- a walk over the members of a word

module _ (is : List ℕ) {empty : Bool} (e : empty ≡ eqb (length is) 0) where
  pub more_there : empty ≡ false → is ≡ get_or is 0 64 ∷ drop 1 is
  more_there n = go is (sym e ∙ n)
    where
      go : (is : List ℕ) → eqb (length is) 0 ≡ false → is ≡ get_or is 0 64 ∷ drop 1 is
      go [] k = absurd (true≢false k)
      go (i ∷ is) k = refl

  pub none_left : empty ≡ true → is ≡ []
  none_left n = go is (sym e ∙ n)
    where
      go : (is : List ℕ) → eqb (length is) 0 ≡ true → is ≡ []
      go [] k = refl
      go (i ∷ is) k = absurd (true≢false (sym k ∙ eqb-suc-zero (length is)))

  pub walk_falls : empty ≡ false → (later : List ℕ) → later ≡ drop 1 is → length later < length is
  walk_falls n later k = omega (arith, ap length k, ap length (more_there n))

-- E along the members of a word
module _ (formulas : List ℕ) (at p rest : ℕ) {empty : Bool} (e : empty ≡ eqb (length (members rest)) 0) where
  module _ (n : empty ≡ false) where
    pub middles_stop : conjuncts (shape_in formulas at) ≡ none → middles_in formulas at p (members rest) ≡ false
    middles_stop c = ap (middles_in formulas at p) (more_there (members rest) e n) ∙ middles_none formulas at p _ _ c

    module _ {x y : ℕ} {middle : Bool} (s : shape_in formulas at ≡ Conjunction x y) (f : middle ≡ middle_in formulas x p) where
      both : middles_in formulas at p (members rest) ≡ (middle && middles_in formulas y (get_or (members rest) 0 64) (drop 1 (members rest)))
      both =
          ap (middles_in formulas at p) (more_there (members rest) e n)
          ∙ middles_both formulas at p _ _ s ∙ ap (λ (t : Bool). t && middles_in formulas y (get_or (members rest) 0 64) (drop 1 (members rest))) (sym f)

      pub middles_fail : middle ≡ false → middles_in formulas at p (members rest) ≡ false
      middles_fail t = both ∙ ap (λ (t : Bool). t && middles_in formulas y (get_or (members rest) 0 64) (drop 1 (members rest))) t

      pub middles_next :
          (p' rest' : ℕ) → middle ≡ true → p' ≡ get_or (members rest) 0 64 → members rest' ≡ drop 1 (members rest)
          → middles_in formulas at p (members rest) ≡ middles_in formulas y p' (members rest')
      middles_next p' rest' t a r =
          both ∙ ap (λ (t : Bool). t && middles_in formulas y (get_or (members rest) 0 64) (drop 1 (members rest))) t
          ∙ ap₂ (middles_in formulas y) (sym a) (sym r)

  pub middles_end : empty ≡ true → middles_in formulas at p (members rest) ≡ middle_in formulas at p
  middles_end n = ap (middles_in formulas at p) (none_left (members rest) e n) ∙ middles_last formulas at p

-- the reading of K along the members of v, at a turn of the loop
pub record Reading (formulas : List ℕ) (k v p rest at set : ℕ) : Type 0 where
  pub below : (z : ℕ) → z ∈ members rest → z < 64
  pub onward : (q : ℕ) (qs : List ℕ) → members v ≡ q ∷ qs → Onward (choice_in formulas k q qs) formulas at p (members rest) set

pub reading_starts :
    (formulas : List ℕ) (k v p rest : ℕ) → v < 2 ^ 64 → p ≡ get_or (members v) 0 64 → members rest ≡ drop 1 (members v)
    → Reading formulas k v p rest k 0
reading_starts formulas k v p rest h f r = record { below = λ z m. small z (tail (members v) z (subst (λ (is : List ℕ). z ∈ is) r m)); onward = starts }
  where
    small : (z : ℕ) → z ∈ members v → z < 64
    small z m = member_lt 64 v z h ((member_members v h z).1 m)

    tail : (is : List ℕ) (z : ℕ) → z ∈ drop 1 is → z ∈ is
    tail [] z m = m
    tail (i ∷ is) z m = Memᴰ.tail m

    starts : (q : ℕ) (qs : List ℕ) → members v ≡ q ∷ qs → Onward (choice_in formulas k q qs) formulas k p (members rest) 0
    starts q qs e =
        subst (λ (is : List ℕ). Onward (choice_in formulas k q qs) formulas k p is 0) (sym (r ∙ ap (drop 1) e))
        (subst (λ (i : ℕ). Onward (choice_in formulas k q qs) formulas k i qs 0) (sym (f ∙ ap (λ (is : List ℕ). get_or is 0 64) e))
        (onward_starts formulas k q qs 0 (small q (subst (λ (is : List ℕ). q ∈ is) (sym e) (Memᴰ.head refl))) has_zero))

module _ {formulas : List ℕ} {k v p rest at set : ℕ} (g : Reading formulas k v p rest at set) {empty : Bool} (e : empty ≡ eqb (length (members rest)) 0) where
  -- where members are left
  module _ (n : empty ≡ false) where
    next : ℕ
    next = get_or (members rest) 0 64

    later : List ℕ
    later = drop 1 (members rest)

    here : (q : ℕ) (qs : List ℕ) → members v ≡ q ∷ qs → Onward (choice_in formulas k q qs) formulas at p (next ∷ later) set
    unfolding next later
    here q qs h = subst (λ (is : List ℕ). Onward (choice_in formulas k q qs) formulas at p is set) (more_there (members rest) e n) (g.onward q qs h)

    pub reading_no_conjunction :
        conjuncts (shape_in formulas at) ≡ none → (q : ℕ) (qs : List ℕ) → members v ≡ q ∷ qs
        → Chooses (choice_in formulas k q qs) None
    reading_no_conjunction c q qs h = onward_fails (here q qs h) (choice_none formulas at p next later c)

    module _ {x y sign : ℕ} (s : shape_in formulas at ≡ Conjunction x y) (f : sign ≡ sign_of (shape_in formulas x) p) where
      pub reading_unsigned : sign ≡ 0 → (q : ℕ) (qs : List ℕ) → members v ≡ q ∷ qs → Chooses (choice_in formulas k q qs) None
      reading_unsigned z q qs h = unsigned_next (here q qs h) s f z

      pub reading_next :
          (more p' rest' : ℕ) → sign ≢ 0 → ((i : ℕ) → has more i ≡ (has set i || (eqb sign 1 && is i p))) → p' ≡ get_or (members rest) 0 64
          → members rest' ≡ drop 1 (members rest) → Reading formulas k v p' rest' y more
      unfolding next later
      reading_next more p' rest' z m a r = record {
        below = λ z i. g.below z (there (Memᴰ.tail (subst (λ (is : List ℕ). z ∈ is) r i)));
        onward = λ q qs h.
            subst (λ (is : List ℕ). Onward (choice_in formulas k q qs) formulas y p' is more) (sym r)
            (subst (λ (i : ℕ). Onward (choice_in formulas k q qs) formulas y i later more) (sym a)
            (onward_next more (here q qs h) (g.below next (there (Memᴰ.head refl))) s f z m));
      }
        where
          there : {z : ℕ} → z ∈ next ∷ later → z ∈ members rest
          there {z} i = subst (λ (is : List ℕ). z ∈ is) (sym (more_there (members rest) e n)) i

  -- where none is left
  module _ (n : empty ≡ true) {sign : ℕ} (f : sign ≡ sign_of (shape_in formulas at) p) where
    last : (q : ℕ) (qs : List ℕ) → members v ≡ q ∷ qs → Onward (choice_in formulas k q qs) formulas at p [] set
    last q qs h = subst (λ (is : List ℕ). Onward (choice_in formulas k q qs) formulas at p is set) (none_left (members rest) e n) (g.onward q qs h)

    pub reading_unsigned_last : sign ≡ 0 → (q : ℕ) (qs : List ℕ) → members v ≡ q ∷ qs → Chooses (choice_in formulas k q qs) None
    reading_unsigned_last z q qs h = unsigned_last (last q qs h) f z

    pub reading_ends :
        (more : ℕ) → sign ≢ 0 → ((i : ℕ) → has more i ≡ (has set i || (eqb sign 1 && is i p))) → (q : ℕ) (qs : List ℕ) → members v ≡ q ∷ qs
        → Chooses (choice_in formulas k q qs) (Some more)
    reading_ends more z m q qs h = onward_last more (last q qs h) f z m
