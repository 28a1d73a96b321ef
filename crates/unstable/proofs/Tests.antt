-- The tests of the running code, in their order, against what `unst` asks in any tables. For each way out: the answer there.
use Prim.Native.Nat.{ℕ, ◌^◌, ◌<◌}
use native.Mathlib.Omega.{arith}
use mathlib.Core.Bool.{Bool, true, false, true≢false, false≢true}
use mathlib.Core.List.{List, [], ◌∷◌}
use mathlib.Core.Option.{Option, none, some}
use mathlib.Core.Path.{◌≡◌, refl, sym, ap, subst, ◌∙◌}
use lib.Dec.{eqb, eqb-suc-zero}
use lib.ListN.{length, get_or, drop}
use Rattle.equilibrium.specs.Meaning.{◌∈◌}
use Rattle.elk.specs.Instance.{chosen}
use Rattle.elk.specs.Instance.{Choice as Chosen}
use Rattle.atomset.specs.AtomSet.{Member, members}
use Rattle.sides.specs.Members.{AllRise}
use Rattle.sides.specs.Deciding.{DecidesIf}
use Rattle.sides.proofs.Deciding.{decides_no, decides_iff, no_if, decided}
use Rattle.std.specs.Prelude.{None, Some}
use Rattle.unstable.specs.Joins.{choice_in, Chooses, middles_in}
use Rattle.unstable.specs.Fixing.{Fixes}
use Rattle.unstable.specs.Unstable.{occurs_on, WordOf, Reads, UnstableIn, UnstableStep}
use Rattle.unstable.proofs.Steps.{more_there}
use Rattle.unstable.proofs.Words.{word_unique}
use Rattle.unstable.proofs.Instances.{left_same, first_one, second_one, instance_in, in_instance}

-- a list of length 1 is its first number
single : (xs : List ℕ) → length xs ≡ 1 → xs ≡ get_or xs 0 0 ∷ []
single [] e = absurd (omega arith)
single (x ∷ []) e = refl
single (x ∷ y ∷ ys) e = absurd (omega arith)

-- a walk over no members meets none
no_member : (is : List ℕ) {p : ℕ} {ps : List ℕ} {empty : Bool} → empty ≡ eqb (length is) 0 → empty ≡ true → is ≡ p ∷ ps → ⊥
no_member is {p} {ps} e t h = true≢false (sym (sym e ∙ t) ∙ ap (λ (is : List ℕ). eqb (length is) 0) h ∙ eqb-suc-zero (length ps))

-- what is read is not refused
not_refused : {o : Option Chosen} {c : Chosen} → o ≡ none → o ≡ some c → ⊥
not_refused e f = let z : ◌≡◌ {A = ℕ} 0 1 = cc in omega arith

module _ (formulas notes left leftOne rightOne leftTwo rightTwo : List ℕ) where
  abbrev In : Type 0
  In = UnstableIn formulas notes left leftOne rightOne leftTwo rightTwo

  abbrev pub Step : Bool → Type 0
  Step = UnstableStep formulas notes left leftOne rightOne leftTwo rightTwo

  abbrev pub Read : ℕ → ℕ → ℕ → Chosen → Type 0
  Read = Reads formulas notes left leftOne rightOne rightTwo

  pub lefts_differ : (left ≡ leftOne → ⊥) → Step false
  lefts_differ n = record {
    answer = no_if (λ r u. n u.reads.same_left);
    decides = λ b R g w s s₁ t₁ s₂ t₂. decides_no (λ i. n (left_same g notes w R s s₁ t₁ s₂ t₂ i));
  }

  pub first_not_one : (length rightOne ≡ 1 → ⊥) → Step false
  first_not_one n = record {
    answer = no_if (λ r u. n (ap length u.reads.first_right));
    decides = λ b R g w s s₁ t₁ s₂ t₂. decides_no (λ i. n (first_one g notes w R s s₁ t₁ s₂ t₂ i));
  }

  pub second_not_one : (length rightTwo ≡ 1 → ⊥) → Step false
  second_not_one n = record {
    answer = no_if (λ r u. n (ap length u.reads.second_right));
    decides = λ b R g w s s₁ t₁ s₂ t₂. decides_no (λ i. n (second_one g notes w R s s₁ t₁ s₂ t₂ i));
  }

  -- v is the word of the atoms of L
  module _ {v : ℕ} (is-v : WordOf (λ p. occurs_on notes left p ≡ true) v) where
    step : {r : Bool} → DecidesIf (AllRise (leftTwo ∷ left ∷ [])) In r → Step r
    step d = record {
      answer = d;
      decides = λ b R g w s s₁ t₁ s₂ t₂.
          decides_iff (in_instance g notes w R s s₁ t₁ s₂ t₂, instance_in g notes w R s s₁ t₁ s₂ t₂ is-v) (decided d (s₂.rising, (s.rising, tt)));
    }

    fails : (In → ⊥) → Step false
    fails n = step (no_if (λ r u. n u))

    its_v : (u : In) → u.v ≡ v
    its_v u = word_unique u.reads.atoms is-v

    reads_v : (u : In) → Read v u.k u.e u.c
    reads_v u = subst (λ (w : ℕ). Read w u.k u.e u.c) (its_v u) u.reads

    pub no_atoms : {empty : Bool} → empty ≡ eqb (length (members v)) 0 → empty ≡ true → Step false
    no_atoms e t = fails (λ u. no_member (members v) e t (reads_v u).all)

    -- what K makes of V
    pub no_choice :
        {k : ℕ} → k ≡ get_or rightOne 0 0 → ((p : ℕ) (ps : List ℕ) → members v ≡ p ∷ ps → Chooses (choice_in formulas k p ps) None) → Step false
    no_choice {k} e chooses = fails (λ u. let f = reads_v u in not_refused (chooses f.p f.ps f.all) (at_k f))
      where
        at_k : {k' e : ℕ} {c : Chosen} → (f : Read v k' e c) → choice_in formulas k f.p f.ps ≡ some c
        at_k f = ap (λ (k : ℕ). choice_in formulas k f.p f.ps) (e ∙ ap (λ (xs : List ℕ). get_or xs 0 0) f.first_right) ∙ f.read

    pub read_by :
        {k set : ℕ} → k ≡ get_or rightOne 0 0 → ((p : ℕ) (ps : List ℕ) → members v ≡ p ∷ ps → Chooses (choice_in formulas k p ps) (Some set))
        → left ≡ leftOne → length rightOne ≡ 1 → length rightTwo ≡ 1 → {empty : Bool} → empty ≡ eqb (length (members v)) 0 → empty ≡ false
        → set < 2 ^ 64 → (c : Chosen) × Read v k (get_or rightTwo 0 0) c × WordOf (λ p. p ∈ chosen c) set
    read_by {k} {set} first chooses same one two e n small =
        let all = more_there (members v) e n in
        let m = chooses _ _ all in (
          m.0,
          record {
            same_left = same;
            first_right = single rightOne one ∙ ap (λ (x : ℕ). x ∷ []) (sym first);
            second_right = single rightTwo two;
            atoms = is-v;
            p = get_or (members v) 0 64;
            ps = drop 1 (members v);
            all = all;
            read = m.1;
          },
          record { small = small; its = m.2 },
        )

    -- K makes the choice c, and `set` is the word of its S
    module _ {k e : ℕ} {c : Chosen} (f : Read v k e c) {set : ℕ} (is_set : WordOf (λ p. p ∈ chosen c) set) where
      -- what was read is what is asked for
      its_e : (u : In) → u.e ≡ e
      its_e u = heads (sym u.reads.second_right ∙ f.second_right)
        where
          heads : {x y : ℕ} → x ∷ [] ≡ y ∷ [] → x ≡ y
          heads h = cc

      its_c : (u : In) → u.c ≡ c
      its_c u = by (reads_v u).all f.all (reads_v u).first_right f.first_right (reads_v u).read f.read
        where
          by : {p q k₀ k₁ : ℕ} {ps qs : List ℕ} {c₀ c₁ : Chosen} → members v ≡ p ∷ ps → members v ≡ q ∷ qs → rightOne ≡ k₀ ∷ []
              → rightOne ≡ k₁ ∷ [] → choice_in formulas k₀ p ps ≡ some c₀ → choice_in formulas k₁ q qs ≡ some c₁ → c₀ ≡ c₁
          by a₀ a₁ h₀ h₁ r₀ r₁ = cc

      its_set : (u : In) → u.set ≡ set
      its_set u = word_unique (subst (λ (d : Chosen). WordOf (λ p. p ∈ chosen d) u.set) (its_c u) u.in_set) is_set

      pub none_chosen : {empty : Bool} → empty ≡ eqb (length (members set)) 0 → empty ≡ true → Step false
      none_chosen h t = fails (λ u. no_member (members set) h t (ap members (sym (its_set u)) ∙ u.not_empty))

      module _ {q : ℕ} {qs : List ℕ} (m : members set ≡ q ∷ qs) {joins : Bool} (j : joins ≡ middles_in formulas e q qs) where
        its_middles : (u : In) → middles_in formulas e q qs ≡ true
        its_middles u = by u.not_empty (its_set u) (its_e u) u.joins
          where
            by : {e₀ set₀ q₀ : ℕ} {qs₀ : List ℕ} → members set₀ ≡ q₀ ∷ qs₀ → set₀ ≡ set → e₀ ≡ e → middles_in formulas e₀ q₀ qs₀ ≡ true
                → middles_in formulas e q qs ≡ true
            by a b d h = cc

        pub not_joined : joins ≡ false → Step false
        not_joined t = fails (λ u. false≢true (sym t ∙ j ∙ its_middles u))

        -- the last test
        pub by_fixes :
            {others : ℕ} → WordOf (λ p. Member p v × (Member p set → ⊥)) others → joins ≡ true → {r : Bool}
            → DecidesIf (AllRise (leftTwo ∷ left ∷ [])) (Fixes formulas leftTwo left set others) r → Step r
        by_fixes {others} is_rest t d = step (record { sound = λ y. made (d.sound y); complete = λ rise u. d.complete rise (its_fixes u) })
          where
            made : Fixes formulas leftTwo left set others → In
            made x = record {
              v = v;
              k = k;
              e = e;
              c = c;
              reads = f;
              set = set;
              in_set = is_set;
              others = others;
              in_others = is_rest;
              q = q;
              qs = qs;
              not_empty = m;
              joins = sym j ∙ t;
              fixes = x;
            }

            its_fixes : In → Fixes formulas leftTwo left set others
            its_fixes u =
                subst (Fixes formulas leftTwo left set) its_others
                (subst (λ (w : ℕ). Fixes formulas leftTwo left w u.others) (its_set u) u.fixes)
              where
                its_others : u.others ≡ others
                its_others =
                    word_unique
                    (subst (λ (w : ℕ). WordOf (λ p. Member p v × (Member p w → ⊥)) u.others) (its_set u)
                    (subst (λ (w : ℕ). WordOf (λ p. Member p w × (Member p u.set → ⊥)) u.others) (its_v u) u.in_others))
                    is_rest
