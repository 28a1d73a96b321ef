-- When sides are those of an instance of `unst`, in a table that begins with the formulas of a good body: exactly if they are as
-- asked in any tables.
use Prim.Native.Nat.{ℕ, ◌<◌}
use native.Mathlib.Omega.{arith}
use mathlib.Core.Bool.{Bool, true}
use mathlib.Core.List.Memᴰ
use mathlib.Core.List.{List, [], ◌∷◌, ◌++◌, map}
use mathlib.Core.Logic.{◌↔◌}
use mathlib.Core.Path.{◌≡◌, refl, sym, ap, subst, ◌∙◌}
use lib.ListN.{length, get_or}
use Rattle.equilibrium.specs.Formula.{Formula, atoms_of, atoms_in}
use Rattle.equilibrium.specs.Meaning.{◌∈◌, ◌⊆◌, ◌≈◌}
use Rattle.equilibrium.proofs.Sets.{≈-refl}
use Rattle.elk.specs.Sequent.{◌⇒◌, ◌⨾◌}
use Rattle.elk.specs.Instance.{domain, chosen, literal, fixed, excluded_middle, joined, Rising}
use Rattle.elk.specs.Instance.{Choice as Chosen}
use Rattle.elk.proofs.Entries.{UnstableTest, unstable_iff}
use Rattle.format.specs.File.{Body, decoded_at, decoded}
use Rattle.format.proofs.GoodBodies.{Held, good_held}
use Rattle.format.proofs.Formulas.{known_earlier, equal_numbers}
use Rattle.format.proofs.Decoded.{in_decoded, decoded_in, number_on}
use Rattle.atomset.specs.AtomSet.{has, Member, members, set_of}
use Rattle.atomset.proofs.Membership.{member_lt}
use Rattle.format.proofs.RisingNumbers.{rising_of}
use Rattle.elk.proofs.Rising.{rising_unique}
use Rattle.atomset.proofs.Members.{members_rising, member_members, members_unique}
use Rattle.atomset.proofs.SetOf.{member_set_of, set_of_lt}
use Rattle.tables.specs.Holding.{Formulas, Sided}
use Rattle.known.specs.Known.{AtomNotes}
use Rattle.sides.proofs.Sets.{any_iff}
use Rattle.unstable.specs.Joins.{middles_in}
use Rattle.unstable.specs.Fixing.{Fixes}
use Rattle.unstable.specs.Unstable.{occurs_on, WordOf, Reads, UnstableIn, UnstableSides}
use Rattle.unstable.proofs.Joined.{choice_sound, choice_complete, middles_iff}
use Rattle.unstable.proofs.ChoiceSets.{chosen_part, chosen_rising, in_atoms}
use Rattle.unstable.proofs.Words.{rest_word, rest_of}
use Rattle.unstable.proofs.FixedSide.{fixes_iff}

module _ {b : Body} {table : List ℕ} (g : Formulas b table) where
  held : Held b
  held = good_held g.good

  -- sides of the same formulas are equal
  sides_equal : (xs ys : List ℕ) → Sided b xs → Sided b ys → decoded b.nodes xs ≈ decoded b.nodes ys → xs ≡ ys
  sides_equal xs ys sx sy e =
      rising_unique xs ys (rising_of xs sx.rising) (rising_of ys sy.rising) (λ z m. over xs ys sx sy e.0 z m)
      (λ z m. over ys xs sy sx e.1 z m)
    where
      over : (xs ys : List ℕ) → Sided b xs → Sided b ys → decoded b.nodes xs ⊆ decoded b.nodes ys → (z : ℕ) → z ∈ xs → z ∈ ys
      over xs ys sx sy e z m = (number_on b held ys sy.known z (known_earlier b xs sx.known z m)).1 (e _ (decoded_in b xs z m))

  -- the side of one formula has one number
  alone : (side : List ℕ) (F : Formula) → Sided b side → decoded b.nodes side ≈ (F ∷ []) → (k : ℕ) × (side ≡ k ∷ []) × (decoded_at b.nodes k ≡ F)
  alone [] F s e = absurd (Memᴰ.not-nil (e.1 F (Memᴰ.head refl)))
  alone (k ∷ []) F s e = (k, refl, Memᴰ.eq_of_singleton (e.0 _ (Memᴰ.head refl)))
  alone (k ∷ m ∷ ms) F s e = absurd (omega (arith, (rising_of (k ∷ m ∷ ms) s.rising).0, same))
    where
      first : decoded_at b.nodes k ≡ F
      first = Memᴰ.eq_of_singleton (e.0 _ (Memᴰ.head refl))

      second : decoded_at b.nodes m ≡ F
      second = Memᴰ.eq_of_singleton (e.0 _ (Memᴰ.tail (Memᴰ.head refl)))

      known : (i : ℕ) → i ∈ k ∷ m ∷ ms → i < length b.nodes
      known = known_earlier b (k ∷ m ∷ ms) s.known

      same : k ≡ m
      same =
          equal_numbers b held k m (known k (Memᴰ.head refl)) (known m (Memᴰ.tail (Memᴰ.head refl))) (first ∙ sym second)

inhabited : (is : List ℕ) (z : ℕ) → z ∈ is → (p : ℕ) × (ps : List ℕ) × (is ≡ p ∷ ps)
inhabited [] z m = absurd (Memᴰ.not-nil m)
inhabited (p ∷ ps) z m = (p, ps, refl)

same_set : {X : Type 0} {xs ys : List X} → xs ≡ ys → xs ≈ ys
same_set {xs} e = subst (λ zs. xs ≈ zs) e ≈-refl

-- the number of a side that has one is known
one_known : {b : Body} {side : List ℕ} {k : ℕ} → Sided b side → side ≡ k ∷ [] → k < length b.nodes
one_known {b} {side} {k} s e = known_earlier b side s.known k (subst (λ (xs : List ℕ). k ∈ xs) (sym e) (Memᴰ.head refl))

-- the row is an instance by what was read
record Fitting (b : Body) (left leftTwo : List ℕ) (e : ℕ) (c : Chosen) : Type 0 where
  member : ℕ
  not_empty : member ∈ chosen c
  joins : decoded_at b.nodes e ≡ joined (map excluded_middle (chosen c))
  fixes : decoded b.nodes leftTwo ≈ (map fixed c ++ decoded b.nodes left)

module _
    {b : Body} {formulas : List ℕ} (g : Formulas b formulas) (notes : List ℕ) (known : AtomNotes b notes) (R : List Formula)
    {left leftOne rightOne leftTwo rightTwo : List ℕ} (s : Sided b left) (s₁ : Sided b leftOne) (t₁ : Sided b rightOne)
    (s₂ : Sided b leftTwo) (t₂ : Sided b rightTwo) where
  -- the tests on the sides alone
  pub left_same : UnstableSides b R left leftOne rightOne leftTwo rightTwo → left ≡ leftOne
  left_same i = sym (sides_equal g leftOne left s₁ s (unstable_iff.0 i).derived.left)

  pub first_one : UnstableSides b R left leftOne rightOne leftTwo rightTwo → length rightOne ≡ 1
  first_one i = ap length (alone g rightOne _ t₁ (unstable_iff.0 i).derived.right).1

  pub second_one : UnstableSides b R left leftOne rightOne leftTwo rightTwo → length rightTwo ≡ 1
  second_one i = ap length (alone g rightTwo _ t₂ (unstable_iff.0 i).refuted.right).1

  -- v is the word of the atoms of L
  module _ {v : ℕ} (is-v : WordOf (λ p. occurs_on notes left p ≡ true) v) where
    in_v : (p : ℕ) → Member p v ↔ (p ∈ atoms_in (decoded b.nodes left))
    unfolding occurs_on
    in_v p = (to, from)
      where
        test : ℕ → Bool
        test x = has (get_or notes x 0) p

        here : (x : ℕ) → x ∈ left → Member p (get_or notes x 0) ↔ (p ∈ atoms_of (decoded_at b.nodes x))
        here x m = known x (known_earlier b left s.known x m) p

        to : Member p v → p ∈ atoms_in (decoded b.nodes left)
        to m =
            let x = (any_iff test left).0 ((is-v.its p).0 m) in
            (in_atoms (decoded b.nodes left) p).1 (_, decoded_in b left x.0 x.1, (here x.0 x.1).0 x.2)

        from : p ∈ atoms_in (decoded b.nodes left) → Member p v
        from m =
            let F = (in_atoms (decoded b.nodes left) p).0 m in
            let x = in_decoded b left F.0 F.1 in
            (is-v.its p).1 ((any_iff test left).1 (x.0, x.1, (here x.0 x.1).1 (subst (λ (G : Formula). p ∈ atoms_of G) x.2 F.2)))

    -- what an instance has, read off its sides
    needed :
        UnstableSides b R left leftOne rightOne leftTwo rightTwo
        → (k : ℕ) × (e : ℕ) × (c : Chosen) × Reads formulas notes left leftOne rightOne rightTwo v k e c × Fitting b left leftTwo e c
    needed i = by (unstable_iff.0 i)
      where
        by : {c : Chosen}
            → UnstableTest c (decoded b.nodes leftOne ⇒ decoded b.nodes rightOne)
            (decoded b.nodes leftTwo ⨾ decoded b.nodes rightTwo) (decoded b.nodes left ⇒ R)
            → (k : ℕ) × (e : ℕ) × (c : Chosen) × Reads formulas notes left leftOne rightOne rightTwo v k e c × Fitting b left leftTwo e c
        by {c} t = (
          one.0,
          two.0,
          c,
          record {
            same_left = left_same i;
            first_right = one.1;
            second_right = two.1;
            atoms = is-v;
            p = head.0;
            ps = head.1;
            all = sym all ∙ head.2;
            read = choice_complete g head.1 one.0 head.0 c (one_known t₁ one.1) head.2 one.2;
          },
          record { member = t.member; not_empty = t.not_empty; joins = two.2; fixes = t.refuted.left },
        )
          where
            one : (k : ℕ) × (rightOne ≡ k ∷ []) × (decoded_at b.nodes k ≡ joined (map literal c))
            one = alone g rightOne _ t₁ t.derived.right

            two : (e : ℕ) × (rightTwo ≡ e ∷ []) × (decoded_at b.nodes e ≡ joined (map excluded_middle (chosen c)))
            two = alone g rightTwo _ t₂ t.refuted.right

            all : domain c ≡ members v
            all =
                rising_unique (domain c) (members v) t.rising (members_rising v)
                (λ z m. (member_members v is-v.small z).0 ((in_v z).1 (t.atoms.0 z m)))
                (λ z m. t.atoms.1 z ((in_v z).0 ((member_members v is-v.small z).1 m)))

            head : (p : ℕ) × (ps : List ℕ) × (domain c ≡ p ∷ ps)
            head = inhabited (domain c) t.member (chosen_part c t.member t.not_empty)

    module _ {k e : ℕ} {c : Chosen} (f : Reads formulas notes left leftOne rightOne rightTwo v k e c) where
      sound : (domain c ≡ f.p ∷ f.ps) × (decoded_at b.nodes k ≡ joined (map literal c))
      sound = choice_sound g f.ps k f.p c (one_known t₁ f.first_right) f.read

      domain_v : domain c ≡ members v
      domain_v = sound.0 ∙ sym f.all

      domain_rises : Rising (domain c)
      domain_rises = subst Rising (sym domain_v) (members_rising v)

      in_domain : (z : ℕ) → (z ∈ domain c) ↔ Member z v
      in_domain z = (
        λ m. (member_members v is-v.small z).1 (subst (λ (is : List ℕ). z ∈ is) domain_v m),
        λ m. subst (λ (is : List ℕ). z ∈ is) (sym domain_v) ((member_members v is-v.small z).0 m),
      )

      fitting_instance : Fitting b left leftTwo e c → UnstableSides b R left leftOne rightOne leftTwo rightTwo
      fitting_instance h = record {
        L = decoded b.nodes left;
        R = R;
        choice = c;
        rising = domain_rises;
        atoms = (λ z m. (in_v z).0 ((in_domain z).0 m), λ z m. (in_domain z).1 ((in_v z).1 m));
        member = h.member;
        not_empty = h.not_empty;
        above = (
          record {
            kind = refl;
            left = same_set (ap (decoded b.nodes) (sym f.same_left));
            right = same_set (ap (decoded b.nodes) f.first_right ∙ ap (λ F. F ∷ []) sound.1);
          },
          (
            record {
              kind = refl;
              left = h.fixes;
              right = same_set (ap (decoded b.nodes) f.second_right ∙ ap (λ F. F ∷ []) h.joins);
            },
            tt,
          ),
        );
        below = record { kind = refl; left = ≈-refl; right = ≈-refl };
      }

      set_word : WordOf (λ p. p ∈ chosen c) (set_of (chosen c))
      set_word = record {
        small = set_of_lt 64 (chosen c) (λ p m. member_lt 64 v p is-v.small ((in_domain p).0 (chosen_part c p m)));
        its = member_set_of (chosen c);
      }

      -- the words of S and of the rest
      module _ {set : ℕ} (is_set : WordOf (λ p. p ∈ chosen c) set) where
        set_members : members set ≡ chosen c
        set_members = members_unique set (chosen c) is_set.small (chosen_rising c domain_rises) is_set.its

        middles : {q : ℕ} {qs : List ℕ} → members set ≡ q ∷ qs
            → (middles_in formulas e q qs ≡ true) ↔ (decoded_at b.nodes e ≡ joined (map excluded_middle (chosen c)))
        middles {q} {qs} m = (λ t. h.0 t ∙ same, λ j. h.1 (j ∙ sym same))
          where
            h : (middles_in formulas e q qs ≡ true) ↔ (decoded_at b.nodes e ≡ joined (map excluded_middle (q ∷ qs)))
            h = middles_iff g qs e q (one_known t₂ f.second_right)

            same : joined (map excluded_middle (q ∷ qs)) ≡ joined (map excluded_middle (chosen c))
            same = ap (λ (is : List ℕ). joined (map excluded_middle is)) (sym m ∙ set_members)

        fixed_side : {others : ℕ} → WordOf (λ p. Member p v × (Member p set → ⊥)) others
            → Fixes formulas leftTwo left set others ↔ (decoded b.nodes leftTwo ≈ (map fixed c ++ decoded b.nodes left))
        fixed_side {others} is_rest = fixes_iff g leftTwo left s₂ s c domain_rises set others is_set.its in_rest
          where
            in_rest : (p : ℕ) → Member p others ↔ ((p ∈ domain c) × (p ∈ chosen c → ⊥))
            in_rest p = (
              λ h. let k = (is_rest.its p).0 h in ((in_domain p).1 k.0, λ n. k.1 ((is_set.its p).1 n)),
              λ h. (is_rest.its p).1 ((in_domain p).0 h.0, λ n. h.1 ((is_set.its p).0 n)),
            )

    -- an instance is as asked in any tables
    pub instance_in : UnstableSides b R left leftOne rightOne leftTwo rightTwo → UnstableIn formulas notes left leftOne rightOne leftTwo rightTwo
    instance_in i = by (needed i)
      where
        by : (k : ℕ) × (e : ℕ) × (c : Chosen) × Reads formulas notes left leftOne rightOne rightTwo v k e c × Fitting b left leftTwo e c
            → UnstableIn formulas notes left leftOne rightOne leftTwo rightTwo
        by (k, e, c, f, h) = record {
          v = v;
          k = k;
          e = e;
          c = c;
          reads = f;
          set = set_of (chosen c);
          in_set = is_set;
          others = rest_of v (set_of (chosen c));
          in_others = is_rest;
          q = first.0;
          qs = first.1;
          not_empty = set_members f is_set ∙ first.2;
          joins = (middles f is_set (set_members f is_set ∙ first.2)).1 h.joins;
          fixes = (fixed_side f is_set is_rest).1 h.fixes;
        }
          where
            is_set : WordOf (λ p. p ∈ chosen c) (set_of (chosen c))
            is_set = set_word f

            is_rest : WordOf (λ p. Member p v × (Member p (set_of (chosen c)) → ⊥)) (rest_of v (set_of (chosen c)))
            is_rest = rest_word is-v.small is_set.small

            first : (q : ℕ) × (qs : List ℕ) × (chosen c ≡ q ∷ qs)
            first = inhabited (chosen c) h.member h.not_empty

  -- what is asked in any tables makes an instance
  pub in_instance : UnstableIn formulas notes left leftOne rightOne leftTwo rightTwo → UnstableSides b R left leftOne rightOne leftTwo rightTwo
  in_instance u =
      let is-v = u.reads.atoms in
      fitting_instance is-v u.reads (record {
        member = u.q;
        not_empty = (u.in_set.its u.q).0 ((member_members u.set u.in_set.small u.q).1 first);
        joins = (middles is-v u.reads u.in_set u.not_empty).0 u.joins;
        fixes = (fixed_side is-v u.reads u.in_set u.in_others).0 u.fixes;
      })
    where
      first : u.q ∈ members u.set
      first = subst (λ (is : List ℕ). u.q ∈ is) (sym u.not_empty) (Memᴰ.head refl)
