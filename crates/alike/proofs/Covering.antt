-- Where the atoms of two formulas have places of their own, they hold alike in all pairs of places exactly if they hold alike in all
-- pairs of sets.
use Prim.Native.Nat.{ℕ, ◌^◌, ◌≤◌, ◌<◌}
use native.Mathlib.Decide.{ℕ_discrete, dec_lt, dec_le}
use native.Mathlib.Omega.{arith}
use mathlib.Core.Bool.{Bool, true, false, cond, false≢true}
use mathlib.Core.List.Memᴰ
use mathlib.Core.List.{List, [], ◌∷◌, map}
use mathlib.Core.Logic.{⊎_elim, ◌↔◌}
use mathlib.Core.Path.{◌≡◌, refl, sym, ap, subst, ◌∙◌}
use borrow.Author.Tests.{lt-ltb, le-ltb}
use lib.Dec.{eqb, ltb}
use Rattle.equilibrium.specs.Formula.{Formula}
use Rattle.equilibrium.specs.Meaning.{◌∈◌, ◌⊆◌, Holds, Equal}
use Rattle.equilibrium.proofs.Sets.{dec_in, those, in_those}
use Rattle.equilibrium.proofs.EqualFormulas.{atoms_of_both, alike, equal_over}
use Rattle.format.specs.File.{Body, decoded_at}
use Rattle.atomset.specs.AtomSet.{has, Member, members, set_of}
use Rattle.atomset.proofs.Membership.{member_lt}
use Rattle.atomset.proofs.Members.{member_members}
use Rattle.atomset.proofs.SetOf.{member_set_of}
use Rattle.pairs.specs.Pairs.{holds_in}
use Rattle.pairs.specs.Parts.{part}
use Rattle.pairs.proofs.Pairs.{Says, holds_in_iff}
use Rattle.pairs.proofs.Parts.{every_part}
use Rattle.alike.specs.Blocks.{pairs_at_once}
use Rattle.alike.specs.Truths.{inner_places, third, here_at, there_at, place_of, Pair}
use Rattle.alike.specs.Survivors.{AlikeOver}
use Rattle.alike.specs.Places.{Seated, Outer}
use Rattle.alike.proofs.Words.{same_truth_lem, word_of, NumberOf, number_of, pair_of, heres, theres, pair_inside}
use Rattle.alike.proofs.Surviving.{part_small, part_included}

-- what a list is mapped to
in_map : {X : Type 0} (f : X → ℕ) (xs : List X) (y : ℕ) → (y ∈ map f xs) ↔ ((x : X) × (x ∈ xs) × (y ≡ f x))
in_map f [] y = (λ m. absurd (Memᴰ.not-nil m), λ h. absurd (Memᴰ.not-nil h.1))
in_map {X} f (x ∷ xs) y =
    let rest = in_map f xs y in (
      λ m. ⊎_elim (λ (e : y ≡ f x). (x, Memᴰ.head refl, e)) (λ k. let r = rest.0 k in (r.0, Memᴰ.tail r.1, r.2)) (Memᴰ.cases_cons m),
      λ (z, m, e). ⊎_elim (λ (k : z ≡ x). Memᴰ.head (e ∙ ap f k)) (λ k. Memᴰ.tail (rest.1 (z, k, e))) (Memᴰ.cases_cons m),
    )

-- a decision as a test
answer : {X : Type 0} → Dec X → Bool
answer (yes x) = true
answer (no n) = false

answer_says : {X : Type 0} (d : Dec X) → Says (answer d) X
unfolding answer
answer_says (yes x) = (λ e. x, λ y. refl)
answer_says (no n) = (λ e. absurd (false≢true e), λ x. absurd (n x))

-- the number is in the list
abbrev inside : ℕ → List ℕ → Bool
inside s xs = answer (dec_in ℕ_discrete s xs)

-- the digit in base three of a place that is in the greater set or not, and in the smaller
state : Bool → Bool → ℕ
state there here = cond here 2 (cond there 1 0)

state_low : (there here : Bool) → state there here < 3
unfolding state
state_low there true = omega arith
state_low true false = omega arith
state_low false false = omega arith

-- what it says of both
state_there : {X Y : Type 0} (there here : Bool) → Says there X → Says here Y → (Y → X) → ltb 0 (state there here) ≡ there
unfolding state
state_there true true x y f = refl
state_there true false x y f = refl
state_there false true x y f = absurd (false≢true (x.1 (f (y.0 refl))))
state_there false false x y f = refl

state_here : (there here : Bool) → eqb (state there here) 2 ≡ here
unfolding state
state_here there true = refl
state_here true false = refl
state_here false false = refl

module _ (places : List ℕ) (width outer set : ℕ) (fits : set < 2 ^ 64) (small : outer < 2 ^ 64) (its : Outer width outer)
    (seated : Seated places width set) where
  -- the places of some atoms
  abbrev at : List ℕ → List ℕ
  at X = map (place_of places) X

  -- those that are the same in all of a block
  outer_of : List ℕ → List ℕ
  outer_of X = those (λ s. dec_le inner_places s) (at X)

  -- an atom of the set is in a part of it exactly if its place is
  place_in : (X : List ℕ) → X ⊆ members set → (p : ℕ) → p ∈ members set → (place_of places p ∈ at X) ↔ (p ∈ X)
  place_in X x p m = (
    λ k.
        let q = (in_map (place_of places) X (place_of places p)).0 k in
        let e = seated.apart p q.0 ((member_members set fits p).1 m) ((member_members set fits q.0).1 (x q.0 q.1)) q.2 in
        subst (λ (z : ℕ). z ∈ X) (sym e) q.1,
    λ k. (in_map (place_of places) X (place_of places p)).1 (p, k, refl),
  )

  -- ---- from sets to places

  module _ (H T : List ℕ) (t-in : T ⊆ members set) (h-in : H ⊆ T) where
    outer_there : outer_of T ⊆ members outer
    unfolding outer_of
    outer_there s m =
        let k = (in_those (λ s. dec_le inner_places s) (at T) s).0 m in
        let q = (in_map (place_of places) T s).0 k.0 in
        let l = seated.below q.0 ((member_members set fits q.0).1 (t-in q.0 q.1)) in
        (member_members outer small s).0 ((its s).1 (k.1, omega (arith, l, q.2)))

    m : ℕ
    m = (every_part outer_there).0

    t : ℕ
    t = set_of (part m (members outer))

    t_fits : t < 2 ^ 64
    unfolding t
    t_fits = part_small 64 outer m small small

    in_t : (s : ℕ) → Member s t ↔ ((s ∈ at T) × (inner_places ≤ s))
    unfolding m t outer_of
    in_t s =
        let set-iff = member_set_of (part m (members outer)) s in
        let same = (every_part outer_there).2 in
        let those-iff = in_those (λ s. dec_le inner_places s) (at T) s in
        (λ k. those-iff.0 (same.0 s (set-iff.0 k)), λ k. set-iff.1 (same.1 s (those-iff.1 k)))

    higher : (s : ℕ) → s ∈ at H → s ∈ at T
    higher s k = let q = (in_map (place_of places) H s).0 k in (in_map (place_of places) T s).1 (q.0, h-in q.0 q.1, q.2)

    outer_here : outer_of H ⊆ members t
    unfolding outer_of
    outer_here s k = let q = (in_those (λ s. dec_le inner_places s) (at H) s).0 k in (member_members t t_fits s).0 ((in_t s).1 (higher s q.0, q.1))

    n : ℕ
    n = (every_part outer_here).0

    h : ℕ
    h = set_of (part n (members t))

    in_h : (s : ℕ) → Member s h ↔ ((s ∈ at H) × (inner_places ≤ s))
    unfolding n h outer_of
    in_h s =
        let set-iff = member_set_of (part n (members t)) s in
        let same = (every_part outer_here).2 in
        let those-iff = in_those (λ s. dec_le inner_places s) (at H) s in
        (λ k. those-iff.0 (same.0 s (set-iff.0 k)), λ k. set-iff.1 (same.1 s (those-iff.1 k)))

    -- the digits of a pair's number, for the places 0 to 4
    digits : ℕ → ℕ
    digits s = state (inside s (at T)) (inside s (at H))

    numbered : NumberOf inner_places digits
    unfolding digits
    numbered = number_of inner_places digits (λ s. state_low (inside s (at T)) (inside s (at H)))

    i : ℕ
    i = numbered.number

    i_below : i < pairs_at_once
    unfolding i
    i_below = omega (arith, numbered.small)

    there_digit : (s : ℕ) → s < inner_places → ltb 0 (third i s) ≡ inside s (at T)
    unfolding i digits
    there_digit s l =
        ap (ltb 0) (numbered.digits s l)
        ∙ state_there (inside s (at T)) (inside s (at H)) (answer_says (dec_in ℕ_discrete s (at T))) (answer_says (dec_in ℕ_discrete s (at H))) (higher s)

    here_digit : (s : ℕ) → s < inner_places → eqb (third i s) 2 ≡ inside s (at H)
    unfolding i digits
    here_digit s l = ap (λ (d : ℕ). eqb d 2) (numbered.digits s l) ∙ state_here (inside s (at T)) (inside s (at H))

    -- the pair has a place where the sets have it
    there_says : (s : ℕ) → Says (there_at t s i) (s ∈ at T)
    unfolding there_at
    there_says s = by (dec_lt s inner_places)
      where
        by : Dec (s < inner_places) → Says (cond (ltb s inner_places) (ltb 0 (third i s)) (has t s)) (s ∈ at T)
        by (yes l) =
            subst (λ (x : Bool). Says x (s ∈ at T))
            (sym (ap (λ (x : Bool). cond x (ltb 0 (third i s)) (has t s)) (lt-ltb s inner_places l) ∙ there_digit s l))
            (answer_says (dec_in ℕ_discrete s (at T)))
        by (no u) =
            subst (λ (x : Bool). Says x (s ∈ at T)) (sym (ap (λ (x : Bool). cond x (ltb 0 (third i s)) (has t s)) (le-ltb s inner_places (omega arith))))
            (λ k. ((in_t s).0 k).0, λ k. (in_t s).1 (k, omega arith))

    here_says : (s : ℕ) → Says (here_at h s i) (s ∈ at H)
    unfolding here_at
    here_says s = by (dec_lt s inner_places)
      where
        by : Dec (s < inner_places) → Says (cond (ltb s inner_places) (eqb (third i s) 2) (has h s)) (s ∈ at H)
        by (yes l) =
            subst (λ (x : Bool). Says x (s ∈ at H))
            (sym (ap (λ (x : Bool). cond x (eqb (third i s) 2) (has h s)) (lt-ltb s inner_places l) ∙ here_digit s l))
            (answer_says (dec_in ℕ_discrete s (at H)))
        by (no u) =
            subst (λ (x : Bool). Says x (s ∈ at H)) (sym (ap (λ (x : Bool). cond x (eqb (third i s) 2) (has h s)) (le-ltb s inner_places (omega arith))))
            (λ k. ((in_h s).0 k).0, λ k. (in_h s).1 (k, omega arith))

    h' : ℕ
    h' = (word_of 64 (heres places h t i)).word

    t' : ℕ
    t' = (word_of 64 (theres places h t i)).word

    pair : Pair places h t i h' t'
    unfolding h' t'
    pair = pair_of places h t i

    -- at the atoms of the set the pair is (H,T)
    agree_there : (p : ℕ) → p ∈ members set → (p ∈ T) ↔ (p ∈ members t')
    agree_there p u =
        let here = place_in T t-in p u in
        let says = there_says (place_of places p) in
        let digits = pair.there p (member_lt 64 set p fits ((member_members set fits p).1 u)) in
        let mem = member_members t' pair.there_small p in
        (λ k. mem.0 (digits ∙ says.1 (here.1 k)), λ k. here.0 (says.0 (sym digits ∙ mem.1 k)))

    agree_here : (p : ℕ) → p ∈ members set → (p ∈ H) ↔ (p ∈ members h')
    agree_here p u =
        let here = place_in H (λ q k. t-in q (h-in q k)) p u in
        let says = here_says (place_of places p) in
        let digits = pair.here p (member_lt 64 set p fits ((member_members set fits p).1 u)) in
        let mem = member_members h' pair.here_small p in
        (λ k. mem.0 (digits ∙ says.1 (here.1 k)), λ k. here.0 (says.0 (sym digits ∙ mem.1 k)))

  -- ---- formulas

  module _ (b : Body) (a x : ℕ) (within : atoms_of_both (decoded_at b.nodes a) (decoded_at b.nodes x) ⊆ members set) where
    abbrev A : Formula
    A = decoded_at b.nodes a

    abbrev B : Formula
    B = decoded_at b.nodes x

    -- alike in a pair of words, alike in their sets
    words_sets : (h t : ℕ) → h < 2 ^ 64 → t < 2 ^ 64 → (holds_in h t B ≡ holds_in h t A) ↔ (Holds (members h) (members t) A ↔ Holds (members h) (members t) B)
    words_sets h t hs ts =
        let one = holds_in_iff A h t (member_members h hs) (member_members t ts) in
        let two = holds_in_iff B h t (member_members h hs) (member_members t ts) in (
          λ e. (λ k. two.0 (e ∙ one.1 k), λ k. one.0 (sym e ∙ two.1 k)),
          λ e. same_truth_lem (holds_in h t B) (holds_in h t A) (λ k. one.1 (e.1 (two.0 k)), λ k. two.1 (e.0 (one.0 k))),
        )

    to_sets : AlikeOver b places outer a x → Equal A B
    unfolding m t n h
    to_sets over = (equal_over A B within).1 (λ H T t-in h-in.
        let p = pair H T t-in h-in in
        alike A B (λ q u. agree_here H T t-in h-in q (within q u)) (λ q u. agree_there H T t-in h-in q (within q u))
        ((words_sets _ _ p.here_small p.there_small).0 (over (m H T t-in h-in) (every_part (outer_there H T t-in h-in)).1
        (n H T t-in h-in) (every_part (outer_here H T t-in h-in)).1 (i H T t-in h-in) (i_below H T t-in h-in) _ _ p)))

    from_sets : Equal A B → AlikeOver b places outer a x
    from_sets e m l n k i low-i h t pair = (words_sets h t pair.here_small pair.there_small).1 (e (members h) (members t)
        (pair_inside pair (part_included (set_of (part m (members outer))) n (part_small 64 outer m small small))))

    -- alike in all pairs of places exactly if equal
    pub alike_iff : AlikeOver b places outer a x ↔ Equal A B
    alike_iff = (to_sets, from_sets)
