-- Candidates that join a group one by one, as more atoms get places.
use Prim.Native.Nat.{ℕ, ◌^◌, ◌≤◌, ◌<◌}
use mathlib.Core.Bool.{Bool, true, ◌&&◌, ◌||◌, false≢true}
use mathlib.Core.List.{List, ◌∷◌}
use mathlib.Core.Logic.{◌⊎◌, inl, inr, ⊎_elim, ◌↔◌}
use mathlib.Core.Path.{◌≡◌, refl, sym, ap, subst, ◌∙◌}
use lib.Dec.{eqb, ltb}
use Rattle.equilibrium.specs.Meaning.{◌∈◌}
use Rattle.atomset.specs.AtomSet.{has, Member, members}
use Rattle.atomset.proofs.Digits.{has_zero}
use Rattle.atomset.proofs.Membership.{member_lt}
use Rattle.atomset.proofs.Members.{member_members}
use Rattle.alike.specs.Survivors.{most_places}
use Rattle.alike.specs.Places.{Seated}
use Rattle.candidates.specs.Places.{SeatedToo}
use Rattle.candidates.specs.Candidates.{atoms_at, Grouped}
use Rattle.alike.proofs.Remaining.{member_insert, in_walk}
use Rattle.candidates.proofs.Seating.{kept_seated}

-- a group, and the pending candidates that are still to be asked
pub record GroupingSoFar (notes : List ℕ) (atoms : ℕ) (side : List ℕ) (c pending n : ℕ) (before places : List ℕ) (group : ℕ) (rest : List ℕ) : Type 0 where
  pub small : pending < 2 ^ 64
  pub rest_in : (d : ℕ) → d ∈ rest → Member d pending
  pub so_far : Grouped notes atoms side c pending n before places group

module _ {notes : List ℕ} {atoms : ℕ} {side : List ℕ} {c pending n : ℕ} {before : List ℕ} where
  -- a group of one
  pub grouping_starts : pending < 2 ^ 64 → Member c pending → atoms_at notes atoms side c < 2 ^ 64 → Seated before n (atoms_at notes atoms side c) → {group : ℕ}
      → ((i : ℕ) → has group i ≡ (eqb i c && ltb c 64)) → {rest : List ℕ} → rest ≡ members pending
      → GroupingSoFar notes atoms side c pending n before before group rest
  grouping_starts small here word seated {group} e left = record {
    small = small;
    rest_in = λ d m. (member_members pending small d).1 (subst (λ (xs : List ℕ). d ∈ xs) left m);
    so_far = record {
      long = refl;
      its = record { own = (one c).1 refl; within = λ d m. subst (λ (x : ℕ). Member x pending) (sym ((one d).0 m)) here };
      small = λ d m. subst (λ (x : ℕ). atoms_at notes atoms side x < 2 ^ 64) (sym ((one d).0 m)) word;
      seated = λ d m. subst (λ (x : ℕ). Seated before n (atoms_at notes atoms side x)) (sym ((one d).0 m)) seated;
    };
  }
    where
      one : (d : ℕ) → Member d group ↔ (d ≡ c)
      one d =
          let into_none : (i : ℕ) → has group i ≡ (has 0 i || (eqb i c && ltb c 64)) =
          λ i. e i ∙ ap (λ (x : Bool). x || (eqb i c && ltb c 64)) (sym (has_zero i)) in
          let put = member_insert 0 c group (member_lt 64 pending c small here) into_none d in
          (λ m. ⊎_elim (λ k. absurd (false≢true (sym (has_zero d) ∙ k))) (λ k. k) (put.0 m), λ k. put.1 (inr k))

  module _ {places : List ℕ} {group : ℕ} {rest : List ℕ} (s : GroupingSoFar notes atoms side c pending n before places group rest) (few : n ≤ most_places)
      {d : ℕ} {rest' : List ℕ} (walk : rest ≡ d ∷ rest') {set : ℕ} (set_is : set ≡ atoms_at notes atoms side d)
      {places' : List ℕ} {r : Bool} (asked : SeatedToo set n places places' r) where
    -- the next one does not join; its atoms may have places now
    pub grouping_passes : GroupingSoFar notes atoms side c pending n before places' group rest'
    grouping_passes = record {
      small = s.small;
      rest_in = λ i m. s.rest_in i ((in_walk walk i).1 (inr m));
      so_far = record {
        long = asked.kept.long ∙ s.so_far.long;
        its = s.so_far.its;
        small = s.so_far.small;
        seated = λ i m. kept_seated asked.kept few (s.so_far.seated i m);
      };
    }

    -- it joins
    pub grouping_joins : set < 2 ^ 64 → r ≡ true → {group' : ℕ} → ((i : ℕ) → has group' i ≡ (has group i || (eqb i d && ltb d 64)))
        → GroupingSoFar notes atoms side c pending n before places' group' rest'
    grouping_joins word yes-one {group'} more = record {
      small = s.small;
      rest_in = grouping_passes.rest_in;
      so_far = record {
        long = grouping_passes.so_far.long;
        its = record {
          own = (put c).1 (inl s.so_far.its.own);
          within = λ i m. ⊎_elim (s.so_far.its.within i) (λ (e : i ≡ d). subst (λ (x : ℕ). Member x pending) (sym e) here) ((put i).0 m);
        };
        small = λ i m. ⊎_elim (s.so_far.small i)
            (λ (e : i ≡ d). subst (λ (x : ℕ). atoms_at notes atoms side x < 2 ^ 64) (sym e) (subst (λ (x : ℕ). x < 2 ^ 64) set_is word)) ((put i).0 m);
        seated = λ i m. ⊎_elim (grouping_passes.so_far.seated i)
            (λ (e : i ≡ d). subst (λ (x : ℕ). Seated places' n (atoms_at notes atoms side x)) (sym e) own)
            ((put i).0 m);
      };
    }
      where
        here : Member d pending
        here = s.rest_in d ((in_walk walk d).1 (inl refl))

        own : Seated places' n (atoms_at notes atoms side d)
        own = subst (Seated places' n) set_is (asked.seated yes-one)

        put : (i : ℕ) → Member i group' ↔ (Member i group ⊎ (i ≡ d))
        put = member_insert group d group' (member_lt 64 pending d s.small here) more
