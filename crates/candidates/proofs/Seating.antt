-- Places given to the atoms of a set one by one, places that are kept and found apart.
use Prim.Native.Nat.{ℕ, ◌+◌, ◌^◌, ◌≤◌, ◌<◌}
use native.Mathlib.Decide.{ℕ_discrete}
use native.Mathlib.Omega.{arith}
use mathlib.Core.Bool.{false, ◌&&◌, ◌||◌, false≢true}
use mathlib.Core.List.Memᴰ
use mathlib.Core.List.{List, [], ◌∷◌}
use mathlib.Core.Logic.{◌⊎◌, inl, inr, ⊎_elim, ◌↔◌}
use mathlib.Core.Path.{◌≡◌, refl, sym, ap, subst, ◌∙◌}
use lib.Dec.{eqb, ltb}
use lib.ListN.{length, get_or, set, length-set}
use lib.Seq.{get_or-set_same, get_or-set_other}
use Rattle.equilibrium.specs.Meaning.{◌∈◌}
use Rattle.format.specs.Tables.{most_atoms}
use Rattle.atomset.specs.AtomSet.{has, Member, members}
use Rattle.atomset.proofs.Membership.{member_lt}
use Rattle.atomset.proofs.Members.{member_members}
use Rattle.alike.specs.Truths.{place_of}
use Rattle.alike.specs.Survivors.{most_places}
use Rattle.alike.specs.Places.{Seated}
use Rattle.candidates.specs.Places.{SeatedAll, PlacesKept, SeatedToo}
use Rattle.alike.proofs.Remaining.{member_insert, in_walk, none_in}

-- a number is another one or not
at_or_lem : {X : Type 0} (q p : ℕ) → (q ≡ p → X) → ((q ≡ p → ⊥) → X) → X
at_or_lem {X} q p f g = by (ℕ_discrete q p)
  where
    by : Dec (q ≡ p) → X
    by (yes e) = f e
    by (no n) = g n

-- the atoms of the set that are not in the rest have places of their own below `place`
pub record SeatingSoFar (atoms : ℕ) (places : List ℕ) (place : ℕ) (rest : List ℕ) : Type 0 where
  pub long : length places ≡ most_atoms
  pub small : atoms < 2 ^ 64
  pub counted : place + length rest ≡ length (members atoms)
  pub rest_in : (p : ℕ) → p ∈ rest → Member p atoms
  pub below : (p : ℕ) → Member p atoms → (p ∈ rest → ⊥) → place_of places p < place
  pub apart :
      (p q : ℕ) → Member p atoms → (p ∈ rest → ⊥) → Member q atoms → (q ∈ rest → ⊥) → place_of places p ≡ place_of places q → p ≡ q

module _ (atoms : ℕ) where
  pub seating_starts : {places rest : List ℕ} → length places ≡ most_atoms → atoms < 2 ^ 64 → rest ≡ members atoms → SeatingSoFar atoms places 0 rest
  seating_starts {rest = rest} long small e = record {
    long = long;
    small = small;
    counted = omega (arith, ap length e);
    rest_in = λ p m. (member_members atoms small p).1 (subst (λ (xs : List ℕ). p ∈ xs) e m);
    below = λ p m n. absurd (n (here p m));
    apart = λ p q m n. absurd (n (here p m));
  }
    where
      here : (p : ℕ) → Member p atoms → p ∈ rest
      here p m = subst (λ (xs : List ℕ). p ∈ xs) (sym e) ((member_members atoms small p).0 m)

  -- the first of the rest gets the next place
  pub seating_next : {places : List ℕ} {place : ℕ} {rest : List ℕ} → SeatingSoFar atoms places place rest → {p : ℕ} {rest' : List ℕ}
      → rest ≡ p ∷ rest' → {places' : List ℕ} → places' ≡ set places p place → SeatingSoFar atoms places' (place + 1) rest'
  seating_next {places} {place} {rest} s {p} {rest'} walk {places'} put = record {
    long = ap length put ∙ length-set places p place ∙ s.long;
    small = s.small;
    counted = omega (arith, s.counted, ap length walk);
    rest_in = λ q m. s.rest_in q ((in_walk walk q).1 (inr m));
    below = λ q m n. at_or_lem q p (λ e. omega (arith, own q e)) (λ d. omega (arith, other q d, s.below q m (before q d n)));
    apart = λ q r m n k l e.
        at_or_lem q p
        (λ d. at_or_lem r p (λ f. d ∙ sym f) (λ f. absurd (omega (arith, own q d, other r f, s.below r k (before r f l)))))
        (λ d. at_or_lem r p (λ f. absurd (omega (arith, own r f, other q d, s.below q m (before q d n))))
        (λ f. s.apart q r m (before q d n) k (before r f l) (sym (other q d) ∙ e ∙ other r f)));
  }
    where
      room : p < length places
      room = let l = member_lt 64 atoms p s.small (s.rest_in p ((in_walk walk p).1 (inl refl))) in omega (arith, s.long)

      own : (q : ℕ) → q ≡ p → place_of places' q ≡ place
      own q e = ap (λ (ps : List ℕ). get_or ps q 0) put ∙ ap (λ (i : ℕ). get_or (set places p place) i 0) e ∙ get_or-set_same places p place 0 room

      other : (q : ℕ) → (q ≡ p → ⊥) → place_of places' q ≡ place_of places q
      other q n = ap (λ (ps : List ℕ). get_or ps q 0) put ∙ get_or-set_other places p q place 0 n

      before : (q : ℕ) → (q ≡ p → ⊥) → (q ∈ rest' → ⊥) → q ∈ rest → ⊥
      before q d n m = ⊎_elim d n ((in_walk walk q).0 m)

  -- no atom is left
  pub seating_ends : {before places : List ℕ} {place : ℕ} {rest : List ℕ} → SeatingSoFar atoms places place rest → length before ≡ most_atoms → rest ≡ []
      → SeatedAll atoms before places
  seating_ends s long none = record {
    long = s.long ∙ sym long;
    seated = record {
      below = λ p m. omega (arith, s.below p m (none_in none), s.counted, ap length none);
      apart = λ p q m k. s.apart p q m (none_in none) k (none_in none);
    };
  }

-- ---- places that are kept

kept_same : {places : List ℕ} → PlacesKept places places
kept_same = record { long = refl; kept = λ p l. refl }

-- nothing is given, and nothing promised
pub none_given : {places : List ℕ} {n atoms : ℕ} → SeatedToo atoms n places places false
none_given = record { kept = kept_same; seated = λ e. absurd (false≢true e) }

-- places were given, and will be, to atoms that had none
pub record GivingSoFar (before places rest : List ℕ) : Type 0 where
  pub lacking : (p : ℕ) → p ∈ rest → most_places ≤ place_of before p
  pub kept : PlacesKept before places

pub giving_starts : {places rest : List ℕ} {others : ℕ} → others < 2 ^ 64 → rest ≡ members others
    → ((p : ℕ) → Member p others → most_places ≤ place_of places p) → GivingSoFar places places rest
giving_starts {others = others} small e lacking = record {
  lacking = λ p m. lacking p ((member_members others small p).1 (subst (λ (xs : List ℕ). p ∈ xs) e m));
  kept = kept_same;
}

-- the first of the rest gets one
pub giving_next : {before places rest : List ℕ} → GivingSoFar before places rest → (p place : ℕ) → {rest' : List ℕ}
    → rest ≡ p ∷ rest' → {places' : List ℕ} → places' ≡ set places p place → GivingSoFar before places' rest'
giving_next {before} {places} s p place walk put = record {
  lacking = λ q m. s.lacking q ((in_walk walk q).1 (inr m));
  kept = record {
    long = ap length put ∙ length-set places p place ∙ s.kept.long;
    kept = λ q l. ap (λ (ps : List ℕ). get_or ps q 0) put ∙ get_or-set_other places p q place 0 (other q l) ∙ s.kept.kept q l;
  };
}
  where
    other : (q : ℕ) → place_of before q < most_places → q ≡ p → ⊥
    other q l e = omega (arith, s.lacking q ((in_walk walk q).1 (inl e)))

-- atoms that have places of their own keep them
pub kept_seated : {before after : List ℕ} {n atoms : ℕ} → PlacesKept before after → n ≤ most_places → Seated before n atoms → Seated after n atoms
kept_seated {before} {after} {n} {atoms} k few s = record {
  below = λ p m. omega (arith, s.below p m, same p m);
  apart = λ p q m l e. s.apart p q m l (sym (same p m) ∙ e ∙ same q l);
}
  where
    same : (p : ℕ) → Member p atoms → place_of after p ≡ place_of before p
    same p m = k.kept p (omega (arith, s.below p m))

-- ---- places found apart

-- the atoms of the set that are not in the rest have places of their own below n, which are in use
pub record ApartSoFar (places : List ℕ) (n atoms used : ℕ) (rest : List ℕ) : Type 0 where
  pub below : (p : ℕ) → Member p atoms → (p ∈ rest → ⊥) → place_of places p < n
  pub in_use : (p : ℕ) → Member p atoms → (p ∈ rest → ⊥) → Member (place_of places p) used
  pub apart :
      (p q : ℕ) → Member p atoms → (p ∈ rest → ⊥) → Member q atoms → (q ∈ rest → ⊥) → place_of places p ≡ place_of places q → p ≡ q

module _ {places : List ℕ} {n atoms : ℕ} where
  pub apart_starts : {used : ℕ} {rest : List ℕ} → atoms < 2 ^ 64 → rest ≡ members atoms → ApartSoFar places n atoms used rest
  apart_starts {rest = rest} small e =
      record { below = λ p m o. absurd (o (here p m)); in_use = λ p m o. absurd (o (here p m)); apart = λ p q m o. absurd (o (here p m)) }
    where
      here : (p : ℕ) → Member p atoms → p ∈ rest
      here p m = subst (λ (xs : List ℕ). p ∈ xs) (sym e) ((member_members atoms small p).0 m)

  -- the place of the first of the rest is not in use
  pub apart_next : {used : ℕ} {rest : List ℕ} → ApartSoFar places n atoms used rest → {p : ℕ} {rest' : List ℕ} → rest ≡ p ∷ rest'
      → {place : ℕ} → place ≡ place_of places p → n ≤ most_places → place < n → (Member place used → ⊥) → {used' : ℕ}
      → ((i : ℕ) → has used' i ≡ (has used i || (eqb i place && ltb place 64))) → ApartSoFar places n atoms used' rest'
  apart_next {used} {rest} s {p} {rest'} walk {place} is few low new {used'} more = record {
    below = λ q m o. at_or_lem q p (λ e. omega (arith, own q e)) (λ d. s.below q m (before q d o));
    in_use = λ q m o. at_or_lem q p (λ e. (put (place_of places q)).1 (inr (own q e))) (λ d. (put (place_of places q)).1 (inl (s.in_use q m (before q d o))));
    apart = λ q r m o k l e.
        at_or_lem q p
        (λ d. at_or_lem r p (λ f. d ∙ sym f) (λ f. absurd (new (subst (λ (x : ℕ). Member x used) (sym e ∙ own q d) (s.in_use r k (before r f l))))))
        (λ d. at_or_lem r p (λ f. absurd (new (subst (λ (x : ℕ). Member x used) (e ∙ own r f) (s.in_use q m (before q d o)))))
        (λ f. s.apart q r m (before q d o) k (before r f l) e));
  }
    where
      own : (q : ℕ) → q ≡ p → place_of places q ≡ place
      own q e = ap (place_of places) e ∙ sym is

      put : (i : ℕ) → Member i used' ↔ (Member i used ⊎ (i ≡ place))
      put = member_insert used place used' (omega arith) more

      before : (q : ℕ) → (q ≡ p → ⊥) → (q ∈ rest' → ⊥) → q ∈ rest → ⊥
      before q d o m = ⊎_elim d o ((in_walk walk q).0 m)

  -- no atom is left
  pub apart_ends : {used : ℕ} {rest : List ℕ} → ApartSoFar places n atoms used rest → rest ≡ [] → Seated places n atoms
  apart_ends s none = record { below = λ p m. s.below p m (none_in none); apart = λ p q m l. s.apart p q m (none_in none) l (none_in none) }
