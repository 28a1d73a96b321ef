-- Candidates judged in groups: which are settled, and which are still to be asked.
use Prim.Native.Nat.{ℕ, ◌^◌, ◌≤◌, ◌<◌}
use mathlib.Core.Bool.{Bool, true, false, not, ◌&&◌, false≢true}
use mathlib.Core.List.Memᴰ
use mathlib.Core.List.{List, [], ◌∷◌}
use mathlib.Core.Logic.{◌⊎◌, inl, inr, ⊎_elim, ◌↔◌}
use mathlib.Core.Path.{◌≡◌, refl, sym, subst, ◌∙◌}
use lib.Bits.{bit_or}
use lib.ListN.{length, get_or}
use Rattle.equilibrium.specs.Meaning.{◌∈◌, Equal}
use Rattle.format.specs.File.{Body, decoded_at}
use Rattle.format.proofs.GoodBodies.{in_get_d}
use Rattle.atomset.specs.AtomSet.{has, Member, members}
use Rattle.atomset.proofs.Digits.{has_or}
use Rattle.atomset.proofs.Membership.{member_union, member_difference}
use Rattle.atomset.proofs.Members.{member_members}
use Rattle.known.specs.Known.{AtomNotes}
use Rattle.sides.specs.Deciding.{Decides}
use Rattle.candidates.specs.Candidates.{atoms_at, SomeEqual, Grouped, GroupJudged}
use Rattle.alike.specs.Survivors.{most_places}
use Rattle.alike.specs.Alike.{Held, OneEqual, SomeAlike}
use Rattle.alike.proofs.Remaining.{in_walk, none_in}

-- the atoms of two sets
pub member_or : (a b p : ℕ) → Member p (bit_or a b) ↔ (Member p a ⊎ Member p b)
member_or a b = member_union a b (bit_or a b) (has_or a b)

-- a group of candidates, by their atoms as noted
module _ {formulas notes : List ℕ} {own atoms : ℕ} {side : List ℕ} {c pending width : ℕ} {before places : List ℕ} {group : ℕ}
    (grouped : Grouped notes atoms side c pending width before places group) (few : width ≤ most_places) where
  pub group_judged : {r : Bool} → SomeAlike formulas own places width side group r → GroupJudged formulas notes own atoms side c pending group r
  group_judged {r} answer = record {
    its = grouped.its;
    judged = record {
      decides = λ b held noted own_atoms on_side. answer.decides b held few on_side (λ d m. record {
        set = atoms_at notes atoms side d;
        small = grouped.small d m;
        seated = grouped.seated d m;
        in_first = λ p i. (member_or atoms _ p).1 (inl (subst (Member p) (sym own_atoms) ((noted own held.own_known p).1 i)));
        in_second = λ p i. (member_or atoms _ p).1 (inr ((noted (get_or side d 0) (held.side_known (get_or side d 0) (in_get_d side d 0 (on_side d m))) p).1 i));
      });
    };
  }

-- what is known of the tables
pub record Settling (b : Body) (formulas notes : List ℕ) (own atoms : ℕ) (side : List ℕ) (narrow : ℕ) : Type 0 where
  pub held : Held b formulas own side
  pub noted : AtomNotes b notes
  pub own_atoms : atoms ≡ get_or notes own 0
  pub on_side : (c : ℕ) → Member c narrow → c < length side

-- the candidate at c is equal to the formula
abbrev EqualAt : Body → ℕ → List ℕ → ℕ → Type 0
EqualAt b own side c = Equal (decoded_at b.nodes own) (decoded_at b.nodes (get_or side c 0))

-- the candidates that are not pending are not equal to the formula, and the pending ones are in the rest
pub record Seeking (formulas notes : List ℕ) (own atoms : ℕ) (side : List ℕ) (narrow pending : ℕ) (rest : List ℕ) : Type 0 where
  pub pending_small : pending < 2 ^ 64
  pub pending_narrow : (c : ℕ) → Member c pending → Member c narrow
  pub pending_rest : (c : ℕ) → Member c pending → c ∈ rest
  pub settled :
      (b : Body) → Settling b formulas notes own atoms side narrow → (c : ℕ) → Member c narrow → Member c pending ⊎ (EqualAt b own side c → ⊥)

module _ {formulas notes : List ℕ} {own atoms : ℕ} {side : List ℕ} {narrow : ℕ} where
  pub seeking_starts : narrow < 2 ^ 64 → Seeking formulas notes own atoms side narrow narrow (members narrow)
  seeking_starts s = record {
    pending_small = s;
    pending_narrow = λ c m. m;
    pending_rest = λ c m. (member_members narrow s c).0 m;
    settled = λ b k c m. inl m;
  }

  module _ {pending : ℕ} {rest : List ℕ} (s : Seeking formulas notes own atoms side narrow pending rest)
      {c : ℕ} {rest' : List ℕ} (walk : rest ≡ c ∷ rest') where
    -- the next one is settled already
    pub seeking_passes : (Member c pending → ⊥) → Seeking formulas notes own atoms side narrow pending rest'
    seeking_passes n = record {
      pending_small = s.pending_small;
      pending_narrow = s.pending_narrow;
      pending_rest = λ d m. ⊎_elim (λ (e : d ≡ c). absurd (n (subst (λ (x : ℕ). Member x pending) e m))) (λ k. k) ((in_walk walk d).0 (s.pending_rest d m));
      settled = s.settled;
    }

    module _ {group : ℕ} {r : Bool} (answer : GroupJudged formulas notes own atoms side c pending group r) where
      decided_group : (b : Body) → Settling b formulas notes own atoms side narrow → Decides (OneEqual b own side group) r
      decided_group b k =
          answer.judged.decides b k.held k.noted k.own_atoms (λ d m. k.on_side d (s.pending_narrow d (answer.its.within d m)))

      -- none of its group is equal
      pub seeking_goes_on : r ≡ false → {pending' : ℕ} → pending' < 2 ^ 64
          → ((i : ℕ) → has pending' i ≡ (has pending i && not (has group i))) → Seeking formulas notes own atoms side narrow pending' rest'
      seeking_goes_on no_one {pending'} fits e = record {
        pending_small = fits;
        pending_narrow = λ d m. s.pending_narrow d ((left d).0 m).0;
        pending_rest = λ d m. ⊎_elim (λ (f : d ≡ c). absurd (((left d).0 m).1 (subst (λ (x : ℕ). Member x group) (sym f) answer.its.own))) (λ k. k)
            ((in_walk walk d).0 (s.pending_rest d ((left d).0 m).0));
        settled = λ b k d m. ⊎_elim (λ i. by b k d i (has group d) refl) inr (s.settled b k d m);
      }
        where
          left : (d : ℕ) → Member d pending' ↔ (Member d pending × (Member d group → ⊥))
          left = member_difference pending group pending' e

          by : (b : Body) → Settling b formulas notes own atoms side narrow → (d : ℕ) → Member d pending → (x : Bool) → has group d ≡ x
              → Member d pending' ⊎ (EqualAt b own side d → ⊥)
          by b k d i true t = inr (λ q. false≢true (sym no_one ∙ (decided_group b k).complete (d, t, q)))
          by b k d i false t = inl ((left d).1 (i, λ j. false≢true (sym t ∙ j)))

      -- one is
      pub seeking_finds : r ≡ true → SomeEqual formulas notes own atoms side narrow true
      seeking_finds yes-one = record {
        decides = λ b held noted own_atoms on_side. record {
          sound = λ t.
              let q = (decided_group b (record { held = held; noted = noted; own_atoms = own_atoms; on_side = on_side })).sound yes-one in
              (q.0, s.pending_narrow q.0 (answer.its.within q.0 q.1), q.2);
          complete = λ q. refl;
        };
      }

  -- one of the first group is
  pub seeking_finds_first : {c group : ℕ} {r : Bool} → GroupJudged formulas notes own atoms side c narrow group r → r ≡ true
      → SomeEqual formulas notes own atoms side narrow true
  seeking_finds_first answer e = record {
    decides = λ b held noted own_atoms on_side. record {
      sound = λ t.
          let q = (answer.judged.decides b held noted own_atoms (λ d m. on_side d (answer.its.within d m))).sound e in
          (q.0, answer.its.within q.0 q.1, q.2);
      complete = λ q. refl;
    };
  }

  -- all are settled
  pub seeking_ends : {pending : ℕ} {rest : List ℕ} → Seeking formulas notes own atoms side narrow pending rest → rest ≡ []
      → SomeEqual formulas notes own atoms side narrow false
  seeking_ends s none = record {
    decides = λ b held noted own_atoms on_side. record {
      sound = λ t. absurd (false≢true t);
      complete = λ (c, m, q). absurd (⊎_elim (λ i. none_in none (s.pending_rest c i)) (λ n. n q)
          (s.settled b (record { held = held; noted = noted; own_atoms = own_atoms; on_side = on_side }) c m));
    };
  }
