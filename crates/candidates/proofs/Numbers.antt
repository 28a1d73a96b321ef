-- The number of the candidates: which of them have few atoms with A, and what follows for 0, 18 and 11.
use Prim.Native.Nat.{ℕ, ◌^◌, ◌≤◌, ◌<◌}
use native.Mathlib.Omega.{arith}
use mathlib.Core.Bool.{Bool, true, false, not, ◌&&◌, false≢true}
use mathlib.Core.List.Memᴰ
use mathlib.Core.List.{List, ◌++◌}
use mathlib.Core.Logic.{inl, inr, ⊎_elim, ◌↔◌}
use mathlib.Core.Path.{◌≡◌, refl, sym, ap, subst, ◌∙◌}
use lib.Bits.{bit_or}
use lib.Dec.{eqb}
use lib.ListN.{length, get_or}
use Rattle.equilibrium.specs.Formula.{Formula, atoms_of}
use Rattle.equilibrium.specs.Meaning.{◌∈◌, ◌≈◌, Equal}
use Rattle.elk.specs.Instance.{most_swapped, Narrow}
use Rattle.elk.proofs.Exchanging.{at_most_iff}
use Rattle.elk.proofs.RisingAtoms.{rising_unrepeated}
use Rattle.format.specs.File.{Body, decoded_at}
use Rattle.format.specs.Tables.{most_on_side}
use Rattle.format.proofs.GoodBodies.{in_get_d, in_place_lem}
use Rattle.atomset.specs.AtomSet.{has, Member, members}
use Rattle.atomset.proofs.Membership.{member_difference}
use Rattle.atomset.proofs.Members.{members_rising, member_members}
use Rattle.known.specs.Known.{AtomNotes}
use Rattle.alike.specs.Survivors.{Remain}
use Rattle.candidates.specs.Candidates.{Few, SomeEqual, OneFits, OneWide, CandidatesNumbered}
use Rattle.alike.specs.Alike.{Held, OneEqual}
use Rattle.candidates.proofs.Seeking.{member_or}
use Rattle.alike.proofs.Choosing.{some_member}

-- few atoms noted are few atoms
few_iff : (b : Body) (notes : List ℕ) → AtomNotes b notes → (own atoms x : ℕ) → atoms ≡ get_or notes own 0 → own < length b.nodes → x < length b.nodes
    → bit_or atoms (get_or notes x 0) < 2 ^ 64 → Few notes atoms x ↔ Narrow (decoded_at b.nodes own) (decoded_at b.nodes x)
few_iff b notes noted own atoms x e k l small = (law.1, law.0)
  where
    A : Formula
    A = decoded_at b.nodes own

    B : Formula
    B = decoded_at b.nodes x

    set : ℕ
    set = bit_or atoms (get_or notes x 0)

    mine : (p : ℕ) → Member p atoms ↔ (p ∈ atoms_of A)
    mine p = let n = noted own k p in (λ i. n.0 (subst (Member p) e i), λ i. subst (Member p) (sym e) (n.1 i))

    same : members set ≈ (atoms_of A ++ atoms_of B)
    same = (
      λ p m. ⊎_elim (λ i. Memᴰ.append_left (atoms_of B) ((mine p).0 i)) (λ i. Memᴰ.append_right (atoms_of A) ((noted x l p).0 i))
          ((member_or atoms (get_or notes x 0) p).0 ((member_members set small p).1 m)),
      λ p m. (member_members set small p).0 ((member_or atoms (get_or notes x 0) p).1
          (⊎_elim (λ i. inl ((mine p).1 i)) (λ i. inr ((noted x l p).1 i)) (Memᴰ.append_cases (atoms_of A) m))),
    )

    law : Narrow A B ↔ (length (members set) ≤ most_swapped)
    law = at_most_iff (members set) (rising_unrepeated (members set) (members_rising set)) same

module _ (formulas notes : List ℕ) (own atoms : ℕ) (side : List ℕ) (all narrow : ℕ) (own_atoms : atoms ≡ get_or notes own 0)
    (every : (c : ℕ) → Member c all ↔ ((c < 64) × (c < length side)))
    (few : Remain (λ c. Few notes atoms (get_or side c 0)) all narrow) (bound : (x : ℕ) → bit_or atoms (get_or notes x 0) < 2 ^ 64)
    (r : Bool) (answer : SomeEqual formulas notes own atoms side narrow r) where
  module _ (b : Body) (held : Held b formulas own side) (noted : AtomNotes b notes) (short : length side ≤ most_on_side) where
    -- a candidate is an entry of the side, and has few atoms exactly if it is narrow
    entry : (c : ℕ) → Member c all → get_or side c 0 ∈ side
    entry c m = in_get_d side c 0 ((every c).0 m).1

    narrow_iff : (x : ℕ) → x ∈ side → Few notes atoms x ↔ Narrow (decoded_at b.nodes own) (decoded_at b.nodes x)
    narrow_iff x m = few_iff b notes noted own atoms x own_atoms held.own_known (held.side_known x m) (bound x)

    place : (x : ℕ) → x ∈ side → (c : ℕ) × Member c all × (get_or side c 0 ≡ x)
    place x m = let at = in_place_lem side 0 m in (at.0, (every at.0).1 (omega (arith, at.1), at.1), at.2)

    one_iff : OneEqual b own side narrow ↔ OneFits b own side
    one_iff = (
      λ (c, m, q). let k = (few c).0 m in (get_or side c 0, entry c k.0, ((narrow_iff (get_or side c 0) (entry c k.0)).0 k.1, q)),
      λ (x, m, (n, q)).
          let at = place x m in (
            at.0,
            (few at.0).1 (at.1, subst (Few notes atoms) (sym at.2) ((narrow_iff x m).1 n)),
            subst (λ (y : ℕ). Equal (decoded_at b.nodes own) (decoded_at b.nodes y)) (sym at.2) q,
          ),
    )

    fits_iff : (r ≡ true) ↔ OneFits b own side
    fits_iff =
        let d = answer.decides b held noted own_atoms (λ c m. ((every c).0 ((few c).0 m).0).1) in
        (λ e. one_iff.0 (d.sound e), λ q. d.complete (one_iff.1 q))

    module _ (rest : ℕ) (its : (i : ℕ) → has rest i ≡ (has all i && not (has narrow i))) where
      wide_iff : ((c : ℕ) × Member c rest) ↔ OneWide b own side
      wide_iff =
          let left = member_difference all narrow rest its in (
            λ (c, m). let k = (left c).0 m in (get_or side c 0, entry c k.0, λ n. k.1 ((few c).1 (k.0, (narrow_iff (get_or side c 0) (entry c k.0)).1 n))),
            λ (x, m, w).
                let at = place x m in
                (at.0, (left at.0).1 (at.1, λ k. w ((narrow_iff x m).0 (subst (Few notes atoms) at.2 ((few at.0).0 k).1)))),
          )

  pub zero_given : r ≡ true → CandidatesNumbered formulas notes own side 0
  zero_given e = record {
    fits = λ b h n s. (λ z. (fits_iff b h n s).0 e, λ q. refl);
    wide = λ b h n s. (λ (z : ◌≡◌ {A = ℕ} 0 18). absurd (omega arith), λ (no_one, w). absurd (no_one ((fits_iff b h n s).0 e)));
    one_of = Memᴰ.head refl;
  }

  module _ (no_one : r ≡ false) (rest : ℕ) (its : (i : ℕ) → has rest i ≡ (has all i && not (has narrow i))) (small : rest < 2 ^ 64) (empty : Bool)
      (tested : empty ≡ eqb (length (members rest)) 0) where
    none_fits : (b : Body) → Held b formulas own side → AtomNotes b notes → length side ≤ most_on_side → OneFits b own side → ⊥
    none_fits b h n s q = false≢true (sym no_one ∙ (fits_iff b h n s).1 q)

    pub eleven_given : empty ≡ true → CandidatesNumbered formulas notes own side 11
    eleven_given e = record {
      fits = λ b h n s. (λ (z : ◌≡◌ {A = ℕ} 11 0). absurd (omega arith), λ q. absurd (none_fits b h n s q));
      wide = λ b h n s. (
        λ (z : ◌≡◌ {A = ℕ} 11 18). absurd (omega arith),
        λ (u, w). absurd (false≢true (sym (ap not e) ∙ (some_member rest empty tested small).1 ((wide_iff b h n s rest its).1 w))),
      );
      one_of = Memᴰ.tail (Memᴰ.tail (Memᴰ.head refl));
    }

    pub eighteen_given : empty ≡ false → CandidatesNumbered formulas notes own side 18
    eighteen_given e = record {
      fits = λ b h n s. (λ (z : ◌≡◌ {A = ℕ} 18 0). absurd (omega arith), λ q. absurd (none_fits b h n s q));
      wide = λ b h n s. (λ z. (none_fits b h n s, (wide_iff b h n s rest its).0 ((some_member rest empty tested small).0 (ap not e))), λ w. refl);
      one_of = Memᴰ.tail (Memᴰ.head refl);
    }
