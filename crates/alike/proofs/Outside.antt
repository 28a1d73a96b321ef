-- The places from 5 on as a word.
use Prim.Native.Nat.{ℕ, ◌-◌, ◌^◌, ◌≤◌, ◌<◌}
use native.Mathlib.Decide.{dec_lt}
use native.Mathlib.Omega.{arith}
use mathlib.Core.Bool.{Bool, true, false, not, ◌&&◌, false≢true}
use mathlib.Core.Logic.{◌↔◌}
use mathlib.Core.Path.{◌≡◌, refl, sym, ap, subst, ◌∙◌}
use lib.Pow.{pow_pos}
use Rattle.equilibrium.specs.Meaning.{◌∈◌}
use Rattle.atomset.specs.AtomSet.{has, Member, members, set_of}
use Rattle.atomset.proofs.Digits.{has_not, has_zero, same_members}
use Rattle.atomset.proofs.Membership.{member_lt}
use Rattle.atomset.proofs.Members.{member_members}
use Rattle.atomset.proofs.SetOf.{member_set_of, set_of_lt}
use Rattle.alike.specs.Truths.{inner_places}
use Rattle.alike.specs.Survivors.{most_places}
use Rattle.alike.specs.Places.{OuterPlaces}
use Rattle.alike.proofs.Words.{same_truth_lem}

-- a word of n ones
pub ones_iff : (n i : ℕ) → Member i (2 ^ n - 1) ↔ (i < n)
ones_iff n i =
    let all : 2 ^ n - 1 - 0 ≡ 2 ^ n - 1 = omega arith in
    (λ m. member_lt n (2 ^ n - 1) i (omega (arith, pow_pos n)) m, λ l. ap (λ (w : ℕ). has w i) (sym all) ∙ has_not n 0 i (pow_pos n) l ∙ ap not (has_zero i))

-- a word without digits from k on
small_by_digits : (k w : ℕ) → k ≤ 64 → w < 2 ^ 64 → ((i : ℕ) → Member i w → i < k) → w < 2 ^ k
small_by_digits k w l fits below = subst (λ (x : ℕ). x < 2 ^ k) (sym same) (low k (λ i m. below i ((member_members w fits i).1 m)))
  where
    low : (k : ℕ) → ((i : ℕ) → i ∈ members w → i < k) → set_of (members w) < 2 ^ k
    low k h = set_of_lt k (members w) h

    same : w ≡ set_of (members w)
    same = same_members 64 w (set_of (members w)) fits (low 64 (λ i m. member_lt 64 w i fits ((member_members w fits i).1 m))) (λ i h.
        let mem = member_members w fits i in
        let its = member_set_of (members w) i in
        same_truth_lem (has w i) (has (set_of (members w)) i) (λ k. its.1 (mem.0 k), λ k. mem.1 (its.0 k)))

-- n ones but for the first five
pub outer_ones : (n w : ℕ) → n ≤ most_places → w < 2 ^ 64 → ((i : ℕ) → has w i ≡ (has (2 ^ n - 1) i && not (has 31 i))) → OuterPlaces n w
outer_ones n w few fits e = record { few = small_by_digits most_places w (omega arith) fits (λ i m. omega (arith, ((its i).0 m).1)); its = its }
  where
    split : (a b : Bool) → (a && not b) ≡ true → (a ≡ true) × (b ≡ true → ⊥)
    split true true k = absurd (false≢true k)
    split true false k = (refl, λ h. false≢true h)
    split false b k = absurd (false≢true k)

    join : (a b : Bool) → a ≡ true → (b ≡ true → ⊥) → (a && not b) ≡ true
    join true true h n = absurd (n refl)
    join true false h n = refl
    join false b h n = absurd (false≢true h)

    its : (s : ℕ) → Member s w ↔ ((inner_places ≤ s) × (s < n))
    its s = (
      λ m. let k = split (has (2 ^ n - 1) s) (has 31 s) (sym (e s) ∙ m) in
          (by (dec_lt s inner_places) (λ l. k.1 ((ones_iff inner_places s).1 l)), (ones_iff n s).0 k.0),
      λ (l, k). e s ∙ join (has (2 ^ n - 1) s) (has 31 s) ((ones_iff n s).1 k) (λ h. let low = (ones_iff inner_places s).0 h in omega arith),
    )
      where
        by : Dec (s < inner_places) → (s < inner_places → ⊥) → inner_places ≤ s
        by (yes l) n = absurd (n l)
        by (no u) n = omega arith
