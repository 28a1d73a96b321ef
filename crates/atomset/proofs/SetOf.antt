-- The set of the atoms that a list holds: its members are the list's elements, and a strictly rising list is the list of its members.
-- Assumes nothing.
use mathlib.Core.Path.{◌≡◌, refl, sym, ◌∙◌}
use mathlib.Core.Logic.{◌↔◌, ⊎_elim, inl, inr}
use mathlib.Core.List.Memᴰ
use mathlib.Core.List.{List, [], ◌∷◌, Memᴰ}
use mathlib.Core.Bool.{true≢false}
use Prim.Native.Nat.{ℕ, ◌^◌, ◌<◌}
use lib.Bits.{or_lt}
use lib.Pow.{pow_pos, pow-lt}
use borrow.Author.Tests.{eqb-true, eq-eqb}
use Rattle.elk.specs.Instance.{Rising}
use Rattle.atomset.specs.AtomSet.{Member, set_of, members}
use Rattle.atomset.proofs.Digits.{has_or, has_zero, has_power}
use Rattle.atomset.proofs.Membership.{member_union}
use Rattle.atomset.proofs.Members.{members_unique}

pub member_set_of : (is : List ℕ) (i : ℕ) → Member i (set_of is) ↔ Memᴰ i is
unfolding set_of
member_set_of [] i = (λ m. absurd (true≢false (sym m ∙ has_zero i)), λ m. absurd (Memᴰ.not-nil m))
member_set_of (j ∷ js) i =
    let later = member_set_of js i in
    let either = member_union (2 ^ j) (set_of js) (set_of (j ∷ js)) (has_or (2 ^ j) (set_of js)) i in (
      λ m. ⊎_elim (λ n. Memᴰ.head (eqb-true i j (sym (has_power j i) ∙ n))) (λ n. Memᴰ.tail (later.0 n)) (either.0 m),
      λ m. either.1 (⊎_elim (λ e. inl (has_power j i ∙ eq-eqb i j e)) (λ n. inr (later.1 n)) (Memᴰ.cases_cons m)),
    )

pub set_of_lt : (k : ℕ) (is : List ℕ) → ((i : ℕ) → Memᴰ i is → i < k) → set_of is < 2 ^ k
unfolding set_of
set_of_lt k [] below = pow_pos k
set_of_lt k (j ∷ js) below =
    or_lt k (2 ^ j) (set_of js) (pow-lt (below j (Memᴰ.head refl))) (set_of_lt k js (λ i m. below i (Memᴰ.tail m)))

pub members_set_of : (is : List ℕ) → Rising is → ((i : ℕ) → Memᴰ i is → i < 64) → members (set_of is) ≡ is
members_set_of is r below = members_unique (set_of is) is (set_of_lt 64 is below) r (member_set_of is)
